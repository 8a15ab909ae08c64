use Rattle.std.proofs.Common.{◌≡◌, ℕ, ◌-◌, ◌<◌, length, set, Some, None, vec_items, sym, refl, ap, ◌∙◌, subst, arith}
use Rattle.std.specs.Vec.{with_item, with_items}
use Rattle.std.proofs.lemmas.List.{length-set, with_items_is}
use Rattle.costs.specs.Costs.{most_joined}
use Rattle.search.specs.Labels.{Offered, done}
use Rattle.tables.specs.Tables.{looked, LeastOf}
use Rattle.plans.specs.Flags.{has}
use Rattle.index.specs.Indexed.{count_of, moves_of, port_of}
use Rattle.search.specs.Steps.{AllOffered, Early, SearchState, Spare, start}
use Rattle.index.proofs.Bounds.{index_limited, index_within}
use Rattle.costs.proofs.Order.{weaken}
use Rattle.search.proofs.Few.{early_all, spare_all}
use Rattle.search.proofs.Steps.{final_start, few_start, above_start, early_next, few_next, rest_next, state_next, settled}
use Rattle.search.proofs.Tables.{done_most}
use Rattle.search.proofs.labelling.solve.Goals as goal

pub invariant_of-known : goal.invariant_of-known
invariant_of-known g c =
    let k = g.C.CostModel in
    let index = c.args.index.now in
    let told = c.in_ok-costs.ensures in
    let t = vec_items c.in_ok-costs.costs in
    let all = c.conditions.ensures in
    let begun : (d : ℕ) → d < count_of index → looked k.exact t d ≡ start k.model (has c.args.goal.now) d = λ d l. told.1 d (subst (λ n. d < n) (sym all) l) in
    let few = few_start (weaken k.laws) k.exact g.met.C.CostModel.sized (moves_of index) (has c.args.keep.now) (has c.args.goal.now) (count_of index) (index_within index) (index_limited index) (most_joined - 1) t (told.0 ∙ all) begun in
    let value = sym c.deref.ensures.value in
    record {
      early = ∣ subst (Early k.model k.exact (most_joined - 1)) value (λ d f p e a q w. few e a q) ∣₁;
      spare = ∣ subst (Spare k.model k.exact (count_of index) (most_joined - 1)) value (λ d l none e a q. few e a q) ∣₁;
    }

pub loop-label-init : goal.loop-label-init
loop-label-init g c =
    let k = g.C.CostModel in
    let index = c.args.index.now in
    let ms = moves_of index in
    let keep = has c.args.keep.now in
    let goal = has c.args.goal.now in
    let told = c.in_ok-costs.ensures in
    let offers = c.in_ok-offers.ensures in
    let value = c.deref.ensures.value in
    let t = vec_items c.in_ok-costs.costs in
    let u = vec_items c.in_ok-offers.offers in
    let all = c.conditions.ensures in
    let len : length c.deref.result.now ≡ count_of index = ap length value ∙ told.0 ∙ all in
    let begun : (d : ℕ) → d < count_of index → looked k.exact t d ≡ start k.model goal d = λ d l. told.1 d (subst (λ n. d < n) (sym all) l) in
    let within = index_within index in
    let limited = index_limited index in
    record {
      costs_sized = told.0 ∙ all;
      offers_sized = offers.0 ∙ len;
      final = final_start (weaken k.laws) k.exact g.met.C.CostModel.sized ms keep goal (count_of index) within limited t (told.0 ∙ all) begun;
      few = few_start (weaken k.laws) k.exact g.met.C.CostModel.sized ms keep goal (count_of index) within limited (done t - 1) t (told.0 ∙ all) begun;
      above = above_start (weaken k.laws) k.exact g.met.C.CostModel.sized ms keep goal (count_of index) within limited t u (told.0 ∙ all) begun;
      early = λ d f p d' a q w. few_start (weaken k.laws) k.exact g.met.C.CostModel.sized ms keep goal (count_of index) within limited (done t - 2) t (told.0 ∙ all) begun d' a q;
      offered = λ d l. subst (λ s. Offered k.model ms keep (looked k.exact s) d (looked k.exact u d)) value (offers.1 d (subst (λ n. d < n) (sym len) l));
    }

pub invariant_of-known-in-Some : goal.invariant_of-known-in-Some
invariant_of-known-in-Some g c =
    let k = g.C.CostModel in
    let index = c.args.index.now in
    let ms = moves_of index in
    let n = count_of index in
    let keep = has c.args.keep.now in
    let goal = has c.args.goal.now in
    let within = index_within index in
    let limited = index_limited index in
    let laws = weaken k.laws in
    let b = c.in-Some.label in
    let state = c.loop-label.invariant in
    let costs = vec_items c.loop-label.costs in
    let offers = vec_items c.loop-label.offers in
    let seen = c.deref-in-loop-label.ensures.value in
    let low : LeastOf k.model k.exact offers (length offers) (Some b) = subst (λ t. LeastOf k.model k.exact t (length t) (Some b)) seen c.in-Some.ensures in
    let new = set costs b.condition (Some b.cost) in
    let few = few_next laws k.exact g.met.C.CostModel.sized ms keep goal n within limited costs offers state b low in
    let early = early_next laws k.exact g.met.C.CostModel.sized ms keep goal n within limited costs offers state b low in
    let small = (port_of index).conditions_few in
    let size = length-set costs b.condition (Some b.cost) ∙ state.costs_sized in
    let value = sym c.deref-in-Some.ensures.value in
    record {
      early = ∣ subst (Early k.model k.exact (most_joined - 1)) value (early_all k.model k.exact new n small size early) ∣₁;
      spare = ∣ subst (Spare k.model k.exact n (most_joined - 1)) value (spare_all k.model k.exact new n small size few) ∣₁;
    }

pub renew-requires : goal.renew-requires
renew-requires g c =
    let k = g.C.CostModel in
    let index = c.args.index.now in
    let ms = moves_of index in
    let n = count_of index in
    let keep = has c.args.keep.now in
    let goal = has c.args.goal.now in
    let within = index_within index in
    let limited = index_limited index in
    let laws = weaken k.laws in
    let b = c.in-Some.label in
    let state = c.loop-label.invariant in
    let costs = vec_items c.loop-label.costs in
    let offers = vec_items c.loop-label.offers in
    let seen = c.deref-in-loop-label.ensures.value in
    let low : LeastOf k.model k.exact offers (length offers) (Some b) = subst (λ t. LeastOf k.model k.exact t (length t) (Some b)) seen c.in-Some.ensures in
    let new = set costs b.condition (Some b.cost) in
    let cv = c.deref-in-Some.ensures.value in
    let ov = c.deref_mut.ensures.value in
    let all : length c.deref_mut.result.now ≡ n = ap length ov ∙ length-set offers b.condition None ∙ state.offers_sized in
    λ d l apart.
    subst (λ t. Offered k.model ms keep (looked k.exact t) d (looked k.exact c.deref_mut.result.now d)) (sym cv)
    (subst (λ t. Offered k.model ms keep (looked k.exact new) d (looked k.exact t d)) (sym ov)
    (rest_next laws k.exact g.met.C.CostModel.sized ms keep goal n within limited costs offers state b low d (subst (λ m. d < m) all l) apart))

pub loop-label-smaller : goal.loop-label-smaller
loop-label-smaller g c =
    let k = g.C.CostModel in
    let index = c.args.index.now in
    let ms = moves_of index in
    let n = count_of index in
    let keep = has c.args.keep.now in
    let goal = has c.args.goal.now in
    let within = index_within index in
    let limited = index_limited index in
    let laws = weaken k.laws in
    let b = c.in-Some.label in
    let state = c.loop-label.invariant in
    let costs = vec_items c.loop-label.costs in
    let offers = vec_items c.loop-label.offers in
    let seen = c.deref-in-loop-label.ensures.value in
    let low : LeastOf k.model k.exact offers (length offers) (Some b) = subst (λ t. LeastOf k.model k.exact t (length t) (Some b)) seen c.in-Some.ensures in
    let new = set costs b.condition (Some b.cost) in
    let cv = c.deref-in-Some.ensures.value in
    let ov = c.deref_mut.ensures.value in
    let all : length c.deref_mut.result.now ≡ n = ap length ov ∙ length-set offers b.condition None ∙ state.offers_sized in
    let size : length c.renew.new.offers ≡ n = c.renew.auto.offers ∙ all in
    let kept : vec_items (with_items (with_item c.loop-label.offers b.condition None) c.renew.new.offers) ≡ c.renew.new.offers =
    with_items_is (with_item c.loop-label.offers b.condition None) c.renew.new.offers (size ∙ sym state.offers_sized ∙ sym c.loop-label.offers.ok.0) in
    let off : AllOffered k.model ms keep n (looked k.exact new) (looked k.exact c.renew.new.offers) =
    λ d l. subst (λ t. Offered k.model ms keep (looked k.exact t) d (looked k.exact c.renew.new.offers d)) cv (c.renew.ensures d (subst (λ m. d < m) (sym all) l)) in
    let s = state_next laws k.exact g.met.C.CostModel.sized ms keep goal n within limited costs offers state b low new c.renew.new.offers refl size off in
    let more = s.1 in
    let most = done_most new in
    let wide = s.0.costs_sized in
    omega arith

pub loop-label-preserved : goal.loop-label-preserved
loop-label-preserved g c =
    let k = g.C.CostModel in
    let index = c.args.index.now in
    let ms = moves_of index in
    let n = count_of index in
    let keep = has c.args.keep.now in
    let goal = has c.args.goal.now in
    let within = index_within index in
    let limited = index_limited index in
    let laws = weaken k.laws in
    let b = c.in-Some.label in
    let state = c.loop-label.invariant in
    let costs = vec_items c.loop-label.costs in
    let offers = vec_items c.loop-label.offers in
    let seen = c.deref-in-loop-label.ensures.value in
    let low : LeastOf k.model k.exact offers (length offers) (Some b) = subst (λ t. LeastOf k.model k.exact t (length t) (Some b)) seen c.in-Some.ensures in
    let new = set costs b.condition (Some b.cost) in
    let cv = c.deref-in-Some.ensures.value in
    let ov = c.deref_mut.ensures.value in
    let all : length c.deref_mut.result.now ≡ n = ap length ov ∙ length-set offers b.condition None ∙ state.offers_sized in
    let size : length c.renew.new.offers ≡ n = c.renew.auto.offers ∙ all in
    let kept : vec_items (with_items (with_item c.loop-label.offers b.condition None) c.renew.new.offers) ≡ c.renew.new.offers =
    with_items_is (with_item c.loop-label.offers b.condition None) c.renew.new.offers (size ∙ sym state.offers_sized ∙ sym c.loop-label.offers.ok.0) in
    let off : AllOffered k.model ms keep n (looked k.exact new) (looked k.exact c.renew.new.offers) =
    λ d l. subst (λ t. Offered k.model ms keep (looked k.exact t) d (looked k.exact c.renew.new.offers d)) cv (c.renew.ensures d (subst (λ m. d < m) (sym all) l)) in
    let s = state_next laws k.exact g.met.C.CostModel.sized ms keep goal n within limited costs offers state b low new c.renew.new.offers refl size off in
    subst (SearchState k.model k.exact ms keep goal n new) (sym kept) s.0

pub returns : goal.returns
returns g c =
    let k = g.C.CostModel in
    let index = c.args.index.now in
    let ms = moves_of index in
    let offers = vec_items c.loop-label.offers in
    let none : LeastOf k.model k.exact offers (length offers) None = subst (λ t. LeastOf k.model k.exact t (length t) None) c.deref-in-loop-label.ensures.value (subst (λ r. LeastOf k.model k.exact c.deref-in-loop-label.result.now (length c.deref-in-loop-label.result.now) r) c.in_default.is c.least.ensures) in
    settled (weaken k.laws) k.exact g.met.C.CostModel.sized ms (has c.args.keep.now) (has c.args.goal.now) (count_of index) (index_within index) (index_limited index) (port_of index).conditions_few (vec_items c.loop-label.costs) offers c.loop-label.invariant none
