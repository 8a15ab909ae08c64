use Rattle.std.proofs.Common.{◌-◌, ◌<◌, vec_items, sym, ap, ◌∙◌, subst, length, get_or}
use Rattle.std.proofs.lemmas.Result.{IfOk-weaker}
use Rattle.tables.specs.Tables.{looked}
use Rattle.plans.specs.Flags.{has}
use Rattle.index.specs.Indexed.{count_of, moves_of}
use Rattle.costs.specs.Costs.{most_joined}
use Rattle.search.specs.Steps.{Early, Spare, Picked}
use Rattle.search.specs.declared.Choice.TheVariants.{None}
use Rattle.index.proofs.Bounds.{index_limited, index_within}
use Rattle.costs.proofs.Order.{weaken}
use Rattle.search.proofs.Steps.{answered}
use Rattle.search.proofs.labelling.search.Goals as goal

pub invariant_of-known : goal.invariant_of-known
invariant_of-known g c =
    let k = g.C.CostModel in
    let s = c.in_ok-costs.ensures in
    let value = sym c.deref.ensures.value in
    record {
      early = ∣ subst (Early k.model k.exact (most_joined - 1)) value s.early ∣₁;
      spare = ∣ subst (Spare k.model k.exact (count_of c.args.index.now) (most_joined - 1)) value s.spare ∣₁;
    }

pub returns : goal.returns
returns g c =
    let k = g.C.CostModel in
    let index = c.args.index.now in
    let s = c.in_ok-costs.ensures in
    let t = vec_items c.in_ok-costs.costs in
    let value = c.deref.ensures.value in
    let size = ap length value ∙ s.sized in
    IfOk-weaker c.choices.result _ _ (λ v h. record {
      sized = h.0 ∙ size;
      each = λ d l. answered (weaken k.laws) k.exact g.met.C.CostModel.sized (moves_of index) (has c.args.keep.now) (has c.args.goal.now) (count_of index) (index_within index) (index_limited index) t s d l (get_or (vec_items v) d None)
          (subst (λ u. Picked k.model k.exact (moves_of index) (looked k.exact u) (has c.args.goal.now) d (get_or (vec_items v) d None)) value (h.1 d (subst (λ n. d < n) (sym size) l)));
    }) c.choices.ensures
