use Rattle.std.proofs.Common.{◌≡◌, ◌+◌, ◌<◌, true, false, length, get_or, set, refl, vec_items, vec_len, sym, ap, ◌∙◌, subst, rules, arith}
use Rattle.std.proofs.lemmas.List.{same_lists, length-replicate}
use Rattle.port.specs.Limits.{at}
use Rattle.port.specs.declared.Move.{Move}
use Rattle.index.specs.Indexes.{Bare, Flags}
use Rattle.index.proofs.Flagged.{bare_none, flags_more, bare_more}
use Rattle.index.proofs.build.into_of.Goals as goal

pub loop-m-init : goal.loop-m-init
loop-m-init c =
    let ms = vec_items c.args.port.now.moves in
    let n = vec_len c.args.port.now.conditions in
    let made = c.in_ok-into.ensures.items_if_clones_equal (λ y h. same_lists y _ (h.long ∙ sym (length-replicate 256 false)) (λ i d l. h.at i d d (subst (λ n. i < n) h.long l))) in
    let len = c.in_ok-into.ensures.len in
    (search rules, λ j l. absurd (omega arith), subst (Bare ms 0) (sym made) (bare_none ms c.len.result 256))

pub loop-m-preserved : goal.loop-m-preserved
loop-m-preserved c =
    let ms = vec_items c.args.port.now.moves in
    let i = c.loop-m.m-index in
    let m = at ms i in
    let into = c.loop-m.into.items in
    let inv = c.loop-m.invariant in
    let value : c.deref-m-items.result.now ≡ ms = c.deref-m-items.ensures.value in
    let same : at c.deref-m-items.result.now i ≡ m = ap (λ xs. at xs i) value in
    let before : i < length ms = subst (λ xs. i < length xs) value c.loop-m-test.true in
    let within = c.args.port.now.moves_exist i before in
    let condition = within.0 in
    let outcome = within.2 in
    let few = c.args.port.now.conditions_few in
    let inside : m.outcome < length into = let l = inv.0 in let k = c.loop-m.into.ok.0 in omega arith in
    let wide : m.condition < length c.index_mut.result.now = omega arith in
    let row : c.index_mut.result.now ≡ get_or into m.outcome c.index_mut.result.now = subst (λ (x : Move). c.index_mut.result.now ≡ get_or into x.outcome c.index_mut.result.now) same c.index_mut.ensures.value in (
      inv.0,
      subst (λ (x : Move). Flags ms (i + 1) (set into x.outcome (set c.index_mut.result.now x.condition true))) (sym same) (flags_more into m.condition m.outcome c.index_mut.result.now inside wide row ms i refl refl inv.1),
      subst (λ (x : Move). Bare ms (i + 1) (set into x.outcome (set c.index_mut.result.now x.condition true))) (sym same) (bare_more into m.condition m.outcome c.index_mut.result.now inside wide row ms i refl refl inv.2),
    )

pub returns : goal.returns
returns c =
    let ms = vec_items c.args.port.now.moves in
    let stop = c.loop-m-test.false in
    let most = c.loop-m.auto.m-index-end in
    let long = c.deref-m-items.ensures.len in
    let end : c.loop-m.m-index ≡ vec_len c.args.port.now.moves = omega arith in
    subst (λ n. (vec_len c.loop-m.into ≡ vec_len c.args.port.now.conditions) × Flags ms n (vec_items c.loop-m.into) × Bare ms n (vec_items c.loop-m.into)) end c.loop-m.invariant
