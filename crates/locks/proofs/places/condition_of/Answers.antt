use Rattle.std.proofs.Common.{List, sym, ap, ◌∙◌, subst, ℕ}
use Rattle.port.specs.Limits.{Rise}
use Rattle.locks.specs.Places.{place_of}
use Rattle.locks.proofs.Standing.{place_searched}
use Rattle.locks.proofs.places.condition_of.Goals as goal

pub returns-in_err-place : goal.returns-in_err-place
returns-in_err-place c =
    let p = c.args.port.now in
    let found = place_searched c.deref.result.now c.args.marks c.binary_search.result (subst Rise (sym c.deref.ensures.value) p.conditions_rise) c.binary_search.ensures.position in
    c.from_residual.ensures ∙ c.in_err-place.ensures.value ∙ found ∙ ap (λ (xs : List ℕ). place_of xs c.args.marks) c.deref.ensures.value

pub returns : goal.returns
returns c =
    let p = c.args.port.now in
    let found = place_searched c.deref.result.now c.args.marks c.binary_search.result (subst Rise (sym c.deref.ensures.value) p.conditions_rise) c.binary_search.ensures.position in
    c.in_ok-place.ensures.value ∙ found ∙ ap (λ (xs : List ℕ). place_of xs c.args.marks) c.deref.ensures.value
