use Rattle.std.proofs.Common.{refl, sym, ◌∙◌, ne_eqb}
use Rattle.formula.proofs.Exits.{exit}
use Rattle.reading.specs.Reading.{admitted}
use Rattle.reading.proofs.Steps.{failed}
use Rattle.records.proofs.Admitted.{admission_fault, admission_passed}
use Rattle.records.proofs.draft.Draft.admit.Goals as goal

pub returns-in_default : goal.returns-in_default
unfolding admitted
returns-in_default c = λ x.
    let none = c.in_default.ensures in
    failed _ _ (rw (ne_eqb c.args.byte 1 none.0, ne_eqb c.args.byte 2 none.1, ne_eqb c.args.byte 3 none.2) refl)

pub returns-in_err-check_next : goal.returns-in_err-check_next
returns-in_err-check_next c =
    rw (exit _ c.from_residual.ensures.1, c.in-Ok.ensures) (λ x. admission_fault _ _ _ x _ (sym c.check_next.ensures ∙ c.in_err-check_next.was))

pub returns : goal.returns
returns c =
    let k = c.in-Ok.ensures in
    (k, λ x. rw k (admission_passed _ _ _ x _ (sym c.check_next.ensures ∙ c.in_ok-check_next.was)))
