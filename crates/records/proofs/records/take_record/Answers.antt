use Rattle.std.proofs.Common.{ap, ◌∙◌}
use Rattle.formula.proofs.Exits.{exit}
use Rattle.records.specs.Kinds.{kind_number}
use Rattle.reading.specs.Reading.{entry}
use Rattle.reading.proofs.Steps.{then_got, then_fault, body_1, body_2, body_3}
use Rattle.records.proofs.records.take_record.Goals as goal

pub returns-in_err-head : goal.returns-in_err-head
unfolding entry
returns-in_err-head c =
    rw (exit _ c.from_residual.ensures.1) (then_fault _ c.in_err-head.ensures)

pub returns-in_err-read_condition-in-Condition : goal.returns-in_err-read_condition-in-Condition
unfolding entry
returns-in_err-read_condition-in-Condition c =
    rw (exit _ c.from_residual-in_err-read_condition-in-Condition.ensures.1) (then_got _ c.in_ok-head.ensures ∙ body_1 _ _ _ _ (ap kind_number c.in-Condition.is) ∙ then_fault _ c.in_err-read_condition-in-Condition.ensures)

pub returns-in_ok-read_condition-in-Condition : goal.returns-in_ok-read_condition-in-Condition
unfolding entry
returns-in_ok-read_condition-in-Condition c =
    then_got _ c.in_ok-head.ensures ∙ body_1 _ _ _ _ (ap kind_number c.in-Condition.is) ∙ then_got _ c.in_ok-read_condition-in-Condition.ensures

pub returns-in_err-read_move-in-Move : goal.returns-in_err-read_move-in-Move
unfolding entry
returns-in_err-read_move-in-Move c =
    rw (exit _ c.from_residual-in_err-read_move-in-Move.ensures.1) (then_got _ c.in_ok-head.ensures ∙ body_2 _ _ _ _ (ap kind_number c.in-Move.is) ∙ then_fault _ c.in_err-read_move-in-Move.ensures)

pub returns-in_ok-read_move-in-Move : goal.returns-in_ok-read_move-in-Move
unfolding entry
returns-in_ok-read_move-in-Move c =
    then_got _ c.in_ok-head.ensures ∙ body_2 _ _ _ _ (ap kind_number c.in-Move.is) ∙ then_got _ c.in_ok-read_move-in-Move.ensures

pub returns-in_err-read_request-in-Request : goal.returns-in_err-read_request-in-Request
unfolding entry
returns-in_err-read_request-in-Request c =
    rw (exit _ c.from_residual-in_err-read_request-in-Request.ensures.1) (then_got _ c.in_ok-head.ensures ∙ body_3 _ _ _ _ (ap kind_number c.in-Request.is) ∙ then_fault _ c.in_err-read_request-in-Request.ensures)

pub returns-in_ok-read_request-in-Request : goal.returns-in_ok-read_request-in-Request
unfolding entry
returns-in_ok-read_request-in-Request c =
    then_got _ c.in_ok-head.ensures ∙ body_3 _ _ _ _ (ap kind_number c.in-Request.is) ∙ then_got _ c.in_ok-read_request-in-Request.ensures
