use Rattle.std.proofs.Common.{sym, refl, ◌∙◌}
use Rattle.formula.proofs.Exits.{exit}
use Rattle.reading.specs.Reading.{move}
use Rattle.reading.proofs.Steps.{then_got, then_fault, passed, failed, field_told, minutes_told}
use Rattle.records.proofs.records.read_move.Goals as goal

pub returns-in_err-condition : goal.returns-in_err-condition
unfolding move
returns-in_err-condition c =
    rw (exit _ c.from_residual.ensures.1) (then_fault _ (field_told _ _ _ refl (c.len-conditions.ensures ∙ c.args.draft.now.conditions.ok.0) c.in_err-condition.ensures))

pub returns-in_err-operation : goal.returns-in_err-operation
unfolding move
returns-in_err-operation c =
    rw (exit _ c.from_residual-in_err-operation.ensures.1) (then_got _ (field_told _ _ _ refl (c.len-conditions.ensures ∙ c.args.draft.now.conditions.ok.0) c.in_ok-condition.ensures)
    ∙ then_fault _ c.in_err-operation.ensures)

pub returns-in_err-outcome : goal.returns-in_err-outcome
unfolding move
returns-in_err-outcome c =
    rw (exit _ c.from_residual-in_err-outcome.ensures.1) (then_got _ (field_told _ _ _ refl (c.len-conditions.ensures ∙ c.args.draft.now.conditions.ok.0) c.in_ok-condition.ensures)
    ∙ then_got _ c.in_ok-operation.ensures
    ∙ then_fault _ (field_told _ _ _ refl (c.len-conditions.ensures ∙ c.args.draft.now.conditions.ok.0) c.in_err-outcome.ensures))

pub returns-in_err-minutes : goal.returns-in_err-minutes
unfolding move
returns-in_err-minutes c =
    rw (exit _ c.from_residual-in_err-minutes.ensures.1) (then_got _ (field_told _ _ _ refl (c.len-conditions.ensures ∙ c.args.draft.now.conditions.ok.0) c.in_ok-condition.ensures)
    ∙ then_got _ c.in_ok-operation.ensures
    ∙ then_got _ (field_told _ _ _ refl (c.len-conditions.ensures ∙ c.args.draft.now.conditions.ok.0) c.in_ok-outcome.ensures)
    ∙ then_fault _ (minutes_told _ _ c.has.ensures c.in_err-minutes.ensures.read))

pub returns-then-not-move_rises : goal.returns-then-not-move_rises
unfolding move
returns-then-not-move_rises c =
    then_got _ (field_told _ _ _ refl (c.len-conditions.ensures ∙ c.args.draft.now.conditions.ok.0) c.in_ok-condition.ensures)
    ∙ then_got _ c.in_ok-operation.ensures
    ∙ then_got _ (field_told _ _ _ refl (c.len-conditions.ensures ∙ c.args.draft.now.conditions.ok.0) c.in_ok-outcome.ensures)
    ∙ then_got _ (minutes_told _ _ c.has.ensures c.in_ok-minutes.ensures.read)
    ∙ failed _ _ (sym c.move_rises.ensures ∙ c.if-not-move_rises.true)

pub returns : goal.returns
unfolding move
returns c =
    then_got _ (field_told _ _ _ refl (c.len-conditions.ensures ∙ c.args.draft.now.conditions.ok.0) c.in_ok-condition.ensures)
    ∙ then_got _ c.in_ok-operation.ensures
    ∙ then_got _ (field_told _ _ _ refl (c.len-conditions.ensures ∙ c.args.draft.now.conditions.ok.0) c.in_ok-outcome.ensures)
    ∙ then_got _ (minutes_told _ _ c.has.ensures c.in_ok-minutes.ensures.read)
    ∙ passed _ _ (sym c.move_rises.ensures ∙ c.if-not-move_rises.false)
