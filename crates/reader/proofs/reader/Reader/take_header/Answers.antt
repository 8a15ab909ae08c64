use Rattle.std.proofs.Common.{◌∙◌}
use Rattle.formula.proofs.Exits.{exit}
use Rattle.reading.specs.Reading.{heading}
use Rattle.reading.proofs.Steps.{then_got, then_fault}
use Rattle.reader.proofs.reader.Reader.take_header.Goals as goal

pub returns-in_err-next_opening-clause-read : goal.returns-in_err-next_opening-clause-read
unfolding heading
returns-in_err-next_opening-clause-read c =
    rw (exit _ c.from_residual.ensures.1) (then_fault _ c.in_err-next_opening.ensures)

pub returns-in_err-marks-clause-read : goal.returns-in_err-marks-clause-read
unfolding heading
returns-in_err-marks-clause-read c =
    rw (exit _ c.from_residual-in_err-marks.ensures.1) (then_got _ c.in_ok-next_opening.ensures ∙ then_fault _ c.in_err-marks.ensures.read)

pub returns-in_err-operations-clause-read : goal.returns-in_err-operations-clause-read
unfolding heading
returns-in_err-operations-clause-read c =
    rw (exit _ c.from_residual-in_err-operations.ensures.1) (then_got _ c.in_ok-next_opening.ensures ∙ then_got _ c.in_ok-marks.ensures.read ∙ then_fault _ c.in_err-operations.ensures.read)

pub returns-in_err-stages-clause-read : goal.returns-in_err-stages-clause-read
unfolding heading
returns-in_err-stages-clause-read c =
    rw (exit _ c.from_residual-in_err-stages.ensures.1) (then_got _ c.in_ok-next_opening.ensures ∙ then_got _ c.in_ok-marks.ensures.read ∙ then_got _ c.in_ok-operations.ensures.read ∙ then_fault _ c.in_err-stages.ensures.read)

pub returns-in_err-stage-clause-read : goal.returns-in_err-stage-clause-read
unfolding heading
returns-in_err-stage-clause-read c =
    rw (exit _ c.from_residual-in_err-stage.ensures.1) (then_got _ c.in_ok-next_opening.ensures ∙ then_got _ c.in_ok-marks.ensures.read ∙ then_got _ c.in_ok-operations.ensures.read ∙ then_got _ c.in_ok-stages.ensures.read ∙ then_fault _ c.in_err-stage.ensures)

pub returns-in_err-condition-clause-read : goal.returns-in_err-condition-clause-read
unfolding heading
returns-in_err-condition-clause-read c =
    rw (exit _ c.from_residual-in_err-condition.ensures.1) (then_got _ c.in_ok-next_opening.ensures ∙ then_got _ c.in_ok-marks.ensures.read ∙ then_got _ c.in_ok-operations.ensures.read ∙ then_got _ c.in_ok-stages.ensures.read ∙ then_got _ c.in_ok-stage.ensures ∙ then_fault _ c.in_err-condition.ensures.read)

pub returns : goal.returns
unfolding heading
returns c =
    record {
      read = then_got _ c.in_ok-next_opening.ensures ∙ then_got _ c.in_ok-marks.ensures.read ∙ then_got _ c.in_ok-operations.ensures.read ∙ then_got _ c.in_ok-stages.ensures.read ∙ then_got _ c.in_ok-stage.ensures ∙ then_got _ c.in_ok-condition.ensures.read;
      marks = c.in_ok-marks.ensures.most;
    }
