use Rattle.std.proofs.Common.{◌∙◌, arith, le-ltb, lt-ltb}
use Rattle.formula.proofs.Exits.{exit}
use Rattle.reading.specs.Reading.{start_stage}
use Rattle.reading.proofs.Steps.{then_got, then_fault, passed, failed}
use Rattle.reader.proofs.reader.Reader.next_start_stage.Goals as goal

pub returns-in_err-value : goal.returns-in_err-value
unfolding start_stage
returns-in_err-value c =
    rw (exit _ c.from_residual.ensures.1) (then_fault _ c.in_err-value.ensures.read)

pub returns-then-value-stages : goal.returns-then-value-stages
unfolding start_stage
returns-then-value-stages c = then_got _ c.in_ok-value.ensures.read ∙ failed _ _ (le-ltb _ _ (omega arith))

pub returns : goal.returns
unfolding start_stage
returns c = then_got _ c.in_ok-value.ensures.read ∙ passed _ _ (lt-ltb _ _ (omega arith))
