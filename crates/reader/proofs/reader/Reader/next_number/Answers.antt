use Rattle.std.proofs.Common.{refl, ◌∙◌, arith, le-ltb, lt-ltb}
use Rattle.formula.proofs.Exits.{exit}
use Rattle.reading.specs.Reading.{number}
use Rattle.reading.proofs.Steps.{then_got, then_fault, passed, failed}
use Rattle.reader.proofs.reader.Reader.next_number.Goals as goal

pub returns-then-not-present : goal.returns-then-not-present
unfolding number
returns-then-not-present c = rw c.if-not-present.true refl

pub returns-in_err-value : goal.returns-in_err-value
unfolding number
returns-in_err-value c =
    rw (exit _ c.from_residual.ensures.1, c.if-not-present.false) (then_fault _ c.in_err-value.ensures.read)

pub returns-then-value-eq0 : goal.returns-then-value-eq0
unfolding number
returns-then-value-eq0 c =
    rw c.if-not-present.false (then_got _ c.in_ok-value.ensures.read ∙ failed _ _ (le-ltb _ _ (omega arith)))

pub returns : goal.returns
unfolding number
returns c =
    rw c.if-not-present.false (then_got _ c.in_ok-value.ensures.read ∙ passed _ _ (lt-ltb _ _ (omega arith)))
