use Rattle.std.proofs.Common.{refl, ◌∙◌}
use Rattle.formula.proofs.Exits.{exit}
use Rattle.reading.specs.Reading.{text}
use Rattle.reading.proofs.Steps.{then_got, then_fault, moved_whole, moved_stuck}
use Rattle.reader.proofs.reader.Reader.take_text.Goals as goal

pub returns-then-not-present-clause-read : goal.returns-then-not-present-clause-read
unfolding text
returns-then-not-present-clause-read c = rw c.if-not-present.true refl

pub returns-in_err-found-clause-read : goal.returns-in_err-found-clause-read
unfolding text
returns-in_err-found-clause-read c =
    rw (exit _ c.from_residual.ensures.1, c.if-not-present.false) (then_fault _ c.in_err-found.ensures.read)

pub returns-in_err-check-clause-read : goal.returns-in_err-check-clause-read
unfolding text
returns-in_err-check-clause-read c =
    rw (exit _ c.from_residual-in_err-check.ensures.1, c.if-not-present.false) (then_got _ c.in_ok-found.ensures.read ∙ moved_stuck _ _ _ _ c.in_ok-found.ensures.stands c.in_err-check.ensures _)

pub returns-clause-read : goal.returns-clause-read
unfolding text
returns-clause-read c =
    rw c.if-not-present.false (then_got _ c.in_ok-found.ensures.read ∙ moved_whole _ _ _ c.in_ok-found.ensures.stands c.in_ok-check.ensures _)
