use Rattle.std.proofs.Common.{◌≡◌, ◌+◌, ◌*◌, refl, ◌∙◌, arith, le-ltb, lt-ltb}
use Rattle.formula.proofs.Exits.{exit}
use Rattle.reading.specs.Reading.{minutes}
use Rattle.reading.proofs.Steps.{then_got, then_fault, passed, failed}
use Rattle.reader.proofs.reader.Reader.take_minutes.Goals as goal

pub returns-then-not-present : goal.returns-then-not-present
unfolding minutes
returns-then-not-present c = rw c.if-not-present.true refl

pub returns-in_err-high : goal.returns-in_err-high
unfolding minutes
returns-in_err-high c =
    rw (exit _ c.from_residual.ensures.1, c.if-not-present.false) (then_fault _ c.in_err-high.ensures.read)

pub returns-in_err-low : goal.returns-in_err-low
unfolding minutes
returns-in_err-low c =
    rw (exit _ c.from_residual-in_err-low.ensures.1, c.if-not-present.false) (then_got _ c.in_ok-high.ensures.read ∙ then_fault _ c.in_err-low.ensures.read)

pub returns-then-minutes-eq0 : goal.returns-then-minutes-eq0
unfolding minutes
returns-then-minutes-eq0 c =
    rw c.if-not-present.false (then_got _ c.in_ok-high.ensures.read ∙ then_got _ c.in_ok-low.ensures.read ∙ failed _ _ (le-ltb _ _ (omega (arith, c.from_be_bytes-minutes.ensures))))

pub returns : goal.returns
unfolding minutes
returns c =
    let is : c.from_be_bytes-minutes.result ≡ 256 * c.in_ok-high.high + c.in_ok-low.low = omega (arith, c.from_be_bytes-minutes.ensures) in
    rw (c.if-not-present.false, is) (then_got _ c.in_ok-high.ensures.read ∙ then_got _ c.in_ok-low.ensures.read ∙ passed _ _ (lt-ltb _ _ (omega (arith, is))))
