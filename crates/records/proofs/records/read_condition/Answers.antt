use Rattle.std.proofs.Common.{◌≡◌, ◌+◌, ◌*◌, refl, sym, ◌∙◌, arith}
use Rattle.formula.proofs.Exits.{exit}
use Rattle.reading.specs.Reading.{condition}
use Rattle.reading.proofs.Steps.{then_got, then_fault, passed, failed, field_told}
use Rattle.records.proofs.records.read_condition.Goals as goal

pub returns-in_err-low : goal.returns-in_err-low
unfolding condition
returns-in_err-low c =
    rw (exit _ c.from_residual.ensures.1) (then_fault _ (field_told _ _ _ refl c.low_limit.ensures c.in_err-low.ensures))

pub returns-in_err-high : goal.returns-in_err-high
unfolding condition
returns-in_err-high c =
    rw (exit _ c.from_residual-in_err-high.ensures.1) (then_got _ (field_told _ _ _ refl c.low_limit.ensures c.in_ok-low.ensures)
    ∙ then_fault _ (field_told _ _ _ refl c.high_limit.ensures c.in_err-high.ensures))

pub returns-then-not-condition_rises : goal.returns-then-not-condition_rises
unfolding condition
returns-then-not-condition_rises c =
    let is : c.from_le_bytes-condition.result ≡ c.in_ok-low.low + 256 * c.in_ok-high.high = omega (arith, c.from_le_bytes-condition.ensures) in
    then_got _ (field_told _ _ _ refl c.low_limit.ensures c.in_ok-low.ensures)
    ∙ then_got _ (field_told _ _ _ refl c.high_limit.ensures c.in_ok-high.ensures)
    ∙ failed _ _ (rw (sym is) (sym c.condition_rises.ensures ∙ c.if-not-condition_rises.true))

pub returns : goal.returns
unfolding condition
returns c =
    let is : c.from_le_bytes-condition.result ≡ c.in_ok-low.low + 256 * c.in_ok-high.high = omega (arith, c.from_le_bytes-condition.ensures) in
    then_got _ (field_told _ _ _ refl c.low_limit.ensures c.in_ok-low.ensures)
    ∙ then_got _ (field_told _ _ _ refl c.high_limit.ensures c.in_ok-high.ensures)
    ∙ rw (sym is) (passed _ _ (sym c.condition_rises.ensures ∙ c.if-not-condition_rises.false))
