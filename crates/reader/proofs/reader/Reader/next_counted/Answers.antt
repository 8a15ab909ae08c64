use Rattle.std.proofs.Common.{sym, ◌∙◌}
use Rattle.formula.proofs.Exits.{exit}
use Rattle.reading.proofs.Steps.{then_got, then_fault, passed, failed, byte_place, counted as from_one}
use Rattle.reader.specs.Reads.{counted}
use Rattle.reader.proofs.reader.Reader.next_counted.Goals as goal

pub returns-in_err-value-clause-read : goal.returns-in_err-value-clause-read
unfolding counted
returns-in_err-value-clause-read c =
    rw (exit _ c.from_residual.ensures.1) (then_fault _ c.in_err-value.ensures.read)

pub returns-then-not-is_count : goal.returns-then-not-is_count
unfolding counted
returns-then-not-is_count c =
    record { read = then_got _ c.in_ok-value.ensures.read ∙ failed _ _ (sym c.is_count.ensures ∙ c.if-not-is_count.true); limits = tt }

pub returns : goal.returns
unfolding counted
returns c =
    let fits = sym c.is_count.ensures ∙ c.if-not-is_count.false in
    let limits = from_one _ _ fits in
    record {
      read = then_got _ c.in_ok-value.ensures.read ∙ passed _ _ fits;
      limits = (limits.0, limits.1, byte_place _ _ _ _ _ c.in_ok-value.ensures.read);
    }
