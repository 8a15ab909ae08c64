use Rattle.std.proofs.Common.{ap, ◌∙◌, arith}
use Rattle.formula.proofs.Exits.{exit}
use Rattle.reading.specs.Reading.{whole_text, text_length, denied}
use Rattle.reader.specs.Reads.{counted}
use Rattle.reading.proofs.Steps.{then_got, then_fault, passed, failed, bytes_place}
use Rattle.reader.proofs.Compared.{compared}
use Rattle.reader.proofs.reader.Reader.next_whole_text.Goals as goal

pub returns-in_err-length-clause-read : goal.returns-in_err-length-clause-read
unfolding whole_text text_length counted
returns-in_err-length-clause-read c =
    rw (exit _ c.from_residual.ensures.1) (then_fault _ c.in_err-length.ensures.read)

pub returns-in_err-bytes-clause-read : goal.returns-in_err-bytes-clause-read
unfolding whole_text text_length counted
returns-in_err-bytes-clause-read c =
    rw (exit _ c.from_residual-in_err-bytes.ensures.1) (then_got _ c.in_ok-length.ensures.read ∙ then_fault _ c.in_err-bytes.ensures)

pub returns-then-eq : goal.returns-then-eq
unfolding whole_text text_length counted
returns-then-eq c =
    record {
      read = then_got _ c.in_ok-length.ensures.read ∙ then_got _ c.in_ok-bytes.ensures ∙ failed _ _ (ap denied (compared c.in_ok-bytes.bytes.now c.as_slice.ensures c.eq.ensures ∙ c.if-eq.true));
      stands = tt;
    }

pub invariant_of-result : goal.invariant_of-result
invariant_of-result c =
    let b = bytes_place _ _ _ _ _ _ c.in_ok-bytes.ensures in
    record {
      some = omega (arith, b.0, c.in_ok-length.ensures.limits.0);
      few = omega (arith, b.0, c.in_ok-length.ensures.limits.1);
      within = omega (arith, b.0, b.1, c.in_ok-length.ensures.limits.2, c.next_bytes.new.self.within);
    }

pub returns : goal.returns
unfolding whole_text text_length counted
returns c =
    record {
      read = then_got _ c.in_ok-length.ensures.read ∙ then_got _ c.in_ok-bytes.ensures ∙ passed _ _ (ap denied (compared c.in_ok-bytes.bytes.now c.as_slice.ensures c.eq.ensures ∙ c.if-eq.false));
      stands = c.in_ok-length.ensures.limits.2;
    }
