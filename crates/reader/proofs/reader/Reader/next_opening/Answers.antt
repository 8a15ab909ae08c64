use Rattle.std.proofs.Common.{not, ap, ◌∙◌}
use Rattle.formula.proofs.Exits.{exit}
use Rattle.reading.specs.Reading.{opening}
use Rattle.reading.proofs.Steps.{then_got, then_fault, passed, failed}
use Rattle.reader.proofs.Compared.{told_apart}
use Rattle.reader.proofs.reader.Reader.next_opening.Goals as goal

pub returns-in_err-bytes : goal.returns-in_err-bytes
unfolding opening
returns-in_err-bytes c =
    rw (exit _ c.from_residual.ensures.1) (then_fault _ c.in_err-bytes.ensures)

pub returns-then-ne : goal.returns-then-ne
unfolding opening
returns-then-ne c =
    then_got _ c.in_ok-bytes.ensures ∙ failed _ _ (told_apart c.in_ok-bytes.bytes.now c.as_slice.ensures c.ne.ensures ∙ ap not c.if-ne.true)

pub returns : goal.returns
unfolding opening
returns c =
    then_got _ c.in_ok-bytes.ensures ∙ passed _ _ (told_apart c.in_ok-bytes.bytes.now c.as_slice.ensures c.ne.ensures ∙ ap not c.if-ne.false)
