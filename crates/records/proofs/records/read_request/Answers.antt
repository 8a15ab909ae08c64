use Rattle.std.proofs.Common.{◌∙◌}
use Rattle.formula.proofs.Exits.{exit}
use Rattle.reading.specs.Reading.{request}
use Rattle.reading.proofs.Steps.{then_got, then_fault}
use Rattle.records.proofs.records.read_request.Goals as goal

pub returns-in_err-from : goal.returns-in_err-from
unfolding request
returns-in_err-from c =
    rw (exit _ c.from_residual.ensures.1) (then_fault _ c.in_err-from.ensures)

pub returns-in_err-to : goal.returns-in_err-to
unfolding request
returns-in_err-to c =
    rw (exit _ c.from_residual-in_err-to.ensures.1) (then_got _ c.in_ok-from.ensures
    ∙ then_fault _ c.in_err-to.ensures)

pub returns-in_err-keep : goal.returns-in_err-keep
unfolding request
returns-in_err-keep c =
    rw (exit _ c.from_residual-in_err-keep.ensures.1) (then_got _ c.in_ok-from.ensures
    ∙ then_got _ c.in_ok-to.ensures
    ∙ then_fault _ c.in_err-keep.ensures)

pub returns-in_err-reach : goal.returns-in_err-reach
unfolding request
returns-in_err-reach c =
    rw (exit _ c.from_residual-in_err-reach.ensures.1) (then_got _ c.in_ok-from.ensures
    ∙ then_got _ c.in_ok-to.ensures
    ∙ then_got _ c.in_ok-keep.ensures
    ∙ then_fault _ c.in_err-reach.ensures)

pub returns : goal.returns
unfolding request
returns c =
    then_got _ c.in_ok-from.ensures
    ∙ then_got _ c.in_ok-to.ensures
    ∙ then_got _ c.in_ok-keep.ensures
    ∙ then_got _ c.in_ok-reach.ensures
