use Rattle.std.proofs.Common.{◌≡◌, cond, ap, ◌∙◌, arith, le-ltb, lt-ltb}
use Rattle.formula.proofs.Exits.{exit}
use Rattle.faults.specs.declared.layers.PortFault.TheVariants.{Missing}
use Rattle.reading.specs.Reading.{field, fault}
use Rattle.reading.proofs.Steps.{then_got, then_fault, passed, failed, place_here, place_there}
use Rattle.reader.proofs.reader.Reader.take_field.Goals as goal
use Rattle.reader.proofs.reader.Reader.take_field.Goals.{then-present, else-present}

pub returns-in_err-value : goal.returns-in_err-value
unfolding field
returns-in_err-value c =
    rw (exit _ c.from_residual.ensures.1) (then_fault _ c.in_err-value.ensures)

pub returns-then-value-limit : goal.returns-then-value-limit
unfolding field
returns-then-value-limit c =
    let at : cond c.args.present c.args.self.now.place c.args.map_place ≡ c.if-present.place =
    elim c.if-present.branch [ then-present w ↦ place_here _ _ _ _ w.if-present.true w.place-is | else-present w ↦ place_there _ _ _ _ w.if-present.false w.place-is ] in
    then_got _ c.in_ok-value.ensures ∙ failed _ _ (le-ltb _ _ (omega arith)) ∙ ap (λ k. fault (Missing k)) at

pub returns : goal.returns
unfolding field
returns c = then_got _ c.in_ok-value.ensures ∙ passed _ _ (lt-ltb _ _ (omega arith))
