use Rattle.std.proofs.Common.{ℕ, eqb, length, not, sym, ap, ◌∙◌, vec_items}
use Rattle.std.proofs.lemmas.List.{length-map}
use Rattle.port.specs.declared.Move.{Move}
use Rattle.locks.proofs.Outcomes.{possible_some}
use Rattle.locks.proofs.places.is_possible.Goals as goal

pub returns : goal.returns
returns c =
    ap not c.is_empty.ensures
    ∙ ap (λ (n : ℕ). not (eqb n 0)) (sym (length-map c.moves_of.result.now (λ (m : Move). m.outcome)) ∙ ap length c.moves_of.ensures)
    ∙ sym (possible_some (vec_items c.args.port.now.moves) c.args.condition c.args.operation)
