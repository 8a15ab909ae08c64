-- What a record adds to a draft.
use Rattle.std.proofs.Common.{◌≡◌, ℕ, cond, List, [], ◌∷◌, ◌++◌, is_ok, Ok, Result, refl, ap, ◌∙◌}
use mathlib.Core.List as List
use Rattle.std.proofs.lemmas.List.{map-append}
use Rattle.port.specs.declared.Move.{Move}
use Rattle.port.specs.declared.Request.{Request}
use Rattle.port.specs.Model.{Model, RequestModel, request_model}
use Rattle.reading.specs.Reading.{Entry, condition_entry, move_entry, request_entry, add}

-- what a push adds
pub pushed : {X E : Type 0} (xs ys : List X) (x : X) (r : Result (Unit {0}) E) (u : Unit {0}) → ys ≡ cond (is_ok r) (xs ++ x ∷ []) xs → r ≡ Ok u → ys ≡ xs ++ x ∷ []
pushed {X} {E} xs ys x r u e h = e ∙ ap (λ (z : Result (Unit {0}) E). cond (is_ok z) (xs ++ x ∷ []) xs) h

module _ (m : Model) (e : Entry) where
  pub added_condition : (c : ℕ) (ys : List ℕ) → e ≡ condition_entry c → ys ≡ m.conditions ++ c ∷ [] → record { header = m.header; conditions = ys; moves = m.moves; requests = m.requests } ≡ add m e
  unfolding add
  added_condition c ys is h = rw (is, h) refl

  pub added_move : (v : Move) (ys : List Move) → e ≡ move_entry v → ys ≡ m.moves ++ v ∷ [] → record { header = m.header; conditions = m.conditions; moves = ys; requests = m.requests } ≡ add m e
  unfolding add
  added_move v ys is h = rw (is, h) refl

  pub added_request : (w : RequestModel) (xs ys : List Request) (q : Request) → e ≡ request_entry w → List.map request_model xs ≡ m.requests → ys ≡ xs ++ q ∷ [] → request_model q ≡ w → record { header = m.header; conditions = m.conditions; moves = m.moves; requests = List.map request_model ys } ≡ add m e
  unfolding add
  added_request w xs ys q is old h same =
      let all : List.map request_model ys ≡ m.requests ++ w ∷ [] = ap (List.map request_model) h ∙ map-append request_model xs (q ∷ []) ∙ (λ i. old i ++ same i ∷ []) in
      rw (is, all) refl
