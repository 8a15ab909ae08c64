-- Stages and tasks in memory, by their rows.
use Rattle.std.proofs.Common.{◌≡◌, ℕ, zero, suc, ◌<◌, ◌≤◌, Bool, true, leb, ◌↔◌, List, [], ◌∷◌, length, map, get_or, vec_items, sym, refl, ap, ◌∙◌, arith}
use Rattle.std.specs.Global.{Global, Vec}
use Rattle.std.proofs.lemmas.List.{take_all}
use Rattle.cases_plans.proofs.Values.{same_list, list_tells}
use Rattle.cases_search.specs.Held.{row, TaskRows}
use Rattle.cases_rounds.specs.Held.{StageRows, stage}

-- a row is short enough to be held as it is
abbrev pub fits : {A : Type 0} → List A → Bool
fits xs = leb (length xs) 100

-- rows in memory are the same where what they hold is
pub rows_tell : {A : Type 0} (same : A → A → Bool) → ((a b : A) → (same a b ≡ true) ↔ (a ≡ b)) → (heap : Global) (xs ys : List A) →
    length xs ≤ 100 → length ys ≤ 100 → (same_list same xs ys ≡ true) ↔ (row heap xs ≡ row heap ys)
rows_tell {A} same tells heap xs ys l m =
    let lists = list_tells same tells xs ys in (
      λ e. ap (row heap) (lists.0 e),
      λ q. lists.1 (sym (take_all 100 xs l) ∙ ap (λ (v : Vec A). vec_items v) q ∙ take_all 100 ys m),
    )

-- a stage and a task with no rows
abbrev pub bare : StageRows
bare = stage [] [] [] true

abbrev pub blank : TaskRows
blank = record { from = 0; to = 0; keep = []; reach = []; goal = []; served = [] }

-- what is held at a place
pub at_place : {A B : Type 0} (f : A → B) (xs : List A) (none : A) (i : ℕ) (d : B) → i < length (map f xs) → get_or (map f xs) i d ≡ f (get_or xs i none)
at_place f [] none i d l = absurd (omega (arith, l))
at_place f (x ∷ xs) none zero d l = refl
at_place f (x ∷ xs) none (suc i) d l = at_place f xs none i d (omega (arith, l))
