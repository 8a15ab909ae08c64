-- Choices, row by row.
use Rattle.std.proofs.Common.{◌≡◌, ℕ, ◌+◌, ◌*◌, ◌<◌, List, ◌++◌, length, get_or, vec_items, sym, refl, ap, ◌∙◌, subst, suc-mul, add-one, arith, length-append}
use native.Mathlib.Decide.{ℕ_discrete}
use Rattle.std.proofs.lemmas.List.{get_or_append_left, get_or-append-add}
use Rattle.plans.specs.Simulation.{Domain}
use Rattle.costs.specs.Costs.{Model}
use Rattle.plans.specs.Flags.{has}
use Rattle.search.specs.Answers.{Answers, RightChoice}
use Rattle.search.specs.declared.Choice.{Choice}
use Rattle.search.specs.declared.Choice.TheVariants.{None}
use Rattle.solver.specs.Choices.{Chosen, ChosenRow}
use Rattle.plans.proofs.Flags.{row_within}
use Rattle.rounds.specs.Verdicts.{GoalRows, KeepRows}
use Rattle.rounds.specs.declared.tasks.Task.{Task}

-- rows before and after a row
row_apart : (s t n c : ℕ) → s < t → c < n → s * n + c < t * n
row_apart s t n c l h = omega (arith, row_within s t n (t * n) l refl)

-- the rows of the first i tasks
abbrev pub ChosenTo : {A : Type 0} → Model → (A → List ℕ) → Domain → List (Choice A) → ℕ → Type 0
ChosenTo k e D choices i =
    (length choices ≡ i * D.conditions) × ((j : ℕ) → j < i → ChosenRow k e D j (λ c. get_or choices (j * D.conditions + c) None))

module _ {A : Type 0} (k : Model) (e : A → List ℕ) (D : Domain) where
  -- the same row, where it is read from another list
  same_row : (i : ℕ) (old new : ℕ → Choice A) → ((c : ℕ) → c < D.conditions → new c ≡ old c) → ChosenRow k e D i old → ChosenRow k e D i new
  same_row i old new same r =
      (r.0, r.1, r.2, r.3, λ c l. subst (λ (x : Choice A). RightChoice k e D.moves r.0 r.1 c x) (sym (same c l)) (r.4 c l))

  pub chosen_more : (choices row more : List (Choice A)) (i : ℕ) → more ≡ choices ++ row → ChosenTo k e D choices i → length row ≡ D.conditions →
      ChosenRow k e D i (λ c. get_or row c None) → ChosenTo k e D more (i + 1)
  chosen_more choices row more i is old long r = subst (λ (xs : List (Choice A)). ChosenTo k e D xs (i + 1)) (sym is) (wide, each)
    where
      wide : length (choices ++ row) ≡ (i + 1) * D.conditions
      wide = length-append choices row ∙ omega (arith, old.0, long, ap (λ (n : ℕ). n * D.conditions) (add-one i), suc-mul i D.conditions)

      each : (j : ℕ) → j < i + 1 → ChosenRow k e D j (λ c. get_or (choices ++ row) (j * D.conditions + c) None)
      each j l = go (ℕ_discrete j i)
        where
          go : Dec (j ≡ i) → ChosenRow k e D j (λ c. get_or (choices ++ row) (j * D.conditions + c) None)
          go (yes p) =
              subst (λ (n : ℕ). ChosenRow k e D n (λ c. get_or (choices ++ row) (n * D.conditions + c) None)) (sym p)
              (same_row i (λ c. get_or row c None) (λ c. get_or (choices ++ row) (i * D.conditions + c) None)
              (λ c h. ap (λ (n : ℕ). get_or (choices ++ row) (n + c) None) (sym old.0) ∙ get_or-append-add choices row c None) r)
          go (no n) =
              same_row j (λ c. get_or choices (j * D.conditions + c) None) (λ c. get_or (choices ++ row) (j * D.conditions + c) None)
              (λ c h. get_or_append_left choices row None (j * D.conditions + c) (omega (arith, row_apart j i D.conditions c (omega arith) h, old.0)))
              (old.1 j (omega arith))

  -- what a search answers for a task
  pub searched_row : (tasks : List Task) (i : ℕ) (t : Task) (row : List (Choice A)) → KeepRows D tasks → GoalRows D tasks → i < length tasks →
      t ≡ get_or tasks i t → Answers D.conditions k e D.moves (vec_items t.keep) (vec_items t.goal) row → ChosenRow k e D i (λ c. get_or row c None)
  searched_row tasks i t row keeps goals l is a = (
    has (vec_items t.keep),
    has (vec_items t.goal),
    λ c h. ap (λ (u : Task). has (vec_items u.keep) c) is ∙ keeps.each i c t at h,
    λ c h.
        let same : has (vec_items t.goal) c ≡ has (vec_items (get_or tasks i t).goal) c = ap (λ (u : Task). has (vec_items u.goal) c) is in
        let iff = goals.each i c t at h in
        (λ b. iff.0 (sym same ∙ b), λ p. same ∙ iff.1 p),
    a.each,
  )
    where
      at : i < length D.tasks
      at = omega (arith, l, keeps.many)

  pub chosen_all : (choices : List (Choice A)) (i : ℕ) → i ≡ length D.tasks → ChosenTo k e D choices i → Chosen k e D choices
  chosen_all choices i is c = record {
    long = c.0 ∙ ap (λ (n : ℕ). n * D.conditions) is;
    rows = λ j l. c.1 j (omega (arith, is));
  }
