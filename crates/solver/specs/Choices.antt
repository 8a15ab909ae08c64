-- The choices of a search for each request and condition.
use Rattle.std.specs.Prelude.{◌≡◌, ℕ, ◌+◌, ◌*◌, ◌<◌, Bool, true, ◌↔◌, List, length, slice_index_or}
use Rattle.plans.specs.Simulation.{Domain, Kept}
use Rattle.plans.specs.Flags.{task_at}
use Rattle.costs.specs.Costs.{Model}
use Rattle.search.specs.Answers.{RightChoice}
use Rattle.search.specs.declared.Choice.{Choice}
use Rattle.search.specs.declared.Choice.TheVariants.{None, There, Work}
use Rattle.solver.specs.declared.Entry.{Entry}
use Rattle.solver.specs.declared.Entry.TheVariants.{None as NoEntry, There as ThereEntry, Work as WorkEntry}
use Rattle.rounds.specs.Rows.{Agree}

-- The entry and the exact cost of a choice.
abbrev pub choice_entry : {A : Type 0} → Choice A → Entry
choice_entry None = NoEntry
choice_entry There = ThereEntry
choice_entry (Work o x) = WorkEntry o

abbrev pub exact_of : {A : Type 0} → Model → (A → List ℕ) → Choice A → List ℕ
exact_of k e None = k.zero
exact_of k e There = k.zero
exact_of k e (Work o x) = e x

-- The choices for task i answer a search that works where its keep holds, and ends where its reach holds and the pair is kept.
abbrev pub ChosenRow : {A : Type 0} → Model → (A → List ℕ) → Domain → ℕ → (ℕ → Choice A) → Type 0
ChosenRow k e D i row =
    (keep : ℕ → Bool) × (goal : ℕ → Bool)
    × Agree D.conditions keep (task_at D i).keep
    × ((c : ℕ) → c < D.conditions → (goal c ≡ true) ↔ (((task_at D i).reach c ≡ true) × Kept D (task_at D i).to c))
    × ((c : ℕ) → c < D.conditions → RightChoice k e D.moves keep goal c (row c))

-- Such a row of choices for each task, one after another.
pub record Chosen {A : Type 0} (k : Model) (e : A → List ℕ) (D : Domain) (choices : List (Choice A)) : Type 0 where
  pub long : length choices ≡ length D.tasks * D.conditions
  pub rows : (i : ℕ) → i < length D.tasks → ChosenRow k e D i (λ c. slice_index_or choices (i * D.conditions + c) None)
