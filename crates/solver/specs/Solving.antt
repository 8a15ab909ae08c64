-- What a solve promises, whole.
use Rattle.std.specs.Prelude.{◌≡◌, ℕ, count_by, fold, ◌+◌, ◌*◌, max, Bool, true, false, ◌&&◌, List, ◌++◌, length, codes, decimal, take, drop, Some, None, Ok, Err, Option, Result, ◌==◌, nat_le, slice_index}
use Rattle.plans.specs.Simulation.{Domain}
use Rattle.costs.specs.Costs.{Model}
use Rattle.solver.specs.declared.Entry.{Entry}
use Rattle.solver.specs.declared.Summary.{Summary}
use Rattle.solver.specs.declared.SolveError.{SolveError}
use Rattle.solver.specs.declared.SolveError.TheVariants.{Short, Memory}
use Rattle.solver.specs.Policy.{Solved, world_of}
use Rattle.rounds.specs.Verdicts.{RankRows}
use Rattle.solver.specs.Choices.{Chosen}
use Rattle.search.specs.declared.Choice.{Choice}
use Rattle.port.specs.Model.{Model as PortModel}

-- the number of a refusal; want of memory has none
abbrev pub solve_error_number : SolveError → Option ℕ
solve_error_number Short = Some 12
solve_error_number Memory = None

-- what is printed of a number, or of none
abbrev pub number_text : Option ℕ → List ℕ
number_text (Some n) = codes "refused " ++ decimal n
number_text None = codes "no memory"

-- what a refusal is printed as: by its number, where it has one
abbrev pub solve_error_text : SolveError → List ℕ
solve_error_text e = number_text (solve_error_number e)

-- the place of the start pair among the ranks
abbrev pub start_of : PortModel → ℕ
start_of m = m.header.stage * length m.conditions + m.header.condition

-- the choices and ranks that a port comes to
pub record RightSolution {K : Type 0} (k : Model) (e : K → List ℕ) (D : Domain) (choices : List (Choice K)) (ranks : List ℕ) : Type 0 where
  pub ranked : RankRows D ranks
  pub chosen : Chosen k e D choices

-- how many ranks are 0
abbrev pub zeros : List ℕ → ℕ
zeros rs = count_by (λ r. r == 0) rs

-- the largest rank: 0 where there is none
abbrev pub largest_of : List ℕ → ℕ
largest_of rs = fold (λ top r. max top r) 0 rs

-- how many places a port has in the policy, and how many pairs
abbrev pub places_of : Domain → ℕ
places_of D = length D.tasks * D.conditions

abbrev pub pairs_of : Domain → ℕ
pairs_of D = D.stages * D.conditions

-- the buffers are long enough for the port
abbrev pub enough : {K : Type 0} → Domain → List Entry → List K → List ℕ → Bool
enough D entries costs ranks = nat_le (places_of D) (length entries) && (nat_le (places_of D) (length costs) && nat_le (pairs_of D) (length ranks))

-- The buffers are filled, past their places they are as they were, and the summary is of the ranks.
pub record Filled {K : Type 0} (D : Domain) (k : Model) (e : K → List ℕ) (start_at : ℕ) (entries entries' : List Entry) (costs costs' : List K) (ranks ranks' : List ℕ) (summary : Summary) : Type 0 where
  pub fits : enough D entries costs ranks ≡ true
  pub solved : Solved (world_of D k e entries' costs' ranks')
  pub entries_rest : drop (places_of D) entries' ≡ drop (places_of D) entries
  pub costs_rest : drop (places_of D) costs' ≡ drop (places_of D) costs
  pub ranks_rest : drop (pairs_of D) ranks' ≡ drop (pairs_of D) ranks
  pub kept : summary.kept ≡ zeros (take (pairs_of D) ranks')
  pub rounds : summary.rounds ≡ largest_of (take (pairs_of D) ranks')
  pub start : summary.start ≡ slice_index ranks' start_at

-- The tables have a port's places and pairs and no more, they are filled, and the summary is of the ranks.
pub record Tabled {K : Type 0} (D : Domain) (k : Model) (e : K → List ℕ) (start_at : ℕ) (entries : List Entry) (costs : List K) (ranks : List ℕ) (summary : Summary) : Type 0 where
  pub entries_long : length entries ≡ places_of D
  pub costs_long : length costs ≡ places_of D
  pub ranks_long : length ranks ≡ pairs_of D
  pub solved : Solved (world_of D k e entries costs ranks)
  pub kept : summary.kept ≡ zeros ranks
  pub rounds : summary.rounds ≡ largest_of ranks
  pub start : summary.start ≡ slice_index ranks start_at

-- Nothing is written.
pub record Untouched {K : Type 0} (entries entries' : List Entry) (costs costs' : List K) (ranks ranks' : List ℕ) : Type 0 where
  pub same_entries : entries' ≡ entries
  pub same_costs : costs' ≡ costs
  pub same_ranks : ranks' ≡ ranks

-- A short buffer is refused, and nothing else is but for want of memory; a refusal writes nothing.
abbrev pub Outcome : {K : Type 0} → Domain → Model → (K → List ℕ) → ℕ → List Entry → List Entry → List K → List K → List ℕ → List ℕ → Result Summary SolveError → Type 0
Outcome D k e start entries entries' costs costs' ranks ranks' (Ok summary) = Filled D k e start entries entries' costs costs' ranks ranks' summary
Outcome D k e start entries entries' costs costs' ranks ranks' (Err Short) = (enough D entries costs ranks ≡ false) × Untouched entries entries' costs costs' ranks ranks'
Outcome D k e start entries entries' costs costs' ranks ranks' (Err Memory) = (enough D entries costs ranks ≡ true) × Untouched entries entries' costs costs' ranks ranks'
