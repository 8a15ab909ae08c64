-- Examples of what a solve promises: its choices, and the buffers or the tables that it fills.
use Rattle.std.specs.Prelude.{ℕ, List, [], ◌∷◌, Ok, Err, Result, slice_index_or}
use Rattle.costs.specs.Models.{minutes_model}
use Rattle.search.specs.declared.Choice.{Choice}
use Rattle.search.specs.declared.Choice.TheVariants.{None as NoChoice, There as Here, Work as Choose}
use Rattle.solver.specs.declared.Entry.{Entry}
use Rattle.solver.specs.declared.Entry.TheVariants.{None, There, Work}
use Rattle.solver.specs.declared.Summary.{Summary}
use Rattle.solver.specs.declared.SolveError.{SolveError}
use Rattle.solver.specs.declared.SolveError.TheVariants.{Short, Memory}
use Rattle.solver.specs.Choices.{ChosenRow, Chosen}
use Rattle.solver.specs.Solving.{RightSolution, Filled, Tabled, Untouched, Outcome}
use Rattle.cases_plans.specs.Rows.{Row, holds, fails, AllSay}
use Rattle.cases_histories.specs.Sluice.{sluice, two, nought, entries, costs, ranks, as_given}

-- the buffers of a caller
pub record Buffers : Type 0 where
  pub entries : List Entry
  pub costs : List (List ℕ)
  pub ranks : List ℕ

abbrev pub buffers : List Entry → List (List ℕ) → List ℕ → Buffers
buffers es fs rs = record { entries = es; costs = fs; ranks = rs }

abbrev pub summary : (kept rounds start : ℕ) → Summary
summary kept rounds start = record { kept = kept; rounds = rounds; start = start }

-- over the sluice, with the start pair at some place
pub data Claim : Type 0 where
  -- a row of choices for a request, all choices, and choices with ranks
  chosen_row : ℕ → List (Choice (List ℕ)) → Claim
  chosen : List (Choice (List ℕ)) → Claim
  worked : List (Choice (List ℕ)) → List ℕ → Claim
  -- buffers before and after
  filled : ℕ → Buffers → Buffers → Summary → Claim
  untouched : Buffers → Buffers → Claim
  outcome : ℕ → Buffers → Buffers → Result Summary SolveError → Claim
  -- tables
  tabled : ℕ → Buffers → Summary → Claim

abbrev pub choice_at : List (Choice (List ℕ)) → ℕ → Choice (List ℕ)
choice_at cs c = slice_index_or cs c NoChoice

abbrev pub Means : Claim → Type 0
Means (chosen_row q cs) = ChosenRow minutes_model as_given sluice q (choice_at cs)
Means (chosen cs) = Chosen minutes_model as_given sluice cs
Means (worked cs rs) = RightSolution minutes_model as_given sluice cs rs
Means (filled at b b' s) = Filled sluice minutes_model as_given at b.entries b'.entries b.costs b'.costs b.ranks b'.ranks s
Means (untouched b b') = Untouched b.entries b'.entries b.costs b'.costs b.ranks b'.ranks
Means (outcome at b b' r) = Outcome sluice minutes_model as_given at b.entries b'.entries b.costs b'.costs b.ranks b'.ranks r
Means (tabled at b s) = Tabled sluice minutes_model as_given at b.entries b.costs b.ranks s

-- the choices for each request
abbrev leaving : List (Choice (List ℕ))
leaving = Choose 1 (two 3 1) ∷ Here ∷ Here ∷ []

abbrev settling : List (Choice (List ℕ))
settling = Here ∷ NoChoice ∷ NoChoice ∷ []

abbrev all : List (Choice (List ℕ))
all = Choose 1 (two 3 1) ∷ Here ∷ Here ∷ Here ∷ NoChoice ∷ NoChoice ∷ Here ∷ NoChoice ∷ NoChoice ∷ []

abbrev more : List (Choice (List ℕ))
more = Choose 1 (two 3 1) ∷ Here ∷ Here ∷ Here ∷ NoChoice ∷ NoChoice ∷ Here ∷ NoChoice ∷ NoChoice ∷ NoChoice ∷ []

-- buffers with a place to spare, before and after
abbrev old : Buffers
old =
    buffers
    (None ∷ None ∷ None ∷ None ∷ None ∷ None ∷ None ∷ None ∷ None ∷ Work 8 ∷ [])
    ([] ∷ [] ∷ [] ∷ [] ∷ [] ∷ [] ∷ [] ∷ [] ∷ [] ∷ two 8 8 ∷ [])
    (7 ∷ 7 ∷ 7 ∷ 7 ∷ 7 ∷ 7 ∷ 7 ∷ 7 ∷ 7 ∷ 7 ∷ 7 ∷ 7 ∷ 8 ∷ [])

abbrev new_entries : List Entry
new_entries = Work 1 ∷ There ∷ There ∷ There ∷ None ∷ None ∷ There ∷ None ∷ None ∷ Work 8 ∷ []

abbrev new_costs : List (List ℕ)
new_costs = two 3 1 ∷ nought ∷ nought ∷ nought ∷ nought ∷ nought ∷ nought ∷ nought ∷ nought ∷ two 8 8 ∷ []

abbrev new_ranks : List ℕ
new_ranks = 0 ∷ 0 ∷ 0 ∷ 0 ∷ 1 ∷ 1 ∷ 0 ∷ 2 ∷ 2 ∷ 0 ∷ 0 ∷ 0 ∷ 8 ∷ []

abbrev new : Buffers
new = buffers new_entries new_costs new_ranks

-- the same with an operation that is not the lowest
abbrev worse_entries : List Entry
worse_entries = Work 2 ∷ There ∷ There ∷ There ∷ None ∷ None ∷ There ∷ None ∷ None ∷ Work 8 ∷ []

-- tables with just their places
abbrev tables : Buffers
tables = buffers entries costs ranks

abbrev short : Buffers
short = buffers [] costs ranks

abbrev pub rows : List (Row Claim)
rows =
    -- ChosenRow: each condition's choice, for the request
    holds (chosen_row 0 leaving) ∷
    holds (chosen_row 1 settling) ∷
    fails (chosen_row 0 settling) ∷
    fails (chosen_row 0 (Choose 0 (two 7 1) ∷ Here ∷ Here ∷ [])) ∷
    fails (chosen_row 0 (Choose 1 (two 4 1) ∷ Here ∷ Here ∷ [])) ∷
    fails (chosen_row 2 (Here ∷ Here ∷ Here ∷ [])) ∷
    -- Chosen: a row for each request, and no more
    holds (chosen all) ∷
    fails (chosen leaving) ∷
    fails (chosen (Here ∷ all)) ∷
    fails (chosen more) ∷
    fails (chosen (Choose 2 (two 3 1) ∷ Here ∷ Here ∷ Here ∷ NoChoice ∷ NoChoice ∷ Here ∷ NoChoice ∷ NoChoice ∷ [])) ∷
    -- RightSolution: with the ranks of all pairs
    holds (worked all ranks) ∷
    fails (worked all (0 ∷ ranks)) ∷
    fails (worked all new_ranks) ∷
    fails (worked all (1 ∷ 0 ∷ 0 ∷ 0 ∷ 1 ∷ 1 ∷ 0 ∷ 2 ∷ 2 ∷ 0 ∷ 0 ∷ 0 ∷ [])) ∷
    fails (worked [] ranks) ∷
    -- Filled: the tables stand in front, what is past them is as it was, and the summary is of the ranks in front
    holds (filled 4 old new (summary 8 2 1)) ∷
    holds (filled 0 tables tables (summary 8 2 0)) ∷
    fails (filled 4 old old (summary 8 2 1)) ∷
    fails (filled 4 old (record new { entries = worse_entries }) (summary 8 2 1)) ∷
    fails (filled 4 old tables (summary 8 2 1)) ∷
    fails (filled 4 old (record new { entries = entries }) (summary 8 2 1)) ∷
    fails (filled 4 old (record new { costs = costs }) (summary 8 2 1)) ∷
    fails (filled 4 old (record new { ranks = ranks }) (summary 8 2 1)) ∷
    fails (filled 4 old new (summary 7 2 1)) ∷
    fails (filled 4 old new (summary 8 8 1)) ∷
    fails (filled 4 old new (summary 8 2 0)) ∷
    fails (filled 4 (record old { entries = [] }) (record new { entries = entries }) (summary 8 2 1)) ∷
    -- Untouched
    holds (untouched old old) ∷
    holds (untouched short short) ∷
    fails (untouched old (record old { entries = entries })) ∷
    fails (untouched old (record old { costs = costs })) ∷
    fails (untouched old (record old { ranks = ranks })) ∷
    -- Outcome: filled; or refused as short, where a buffer is, or for want of memory, where none is
    holds (outcome 4 old new (Ok (summary 8 2 1))) ∷
    holds (outcome 4 short short (Err Short)) ∷
    holds (outcome 4 old old (Err Memory)) ∷
    fails (outcome 4 old old (Ok (summary 8 2 1))) ∷
    fails (outcome 4 old old (Err Short)) ∷
    fails (outcome 4 short short (Err Memory)) ∷
    fails (outcome 4 short tables (Err Short)) ∷
    fails (outcome 4 old new (Err Memory)) ∷
    -- Tabled: the tables and no more
    holds (tabled 4 tables (summary 8 2 1)) ∷
    holds (tabled 7 tables (summary 8 2 2)) ∷
    fails (tabled 4 new (summary 8 2 1)) ∷
    fails (tabled 4 (record tables { entries = new_entries }) (summary 8 2 1)) ∷
    fails (tabled 4 (record tables { costs = two 3 1 ∷ [] }) (summary 8 2 1)) ∷
    fails (tabled 4 (record tables { ranks = 0 ∷ 0 ∷ 0 ∷ 0 ∷ 1 ∷ 1 ∷ 0 ∷ 2 ∷ 2 ∷ 0 ∷ 0 ∷ 0 ∷ 1 ∷ [] }) (summary 8 2 1)) ∷
    fails (tabled 4 (record tables { entries = Work 2 ∷ There ∷ There ∷ There ∷ None ∷ None ∷ There ∷ None ∷ None ∷ [] }) (summary 8 2 1)) ∷
    fails (tabled 4 tables (summary 8 2 2)) ∷
    fails (tabled 4 tables (summary 9 2 1)) ∷
    fails (tabled 4 tables (summary 8 1 1)) ∷
    []

abbrev pub SolvingSay : Type 0
SolvingSay = AllSay Means rows
