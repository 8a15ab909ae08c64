-- Examples of what is computed of a policy, its tables and its ranks.
use Rattle.std.specs.Prelude.{ℕ, true, List, [], ◌∷◌, Some, None, codes}
use Rattle.plans.specs.Simulation.{Domain}
use Rattle.costs.specs.Models.{count_list, moves_model, minutes_model}
use Rattle.search.specs.declared.Choice.TheVariants.{None as NoChoice, There as Here, Work as Choose}
use Rattle.solver.specs.declared.Entry.{Entry}
use Rattle.solver.specs.declared.Entry.TheVariants.{None as NoEntry, There, Work}
use Rattle.solver.specs.declared.SolveError.TheVariants.{Short, Memory}
use Rattle.solver.specs.Policy.{World, entry_byte, entry_text, kept_set, world_of}
use Rattle.solver.specs.Solving.{solve_error_number, number_text, solve_error_text, start_of, zeros, largest_of, places_of, pairs_of, enough}
use Rattle.solver.specs.Choices.{choice_entry, exact_of}
use Rattle.cases_plans.specs.Rows.{Row, holds, fails, AllSay}
use Rattle.cases_histories.specs.Values.{Claim, number, flag, numbers, place, entry, Means}
use Rattle.cases_histories.specs.Sluice.{leave, sluice, two, nought, entries, as_given, w, port}

-- one request, two stages and three conditions: three places in a policy, and six pairs
abbrev pub small : Domain
small = record sluice { stages = 2; tasks = leave ∷ [] }

abbrev pub three : List Entry
three = There ∷ There ∷ There ∷ []

abbrev pub three_costs : List (List ℕ)
three_costs = nought ∷ nought ∷ nought ∷ []

abbrev pub six : List ℕ
six = 0 ∷ 0 ∷ 0 ∷ 0 ∷ 0 ∷ 0 ∷ []

-- a world whose costs are counts of moves
abbrev counted : World
counted = world_of sluice moves_model count_list entries (record { moves = 3 } ∷ []) []

abbrev pub rows : List (Row Claim)
rows =
    -- entry_byte: 255, 254, or the operation; an operation of 254 or 255 would look like another entry, but a port has at most 32
    holds (number (entry_byte NoEntry) 255) ∷
    holds (number (entry_byte There) 254) ∷
    holds (number (entry_byte (Work 7)) 7) ∷
    holds (number (entry_byte (Work 254)) 254) ∷
    fails (number (entry_byte NoEntry) 254) ∷
    fails (number (entry_byte There) 255) ∷
    fails (number (entry_byte (Work 7)) 8) ∷
    -- entry_text: the words, and the operation in decimal
    holds (numbers (entry_text NoEntry) (codes "none")) ∷
    holds (numbers (entry_text There) (codes "there")) ∷
    holds (numbers (entry_text (Work 12)) (codes "work 12")) ∷
    fails (numbers (entry_text NoEntry) (codes "there")) ∷
    fails (numbers (entry_text There) []) ∷
    fails (numbers (entry_text (Work 12)) (codes "work")) ∷
    fails (numbers (entry_text (Work 12)) (codes "work12")) ∷
    -- kept_set: pairs that there are, of rank 0
    holds (flag (kept_set w 0 2) true) ∷
    holds (flag (kept_set w 1 0) true) ∷
    fails (flag (kept_set w 1 1) true) ∷
    fails (flag (kept_set w 2 2) true) ∷
    fails (flag (kept_set w 4 0) true) ∷
    fails (flag (kept_set w 0 3) true) ∷
    -- world_of: entries and costs by request, ranks by stage, then each by condition; past the end no entry, no cost, and rank 0
    holds (entry (w.entry 0 0) (Work 1)) ∷
    holds (entry (w.entry 0 2) There) ∷
    holds (entry (w.entry 3 0) NoEntry) ∷
    fails (entry (w.entry 1 0) (Work 1)) ∷
    fails (entry (w.entry 2 0) NoEntry) ∷
    holds (numbers (w.cost 0 0) (two 3 1)) ∷
    holds (numbers (w.cost 9 9) nought) ∷
    holds (numbers (counted.cost 0 0) (3 ∷ [])) ∷
    fails (numbers (w.cost 0 1) (two 3 1)) ∷
    fails (numbers (counted.cost 0 1) (3 ∷ [])) ∷
    holds (number (w.rank 2 1) 2) ∷
    holds (number (w.rank 1 2) 1) ∷
    holds (number (w.rank 9 9) 0) ∷
    fails (number (w.rank 1 2) 2) ∷
    fails (number (w.rank 1 0) 1) ∷
    holds (number w.domain.stages 4) ∷
    holds (number w.model.columns 2) ∷
    fails (number counted.model.columns 2) ∷
    fails (number w.domain.conditions 4) ∷
    -- solve_error_number, number_text, solve_error_text: a short buffer is refusal 12, and want of memory has no number
    holds (place (solve_error_number Short) (Some 12)) ∷
    holds (place (solve_error_number Memory) None) ∷
    fails (place (solve_error_number Short) None) ∷
    fails (place (solve_error_number Memory) (Some 12)) ∷
    holds (numbers (number_text (Some 30)) (codes "refused 30")) ∷
    holds (numbers (number_text None) (codes "no memory")) ∷
    fails (numbers (number_text (Some 30)) (codes "refused 3")) ∷
    fails (numbers (number_text (Some 0)) (codes "no memory")) ∷
    holds (numbers (solve_error_text Short) (codes "refused 12")) ∷
    holds (numbers (solve_error_text Memory) (codes "no memory")) ∷
    fails (numbers (solve_error_text Short) (codes "no memory")) ∷
    fails (numbers (solve_error_text Memory) (codes "refused 12")) ∷
    -- start_of: by the start stage, then the start condition
    holds (number (start_of port) 5) ∷
    holds (number (start_of (record port { conditions = 0 ∷ 1 ∷ 2 ∷ 3 ∷ [] })) 6) ∷
    fails (number (start_of port) 7) ∷
    fails (number (start_of port) 6) ∷
    -- zeros, largest_of: how many ranks are 0, and the largest
    holds (number (zeros (0 ∷ 2 ∷ 0 ∷ [])) 2) ∷
    holds (number (zeros []) 0) ∷
    holds (number (zeros (1 ∷ 0 ∷ [])) 1) ∷
    fails (number (zeros (0 ∷ 2 ∷ 0 ∷ [])) 1) ∷
    fails (number (zeros (1 ∷ 2 ∷ [])) 2) ∷
    holds (number (largest_of (0 ∷ 2 ∷ 1 ∷ [])) 2) ∷
    holds (number (largest_of []) 0) ∷
    fails (number (largest_of (0 ∷ 2 ∷ 1 ∷ [])) 1) ∷
    fails (number (largest_of (0 ∷ 2 ∷ 1 ∷ [])) 3) ∷
    -- places_of, pairs_of: requests and stages, each by conditions
    holds (number (places_of small) 3) ∷
    holds (number (places_of sluice) 9) ∷
    fails (number (places_of small) 6) ∷
    fails (number (places_of sluice) 12) ∷
    holds (number (pairs_of small) 6) ∷
    holds (number (pairs_of sluice) 12) ∷
    fails (number (pairs_of small) 3) ∷
    fails (number (pairs_of sluice) 9) ∷
    -- enough: each buffer has its places, or more
    holds (flag (enough small three three_costs six) true) ∷
    holds (flag (enough small (There ∷ three) (nought ∷ three_costs) (0 ∷ six)) true) ∷
    fails (flag (enough small (There ∷ There ∷ []) three_costs six) true) ∷
    fails (flag (enough small three (nought ∷ nought ∷ []) six) true) ∷
    fails (flag (enough small three three_costs (0 ∷ 0 ∷ 0 ∷ 0 ∷ 0 ∷ [])) true) ∷
    -- choice_entry, exact_of: of a choice, the entry, and the exact cost, which is none but where an operation is worked
    holds (entry (choice_entry (Choose 2 (two 3 1))) (Work 2)) ∷
    holds (entry (choice_entry {A = List ℕ} Here) There) ∷
    holds (entry (choice_entry {A = List ℕ} NoChoice) NoEntry) ∷
    fails (entry (choice_entry (Choose 2 (two 3 1))) (Work 3)) ∷
    fails (entry (choice_entry {A = List ℕ} NoChoice) There) ∷
    holds (numbers (exact_of minutes_model as_given (Choose 2 (two 3 1))) (two 3 1)) ∷
    holds (numbers (exact_of minutes_model as_given Here) nought) ∷
    holds (numbers (exact_of moves_model as_given NoChoice) (0 ∷ [])) ∷
    fails (numbers (exact_of minutes_model as_given (Choose 2 (two 3 1))) nought) ∷
    fails (numbers (exact_of moves_model as_given NoChoice) nought) ∷
    []

abbrev pub TablesSay : Type 0
TablesSay = AllSay Means rows
