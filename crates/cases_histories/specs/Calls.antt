-- Examples of what is computed of a call: the rules that refuse it, and where an opening stands.
use Rattle.std.specs.Prelude.{ℕ, true, false, List, [], ◌∷◌, Some, None, Option}
use Rattle.solver.specs.declared.Entry.TheVariants.{None as NoEntry, There, Work}
use Rattle.solver.specs.Policy.{World}
use Rattle.histories.specs.declared.Command.TheVariants.{Quote, Ask, Step, Close}
use Rattle.histories.specs.Calls.{At, Rule, rule, refusal, offered, placed, entry_at, cost_at, is_nothing, is_there, possible_at, stuck, is_out, quote_rules, ask_rules, step_rules, close_rules, rules, rank_of, open_rules, start_at}
use Rattle.cases_plans.specs.Rows.{Row, holds, fails, AllSay}
use Rattle.cases_histories.specs.Values.{Claim, number, flag, numbers, place, entry, standing, ruled, Means}
use Rattle.cases_histories.specs.Sluice.{two, nought, costs, ranks, with_tables, w}

-- where a controller and its lock stand
abbrev pub at : ℕ → Option ℕ → Option ℕ → At
at s o p = record { stage = s; out = o; place = p }

-- the sluice with a policy that works what is not possible: operation 7 from low, and operation 0 from high
abbrev pub astray : World
astray = with_tables (Work 7 ∷ Work 0 ∷ There ∷ []) costs ranks

-- rules by their numbers, with whether each applies
abbrev pub clear : ℕ → Rule
clear n = rule n false

abbrev pub bars : ℕ → Rule
bars n = rule n true

abbrev pub rows : List (Row Claim)
rows =
    -- rule: its number, and whether it applies
    holds (number (rule 22 true).number 22) ∷
    holds (flag (rule 22 true).applies true) ∷
    fails (number (rule 22 true).number 23) ∷
    fails (flag (rule 22 false).applies true) ∷
    -- refusal: the first that applies, in their order and not by their numbers
    holds (place (refusal (clear 22 ∷ bars 25 ∷ bars 23 ∷ [])) (Some 25)) ∷
    holds (place (refusal (clear 22 ∷ clear 23 ∷ [])) None) ∷
    holds (place (refusal []) None) ∷
    fails (place (refusal (clear 22 ∷ bars 25 ∷ bars 23 ∷ [])) (Some 23)) ∷
    fails (place (refusal (clear 22 ∷ bars 25 ∷ [])) (Some 22)) ∷
    fails (place (refusal (bars 22 ∷ clear 23 ∷ [])) None) ∷
    -- offered: there is such a request, and it is one of the stage
    holds (flag (offered w 0 0) true) ∷
    holds (flag (offered w 2 2) true) ∷
    fails (flag (offered w 1 0) true) ∷
    fails (flag (offered w 0 3) true) ∷
    fails (flag (offered w 3 1) true) ∷
    -- placed: the lock stands in a condition that there is
    holds (flag (placed w (Some 0)) true) ∷
    holds (flag (placed w (Some 2)) true) ∷
    fails (flag (placed w (Some 3)) true) ∷
    fails (flag (placed w None) true) ∷
    -- entry_at, cost_at: no entry, and no cost, where the lock stands nowhere
    holds (entry (entry_at w 0 (Some 0)) (Work 1)) ∷
    holds (entry (entry_at w 0 (Some 1)) There) ∷
    holds (entry (entry_at w 0 None) NoEntry) ∷
    fails (entry (entry_at w 0 (Some 1)) (Work 1)) ∷
    fails (entry (entry_at w 0 None) There) ∷
    holds (numbers (cost_at w 0 (Some 0)) (two 3 1)) ∷
    holds (numbers (cost_at w 0 None) nought) ∷
    fails (numbers (cost_at w 0 (Some 0)) nought) ∷
    fails (numbers (cost_at w 0 None) (two 3 1)) ∷
    fails (numbers (cost_at w 1 (Some 0)) (two 3 1)) ∷
    -- is_nothing, is_there
    holds (flag (is_nothing NoEntry) true) ∷
    holds (flag (is_nothing (entry_at w 1 (Some 2))) true) ∷
    fails (flag (is_nothing There) true) ∷
    fails (flag (is_nothing (Work 0)) true) ∷
    holds (flag (is_there There) true) ∷
    holds (flag (is_there (entry_at w 1 (Some 0))) true) ∷
    fails (flag (is_there NoEntry) true) ∷
    fails (flag (is_there (Work 0)) true) ∷
    -- possible_at: some move has the condition and the operation
    holds (flag (possible_at w (Some 0) 0) true) ∷
    holds (flag (possible_at w (Some 0) 2) true) ∷
    fails (flag (possible_at w (Some 0) 3) true) ∷
    fails (flag (possible_at w (Some 1) 0) true) ∷
    fails (flag (possible_at w None 0) true) ∷
    -- stuck: no entry, or an operation that is not possible; where the entry is There, not even a lock that stands nowhere is stuck
    holds (flag (stuck w (Some 0) NoEntry) true) ∷
    holds (flag (stuck w (Some 0) (Work 3)) true) ∷
    holds (flag (stuck w (Some 1) (Work 1)) true) ∷
    fails (flag (stuck w (Some 0) (Work 1)) true) ∷
    fails (flag (stuck w (Some 0) There) true) ∷
    fails (flag (stuck w None There) true) ∷
    -- is_out
    holds (flag (is_out (Some 2) 2) true) ∷
    holds (flag (is_out (Some 0) 0) true) ∷
    fails (flag (is_out (Some 2) 1) true) ∷
    fails (flag (is_out None 0) true) ∷
    -- quote_rules: not offered, nowhere, no plan
    holds (ruled (quote_rules w 0 (Some 0) 0) (clear 22 ∷ clear 23 ∷ clear 25 ∷ [])) ∷
    holds (ruled (quote_rules w 2 (Some 1) 1) (bars 22 ∷ clear 23 ∷ bars 25 ∷ [])) ∷
    holds (ruled (quote_rules w 2 None 2) (clear 22 ∷ bars 23 ∷ bars 25 ∷ [])) ∷
    fails (ruled (quote_rules w 0 (Some 0) 0) []) ∷
    fails (ruled (quote_rules w 2 None 2) (bars 23 ∷ clear 22 ∷ bars 25 ∷ [])) ∷
    -- ask_rules: the same, and stuck
    holds (ruled (ask_rules w 0 (Some 0) 0) (clear 22 ∷ clear 23 ∷ clear 25 ∷ clear 29 ∷ [])) ∷
    holds (ruled (ask_rules astray 0 (Some 1) 0) (clear 22 ∷ clear 23 ∷ clear 25 ∷ bars 29 ∷ [])) ∷
    holds (ruled (ask_rules w 1 (Some 1) 1) (clear 22 ∷ clear 23 ∷ bars 25 ∷ bars 29 ∷ [])) ∷
    holds (ruled (ask_rules w 1 None 0) (bars 22 ∷ bars 23 ∷ bars 25 ∷ bars 29 ∷ [])) ∷
    fails (ruled (ask_rules w 0 (Some 0) 0) (clear 22 ∷ clear 23 ∷ clear 25 ∷ [])) ∷
    fails (ruled (ask_rules astray 0 (Some 0) 0) (clear 22 ∷ clear 23 ∷ clear 25 ∷ clear 29 ∷ [])) ∷
    -- step_rules: the same, but arrived before stuck
    holds (ruled (step_rules w 0 (Some 0) 0) (clear 22 ∷ clear 23 ∷ clear 25 ∷ clear 26 ∷ clear 29 ∷ [])) ∷
    holds (ruled (step_rules w 0 (Some 2) 0) (clear 22 ∷ clear 23 ∷ clear 25 ∷ bars 26 ∷ clear 29 ∷ [])) ∷
    holds (ruled (step_rules w 1 None 0) (bars 22 ∷ bars 23 ∷ bars 25 ∷ clear 26 ∷ bars 29 ∷ [])) ∷
    fails (ruled (step_rules w 0 (Some 2) 0) (clear 22 ∷ clear 23 ∷ clear 25 ∷ clear 26 ∷ clear 29 ∷ [])) ∷
    fails (ruled (step_rules w 0 (Some 0) 0) (clear 22 ∷ clear 23 ∷ clear 25 ∷ clear 29 ∷ clear 26 ∷ [])) ∷
    -- close_rules: not offered, nowhere, not arrived
    holds (ruled (close_rules w 0 (Some 1) 0) (clear 22 ∷ clear 23 ∷ clear 27 ∷ [])) ∷
    holds (ruled (close_rules w 0 (Some 0) 0) (clear 22 ∷ clear 23 ∷ bars 27 ∷ [])) ∷
    holds (ruled (close_rules w 1 (Some 1) 1) (clear 22 ∷ clear 23 ∷ bars 27 ∷ [])) ∷
    holds (ruled (close_rules w 1 None 0) (bars 22 ∷ bars 23 ∷ bars 27 ∷ [])) ∷
    fails (ruled (close_rules w 0 (Some 0) 0) (clear 22 ∷ clear 23 ∷ clear 27 ∷ [])) ∷
    fails (ruled (close_rules w 1 (Some 1) 1) (clear 22 ∷ clear 23 ∷ bars 25 ∷ [])) ∷
    -- rules: a quote is refused by its own alone; an ask by 21 where a grant is out; a step or a close by 28 where its request is not
    holds (place (refusal (rules w (at 0 (Some 0) (Some 0)) (Quote 0))) None) ∷
    holds (place (refusal (rules w (at 1 None (Some 1)) (Quote 1))) (Some 25)) ∷
    holds (place (refusal (rules astray (at 0 None (Some 0)) (Quote 0))) None) ∷
    fails (place (refusal (rules w (at 0 (Some 0) (Some 0)) (Quote 0))) (Some 21)) ∷
    fails (place (refusal (rules w (at 1 None (Some 1)) (Quote 1))) None) ∷
    holds (place (refusal (rules w (at 0 None (Some 0)) (Ask 0))) None) ∷
    holds (place (refusal (rules w (at 0 (Some 0) (Some 0)) (Ask 9))) (Some 21)) ∷
    holds (place (refusal (rules w (at 0 None None) (Ask 0))) (Some 23)) ∷
    holds (place (refusal (rules astray (at 0 None (Some 0)) (Ask 0))) (Some 29)) ∷
    fails (place (refusal (rules w (at 0 (Some 0) (Some 0)) (Ask 9))) (Some 22)) ∷
    fails (place (refusal (rules astray (at 0 None (Some 0)) (Ask 0))) None) ∷
    holds (place (refusal (rules w (at 0 (Some 0) (Some 0)) (Step 0))) None) ∷
    holds (place (refusal (rules w (at 0 (Some 0) (Some 0)) (Step 1))) (Some 28)) ∷
    holds (place (refusal (rules w (at 0 (Some 0) (Some 1)) (Step 0))) (Some 26)) ∷
    holds (place (refusal (rules astray (at 0 (Some 0) (Some 1)) (Step 0))) (Some 29)) ∷
    fails (place (refusal (rules w (at 0 None (Some 0)) (Step 0))) None) ∷
    fails (place (refusal (rules w (at 0 (Some 0) (Some 0)) (Step 1))) (Some 22)) ∷
    holds (place (refusal (rules w (at 0 (Some 0) (Some 1)) (Close 0))) None) ∷
    holds (place (refusal (rules w (at 0 (Some 0) (Some 0)) (Close 0))) (Some 27)) ∷
    holds (place (refusal (rules w (at 0 None (Some 0)) (Close 0))) (Some 28)) ∷
    holds (place (refusal (rules w (at 0 (Some 1) (Some 1)) (Close 0))) (Some 28)) ∷
    fails (place (refusal (rules w (at 0 (Some 0) (Some 0)) (Close 0))) None) ∷
    fails (place (refusal (rules w (at 0 None (Some 0)) (Close 0))) (Some 27)) ∷
    -- rank_of: the rank where the lock stands, and 0 where it stands nowhere
    holds (number (rank_of w 2 (Some 1)) 2) ∷
    holds (number (rank_of w 2 None) 0) ∷
    fails (number (rank_of w 1 (Some 2)) 2) ∷
    fails (number (rank_of w 2 (Some 1)) 0) ∷
    -- open_rules: nowhere, not kept
    holds (ruled (open_rules w 0 (Some 2)) (clear 23 ∷ clear 24 ∷ [])) ∷
    holds (ruled (open_rules w 1 (Some 2)) (clear 23 ∷ bars 24 ∷ [])) ∷
    holds (ruled (open_rules w 1 None) (bars 23 ∷ clear 24 ∷ [])) ∷
    holds (ruled (open_rules w 0 (Some 3)) (bars 23 ∷ clear 24 ∷ [])) ∷
    fails (ruled (open_rules w 1 (Some 2)) (clear 23 ∷ clear 24 ∷ [])) ∷
    fails (ruled (open_rules w 1 None) (clear 23 ∷ clear 24 ∷ [])) ∷
    -- start_at: at the stage, over the lock, with no grant out
    holds (standing (start_at 1 (Some 2)) (at 1 None (Some 2))) ∷
    holds (standing (start_at 0 None) (at 0 None None)) ∷
    fails (standing (start_at 1 (Some 2)) (at 1 (Some 2) (Some 2))) ∷
    fails (standing (start_at 1 (Some 2)) (at 2 None (Some 1))) ∷
    []

abbrev pub CallsSay : Type 0
CallsSay = AllSay Means rows
