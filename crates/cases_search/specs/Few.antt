-- Examples of tables whose costs are those of runs of few moves.
use Rattle.std.specs.Prelude.{ℕ, List, [], ◌∷◌, None, Option}
use Rattle.port.specs.declared.Move.{Move}
use Rattle.costs.specs.Costs.{Joinable}
use Rattle.costs.specs.declared.models.Time.{Time}
use Rattle.costs.specs.Models.{minutes_model, time_list}
use Rattle.search.specs.Labels.{Few, FewBelow, FewAfter}
use Rattle.search.specs.Steps.{Early, Spare}
use Rattle.cases_plans.specs.Rows.{Row, holds, fails, AllSay}
use Rattle.cases_search.specs.Sluice.{two, fill, lift, top, drop}
use Rattle.cases_search.specs.Labels.{first, second, time}

pub data Claim : Type 0 where
  -- each cost of a table is that of a run of at most so many moves; or each that is below another; or that of an outcome of a move, to be
  -- joined onto
  few : ℕ → List (Option Time) → Claim
  few_below : ℕ → List (Option Time) → List ℕ → Claim
  few_after : List (Option Time) → List Move → Claim
  -- a move may be joined onto a cost
  joinable : (minutes moves : ℕ) → Claim
  -- each that is below another of the table; and all, while one of n conditions has no cost
  early : ℕ → List (Option Time) → Claim
  spare : (n steps : ℕ) → List (Option Time) → Claim

abbrev pub Means : Claim → Type 0
Means (few steps t) = Few minutes_model time_list steps t
Means (few_below steps t f) = FewBelow minutes_model time_list steps t f
Means (few_after t ms) = FewAfter minutes_model time_list t ms
Means (joinable minutes moves) = Joinable minutes_model (two minutes moves)
Means (early steps t) = Early minutes_model time_list steps t
Means (spare n steps t) = Spare minutes_model time_list n steps t

abbrev pub rows : List (Row Claim)
rows =
    -- Few: whichever moves they are, as long as each takes fewer than 65536 minutes
    holds (few 0 first) ∷
    holds (few 1 second) ∷
    holds (few 255 (time 255 255 ∷ [])) ∷
    holds (few 1 (time 65535 1 ∷ [])) ∷
    fails (few 0 second) ∷
    fails (few 1 (time 4 2 ∷ [])) ∷
    fails (few 254 (time 255 255 ∷ [])) ∷
    fails (few 1 (time 65536 1 ∷ [])) ∷
    -- FewBelow: of the others nothing is asked
    holds (few_below 0 second (two 2 1)) ∷
    holds (few_below 0 (None ∷ time 9 9 ∷ []) (two 0 0)) ∷
    holds (few_below 254 (time 254 254 ∷ time 255 255 ∷ []) (two 255 255)) ∷
    fails (few_below 0 second (two 2 2)) ∷
    fails (few_below 0 second (two 3 0)) ∷
    fails (few_below 254 (time 254 254 ∷ time 255 255 ∷ []) (two 255 256)) ∷
    -- Joinable: a cost of a run of at most 254 moves
    holds (joinable 0 0) ∷
    holds (joinable 254 254) ∷
    holds (joinable 16645890 254) ∷
    fails (joinable 255 255) ∷
    fails (joinable 16645891 254) ∷
    fails (joinable 1 0) ∷
    -- FewAfter: onto at most 254 moves one more may be joined; where an outcome has no cost nothing is asked
    holds (few_after (None ∷ time 254 254 ∷ time 0 0 ∷ []) (fill ∷ lift ∷ [])) ∷
    holds (few_after (time 255 255 ∷ time 254 254 ∷ []) (fill ∷ [])) ∷
    holds (few_after (time 254 254 ∷ None ∷ []) (fill ∷ top ∷ drop ∷ [])) ∷
    fails (few_after (None ∷ time 255 255 ∷ time 0 0 ∷ []) (lift ∷ fill ∷ [])) ∷
    fails (few_after (time 255 255 ∷ time 254 254 ∷ []) (fill ∷ drop ∷ [])) ∷
    -- Early: only the costliest may be those of more moves
    holds (early 0 second) ∷
    holds (early 254 (time 254 254 ∷ time 255 255 ∷ [])) ∷
    holds (early 254 (time 255 255 ∷ None ∷ time 255 255 ∷ [])) ∷
    fails (early 0 (time 4 2 ∷ time 2 1 ∷ time 0 0 ∷ [])) ∷
    fails (early 254 (time 256 255 ∷ time 255 255 ∷ [])) ∷
    -- Spare: none, while a condition has no cost; past the number conditions do not count
    holds (spare 2 254 (None ∷ time 254 254 ∷ [])) ∷
    holds (spare 2 254 (time 255 255 ∷ time 0 0 ∷ [])) ∷
    holds (spare 1 254 (time 255 255 ∷ None ∷ [])) ∷
    fails (spare 2 254 (time 255 255 ∷ None ∷ [])) ∷
    fails (spare 2 254 (time 255 255 ∷ [])) ∷
    fails (spare 1 0 (None ∷ None ∷ time 2 1 ∷ [])) ∷
    []

abbrev pub FewSay : Type 0
FewSay = AllSay Means rows
