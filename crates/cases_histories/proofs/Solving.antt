-- The rows of solving, by one test.
use Rattle.std.proofs.Common.{◌≡◌, ℕ, ◌+◌, ◌*◌, ◌<◌, Bool, true, false, ◌&&◌, eqb, ltb, ◌↔◌, List, [], length, take, drop, get_or, Ok, Err, Result, refl, ltb-true}
use mathlib.Core.Bool.{and-eq-true_iff}
use Rattle.plans.specs.Flags.{every, task_at}
use Rattle.plans.specs.Plans.{Plan, stop, work, Attains}
use Rattle.plans.specs.Reach.{each}
use Rattle.plans.specs.Simulation.{Kept}
use Rattle.plans.proofs.Attain.{stop_attains}
use Rattle.plans.proofs.Flags.{every_at, at_every}
use Rattle.plans.proofs.Index.{is_false}
use Rattle.costs.specs.Models.{minutes_model}
use Rattle.rounds.specs.Verdicts.{RankRows}
use Rattle.search.specs.Answers.{RightChoice}
use Rattle.search.specs.declared.Choice.{Choice}
use Rattle.search.specs.declared.Choice.TheVariants.{None as NoChoice, There as Here, Work as Choose}
use Rattle.solver.specs.declared.Entry.{Entry}
use Rattle.solver.specs.declared.Summary.{Summary}
use Rattle.solver.specs.declared.SolveError.{SolveError}
use Rattle.solver.specs.declared.SolveError.TheVariants.{Short, Memory}
use Rattle.solver.specs.Choices.{choice_entry, exact_of, ChosenRow, Chosen}
use Rattle.solver.specs.Policy.{Safe, Right, Solved}
use Rattle.solver.specs.Solving.{RightSolution, Filled, Tabled, Untouched, Outcome, zeros, largest_of, enough}
use Rattle.solver.proofs.Policies.{attains_safe, safe_attains, answer_right}
use Rattle.cases_plans.proofs.Rows.{alike, right, all_say}
use Rattle.cases_plans.proofs.Tests.{both, equal}
use Rattle.cases_plans.proofs.Values.{alike_iff, same_list, list_tells}
use Rattle.cases_plans.proofs.Kept.{kept_test, kept_decided}
use Rattle.cases_histories.specs.Sluice.{sluice, as_given, with_tables, w}
use Rattle.cases_histories.specs.Solving.{Buffers, Claim, chosen_row, chosen, worked, filled, untouched, outcome, tabled, choice_at, Means, rows, SolvingSay}
use Rattle.cases_histories.proofs.Tests.{same_numbers, numbers_tell, same_entry, entries_tell}
use Rattle.cases_histories.proofs.Takes.{three}
use Rattle.cases_histories.proofs.Rights.{formed}
use Rattle.cases_histories.proofs.Policies.{right_test, right_decided, ranks_test, ranks_decided, solved_test, solved_decided}

-- ── choices ──

abbrev own : Choice (List ℕ) → List ℕ
own x = exact_of minutes_model as_given x

module _ (q : ℕ) (l : q < 3) where
  abbrev keep : ℕ → Bool
  keep = (task_at sluice q).keep

  abbrev to : ℕ
  to = (task_at sluice q).to

  abbrev goal : ℕ → Bool
  goal c = (task_at sluice q).reach c && kept_test sluice to c

  goals : (c : ℕ) → c < 3 → (goal c ≡ true) ↔ (((task_at sluice q).reach c ≡ true) × Kept sluice to c)
  goals c m = both ((task_at sluice q).reach c) (kept_test sluice to c) (λ e. e, λ e. e) (kept_decided sluice formed to c)

  to_safe : (plan : Plan) (c : ℕ) → c < 3 → Attains sluice.moves keep goal plan c → Safe w q plan c
  to_safe = attains_safe w formed q keep goal (λ c m. refl) goals

  of_safe : (plan : Plan) (c : ℕ) → c < 3 → Safe w q plan c → Attains sluice.moves keep goal plan c
  of_safe = safe_attains w formed q keep goal (λ c m. refl) goals

  -- a right entry is what a search may answer
  right_answer : (c : ℕ) → c < 3 → (x : Choice (List ℕ)) → Right w q c (choice_entry x) (own x) → RightChoice minutes_model as_given sluice.moves keep goal c x
  right_answer c m NoChoice r = λ plan a. r.0 plan (to_safe plan c m a)
  right_answer c m Here r = ((of_safe stop c m r.0).1 [] tt).1
  right_answer c m (Choose o f) r = (
    is_false (goal c) (λ e. r.0 (to_safe stop c m (stop_attains sluice.moves keep goal c e))),
    record {
      next = r.1.begins.0;
      prices = (of_safe (work o r.1.begins.0) c m r.1.begins.1, r.1.begins.2);
      least = λ plan a. r.1.least plan (to_safe plan c m a);
      lowest = λ p after b. r.1.lowest p (after, to_safe (work p after) c m b.0, b.1);
    },
  )

  -- a row of choices, each right
  abbrev row_test : (ℕ → Choice (List ℕ)) → Bool
  row_test row = every (λ c. right_test q c (choice_entry (row c)) (own (row c))) 3

  pub row_decided : (row : ℕ → Choice (List ℕ)) → (row_test row ≡ true) ↔ ChosenRow minutes_model as_given sluice q row
  row_decided row = (
    λ e. (
      keep,
      goal,
      λ c m. refl,
      goals,
      λ c m. right_answer c m (row c) ((right_decided q c l m (choice_entry (row c)) (own (row c))).0 (every_at each_test 3 e c m)),
    ),
    λ t. at_every each_test 3 (λ c m. (right_decided q c l m (choice_entry (row c)) (own (row c))).1
        (answer_right w formed q t.0 t.1 t.2 t.3 as_given c m (row c) (t.4 c m))),
  )
    where
      each_test : ℕ → Bool
      each_test c = right_test q c (choice_entry (row c)) (own (row c))

abbrev part : List (Choice (List ℕ)) → ℕ → ℕ → Choice (List ℕ)
part cs q c = choice_at cs (q * 3 + c)

abbrev rights_test : ℕ → (ℕ → Choice (List ℕ)) → Bool
rights_test q row = every (λ c. right_test q c (choice_entry (row c)) (own (row c))) 3

abbrev chosen_test : List (Choice (List ℕ)) → Bool
chosen_test cs = eqb (length cs) 9 && every (λ q. rights_test q (part cs q)) 3

chosen_decided : (cs : List (Choice (List ℕ))) → (chosen_test cs ≡ true) ↔ Chosen minutes_model as_given sluice cs
chosen_decided cs = (
  λ e.
      let h = (and-eq-true_iff (eqb (length cs) 9) (every test 3)).0 e in
      record { long = (equal (length cs) 9).0 h.0; rows = λ q l. (row_decided q l (part cs q)).0 (every_at test 3 h.1 q l) },
  λ c.
      (and-eq-true_iff (eqb (length cs) 9) (every test 3)).1
      ((equal (length cs) 9).1 c.long, at_every test 3 (λ q l. (row_decided q l (part cs q)).1 (c.rows q l))),
)
  where
    test : ℕ → Bool
    test q = rights_test q (part cs q)

abbrev worked_test : List (Choice (List ℕ)) → List ℕ → Bool
worked_test cs rs = (eqb (length rs) 12 && ranks_test [] [] rs) && chosen_test cs

worked_decided : (cs : List (Choice (List ℕ))) (rs : List ℕ) → (worked_test cs rs ≡ true) ↔ RightSolution minutes_model as_given sluice cs rs
worked_decided cs rs = (
  λ e.
      let h = (and-eq-true_iff (eqb (length rs) 12 && ranks_test [] [] rs) (chosen_test cs)).0 e in
      let r = (and-eq-true_iff (eqb (length rs) 12) (ranks_test [] [] rs)).0 h.0 in
      let ranked : RankRows sluice rs = record { long = (equal (length rs) 12).0 r.0; each = (ranks_decided [] [] rs).0 r.1 } in
      record { ranked = ranked; chosen = (chosen_decided cs).0 h.1 },
  λ x.
      (and-eq-true_iff (eqb (length rs) 12 && ranks_test [] [] rs) (chosen_test cs)).1 (
        (and-eq-true_iff (eqb (length rs) 12) (ranks_test [] [] rs)).1 ((equal (length rs) 12).1 x.ranked.long, (ranks_decided [] [] rs).1 x.ranked.each),
        (chosen_decided cs).1 x.chosen,
      ),
)

-- ── buffers ──

abbrev pub same_entries : List Entry → List Entry → Bool
same_entries a b = same_list same_entry a b

pub entries_same : (a b : List Entry) → (same_entries a b ≡ true) ↔ (a ≡ b)
entries_same a b = list_tells same_entry entries_tell a b

abbrev pub same_costs : List (List ℕ) → List (List ℕ) → Bool
same_costs a b = same_list same_numbers a b

pub costs_same : (a b : List (List ℕ)) → (same_costs a b ≡ true) ↔ (a ≡ b)
costs_same a b = list_tells same_numbers numbers_tell a b

abbrev room : Buffers → Bool
room b = enough sluice b.entries b.costs b.ranks

-- what a summary says of ranks
abbrev summed : ℕ → List ℕ → ℕ → Summary → Bool
summed n rs start s = eqb s.kept (zeros (take n rs)) && (eqb s.rounds (largest_of (take n rs)) && eqb s.start start)

summed_decided : (n : ℕ) (rs : List ℕ) (start : ℕ) (s : Summary) →
    (summed n rs start s ≡ true) ↔ ((s.kept ≡ zeros (take n rs)) × ((s.rounds ≡ largest_of (take n rs)) × (s.start ≡ start)))
summed_decided n rs start s =
    three (eqb s.kept (zeros (take n rs))) (eqb s.rounds (largest_of (take n rs))) (eqb s.start start)
    (equal s.kept (zeros (take n rs))) (equal s.rounds (largest_of (take n rs))) (equal s.start start)

-- two sets of buffers are the same past some places
abbrev past : ℕ → ℕ → Buffers → Buffers → Bool
past n m b b' = same_entries (drop n b'.entries) (drop n b.entries) && (same_costs (drop n b'.costs) (drop n b.costs) && same_numbers (drop m b'.ranks) (drop m b.ranks))

past_decided : (n m : ℕ) (b b' : Buffers) → (past n m b b' ≡ true)
    ↔ ((drop n b'.entries ≡ drop n b.entries) × ((drop n b'.costs ≡ drop n b.costs) × (drop m b'.ranks ≡ drop m b.ranks)))
past_decided n m b b' =
    three (same_entries (drop n b'.entries) (drop n b.entries)) (same_costs (drop n b'.costs) (drop n b.costs)) (same_numbers (drop m b'.ranks) (drop m b.ranks))
    (entries_same (drop n b'.entries) (drop n b.entries)) (costs_same (drop n b'.costs) (drop n b.costs)) (numbers_tell (drop m b'.ranks) (drop m b.ranks))

abbrev solved_by : Buffers → Bool
solved_by b = solved_test b.entries b.costs b.ranks

abbrev filled_test : ℕ → Buffers → Buffers → Summary → Bool
filled_test at b b' s = (room b && solved_by b') && (past 9 12 b b' && summed 12 b'.ranks (get_or b'.ranks at 0) s)

filled_decided : (at : ℕ) (b b' : Buffers) (s : Summary) → (filled_test at b b' s ≡ true)
    ↔ Filled sluice minutes_model as_given at b.entries b'.entries b.costs b'.costs b.ranks b'.ranks s
filled_decided at b b' s =
    let ends = summed_decided 12 b'.ranks (get_or b'.ranks at 0) s in
    let front = both {Q = Solved (with_tables b'.entries b'.costs b'.ranks)} (room b) (solved_by b') (λ e. e, λ e. e) (solved_decided b'.entries b'.costs b'.ranks) in
    let back = both (past 9 12 b b') (summed 12 b'.ranks (get_or b'.ranks at 0) s) (past_decided 9 12 b b') ends in
    let parts = both (room b && solved_by b') (past 9 12 b b' && summed 12 b'.ranks (get_or b'.ranks at 0) s) front back in (
      λ e.
          let h = parts.0 e in record {
            fits = h.0.0;
            solved = h.0.1;
            entries_rest = h.1.0.0;
            costs_rest = h.1.0.1.0;
            ranks_rest = h.1.0.1.1;
            kept = h.1.1.0;
            rounds = h.1.1.1.0;
            start = h.1.1.1.1;
          },
      λ f. parts.1 ((f.fits, f.solved), ((f.entries_rest, (f.costs_rest, f.ranks_rest)), (f.kept, (f.rounds, f.start)))),
    )

abbrev untouched_test : Buffers → Buffers → Bool
untouched_test b b' = same_entries b'.entries b.entries && (same_costs b'.costs b.costs && same_numbers b'.ranks b.ranks)

untouched_decided : (b b' : Buffers) → (untouched_test b b' ≡ true) ↔ Untouched b.entries b'.entries b.costs b'.costs b.ranks b'.ranks
untouched_decided b b' =
    let parts =
    three (same_entries b'.entries b.entries) (same_costs b'.costs b.costs) (same_numbers b'.ranks b.ranks)
    (entries_same b'.entries b.entries) (costs_same b'.costs b.costs) (numbers_tell b'.ranks b.ranks) in (
      λ e. let h = parts.0 e in record { same_entries = h.0; same_costs = h.1.0; same_ranks = h.1.1 },
      λ u. parts.1 (u.same_entries, (u.same_costs, u.same_ranks)),
    )

abbrev outcome_test : ℕ → Buffers → Buffers → Result Summary SolveError → Bool
outcome_test at b b' (Ok s) = filled_test at b b' s
outcome_test at b b' (Err Short) = alike (room b) false && untouched_test b b'
outcome_test at b b' (Err Memory) = alike (room b) true && untouched_test b b'

outcome_decided : (at : ℕ) (b b' : Buffers) (r : Result Summary SolveError) → (outcome_test at b b' r ≡ true)
    ↔ Outcome sluice minutes_model as_given at b.entries b'.entries b.costs b'.costs b.ranks b'.ranks r
outcome_decided at b b' (Ok s) = filled_decided at b b' s
outcome_decided at b b' (Err Short) = both (alike (room b) false) (untouched_test b b') (alike_iff (room b) false) (untouched_decided b b')
outcome_decided at b b' (Err Memory) = both (alike (room b) true) (untouched_test b b') (alike_iff (room b) true) (untouched_decided b b')

-- ── tables ──

abbrev long_test : Buffers → Bool
long_test b = eqb (length b.entries) 9 && (eqb (length b.costs) 9 && eqb (length b.ranks) 12)

-- what a summary says of all ranks
abbrev told_test : ℕ → List ℕ → Summary → Bool
told_test at rs s = eqb s.kept (zeros rs) && (eqb s.rounds (largest_of rs) && eqb s.start (get_or rs at 0))

abbrev tabled_test : ℕ → Buffers → Summary → Bool
tabled_test at b s = (long_test b && solved_by b) && told_test at b.ranks s

tabled_decided : (at : ℕ) (b : Buffers) (s : Summary) → (tabled_test at b s ≡ true) ↔ Tabled sluice minutes_model as_given at b.entries b.costs b.ranks s
tabled_decided at b s =
    let long =
    three (eqb (length b.entries) 9) (eqb (length b.costs) 9) (eqb (length b.ranks) 12)
    (equal (length b.entries) 9) (equal (length b.costs) 9) (equal (length b.ranks) 12) in
    let ends =
    three (eqb s.kept (zeros b.ranks)) (eqb s.rounds (largest_of b.ranks)) (eqb s.start (get_or b.ranks at 0))
    (equal s.kept (zeros b.ranks)) (equal s.rounds (largest_of b.ranks)) (equal s.start (get_or b.ranks at 0)) in
    let front = both (long_test b) (solved_by b) long (solved_decided b.entries b.costs b.ranks) in
    let parts = both (long_test b && solved_by b) (told_test at b.ranks s) front ends in (
      λ e.
          let h = parts.0 e in record {
            entries_long = h.0.0.0;
            costs_long = h.0.0.1.0;
            ranks_long = h.0.0.1.1;
            solved = h.0.1;
            kept = h.1.0;
            rounds = h.1.1.0;
            start = h.1.1.1;
          },
      λ t. parts.1 (((t.entries_long, (t.costs_long, t.ranks_long)), t.solved), (t.kept, (t.rounds, t.start))),
    )

-- ── the rows ──

-- what the test decides: rows of requests that there are
abbrev decides : Claim → Bool
decides (chosen_row q cs) = ltb q 3
decides x = true

abbrev test : Claim → Bool
test (chosen_row q cs) = rights_test q (choice_at cs)
test (chosen cs) = chosen_test cs
test (worked cs rs) = worked_test cs rs
test (filled at b b' s) = filled_test at b b' s
test (untouched b b') = untouched_test b b'
test (outcome at b b' r) = outcome_test at b b' r
test (tabled at b s) = tabled_test at b s

decided : (x : Claim) → decides x ≡ true → (test x ≡ true) ↔ Means x
decided (chosen_row q cs) e = row_decided q (ltb-true q 3 e) (choice_at cs)
decided (chosen cs) e = chosen_decided cs
decided (worked cs rs) e = worked_decided cs rs
decided (filled at b b' s) e = filled_decided at b b' s
decided (untouched b b') e = untouched_decided b b'
decided (outcome at b b' r) e = outcome_decided at b b' r
decided (tabled at b s) e = tabled_decided at b s

all_right : each (right decides test) rows ≡ true
all_right = refl

pub solving_say : SolvingSay
solving_say = all_say Means decides test decided rows all_right
