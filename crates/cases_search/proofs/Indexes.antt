-- The rows of the index and the tables, by one test.
use Rattle.std.proofs.Common.{◌≡◌, ℕ, zero, suc, ◌<◌, ◌≤◌, Bool, true, false, not, ◌&&◌, ◌||◌, eqb, ltb, leb, ◌↔◌, List, [], ◌∷◌, length, map, slice_index_or, Bor, Some, None, Option, sym, refl, ap, ◌∙◌, subst, arith, leb-true}
use mathlib.Core.Bool.{false≢true}
use Rattle.std.proofs.Math.Decide.{dec_lt}
use Rattle.port.specs.Limits.{In, at}
use Rattle.port.specs.declared.Move.{Move}
use Rattle.plans.specs.Flags.{every}
use Rattle.plans.specs.Reach.{each}
use Rattle.plans.proofs.Decide.{implies}
use Rattle.plans.proofs.Flags.{every_at, at_every}
use Rattle.plans.proofs.Index.{is_false}
use Rattle.index.specs.Indexes.{Timed, Start, flagged, Flags, Bare, Ordered, From, Apart, Rows, row}
use Rattle.tables.specs.Tables.{looked, AllBelow, LeastOf}
use Rattle.tables.specs.declared.Label.{Label}
use Rattle.tables.proofs.Options.{some_inj, none_some}
use Rattle.costs.specs.Compare.{under_of}
use Rattle.costs.specs.Costs.{Le}
use Rattle.costs.specs.Models.{moves_model}
use Rattle.costs.proofs.Order.{was_true}
use Rattle.cases_plans.proofs.Rows.{right, all_say}
use Rattle.cases_plans.proofs.Tests.{both, equal, below as less, listed, listed_in, same_move, same_moves}
use Rattle.cases_plans.proofs.Values.{told, values_say, same_option, option_tells, same_list, list_tells}
use Rattle.cases_search.specs.Sluice.{moves, one}
use Rattle.cases_search.specs.Indexes.{known, computed, ComputedSay, Claim, timed, start, flags, bare, ordered, from, apart, rows_for, lent, below, least, Means, rows, IndexesSay}
use Rattle.cases_search.proofs.Combine.{every_iff, each_iff, at_most, where_iff, not_iff, somewhere, somewhere_iff}
use Rattle.cases_search.proofs.Runs.{was_so, same_cost, costs_tell}

all_told : told computed ≡ true
all_told = refl

pub computed_say : ComputedSay
computed_say = values_say computed all_told

-- ── lists of moves ──

abbrev timed_test : List Move → Bool
timed_test ms = every (λ i. ltb (at ms i).minutes 65536) (length ms)

timed_decided : (ms : List Move) → (timed_test ms ≡ true) ↔ Timed ms
timed_decided ms = every_iff (λ i. ltb (at ms i).minutes 65536) (length ms) (λ i l. less (at ms i).minutes 65536)

abbrev behind_test : List Move → ℕ → ℕ → Bool
behind_test ms c place = every (λ i. ltb (at ms i).condition c) place

abbrev ahead_test : List Move → ℕ → ℕ → Bool
ahead_test ms c place = every (λ i. not (leb place i) || leb c (at ms i).condition) (length ms)

abbrev start_test : List Move → ℕ → ℕ → Bool
start_test ms c place = leb place (length ms) && (behind_test ms c place && ahead_test ms c place)

start_decided : (ms : List Move) (c place : ℕ) → (start_test ms c place ≡ true) ↔ Start ms c place
start_decided ms c place = (
  λ e. let h = parts.0 e in record { inside = h.0; behind = h.1.0; ahead = λ i g l. h.1.1 i l g },
  λ s. parts.1 (s.inside, (s.behind, λ i l g. s.ahead i g l)),
)
  where
    ahead : (ahead_test ms c place ≡ true) ↔ ((i : ℕ) → i < length ms → place ≤ i → c ≤ (at ms i).condition)
    ahead =
        every_iff (λ i. not (leb place i) || leb c (at ms i).condition) (length ms)
        (λ i l. where_iff (leb place i) (leb c (at ms i).condition) (at_most place i) (at_most c (at ms i).condition))

    behind : (behind_test ms c place ≡ true) ↔ ((i : ℕ) → i < place → (at ms i).condition < c)
    behind = every_iff (λ i. ltb (at ms i).condition c) place (λ i l. less (at ms i).condition c)

    parts : (start_test ms c place ≡ true) ↔ ((place ≤ length ms) × (((i : ℕ) → i < place → (at ms i).condition < c) × ((i : ℕ) → i < length ms → place ≤ i → c ≤ (at ms i).condition)))
    parts =
        both (leb place (length ms)) (behind_test ms c place && ahead_test ms c place) (at_most place (length ms))
        (both (behind_test ms c place) (ahead_test ms c place) behind ahead)

abbrev flags_test : List Move → ℕ → List (List Bool) → Bool
flags_test ms i into = every (λ j. flagged into (at ms j).condition (at ms j).outcome) i

flags_decided : (ms : List Move) (i : ℕ) (into : List (List Bool)) → (flags_test ms i into ≡ true) ↔ Flags ms i into
flags_decided ms i into = every_iff (λ j. flagged into (at ms j).condition (at ms j).outcome) i (λ j l. (λ e. e, λ e. e))

-- past its end a list has nothing
past : {A : Type 0} (xs : List A) (i : ℕ) (d : A) → length xs ≤ i → slice_index_or xs i d ≡ d
past [] i d g = refl
past (x ∷ xs) zero d g = absurd (omega (arith, g))
past (x ∷ xs) (suc i) d g = past xs i d (omega (arith, g))

module _ (ms : List Move) (i : ℕ) (into : List (List Bool)) where
  abbrev across : ℕ → List Bool
  across d = slice_index_or into d []

  abbrev goes : ℕ → ℕ → ℕ → Bool
  goes c d j = eqb (at ms j).condition c && eqb (at ms j).outcome d

  abbrev bare_one : ℕ → ℕ → Bool
  bare_one d c = not (flagged into c d) || somewhere (goes c d) i

  abbrev bare_test : Bool
  bare_test = every (λ d. every (bare_one d) (length (across d))) (length into)

  goes_iff : (c d : ℕ) → (somewhere (goes c d) i ≡ true) ↔ ((j : ℕ) × (j < i) × (((at ms j).condition ≡ c) × ((at ms j).outcome ≡ d)))
  goes_iff c d =
      somewhere_iff (goes c d) i (λ j l. both (eqb (at ms j).condition c) (eqb (at ms j).outcome d) (equal (at ms j).condition c) (equal (at ms j).outcome d))

  -- a flag that is up stands in the rows
  stands_in : (c d : ℕ) → flagged into c d ≡ true → (d < length into) × (c < length (across d))
  stands_in c d f =
      elim (dec_lt d (length into)) [
        | yes l ↦ elim (dec_lt c (length (across d))) [
          | yes m ↦ (l, m)
          | no g ↦ absurd (false≢true (sym (past (across d) c false (omega arith)) ∙ f))
        ]
        | no g ↦ absurd (false≢true (sym (ap (λ (xs : List Bool). slice_index_or xs c false) (past into d [] (omega arith))) ∙ f))
      ]

  bare_decided : (bare_test ≡ true) ↔ Bare ms i into
  bare_decided = (
    λ e c d none. is_false (flagged into c d) (λ f.
        let h = stands_in c d f in
        let t = (goes_iff c d).0 ((implies (flagged into c d) (somewhere (goes c d) i)).0 (every_at (bare_one d) (length (across d)) (every_at (λ d. every (bare_one d) (length (across d))) (length into) e d h.0) c h.1) f) in
        none t.0 t.1 t.2.0 t.2.1),
    λ h. at_every (λ d. every (bare_one d) (length (across d))) (length into)
        (λ d l. at_every (bare_one d) (length (across d)) (λ c m. (implies (flagged into c d) (somewhere (goes c d) i)).1 (λ f. so c d h f (somewhere (goes c d) i) refl))),
  )
    where
      so : (c d : ℕ) → Bare ms i into → flagged into c d ≡ true → (b : Bool) → somewhere (goes c d) i ≡ b → somewhere (goes c d) i ≡ true
      so c d h f true e = e
      so c d h f false e = absurd (false≢true (sym (h c d (λ j l p q. false≢true (sym e ∙ (goes_iff c d).1 (j, l, (p, q))))) ∙ f))

abbrev pub ordered_test : List Move → Bool
ordered_test ms = every (λ j. every (λ i. leb (at ms i).operation (at ms j).operation) (suc j)) (length ms)

pub ordered_decided : (ms : List Move) → (ordered_test ms ≡ true) ↔ Ordered ms
ordered_decided ms = (
  λ e i j g l. all.0 e j l i (omega (arith, g)),
  λ o. all.1 (λ j l i g. o i j (omega (arith, g)) l),
)
  where
    all : (ordered_test ms ≡ true) ↔ ((j : ℕ) → j < length ms → (i : ℕ) → i < suc j → (at ms i).operation ≤ (at ms j).operation)
    all =
        every_iff (λ j. every (λ i. leb (at ms i).operation (at ms j).operation) (suc j)) (length ms)
        (λ j l. every_iff (λ i. leb (at ms i).operation (at ms j).operation) (suc j) (λ i g. at_most (at ms i).operation (at ms j).operation))

abbrev are_test : ℕ → List Move → Bool
are_test c ms = each (λ m. listed m moves && eqb m.condition c) ms

abbrev all_test : ℕ → List Move → Bool
all_test c ms = each (λ (m : Move). not (eqb m.condition c) || listed m ms) moves

abbrev from_test : ℕ → List Move → Bool
from_test c ms = are_test c ms && (all_test c ms && ordered_test ms)

from_decided : (c : ℕ) (ms : List Move) → (from_test c ms ≡ true) ↔ From moves c ms
from_decided c ms = (
  λ e. let h = parts.0 e in record { are = h.0; all = h.1.0; ordered = h.1.1 },
  λ f. parts.1 (f.are, (f.all, f.ordered)),
)
  where
    are : (are_test c ms ≡ true) ↔ ((m : Move) → In m ms → In m moves × (m.condition ≡ c))
    are = each_iff (λ m. listed m moves && eqb m.condition c) ms (λ m. both (listed m moves) (eqb m.condition c) (listed_in m moves) (equal m.condition c))

    all : (all_test c ms ≡ true) ↔ ((m : Move) → In m moves → m.condition ≡ c → In m ms)
    all = each_iff (λ (m : Move). not (eqb m.condition c) || listed m ms) moves (λ m. where_iff (eqb m.condition c) (listed m ms) (equal m.condition c) (listed_in m ms))

    parts : (from_test c ms ≡ true) ↔ (((m : Move) → In m ms → In m moves × (m.condition ≡ c)) × (((m : Move) → In m moves → m.condition ≡ c → In m ms) × Ordered ms))
    parts = both (are_test c ms) (all_test c ms && ordered_test ms) are (both (all_test c ms) (ordered_test ms) all (ordered_decided ms))

abbrev apart_test : ℕ → ℕ → Bool
apart_test c d = each (λ (m : Move). not (eqb m.condition c) || not (eqb m.outcome d)) moves

apart_decided : (c d : ℕ) → (apart_test c d ≡ true) ↔ Apart moves c d
apart_decided c d =
    each_iff (λ (m : Move). not (eqb m.condition c) || not (eqb m.outcome d)) moves
    (λ m. where_iff (eqb m.condition c) (not (eqb m.outcome d)) (equal m.condition c) (not_iff (eqb m.outcome d) (equal m.outcome d)))

at_lent : (rs : List (List Move)) (c : ℕ) (r : Bor (List Move)) → c < length rs → (slice_index_or (map lent rs) c r).now ≡ slice_index_or rs c []
at_lent [] c r l = absurd (omega (arith, l))
at_lent (x ∷ rs) zero r l = refl
at_lent (x ∷ rs) (suc c) r l = at_lent rs c r (omega (arith, l))

abbrev same_row : List (List Move) → ℕ → Bool
same_row rs c = same_list same_move (slice_index_or rs c []) (row c moves)

rows_decided : (n : ℕ) (rs : List (List Move)) → n ≤ length rs → (every (same_row rs) n ≡ true) ↔ Rows n moves (map lent rs)
rows_decided n rs few = (
  λ e c r l. at_lent rs c r (omega (arith, l, few)) ∙ all.0 e c l,
  λ h. all.1 (λ c l. sym (at_lent rs c (lent []) (omega (arith, l, few))) ∙ h c (lent []) l),
)
  where
    all : (every (same_row rs) n ≡ true) ↔ ((c : ℕ) → c < n → slice_index_or rs c [] ≡ row c moves)
    all = every_iff (same_row rs) n (λ c l. list_tells same_move same_moves (slice_index_or rs c []) (row c moves))

-- ── tables ──

abbrev under : ℕ → Move → Bool
under f m = under_of moves_model (looked one known m.outcome) (Some (one f))

below_decided : (ms : List Move) (f : ℕ) → (each (under f) ms ≡ true) ↔ AllBelow moves_model (looked one known) ms (one f)
below_decided ms f = each_iff (under f) ms (λ m. (λ e. e, λ e. e))

-- nothing is looked up that is less
abbrev no_less : ℕ → Option (List ℕ) → Bool
no_less x None = true
no_less x (Some g) = moves_model.within (one x) g

no_less_iff : (x : ℕ) (y : Option (List ℕ)) → (no_less x y ≡ true) ↔ ((g : List ℕ) → y ≡ Some g → Le moves_model (one x) g)
no_less_iff x None = (λ e g q. absurd (none_some q), λ h. refl)
no_less_iff x (Some b) = (λ e g q. subst (Le moves_model (one x)) (some_inj q) (was_true e), λ h. was_so (moves_model.within (one x) b) (h b refl))

abbrev least_test : List (Option ℕ) → ℕ → Option (Label ℕ) → Bool
least_test t i None = every (λ c. same_option same_cost (looked one t c) None) i
least_test t i (Some b) =
    ltb b.condition i && (same_option same_cost (looked one t b.condition) (Some (one b.cost)) && every (λ c. no_less b.cost (looked one t c)) i)

least_decided : (t : List (Option ℕ)) (i : ℕ) (b : Option (Label ℕ)) → (least_test t i b ≡ true) ↔ LeastOf moves_model one t i b
least_decided t i None = every_iff (λ c. same_option same_cost (looked one t c) None) i (λ c l. option_tells same_cost costs_tell (looked one t c) None)
least_decided t i (Some b) = (
  λ e. let h = parts.0 e in (h.0, h.1.0, λ c g l. h.1.1 c l g),
  λ h. parts.1 (h.0, (h.1, λ c l g. h.2 c g l)),
)
  where
    Rest : Type 0
    Rest = (c : ℕ) → c < i → (g : List ℕ) → looked one t c ≡ Some g → Le moves_model (one b.cost) g

    parts : (least_test t i (Some b) ≡ true) ↔ ((b.condition < i) × ((looked one t b.condition ≡ Some (one b.cost)) × Rest))
    parts =
        both (ltb b.condition i) (same_option same_cost (looked one t b.condition) (Some (one b.cost)) && every (λ c. no_less b.cost (looked one t c)) i) (less b.condition i)
        (both (same_option same_cost (looked one t b.condition) (Some (one b.cost))) (every (λ c. no_less b.cost (looked one t c)) i)
        (option_tells same_cost costs_tell (looked one t b.condition) (Some (one b.cost)))
        (every_iff (λ c. no_less b.cost (looked one t c)) i (λ c l. no_less_iff b.cost (looked one t c))))

-- ── the rows ──

-- what the test decides: rows that are there
abbrev decides : Claim → Bool
decides (rows_for n rs) = leb n (length rs)
decides x = true

abbrev test : Claim → Bool
test (timed ms) = timed_test ms
test (start ms c place) = start_test ms c place
test (flags ms i into) = flags_test ms i into
test (bare ms i into) = bare_test ms i into
test (ordered ms) = ordered_test ms
test (from c ms) = from_test c ms
test (apart c d) = apart_test c d
test (rows_for n rs) = every (same_row rs) n
test (below ms f) = each (under f) ms
test (least t i b) = least_test t i b

decided : (x : Claim) → decides x ≡ true → (test x ≡ true) ↔ Means x
decided (timed ms) e = timed_decided ms
decided (start ms c place) e = start_decided ms c place
decided (flags ms i into) e = flags_decided ms i into
decided (bare ms i into) e = bare_decided ms i into
decided (ordered ms) e = ordered_decided ms
decided (from c ms) e = from_decided c ms
decided (apart c d) e = apart_decided c d
decided (rows_for n rs) e = rows_decided n rs (leb-true n (length rs) e)
decided (below ms f) e = below_decided ms f
decided (least t i b) e = least_decided t i b

all_right : each (right decides test) rows ≡ true
all_right = refl

pub indexes_say : IndexesSay
indexes_say = all_say Means decides test decided rows all_right
