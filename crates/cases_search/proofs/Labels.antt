-- The rows of what the search keeps, by one test.
use Rattle.std.proofs.Common.{◌≡◌, ℕ, ◌<◌, ◌≤◌, Bool, true, false, not, ◌&&◌, ◌||◌, eqb, ltb, leb, ◌⊎◌, ◌↔◌, List, length, take, Some, None, Option, refl, eqb-true, inl, inr, ⊎_elim}
use mathlib.Core.Bool.{false≢true}
use Rattle.port.specs.Limits.{In, at}
use Rattle.port.specs.declared.Move.{Move}
use Rattle.plans.specs.Flags.{has, every}
use Rattle.plans.specs.Reach.{each}
use Rattle.plans.proofs.Decide.{or_cases, or_left, or_right}
use Rattle.locks.specs.Places.{fits}
use Rattle.costs.specs.Models.{minutes_model}
use Rattle.tables.proofs.Options.{AllSized}
use Rattle.search.specs.Labels.{After, Worst, Greatest, By}
use Rattle.search.specs.Groups.{Same, Splits, Lowest, Topped, Below, Left, Lowered, Unmet}
use Rattle.search.proofs.Runs.{worst_map}
use Rattle.cases_plans.proofs.Rows.{right, all_say}
use Rattle.cases_plans.proofs.Tests.{both, equal, below as less, listed, listed_in}
use Rattle.cases_plans.proofs.Values.{told, values_say, same_option, option_tells}
use Rattle.cases_search.specs.Sluice.{moves}
use Rattle.cases_search.specs.Labels.{Claim, after, worst, greatest, cheapest, offered, by, same, splits, lowest, topped, under, left, lowered, unmet, costs_in, Means, rows, LabelsSay, counts, CountsSay}
use Rattle.cases_search.proofs.Combine.{every_iff, each_iff, at_most, where_iff, not_iff}
use Rattle.cases_search.proofs.Offers.{sized_in, fits_named, none_iff, worst_at, cheapest_test, cheapest_decided, offered_test, offered_decided}
use Rattle.cases_search.proofs.Runs.{so_iff, same_cost, costs_tell}
use Rattle.cases_search.proofs.Worsts.{Of, worst_test, worst_decided, found, found_test, only, all_worst_iff, some_op_test, some_op_iff, each_op_test, each_op_iff, all_found, ops_test, ops_iff}

all_told : told counts ≡ true
all_told = refl

pub counts_say : CountsSay
counts_say = values_say counts all_told

or_iff : {P Q : Type 0} (a b : Bool) → (a ≡ true) ↔ P → (b ≡ true) ↔ Q → ((a || b) ≡ true) ↔ (P ⊎ Q)
or_iff a b p q = (
  λ e. ⊎_elim (λ x. inl (p.0 x)) (λ x. inr (q.0 x)) (or_cases a b e),
  λ t. ⊎_elim (λ x. or_left a b (p.1 x)) (λ x. or_right a b (q.1 x)) t,
)

-- ── the moves meant ──

abbrev any : Move → Bool
any m = true

-- by an operation
abbrev op : ℕ → Move → Bool
op o m = eqb m.operation o

pub op_named : (o : ℕ) (m : Move) → op o m ≡ true → m.operation ≡ o
op_named o m e = eqb-true m.operation o e

module _ (V : ℕ → Option (List ℕ)) where
  abbrev Worsts : (Move → Type 0) → List ℕ → Type 0
  Worsts P f = Worst minutes_model (After V) P f

  listed_to : (ms : List Move) (f : List ℕ) → Worsts (Of V ms any) f → Worsts (λ m. In m ms) f
  listed_to ms f w = worst_map (λ m h. h.0) (λ m i. (i, refl)) w

  listed_from : (ms : List Move) (f : List ℕ) → Worsts (λ m. In m ms) f → Worsts (Of V ms any) f
  listed_from ms f w = worst_map (λ m i. (i, refl)) (λ m h. h.0) w

  by_to : (ms : List Move) (o : ℕ) (f : List ℕ) → Worsts (Of V ms (op o)) f → Worsts (By ms o) f
  by_to ms o f w = worst_map (λ m h. (h.0, (equal m.operation o).0 h.1)) (λ m b. (b.0, (equal m.operation o).1 b.1)) w

  by_from : (ms : List Move) (o : ℕ) (f : List ℕ) → Worsts (By ms o) f → Worsts (Of V ms (op o)) f
  by_from ms o f w = worst_map (λ m b. (b.0, (equal m.operation o).1 b.1)) (λ m h. (h.0, (equal m.operation o).0 h.1)) w

  abbrev greatest_test : List Move → Option (List ℕ) → Bool
  greatest_test ms None = only (λ a. false) (found V ms any)
  greatest_test ms (Some f) = worst_test V ms any f

  greatest_decided : AllSized minutes_model V → (ms : List Move) (x : Option (List ℕ)) → found_test V ms any ≡ true → (greatest_test ms x ≡ true) ↔ Greatest minutes_model V ms x
  greatest_decided sized ms None e =
      let all = all_worst_iff V ms sized any (λ a. false) none_iff e in
      (λ h f w. all.0 h f (listed_from ms f w), λ h. all.1 (λ f w. h f (listed_to ms f w)))
  greatest_decided sized ms (Some f) e =
      let one = worst_decided V ms any f in
      (λ h. listed_to ms f (one.0 h), λ w. one.1 (listed_from ms f w))

  -- ── groups ──

  abbrev lowest_test : List Move → List ℕ → Option ℕ → Bool
  lowest_test ms f None = each_op_test V ms op op_named f (λ o. false)
  lowest_test ms f (Some o) = worst_test V ms (op o) f && each_op_test V ms op op_named f (leb o)

  lowest_decided : (ms : List Move) (f : List ℕ) (x : Option ℕ) → (lowest_test ms f x ≡ true) ↔ Lowest minutes_model V ms f x
  lowest_decided ms f None =
      let all = each_op_iff V ms op op_named f (λ o. false) (λ o. (λ e. false≢true e, λ (h : ⊥). absurd h)) in
      (λ h o w. all.0 h o (by_from ms o f w), λ h. all.1 (λ o w. h o (by_to ms o f w)))
  lowest_decided ms f (Some o) =
      let all = each_op_iff V ms op op_named f (leb o) (λ p. at_most o p) in
      let parts = both (worst_test V ms (op o) f) (each_op_test V ms op op_named f (leb o)) (worst_decided V ms (op o) f) all in
      (λ h. let t = parts.0 h in (by_to ms o f t.0, λ p w. t.1 p (by_from ms p f w)), λ t. parts.1 (by_from ms o f t.0, λ p w. t.1 p (by_to ms p f w)))

  abbrev topped_test : List Move → ℕ → Option (List ℕ) → Bool
  topped_test ms i None = eqb i 0
  topped_test ms i (Some f) = worst_test V (take i ms) any f

  topped_decided : (ms : List Move) (i : ℕ) (x : Option (List ℕ)) → (topped_test ms i x ≡ true) ↔ Topped minutes_model V ms i x
  topped_decided ms i None = equal i 0
  topped_decided ms i (Some f) =
      let one = worst_decided V (take i ms) any f in
      (λ h. listed_to (take i ms) f (one.0 h), λ w. one.1 (listed_from (take i ms) f w))

abbrev under_test : List Move → ℕ → Bool
under_test rest o = each (λ m. ltb o m.operation) rest

under_decided : (rest : List Move) (o : ℕ) → (under_test rest o ≡ true) ↔ Below rest o
under_decided rest o = each_iff (λ m. ltb o m.operation) rest (λ m. less o m.operation)

module _ (V : ℕ → Option (List ℕ)) where
  abbrev lowered_test : List Move → List Move → Option (List ℕ) → Bool
  lowered_test ms rest None = ops_test V ms op op_named (under_test rest) (λ a. false)
  lowered_test ms rest (Some f) = some_op_test V ms op op_named f && ops_test V ms op op_named (under_test rest) (λ g. minutes_model.within f g)

  lowered_decided : AllSized minutes_model V → (ms rest : List Move) (x : Option (List ℕ)) → all_found V ms op op_named ≡ true →
      (lowered_test ms rest x ≡ true) ↔ Lowered minutes_model V ms rest x
  lowered_decided sized ms rest None e =
      let all = ops_iff V ms op op_named sized (under_test rest) (λ a. false) (under_decided rest) none_iff e in
      (λ h o g b w. all.0 h o g b (by_from V ms o g w), λ h. all.1 (λ o g b w. h o g b (by_to V ms o g w)))
  lowered_decided sized ms rest (Some f) e =
      let some = some_op_iff V ms op op_named f in
      let all = ops_iff V ms op op_named sized (under_test rest) (λ g. minutes_model.within f g) (under_decided rest) (λ g. so_iff (minutes_model.within f g)) e in
      let parts = both (some_op_test V ms op op_named f) (ops_test V ms op op_named (under_test rest) (λ g. minutes_model.within f g)) some all in (
        λ h. let p = parts.0 h in ((p.0.0, by_to V ms p.0.0 f p.0.1), λ o g b w. p.1 o g b (by_from V ms o g w)),
        λ t. parts.1 ((t.0.0, by_from V ms t.0.0 f t.0.1), λ o g b w. t.1 o g b (by_to V ms o g w)),
      )

  abbrev unmet_test : List Move → List Move → List ℕ → Bool
  unmet_test ms rest f = each_op_test V ms op op_named f (λ o. not (under_test rest o))

  unmet_decided : (ms rest : List Move) (f : List ℕ) → (unmet_test ms rest f ≡ true) ↔ Unmet minutes_model V ms rest f
  unmet_decided ms rest f =
      let all = each_op_iff V ms op op_named f (λ o. not (under_test rest o)) (λ o. not_iff (under_test rest o) (under_decided rest o)) in
      (λ h o b w. all.0 h o (by_from V ms o f w) b, λ h. all.1 (λ o w b. h o b (by_to V ms o f w)))

abbrev by_test : List Move → ℕ → Move → Bool
by_test ms o m = listed m ms && eqb m.operation o

by_decided : (ms : List Move) (o : ℕ) (m : Move) → (by_test ms o m ≡ true) ↔ By ms o m
by_decided ms o m = both (listed m ms) (eqb m.operation o) (listed_in m ms) (equal m.operation o)

abbrev next_other : List Move → ℕ → ℕ → Bool
next_other ms o n = not (ltb n (length ms)) || not (eqb (at ms n).operation o)

abbrev same_test : List Move → ℕ → ℕ → Bool
same_test ms o n = leb n (length ms) && (every (λ i. eqb (at ms i).operation o) n && next_other ms o n)

same_decided : (ms : List Move) (o n : ℕ) → (same_test ms o n ≡ true) ↔ Same ms o n
same_decided ms o n = (
  λ e. let h = parts.0 e in record { inside = h.0; same = h.1.0; other = h.1.1 },
  λ s. parts.1 (s.inside, (s.same, s.other)),
)
  where
    parts : (same_test ms o n ≡ true) ↔ ((n ≤ length ms) × (((i : ℕ) → i < n → (at ms i).operation ≡ o) × (n < length ms → (at ms n).operation ≡ o → ⊥)))
    parts =
        both (leb n (length ms)) (every (λ i. eqb (at ms i).operation o) n && next_other ms o n) (at_most n (length ms))
        (both (every (λ i. eqb (at ms i).operation o) n) (next_other ms o n) (every_iff (λ i. eqb (at ms i).operation o) n (λ i l. equal (at ms i).operation o))
        (where_iff (ltb n (length ms)) (not (eqb (at ms n).operation o)) (less n (length ms)) (not_iff (eqb (at ms n).operation o) (equal (at ms n).operation o))))

abbrev left_test : List Move → List Move → Bool
left_test ms rest = each (λ m. listed m ms) rest && each (λ m. listed m rest || under_test rest m.operation) ms

left_decided : (ms rest : List Move) → (left_test ms rest ≡ true) ↔ Left ms rest
left_decided ms rest = (
  λ e. let h = parts.0 e in record { among = h.0; gone = h.1 },
  λ l. parts.1 (l.among, l.gone),
)
  where
    parts : (left_test ms rest ≡ true) ↔ (((m : Move) → In m rest → In m ms) × ((m : Move) → In m ms → In m rest ⊎ Below rest m.operation))
    parts =
        both (each (λ m. listed m ms) rest) (each (λ m. listed m rest || under_test rest m.operation) ms) (each_iff (λ m. listed m ms) rest (λ m. listed_in m ms))
        (each_iff (λ m. listed m rest || under_test rest m.operation) ms
        (λ m. or_iff (listed m rest) (under_test rest m.operation) (listed_in m rest) (under_decided rest m.operation)))

module _ (ms group rest : List Move) where
  abbrev own : ℕ
  own = (at group 0).operation

  abbrev mine_test : Bool
  mine_test = each (λ m. by_test ms own m) group

  abbrev whole_test : Bool
  whole_test = each (λ m. not (eqb m.operation own) || listed m group) ms

  abbrev others_test : Bool
  others_test = each (λ m. listed m ms && ltb own m.operation) rest

  abbrev left_over : Bool
  left_over = each (λ m. listed m group || listed m rest) ms

  abbrev splits_test : Bool
  splits_test = ltb (length rest) (length ms) && (ltb 0 (length group) && (mine_test && (whole_test && (others_test && left_over))))

  splits_decided : (splits_test ≡ true) ↔ Splits ms group rest
  splits_decided = (
    λ e.
        let h = parts.0 e in
        record { shorter = h.0; some = h.1.0; mine = h.1.1.0; all = λ m b. h.1.1.1.0 m b.0 b.1; others = h.1.1.1.1.0; left = h.1.1.1.1.1 },
    λ s. parts.1 (s.shorter, (s.some, (s.mine, ((λ m i q. s.all m (i, q)), (s.others, s.left))))),
  )
    where
      parts : (splits_test ≡ true) ↔ ((length rest < length ms) × ((0 < length group) × (((m : Move) → In m group → By ms own m) ×
          (((m : Move) → In m ms → m.operation ≡ own → In m group) × (((m : Move) → In m rest → In m ms × (own < m.operation)) × ((m : Move) → In m ms → In m group ⊎ In m rest))))))
      parts =
          both (ltb (length rest) (length ms)) (ltb 0 (length group) && (mine_test && (whole_test && (others_test && left_over)))) (less (length rest) (length ms))
          (both (ltb 0 (length group)) (mine_test && (whole_test && (others_test && left_over))) (less 0 (length group))
          (both mine_test (whole_test && (others_test && left_over)) (each_iff (λ m. by_test ms own m) group (λ m. by_decided ms own m))
          (both whole_test (others_test && left_over)
          (each_iff (λ m. not (eqb m.operation own) || listed m group) ms (λ m. where_iff (eqb m.operation own) (listed m group) (equal m.operation own) (listed_in m group)))
          (both others_test left_over (each_iff (λ m. listed m ms && ltb own m.operation) rest (λ m. both (listed m ms) (ltb own m.operation) (listed_in m ms) (less own m.operation)))
          (each_iff (λ m. listed m group || listed m rest) ms (λ m. or_iff (listed m group) (listed m rest) (listed_in m group) (listed_in m rest)))))))

-- ── the rows ──

-- what the test decides: claims where it has found what the moves come to
abbrev decides : Claim → Bool
decides (greatest t ms x) = found_test (costs_in t) ms any
decides (cheapest t c x) = all_found (costs_in t) moves (fits c) (fits_named c)
decides (offered t keep c x) = all_found (costs_in t) moves (fits c) (fits_named c)
decides (lowered t ms rest x) = all_found (costs_in t) ms op op_named
decides x = true

abbrev test : Claim → Bool
test (after t m a) = same_option same_cost (costs_in t m.outcome) (Some a)
test (worst t c o f) = worst_test (costs_in t) moves (fits c o) f
test (greatest t ms x) = greatest_test (costs_in t) ms x
test (cheapest t c x) = cheapest_test moves (costs_in t) c x
test (offered t keep c x) = offered_test moves (costs_in t) (has keep) c x
test (by ms o m) = by_test ms o m
test (same ms o n) = same_test ms o n
test (splits ms group rest) = splits_test ms group rest
test (lowest t ms f x) = lowest_test (costs_in t) ms f x
test (topped t ms i x) = topped_test (costs_in t) ms i x
test (under rest o) = under_test rest o
test (left ms rest) = left_test ms rest
test (lowered t ms rest x) = lowered_test (costs_in t) ms rest x
test (unmet t ms rest f) = unmet_test (costs_in t) ms rest f

decided : (x : Claim) → decides x ≡ true → (test x ≡ true) ↔ Means x
decided (after t m a) e = option_tells same_cost costs_tell (costs_in t m.outcome) (Some a)
decided (worst t c o f) e = worst_at moves (costs_in t) c o f
decided (greatest t ms x) e = greatest_decided (costs_in t) (sized_in t) ms x e
decided (cheapest t c x) e = cheapest_decided moves (costs_in t) (sized_in t) c x e
decided (offered t keep c x) e = offered_decided moves (costs_in t) (sized_in t) (has keep) c x e
decided (by ms o m) e = by_decided ms o m
decided (same ms o n) e = same_decided ms o n
decided (splits ms group rest) e = splits_decided ms group rest
decided (lowest t ms f x) e = lowest_decided (costs_in t) ms f x
decided (topped t ms i x) e = topped_decided (costs_in t) ms i x
decided (under rest o) e = under_decided rest o
decided (left ms rest) e = left_decided ms rest
decided (lowered t ms rest x) e = lowered_decided (costs_in t) (sized_in t) ms rest x e
decided (unmet t ms rest f) e = unmet_decided (costs_in t) ms rest f

all_right : each (right decides test) rows ≡ true
all_right = refl

pub labels_say : LabelsSay
labels_say = all_say Means decides test decided rows all_right
