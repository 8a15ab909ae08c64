-- The rows of stages, by one test.
use Rattle.std.proofs.Common.{◌≡◌, ℕ, ◌<◌, ◌≤◌, Bool, true, false, cond, not, ◌&&◌, ◌||◌, eqb, ◌↔◌, List, length, map, replicate, vec_items, vec_len, get_or, sym, refl, subst, arith, leb-true}
use mathlib.Core.Bool.{and-eq-true_iff}
use Rattle.std.specs.Prelude.{slice_index}
use Rattle.std.specs.Global.{Global}
use Rattle.plans.specs.Flags.{has, every}
use Rattle.plans.specs.Reach.{each}
use Rattle.rounds.specs.Rows as rounds
use Rattle.rounds.specs.Rounds.{Wide, SameLeft}
use Rattle.rounds.specs.Stages.{IsNew, StagesNew, Even, NarrowedBy, SettledBy, SettledAll}
use Rattle.rounds.specs.Tasks.{SameTexts}
use Rattle.cases_plans.proofs.Rows.{alike, right, all_say}
use Rattle.cases_plans.proofs.Tests.{both, equal}
use Rattle.cases_plans.proofs.Values.{alike_iff, same_list, list_tells, values_say}
use Rattle.cases_plans.proofs.Values as values
use Rattle.cases_search.specs.Held.{TaskRows, task_of}
use Rattle.cases_search.proofs.Combine.{every_iff, where_iff, unless_iff, somewhere, somewhere_iff}
use Rattle.cases_rounds.specs.Held.{Stage, StageRows, stage_of}
use Rattle.cases_rounds.specs.Stages.{computed, StagesComputedSay, Claim, is_new, stages_new, even, wide, narrowed_by, settled_by, settled_all, same_left, same_texts, Means, rows, StagesSay}
use Rattle.cases_rounds.proofs.Combine.{then_iff, change_iff, down_iff, places_iff}
use Rattle.cases_rounds.proofs.Held.{fits, rows_tell, bare, at_place}

module _ (heap : Global) where
  all_told : values.told (computed heap) ≡ true
  all_told = refl

pub stages_computed_say : StagesComputedSay
stages_computed_say heap = values_say (computed heap) (all_told heap)

-- ── lists ──

abbrev pub same_flags : List Bool → List Bool → Bool
same_flags a b = same_list alike a b

pub flags_tell : (a b : List Bool) → (same_flags a b ≡ true) ↔ (a ≡ b)
flags_tell a b = list_tells alike alike_iff a b

abbrev pub same_numbers : List ℕ → List ℕ → Bool
same_numbers a b = same_list eqb a b

pub numbers_tell : (a b : List ℕ) → (same_numbers a b ≡ true) ↔ (a ≡ b)
numbers_tell a b = list_tells eqb equal a b

pub up_iff : (b : Bool) → (b ≡ true) ↔ (b ≡ true)
up_iff b = (λ e. e, λ e. e)

-- ── a stage ──

abbrev new_test : ℕ → Stage → Bool
new_test n s =
    (same_flags (vec_items s.alive) (replicate n true) && same_flags (vec_items s.next) (replicate n true))
    && (same_numbers (vec_items s.ranks) (replicate n 0) && s.lost)

new_decided : (n : ℕ) (s : Stage) → (new_test n s ≡ true) ↔ IsNew n s
new_decided n s = (
  λ e. let h = parts.0 e in record { alive = h.0.0; next = h.0.1; ranks = h.1.0; lost = h.1.1 },
  λ i. parts.1 ((i.alive, i.next), (i.ranks, i.lost)),
)
  where
    parts : (new_test n s ≡ true) ↔ (((vec_items s.alive ≡ replicate n true) × (vec_items s.next ≡ replicate n true)) × ((vec_items s.ranks ≡ replicate n 0) × (s.lost ≡ true)))
    parts =
        both (same_flags (vec_items s.alive) (replicate n true) && same_flags (vec_items s.next) (replicate n true)) (same_numbers (vec_items s.ranks) (replicate n 0) && s.lost)
        (both (same_flags (vec_items s.alive) (replicate n true)) (same_flags (vec_items s.next) (replicate n true))
        (flags_tell (vec_items s.alive) (replicate n true)) (flags_tell (vec_items s.next) (replicate n true)))
        (both (same_numbers (vec_items s.ranks) (replicate n 0)) s.lost (numbers_tell (vec_items s.ranks) (replicate n 0)) (up_iff s.lost))

abbrev pub wide_test : ℕ → Stage → Bool
wide_test n s = eqb (length (vec_items s.alive)) n && (eqb (length (vec_items s.next)) n && eqb (length (vec_items s.ranks)) n)

pub wide_decided : (n : ℕ) (s : Stage) → (wide_test n s ≡ true) ↔ Wide n s
wide_decided n s =
    let parts =
    both (eqb (length (vec_items s.alive)) n) (eqb (length (vec_items s.next)) n && eqb (length (vec_items s.ranks)) n) (equal (length (vec_items s.alive)) n)
    (both (eqb (length (vec_items s.next)) n) (eqb (length (vec_items s.ranks)) n) (equal (length (vec_items s.next)) n) (equal (length (vec_items s.ranks)) n)) in (
      λ e. let h = parts.0 e in record { alive = h.0; next = h.1.0; ranks = h.1.1 },
      λ w. parts.1 (w.alive, (w.next, w.ranks)),
    )

abbrev even_test : Stage → Bool
even_test s = eqb (vec_len s.next) (vec_len s.alive) && eqb (vec_len s.ranks) (vec_len s.alive)

even_decided : (s : Stage) → (even_test s ≡ true) ↔ Even s
even_decided s =
    let parts = both (eqb (vec_len s.next) (vec_len s.alive)) (eqb (vec_len s.ranks) (vec_len s.alive)) (equal (vec_len s.next) (vec_len s.alive)) (equal (vec_len s.ranks) (vec_len s.alive)) in (
      λ e. let h = parts.0 e in record { next = h.0; ranks = h.1 },
      λ v. parts.1 (v.next, v.ranks),
    )

-- ── stages, one after the other ──

-- a stage's rows are short enough to be held as they are
abbrev pub held : StageRows → Bool
held s = fits s.alive && (fits s.next && fits s.ranks)

pub held_short : (s : StageRows) → held s ≡ true → (length s.alive ≤ 100) × (length s.next ≤ 100) × (length s.ranks ≤ 100)
held_short s e =
    let h = (and-eq-true_iff (fits s.alive) (fits s.next && fits s.ranks)).0 e in
    let g = (and-eq-true_iff (fits s.next) (fits s.ranks)).0 h.1 in
    (leb-true (length s.alive) 100 h.0, leb-true (length s.next) 100 g.0, leb-true (length s.ranks) 100 g.1)

module _ (heap : Global) (s t : StageRows) where
  abbrev x : Stage
  x = stage_of heap s

  abbrev y : Stage
  y = stage_of heap t

  abbrev same_test : Bool
  same_test = same_flags t.alive s.alive && (same_numbers t.ranks s.ranks && alike t.lost s.lost)

  abbrev pub left_test : Bool
  left_test = same_test

  abbrev narrowed_test : List Bool → Bool
  narrowed_test r = same_flags (vec_items y.next) (rounds.both_rows (vec_items x.next) r) && same_test

  abbrev taken : Bool
  taken = same_flags (vec_items x.next) (vec_items x.alive)

  abbrev noted : ℕ → ℕ → ℕ
  noted k c = cond (has (vec_items x.alive) c && not (has (vec_items x.next) c)) k (slice_index (vec_items x.ranks) c)

  abbrev noted_test : ℕ → Bool
  noted_test k = every (λ c. eqb (slice_index (vec_items y.ranks) c) (noted k c)) (length (vec_items x.ranks))

  abbrev pub settled_test : ℕ → Bool
  settled_test k =
      (same_flags (vec_items y.alive) (vec_items x.next) && same_flags t.next s.next)
      && ((eqb (length (vec_items y.ranks)) (length (vec_items x.ranks)) && noted_test k) && alike y.lost (not taken))

  module _ (short : held s ≡ true) (small : held t ≡ true) where
    ls : (length s.alive ≤ 100) × (length s.next ≤ 100) × (length s.ranks ≤ 100)
    ls = held_short s short

    lt : (length t.alive ≤ 100) × (length t.next ≤ 100) × (length t.ranks ≤ 100)
    lt = held_short t small

    same_iff : (same_test ≡ true) ↔ ((y.alive ≡ x.alive) × ((y.ranks ≡ x.ranks) × (y.lost ≡ x.lost)))
    same_iff =
        both (same_flags t.alive s.alive) (same_numbers t.ranks s.ranks && alike t.lost s.lost) (rows_tell alike alike_iff heap t.alive s.alive lt.0 ls.0)
        (both (same_numbers t.ranks s.ranks) (alike t.lost s.lost) (rows_tell eqb equal heap t.ranks s.ranks lt.2 ls.2) (alike_iff t.lost s.lost))

    pub left_decided : (left_test ≡ true) ↔ SameLeft x y
    left_decided = (
      λ e. let h = same_iff.0 e in record { alive = h.0; ranks = h.1.0; lost = h.1.1 },
      λ l. same_iff.1 (l.alive, (l.ranks, l.lost)),
    )

    narrowed_decided : (r : List Bool) → (narrowed_test r ≡ true) ↔ NarrowedBy r x y
    narrowed_decided r =
        let parts =
        both (same_flags (vec_items y.next) (rounds.both_rows (vec_items x.next) r)) same_test (flags_tell (vec_items y.next) (rounds.both_rows (vec_items x.next) r)) same_iff in (
          λ e. let h = parts.0 e in record { next = h.0; alive = h.1.0; ranks = h.1.1.0; lost = h.1.1.1 },
          λ n. parts.1 (n.next, (n.alive, (n.ranks, n.lost))),
        )

    pub settled_decided : (k : ℕ) → (settled_test k ≡ true) ↔ SettledBy k x y
    settled_decided k = (
      λ e.
          let h = parts.0 e in
          record { alive = h.0.0; next = h.0.1; ranks_long = h.1.0.0; ranks = h.1.0.1; kept = h.1.1.0; lost = h.1.1.1 },
      λ d. parts.1 ((d.alive, d.next), ((d.ranks_long, d.ranks), (d.kept, d.lost))),
    )
      where
        parts : (settled_test k ≡ true) ↔ (((vec_items y.alive ≡ vec_items x.next) × (y.next ≡ x.next))
            × (((length (vec_items y.ranks) ≡ length (vec_items x.ranks))
            × ((c : ℕ) → c < length (vec_items x.ranks) → slice_index (vec_items y.ranks) c ≡ noted k c))
            × ((y.lost ≡ false → vec_items x.next ≡ vec_items x.alive) × (y.lost ≡ true → vec_items x.next ≡ vec_items x.alive → ⊥))))
        parts =
            both (same_flags (vec_items y.alive) (vec_items x.next) && same_flags t.next s.next)
            ((eqb (length (vec_items y.ranks)) (length (vec_items x.ranks)) && noted_test k) && alike y.lost (not taken))
            (both (same_flags (vec_items y.alive) (vec_items x.next)) (same_flags t.next s.next) (flags_tell (vec_items y.alive) (vec_items x.next))
            (rows_tell alike alike_iff heap t.next s.next lt.1 ls.1))
            (both (eqb (length (vec_items y.ranks)) (length (vec_items x.ranks)) && noted_test k) (alike y.lost (not taken))
            (both (eqb (length (vec_items y.ranks)) (length (vec_items x.ranks))) (noted_test k) (equal (length (vec_items y.ranks)) (length (vec_items x.ranks)))
            (every_iff (λ c. eqb (slice_index (vec_items y.ranks) c) (noted k c)) (length (vec_items x.ranks)) (λ c l. equal (slice_index (vec_items y.ranks) c) (noted k c))))
            (change_iff y.lost taken (flags_tell (vec_items x.next) (vec_items x.alive))))

-- ── stages beside each other ──

module _ (heap : Global) where
  abbrev nothing : Stage
  nothing = stage_of heap bare

  abbrev many_test : ℕ → ℕ → List Stage → Bool
  many_test m n ss = eqb (length ss) m && every (λ i. new_test n (get_or ss i nothing)) m

  many_decided : (m n : ℕ) (ss : List Stage) → (many_test m n ss ≡ true) ↔ StagesNew m n ss
  many_decided m n ss =
      let parts =
      then_iff {P = length ss ≡ m} {Q = (s : ℕ) (d : Stage) → s < m → IsNew n (get_or ss s d)} (eqb (length ss) m) (every (λ i. new_test n (get_or ss i nothing)) m) (equal (length ss) m)
      (λ q. places_iff (λ i s. new_test n s) ss nothing m (omega (arith, q)) (λ i l s. new_decided n s)) in (
        λ e. let h = parts.0 e in record { many = h.0; each = h.1 },
        λ v. parts.1 (v.many, v.each),
      )

  module _ (ss ts : List StageRows) where
    abbrev xs : List Stage
    xs = map (stage_of heap) ss

    abbrev ys : List Stage
    ys = map (stage_of heap) ts

    abbrev old : ℕ → StageRows
    old i = get_or ss i bare

    abbrev later : ℕ → StageRows
    later i = get_or ts i bare

    abbrev ends_test : ℕ → Bool
    ends_test k = every (λ i. settled_test heap (old i) (later i) k) (length xs)

    abbrev still_test : Bool → Bool
    still_test b = b || every (λ i. not (later i).lost) (length xs)

    abbrev some_test : Bool → Bool
    some_test b = not b || somewhere (λ i. (later i).lost) (length xs)

    abbrev pub all_test : ℕ → Bool → Bool
    all_test k b = eqb (length ys) (length xs) && (ends_test k && (still_test b && some_test b))

    abbrev pub all_held : Bool
    all_held = every (λ i. held (old i) && held (later i)) (length xs)

    abbrev Each : ℕ → Type 0
    Each k = (s : ℕ) (d : Stage) → s < length xs → SettledBy k (get_or xs s d) (get_or ys s d)

    abbrev Still : Bool → Type 0
    Still b = b ≡ false → (s : ℕ) (d : Stage) → s < length xs → (get_or ys s d).lost ≡ false

    abbrev Lost : Bool → Type 0
    Lost b = b ≡ true → (s : ℕ) × (s < length xs) × ((d : Stage) → (get_or ys s d).lost ≡ true)

    module _ (short : all_held ≡ true) (k : ℕ) (b : Bool) (q : length ys ≡ length xs) where
      was : (i : ℕ) (d : Stage) → i < length xs → get_or xs i d ≡ stage_of heap (old i)
      was i d l = at_place (stage_of heap) ss bare i d l

      is : (i : ℕ) (d : Stage) → i < length xs → get_or ys i d ≡ stage_of heap (later i)
      is i d l = at_place (stage_of heap) ts bare i d (omega (arith, q, l))

      one : (i : ℕ) → i < length xs → (settled_test heap (old i) (later i) k ≡ true) ↔ SettledBy k (stage_of heap (old i)) (stage_of heap (later i))
      one i l =
          let h = (and-eq-true_iff (held (old i)) (held (later i))).0 ((every_iff (λ i. held (old i) && held (later i)) (length xs) (λ i l. (λ e. e, λ e. e))).0 short i l) in
          settled_decided heap (old i) (later i) h.0 h.1 k

      each_iff : (ends_test k ≡ true) ↔ Each k
      each_iff =
          let all = every_iff (λ i. settled_test heap (old i) (later i) k) (length xs) one in (
            λ e i d l. subst (λ x. SettledBy k x (get_or ys i d)) (sym (was i d l)) (subst (λ y. SettledBy k (stage_of heap (old i)) y) (sym (is i d l)) (all.0 e i l)),
            λ h. all.1 (λ i l. subst (λ x. SettledBy k x (stage_of heap (later i))) (was i (nothing) l) (subst (λ y. SettledBy k (get_or xs i (nothing)) y) (is i (nothing) l) (h i (nothing) l))),
          )

      still_iff : (still_test b ≡ true) ↔ Still b
      still_iff =
          unless_iff {P = (s : ℕ) (d : Stage) → s < length xs → (get_or ys s d).lost ≡ false} b (every (λ i. not (later i).lost) (length xs))
          (let all = every_iff (λ i. not (later i).lost) (length xs) (λ i l. down_iff (later i).lost) in (
            λ e i d l. subst (λ (y : Stage). y.lost ≡ false) (sym (is i d l)) (all.0 e i l),
            λ h. all.1 (λ i l. subst (λ (y : Stage). y.lost ≡ false) (is i (nothing) l) (h i (nothing) l)),
          ))

      some_iff : (some_test b ≡ true) ↔ Lost b
      some_iff =
          where_iff {P = b ≡ true} {Q = (s : ℕ) × (s < length xs) × ((d : Stage) → (get_or ys s d).lost ≡ true)} b (somewhere (λ i. (later i).lost) (length xs)) (λ e. e, λ e. e)
          (somewhere_iff (λ i. (later i).lost) (length xs) (λ i l. (
            λ e d. subst (λ (y : Stage). y.lost ≡ true) (sym (is i d l)) e,
            λ h. subst (λ (y : Stage). y.lost ≡ true) (is i (nothing) l) (h (nothing)),
          )))

    all_decided : all_held ≡ true → (k : ℕ) (b : Bool) → (all_test k b ≡ true) ↔ SettledAll k xs ys b
    all_decided short k b = (
      λ e. let h = parts.0 e in record { many = h.0; each = h.1.0; still = h.1.1.0; some = h.1.1.1 },
      λ v. parts.1 (v.many, (v.each, (v.still, v.some))),
    )
      where
        parts : (all_test k b ≡ true) ↔ ((length ys ≡ length xs) × (Each k × (Still b × Lost b)))
        parts =
            then_iff (eqb (length ys) (length xs)) (ends_test k && (still_test b && some_test b)) (equal (length ys) (length xs))
            (λ q. both (ends_test k) (still_test b && some_test b) (each_iff short k b q) (both (still_test b) (some_test b) (still_iff short k b q) (some_iff short k b q)))

-- ── tasks ──

abbrev texts_held : TaskRows → Bool
texts_held t = fits t.keep && fits t.reach

abbrev texts_test : TaskRows → TaskRows → Bool
texts_test s t = (eqb t.from s.from && eqb t.to s.to) && (same_flags t.keep s.keep && same_flags t.reach s.reach)

texts_decided : (heap : Global) (s t : TaskRows) → texts_held s ≡ true → texts_held t ≡ true → (texts_test s t ≡ true) ↔ SameTexts (task_of heap s) (task_of heap t)
texts_decided heap s t short small =
    let h = (and-eq-true_iff (fits s.keep) (fits s.reach)).0 short in
    let g = (and-eq-true_iff (fits t.keep) (fits t.reach)).0 small in
    let parts =
    both (eqb t.from s.from && eqb t.to s.to) (same_flags t.keep s.keep && same_flags t.reach s.reach)
    (both (eqb t.from s.from) (eqb t.to s.to) (equal t.from s.from) (equal t.to s.to))
    (both (same_flags t.keep s.keep) (same_flags t.reach s.reach)
    (rows_tell alike alike_iff heap t.keep s.keep (leb-true (length t.keep) 100 g.0) (leb-true (length s.keep) 100 h.0))
    (rows_tell alike alike_iff heap t.reach s.reach (leb-true (length t.reach) 100 g.1) (leb-true (length s.reach) 100 h.1))) in (
      λ e. let f = parts.0 e in record { from = f.0.0; to = f.0.1; keep = f.1.0; reach = f.1.1 },
      λ v. parts.1 ((v.from, v.to), (v.keep, v.reach)),
    )

-- ── the rows ──

module _ (heap : Global) where
  -- what the test decides: claims of rows that are short
  abbrev decides : Claim → Bool
  decides (narrowed_by r s t) = held s && held t
  decides (settled_by k s t) = held s && held t
  decides (settled_all k ss ts b) = all_held heap ss ts
  decides (same_left s t) = held s && held t
  decides (same_texts s t) = texts_held s && texts_held t
  decides x = true

  abbrev test : Claim → Bool
  test (is_new n s) = new_test n (stage_of heap s)
  test (stages_new m n ss) = many_test heap m n (map (stage_of heap) ss)
  test (even s) = even_test (stage_of heap s)
  test (wide n s) = wide_test n (stage_of heap s)
  test (narrowed_by r s t) = narrowed_test heap s t r
  test (settled_by k s t) = settled_test heap s t k
  test (settled_all k ss ts b) = all_test heap ss ts k b
  test (same_left s t) = left_test heap s t
  test (same_texts s t) = texts_test s t

  decided : (x : Claim) → decides x ≡ true → (test x ≡ true) ↔ Means heap x
  decided (is_new n s) e = new_decided n (stage_of heap s)
  decided (stages_new m n ss) e = many_decided heap m n (map (stage_of heap) ss)
  decided (even s) e = even_decided (stage_of heap s)
  decided (wide n s) e = wide_decided n (stage_of heap s)
  decided (narrowed_by r s t) e = let h = (and-eq-true_iff (held s) (held t)).0 e in narrowed_decided heap s t h.0 h.1 r
  decided (settled_by k s t) e = let h = (and-eq-true_iff (held s) (held t)).0 e in settled_decided heap s t h.0 h.1 k
  decided (settled_all k ss ts b) e = all_decided heap ss ts e k b
  decided (same_left s t) e = let h = (and-eq-true_iff (held s) (held t)).0 e in left_decided heap s t h.0 h.1
  decided (same_texts s t) e = let h = (and-eq-true_iff (texts_held s) (texts_held t)).0 e in texts_decided heap s t h.0 h.1

  all_right : each (right decides test) rows ≡ true
  all_right = refl

pub stages_say : StagesSay
stages_say heap = all_say (Means heap) (decides heap) (test heap) (decided heap) rows (all_right heap)
