-- The rows of texts and their parts.
use Rattle.std.proofs.Common.{◌≡◌, ℕ, zero, suc, ◌+◌, ◌<◌, ◌≤◌, Bool, false, not, ◌&&◌, eqb, List, [], ◌∷◌, ◌++◌, length, take, codes, refl, ap, subst, arith, eqb-true, eq-eqb}
use mathlib.Core.Bool.{false≢true}
use native.Mathlib.Decide.{dec_lt}
use Rattle.std.specs.Bool.{Decides}
use Rattle.std.proofs.lemmas.Bool.Decides.{Decides-and, Decides-not, Decides-like}
use Rattle.formula.specs.Grammar.{Part, atom, product, sum, Stands, Whole, TextVerdict, whole, stuck, goes, step, verdict, opens, AtomRead, ProductRead, SumRead, Refused, NoFormula}
use Rattle.formula.proofs.Language.{went}
use Rattle.formula.proofs.Truths as truths
use Rattle.reading.proofs.Words.{grammatical}
use Rattle.reading.specs.Theorems.{GrammarAgrees}
use Rattle.cases_words.specs.Formulas.{PartRow, parts, PartsHold, PlaceRow, places, PlacesHold, WholeRow, wholes, WholesHold, ReadAs, read_parts, ReadPartsHold, RefusedRow, refusals, RefusalsHold, FaultyRow, faulty, FaultyHold, Unambiguous}
use Rattle.cases_words.specs.Rows.{Said}
use Rattle.cases_words.proofs.Rows.{all_said, apart, each_in}
use Rattle.cases_words.proofs.Bits.{verdict_code}
use Rattle.cases_words.proofs.Parts.{finds, here, is_here, here_is, is_part, part_decided, spans}

pub parts_hold : PartsHold
unfolding finds
parts_hold =
    all_said _ (λ (r : PartRow). is_part 3 5 r.text r.part r.from r.to r.value) (λ (r : PartRow). r.holds)
    (λ r. part_decided 3 5 r.text r.part r.from r.to r.value) parts refl

place_decided : (t : List ℕ) (i b : ℕ) → Decides (here t i b) (Stands t i b)
place_decided t i b = (λ e. is_here t i b e, λ h. here_is t i b h.0 h.1)

pub places_hold : PlacesHold
places_hold =
    all_said _ (λ (r : PlaceRow). here r.text r.place r.byte) (λ (r : PlaceRow). r.holds) (λ r. place_decided r.text r.place r.byte) places refl

pub wholes_hold : WholesHold
unfolding finds
wholes_hold =
    all_said _ (λ (r : WholeRow). is_part r.marks r.on r.text sum 0 (length r.text) r.value) (λ (r : WholeRow). r.holds)
    (λ r. part_decided r.marks r.on r.text sum 0 (length r.text) r.value) wholes refl

-- ── what a reader has read ──

module _ (n m : ℕ) (t : List ℕ) (i : ℕ) (v : Bool) (j : ℕ) where
  none_here : (b : ℕ) → Decides (not (here t j b)) (Stands t j b → ⊥)
  none_here b = Decides-not (here t j b) (place_decided t j b)

  atom_read : Decides (is_part n m t atom i j v) (AtomRead n m t i v j)
  atom_read =
      Decides-like (is_part n m t atom i j v)
      (λ f. record { on = (spans n m t f).0; within = (spans n m t f).1; read = f; went = went f }) (λ r. r.read) (part_decided n m t atom i j v)

  product_read : Decides (is_part n m t product i j v && not (here t j 38)) (ProductRead n m t i v j)
  product_read =
      Decides-like (is_part n m t product i j v && not (here t j 38))
      (λ h. record { on = (spans n m t h.0).0; within = (spans n m t h.0).1; read = h.0; went = went h.0; no_and = λ l e. h.1 (l, e) })
      (λ r. (r.read, λ s. r.no_and s.0 s.1))
      (Decides-and (is_part n m t product i j v) (not (here t j 38)) (part_decided n m t product i j v) (none_here 38))

  sum_read : Decides (is_part n m t sum i j v && (not (here t j 38) && not (here t j 124))) (SumRead n m t i v j)
  sum_read =
      Decides-like (is_part n m t sum i j v && (not (here t j 38) && not (here t j 124)))
      (λ h. record { on = (spans n m t h.0).0; within = (spans n m t h.0).1; read = h.0; went = went h.0; no_and = λ l e. h.1.0 (l, e); no_or = λ l e. h.1.1 (l, e) })
      (λ r. (r.read, (λ s. r.no_and s.0 s.1, λ s. r.no_or s.0 s.1)))
      (Decides-and (is_part n m t sum i j v) (not (here t j 38) && not (here t j 124)) (part_decided n m t sum i j v)
      (Decides-and (not (here t j 38)) (not (here t j 124)) (none_here 38) (none_here 124)))

abbrev is_read : Part → List ℕ → ℕ → Bool → ℕ → Bool
is_read atom t i v j = is_part 3 5 t atom i j v
is_read product t i v j = is_part 3 5 t product i j v && not (here t j 38)
is_read sum t i v j = is_part 3 5 t sum i j v && (not (here t j 38) && not (here t j 124))

read_decided : (part : Part) (t : List ℕ) (i : ℕ) (v : Bool) (j : ℕ) → Decides (is_read part t i v j) (ReadAs part t i v j)
read_decided atom t i v j = atom_read 3 5 t i v j
read_decided product t i v j = product_read 3 5 t i v j
read_decided sum t i v j = sum_read 3 5 t i v j

pub read_parts_hold : ReadPartsHold
unfolding finds
read_parts_hold =
    all_said _ (λ (r : PartRow). is_read r.part r.text r.from r.value r.to) (λ (r : PartRow). r.holds)
    (λ r. read_decided r.part r.text r.from r.value r.to) read_parts refl

-- ── refusals, each for itself ──

ends_in_and : (d : ℕ) → opens 2 (codes "a&") d 0 ≡ stuck 2
unfolding goes step
ends_in_and zero = refl
ends_in_and (suc d) = refl

nothing_left : (d : ℕ) → opens 2 (codes "a&") d 2 ≡ stuck 2
unfolding goes step
nothing_left d = refl

closes_after_or : (d : ℕ) → opens 2 (codes "a|)b") d 0 ≡ stuck 2
unfolding goes step
closes_after_or zero = refl
closes_after_or (suc d) = refl

pub refusals_hold : RefusalsHold
unfolding goes step
refusals_hold =
    each_in (λ (r : RefusedRow). Said r.holds (Refused 2 r.text r.from r.place)) refusals (
      record { on = omega arith; within = omega arith; went = ends_in_and },
      (
        record { on = omega arith; within = omega arith; went = nothing_left },
        (
          record { on = omega arith; within = omega arith; went = closes_after_or },
          (
            λ r. apart verdict_code (opens 2 (codes "a&b") 0 0) (stuck 3) refl (r.went 0),
            (
              λ r. apart verdict_code (opens 2 (codes "a&") 0 0) (stuck 1) refl (r.went 0),
              (
                λ r. apart verdict_code (opens 2 (codes "a&") 0 1) (stuck 2) refl (r.went 0),
                (
                  λ r. apart verdict_code (opens 2 (codes "a)") 1 0) (stuck 1) refl (r.went 1),
                  tt,
                ),
              ),
            ),
          ),
        ),
      ),
    )

-- ── texts that are no formula ──

-- what begins with more of a text begins with less of it
begins : (p q : ℕ) (t tail : List ℕ) → p ≤ q → (rest : List ℕ) × (take q t ++ tail ≡ take p t ++ rest)
begins zero q t tail l = (take q t ++ tail, refl)
begins (suc p) zero t tail l = absurd (omega arith)
begins (suc p) (suc q) [] tail l = (tail, refl)
begins (suc p) (suc q) (x ∷ t) tail l = let r = begins p q t tail (omega arith) in (r.0, ap (λ (s : List ℕ). x ∷ s) r.1)

-- where no formula goes on, none does later
no_later : (n : ℕ) (t : List ℕ) (p q : ℕ) → NoFormula n t p → NoFormula n t q → p < q → ⊥
no_later n t p q a b l =
    let g = b.goes_on 0 in
    let s = begins (p + 1) q t g.0 (omega arith) in
    a.stops (omega (arith, b.within)) 0 s.0 g.1.0 (subst (λ (x : List ℕ). Whole n 0 x g.1.0) s.1 g.1.1)

one_place : (n : ℕ) (t : List ℕ) (p q : ℕ) → NoFormula n t p → NoFormula n t q → p ≡ q
one_place n t p q a b =
    elim (dec_lt p q) [
      | yes l ↦ absurd (no_later n t p q a b l)
      | no l ↦ elim (dec_lt q p) [ yes k ↦ absurd (no_later n t q p b a k) | no k ↦ omega arith ]
    ]

abbrev pub is_stuck : TextVerdict → ℕ → Bool
is_stuck whole p = false
is_stuck (stuck q) p = eqb q p

pub faulty_by : (n : ℕ) (t : List ℕ) (p : ℕ) (v : TextVerdict) → GrammarAgrees n t v → Decides (is_stuck v p) (NoFormula n t p)
faulty_by n t p whole j = (λ e. absurd (false≢true e), λ f. absurd (f.none 0 (j 0).0 (j 0).1))
faulty_by n t p (stuck q) j =
    (λ e. subst (NoFormula n t) (eqb-true q p e) j, λ f. eq-eqb q p (one_place n t q p j f))

pub faulty_hold : FaultyHold
unfolding verdict goes step
faulty_hold =
    all_said _ (λ (r : FaultyRow). is_stuck (verdict r.marks r.text) r.place) (λ (r : FaultyRow). r.holds)
    (λ r. faulty_by r.marks r.text r.place (verdict r.marks r.text) (grammatical r.marks r.text)) faulty refl

pub unambiguous : Unambiguous
unambiguous = record { one_value = truths.one_value; one_place = one_place }
