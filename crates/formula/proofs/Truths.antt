-- The truth that is computed is the value that the grammar gives, and every formula has one.
use Rattle.std.proofs.Common.{◌≡◌, ℕ, zero, suc, ◌+◌, ◌-◌, ◌*◌, ◌/◌, ◌^◌, ◌<◌, ◌≤◌, Bool, true, false, cond, eqb, List, ◌∷◌, length, get_or, drop, sym, refl, ap, ◌∙◌, subst, arith, pow_mono, lt-ltb, eq-eqb, ne_eqb, le-leb}
use mathlib.Core.Bool.{false≢true}
use native.Mathlib.Decide.{dec_lt}
use lib.Bits.{bit_and}
use Rattle.std.proofs.lemmas.Nat.{pow_pos, div_below}
use Rattle.formula.specs.Grammar.{Part, atom, product, sum, Formula, Whole, TextVerdict, whole, stuck, verdict, nought, one, mark, not, group, single, and, only, or, both, some, stands}
use Rattle.formula.specs.Truth.{Value, value, turned, joined, closed, followed, marked, read, held, truth, is_whole, is_formula}
use Rattle.std.proofs.lemmas.List.{drop_all}
use Rattle.formula.proofs.Steps.{at}
use Rattle.formula.proofs.Language.{complete, whole_verdict}

-- ── one step of the reading ──

module _ (k n m b : ℕ) (t : List ℕ) where
  atom_is : read (suc k) atom n m (b ∷ t) ≡
      cond (eqb b 48) (value false t) (cond (eqb b 49) (value true t) (cond (eqb b 33) (turned (read k atom n m t)) (cond (eqb b 40) (closed (read k sum n m t)) (marked n m b t))))
  unfolding read
  atom_is = refl

  atom_nought : b ≡ 48 → read (suc k) atom n m (b ∷ t) ≡ value false t
  atom_nought e = rw (atom_is, e)

  atom_one : b ≡ 49 → read (suc k) atom n m (b ∷ t) ≡ value true t
  atom_one e = rw (atom_is, e)

  atom_not : b ≡ 33 → read (suc k) atom n m (b ∷ t) ≡ turned (read k atom n m t)
  atom_not e = rw (atom_is, e)

  atom_group : b ≡ 40 → read (suc k) atom n m (b ∷ t) ≡ closed (read k sum n m t)
  atom_group e = rw (atom_is, e)

  atom_mark : (j : ℕ) → b ≡ 97 + j → j < n → read (suc k) atom n m (b ∷ t) ≡ value (stands m j) t
  atom_mark j e l =
      let d : b - 97 ≡ j = omega arith in
      atom_is
      ∙ rw (ne_eqb b 48 (λ f. omega arith), ne_eqb b 49 (λ f. omega arith), ne_eqb b 33 (λ f. omega arith), ne_eqb b 40 (λ f. omega arith), le-leb 97 b (omega arith), d, lt-ltb j n l)

module _ (k n m : ℕ) (t : List ℕ) where
  product_is : read (suc k) product n m t ≡ followed 38 both (read k product n m) (read k atom n m t)
  unfolding read
  product_is = refl

  sum_is : read (suc k) sum n m t ≡ followed 124 some (read k sum n m) (read k product n m t)
  unfolding read
  sum_is = refl

-- a value, and what comes at place j after it
module _ (v : Bool) (t : List ℕ) (j : ℕ) where
  closes : j < length t → get_or t j 0 ≡ 41 → closed (value v (drop j t)) ≡ value v (drop (j + 1) t)
  closes l e = rw (at t j l, e)

  module _ (b : ℕ) (f : Bool → Bool → Bool) (more : List ℕ → Value) where
    joins : j < length t → get_or t j 0 ≡ b → followed b f more (value v (drop j t)) ≡ joined f v (more (drop (j + 1) t))
    joins l e = rw (at t j l, eq-eqb (get_or t j 0) b e)

    ends : (j < length t → get_or t j 0 ≡ b → ⊥) → followed b f more (value v (drop j t)) ≡ value v (drop j t)
    ends h =
        elim (dec_lt j (length t)) [
          | yes l ↦ rw (at t j l, ne_eqb (get_or t j 0) b (h l))
          | no l ↦ rw (drop_all j t (omega arith))
        ]

-- ── what the grammar has is read ──

spans : {n m : ℕ} {t : List ℕ} {part : Part} {i j : ℕ} {v : Bool} → Formula n m t part i j v → i < j
spans (nought h e) = omega arith
spans (one h e) = omega arith
spans (mark k h e l) = omega arith
spans (not h e f) = omega (arith, spans f)
spans (group h e f k g) = omega (arith, spans f)
spans (single f) = spans f
spans (and f k e g) = omega (arith, spans f, spans g)
spans (only f) = spans f
spans (or f k e g) = omega (arith, spans f, spans g)

-- no longer part ends later
abbrev Stops : List ℕ → Part → ℕ → Type 0
Stops t atom j = Unit {0}
Stops t product j = j < length t → get_or t j 0 ≡ 38 → ⊥
Stops t sum j = (j < length t → get_or t j 0 ≡ 38 → ⊥) × (j < length t → get_or t j 0 ≡ 124 → ⊥)

-- a sum nests two deeper than an atom
abbrev spare : Part → ℕ
spare atom = 2
spare product = 1
spare sum = 0

spare_most : (part : Part) → spare part ≤ 2
spare_most atom = omega arith
spare_most product = omega arith
spare_most sum = omega arith

reads : (k : ℕ) {n m : ℕ} {t : List ℕ} {part : Part} {i j : ℕ} {v : Bool} → Formula n m t part i j v → Stops t part j →
    3 * j ≤ k + 3 * i + spare part → read k part n m (drop i t) ≡ value v (drop j t)
reads (suc k) {n} {m} {t} {i = i} (nought h e) s l = ap (read (suc k) atom n m) (at t i h) ∙ atom_nought k n m (get_or t i 0) (drop (i + 1) t) e
reads (suc k) {n} {m} {t} {i = i} (one h e) s l = ap (read (suc k) atom n m) (at t i h) ∙ atom_one k n m (get_or t i 0) (drop (i + 1) t) e
reads (suc k) {n} {m} {t} {i = i} (mark c h e q) s l = ap (read (suc k) atom n m) (at t i h) ∙ atom_mark k n m (get_or t i 0) (drop (i + 1) t) c e q
reads (suc k) {n} {m} {t} {i = i} (not h e f) s l =
    ap (read (suc k) atom n m) (at t i h) ∙ atom_not k n m (get_or t i 0) (drop (i + 1) t) e ∙ ap turned (reads k f tt (omega arith))
reads (suc k) {n} {m} {t} {i = i} (group {j = j} {v = v} h e f q g) s l =
    ap (read (suc k) atom n m) (at t i h) ∙ atom_group k n m (get_or t i 0) (drop (i + 1) t) e
    ∙ ap closed (reads k f (λ _ x. omega arith, λ _ x. omega arith) (omega arith)) ∙ closes v t j q g
reads (suc k) {n} {m} {t} {i = i} (single {j = j} {v = v} f) s l =
    product_is k n m (drop i t) ∙ ap (followed 38 both (read k product n m)) (reads k f tt (omega arith)) ∙ ends v t j 38 both (read k product n m) s
reads (suc k) {n} {m} {t} {i = i} (and {j = j} {v = v} f q e g) s l =
    product_is k n m (drop i t) ∙ ap (followed 38 both (read k product n m)) (reads k f tt (omega (arith, spans g)))
    ∙ joins v t j 38 both (read k product n m) q e ∙ ap (joined both v) (reads k g s (omega (arith, spans f)))
reads (suc k) {n} {m} {t} {i = i} (only {j = j} {v = v} f) s l =
    sum_is k n m (drop i t) ∙ ap (followed 124 some (read k sum n m)) (reads k f s.0 (omega arith)) ∙ ends v t j 124 some (read k sum n m) s.1
reads (suc k) {n} {m} {t} {i = i} (or {j = j} {v = v} f q e g) s l =
    sum_is k n m (drop i t) ∙ ap (followed 124 some (read k sum n m)) (reads k f (λ _ x. omega arith) (omega (arith, spans g)))
    ∙ joins v t j 124 some (read k sum n m) q e ∙ ap (joined some v) (reads k g s (omega (arith, spans f)))
reads zero {part = part} f s l = absurd (omega (arith, spans f, spare_most part))

pub whole_truth : (n m : ℕ) (t : List ℕ) (v : Bool) → Whole n m t v → truth n m t ≡ v
unfolding truth
whole_truth n m t v w =
    ap held (reads (3 * length t + 3) w (λ l _. omega arith, λ l _. omega arith) (omega arith))

pub one_value : (n m : ℕ) (t : List ℕ) (v w : Bool) → Whole n m t v → Whole n m t w → v ≡ w
one_value n m t v w f g = sym (whole_truth n m t v f) ∙ whole_truth n m t w g

-- ── a text that is read whole ──

pub whole_formula : (n m : ℕ) (t : List ℕ) (v : Bool) → Whole n m t v → is_formula n t ≡ true
whole_formula n m t v w = ap is_whole (whole_verdict n m t v w)

is_whole_of : (x : TextVerdict) → is_whole x ≡ true → x ≡ whole
is_whole_of whole e = refl
is_whole_of (stuck p) e = absurd (false≢true e)

pub formula_truth : (n : ℕ) (t : List ℕ) → is_formula n t ≡ true → (m : ℕ) → Whole n m t (truth n m t)
unfolding verdict
formula_truth n t e m =
    let w = complete n m t (is_whole_of (verdict n t) e) in
    subst (λ (b : Bool). Whole n m t b) (sym (whole_truth n m t w.0 w.1)) w.1

-- ── the two answers of a reading ──

pub stuck_no_formula : (n : ℕ) (t : List ℕ) (p : ℕ) → verdict n t ≡ stuck p → is_formula n t ≡ false
stuck_no_formula n t p e = ap is_whole e

-- of 16 marks there is none from number 16 on
pub stands_none : (m k : ℕ) → m < 2 ^ 16 → 16 ≤ k → stands m k ≡ false
stands_none m k l h =
    let p : 2 ^ 16 ≤ 2 ^ k = pow_mono h in
    let z : m / 2 ^ k ≡ 0 = omega (arith, div_below m (2 ^ k) 1 (pow_pos k) (omega arith)) in
    ap (λ (x : ℕ). eqb (bit_and x 1) 1) z
