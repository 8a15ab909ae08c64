-- A map byte has only fields of its kind exactly when it counts as many of them as it has bits.
use Rattle.std.proofs.Common.{◌≡◌, ℕ, zero, suc, ◌+◌, ◌-◌, ◌*◌, ◌/◌, ◌%◌, ◌^◌, ◌≤◌, Bool, true, false, eqb, ltb, sym, refl, ap, ◌∙◌, mod-lt, mod-eq_of_lt, arith, pow_pos, ltb-false, ltb-true, eq-eqb, ne_eqb}
use lib.Bits.{bit_and, and_mask}
use lib.Count.{ones, ones_step, ones_cat}
use lib.Pow.{split}
use Rattle.records.specs.declared.kinds.Kind.{Kind}
use Rattle.records.specs.declared.kinds.Kind.TheVariants.{Condition, Move, Request}
use Rattle.records.specs.Kinds.{kind_number}
use Rattle.reading.specs.Reading.{map_limit}

ones_none : (d a : ℕ) → a ≤ d → ones a ≡ 0 → a ≡ 0
ones_none zero a le h = omega arith
ones_none (suc d) a le h =
    let step = ones_step a in
    let low : ones (a / 2) ≡ 0 = omega arith in
    let half = ones_none d (a / 2) (omega arith) low in
    omega arith

-- the bits below k, and all
module _ (map k : ℕ) where
  part : ones (bit_and map (2 ^ k - 1)) ≡ ones (map % 2 ^ k)
  part = ap ones (and_mask map k)

  apart : ones map ≡ ones (map / 2 ^ k) + ones (map % 2 ^ k)
  apart = ap ones (sym (split map k)) ∙ ones_cat k (map / 2 ^ k) (map % 2 ^ k) (mod-lt map (pow_pos k))

  masked : eqb (ones (bit_and map (2 ^ k - 1))) (ones map) ≡ ltb map (2 ^ k)
  masked = by (ltb map (2 ^ k)) refl
    where
      by : (t : Bool) → ltb map (2 ^ k) ≡ t → eqb (ones (bit_and map (2 ^ k - 1))) (ones map) ≡ t
      by true e = eq-eqb _ _ (part ∙ ap ones (mod-eq_of_lt (ltb-true map (2 ^ k) e)))
      by false e =
          ne_eqb _ _ (λ same.
          let none : ones (map / 2 ^ k) ≡ 0 = omega (arith, part, apart) in
          let high = ones_none (map / 2 ^ k) (map / 2 ^ k) (omega arith) none in
          let whole : 0 * 2 ^ k + map % 2 ^ k ≡ map = sym (ap (λ h. h * 2 ^ k + map % 2 ^ k) high) ∙ split map k in
          omega (arith, whole, mod-lt map (pow_pos k), ltb-false map (2 ^ k) e))

pub fields_counted : (kind : Kind) (map d : ℕ) → d + 1 ≡ map_limit (kind_number kind) → eqb (ones (bit_and map d)) (ones map) ≡ ltb map (map_limit (kind_number kind))
fields_counted Condition map d e = let is : d ≡ 3 = omega arith in rw is (masked map 2)
fields_counted Move map d e = let is : d ≡ 15 = omega arith in rw is (masked map 4)
fields_counted Request map d e = let is : d ≡ 15 = omega arith in rw is (masked map 4)
