-- One byte, some bytes, and equal texts.
use Rattle.std.proofs.Common.{◌≡◌, ℕ, ◌+◌, ◌-◌, ◌<◌, ◌≤◌, Bool, true, false, cond, eqb, ltb, leb, List, [], ◌∷◌, length, get_or, take, drop, Decides, sym, refl, ap, ◌∙◌, arith, length-take-le, take_all, ltb-true, eq-eqb, eqb-true, leb-true}
use borrow.Author.Tests.{lt-leb, clash}
use Rattle.faults.specs.declared.layers.ByteFault.TheVariants.{Ends}
use Rattle.faults.specs.declared.layers.RecordFault.TheVariants.{Byte, Formula, Map}
use Rattle.faults.specs.declared.layers.PortFault.{PortFault}
use Rattle.faults.specs.declared.layers.PortFault.TheVariants.{Record}
use Rattle.reading.specs.Reading.{Step, got, fault, and_then, provided, byte, bytes, judged, same, map_limit, admitted, field, minutes, Head, head, body, condition, move, request, condition_entry, move_entry, request_entry}
use Rattle.port.specs.Model.{Model}
use Rattle.formula.specs.Grammar.{TextVerdict, whole, stuck, both}
use Rattle.formula.specs.declared.FormulaFault.{FormulaFault}

module _ {V W : Type 0} where
  pub then_got : {x : Step V} {v : V} {q : ℕ} {r : List ℕ} (k : V → ℕ → List ℕ → Step W) → x ≡ got v q r → and_then x k ≡ k v q r
  unfolding and_then
  then_got k h = ap (λ y. and_then y k) h

  pub then_fault : {x : Step V} {e : PortFault} (k : V → ℕ → List ℕ → Step W) → x ≡ fault e → and_then x k ≡ fault e
  unfolding and_then
  then_fault k h = ap (λ y. and_then y k) h

module _ {V : Type 0} where
  pub passed : {b : Bool} (e : PortFault) (x : Step V) → b ≡ true → provided b e x ≡ x
  unfolding provided
  passed e x h = ap (λ t. provided t e x) h

  pub failed : {b : Bool} (e : PortFault) (x : Step V) → b ≡ false → provided b e x ≡ fault e
  unfolding provided
  failed e x h = ap (λ t. provided t e x) h

pub byte_none : (p : ℕ) (s : List ℕ) → length s ≡ 0 → byte p s ≡ fault (Record (Byte (Ends p)))
unfolding byte
byte_none p [] h = refl
byte_none p (b ∷ s) h = absurd (omega arith)

pub byte_one : (p : ℕ) (s : List ℕ) → 1 ≤ length s → byte p s ≡ got (get_or s 0 0) (p + 1) (take (length s - 1) (drop 1 s))
unfolding byte
byte_one p [] h = absurd (omega arith)
byte_one p (b ∷ s) h = ap (λ r. got b (p + 1) r) (sym (take_all _ s (omega arith)))

pub bytes_short : (n p : ℕ) (s : List ℕ) → length s < n → bytes n p s ≡ fault (Record (Byte (Ends (p + length s))))
unfolding bytes provided
bytes_short n p s h = rw (lt-leb n (length s) h)

-- the place of a field that is present, and of one that is absent
pub place_here : (b : Bool) (p at x : ℕ) → b ≡ true → x ≡ p → cond b p at ≡ x
place_here true p at x h e = sym e
place_here false p at x h e = absurd (clash h)

pub place_there : (b : Bool) (p at x : ℕ) → b ≡ false → x ≡ at → cond b p at ≡ x
place_there true p at x h e = absurd (clash (sym h))
place_there false p at x h e = sym e

pub byte_place : (p b q : ℕ) (s r : List ℕ) → byte p s ≡ got b q r → q ≡ p + 1
unfolding byte
byte_place p b q [] r e = let z : ◌≡◌ {A = ℕ} 0 1 = cc in absurd (omega arith)
byte_place p b q (x ∷ s) r e = cc

bytes_place_by : (t : Bool) (n p q : ℕ) (s w r : List ℕ) → leb n (length s) ≡ t → provided t (Record (Byte (Ends (p + length s)))) (got (take n s) (p + n) (drop n s)) ≡ got w q r → (length w ≡ n) × (q ≡ p + n)
unfolding provided
bytes_place_by true n p q s w r h e =
    let same_w : w ≡ take n s = cc in
    (ap length same_w ∙ length-take-le n s (leb-true n (length s) h), cc)
bytes_place_by false n p q s w r h e = let z : ◌≡◌ {A = ℕ} 0 1 = cc in absurd (omega arith)

pub bytes_place : (n p q : ℕ) (s w r : List ℕ) → bytes n p s ≡ got w q r → (length w ≡ n) × (q ≡ p + n)
unfolding bytes
bytes_place n p q s w r e = bytes_place_by (leb n (length s)) n p q s w r refl e

pub judged_whole : (p : ℕ) (v : TextVerdict) (x : Step (List ℕ)) → v ≡ whole → judged p v x ≡ x
unfolding judged
judged_whole p v x h = ap (λ u. judged p u x) h

pub judged_stuck : (p : ℕ) (v : TextVerdict) (k : ℕ) (f : FormulaFault) (x : Step (List ℕ)) → v ≡ stuck k → f.place ≡ p + k → judged p v x ≡ fault (Record (Formula f))
unfolding judged
judged_stuck p v k f x h e = ap (λ u. judged p u x) h ∙ ap (λ q. fault (Record (Formula (record { place = q })))) (sym e)

-- the same from another name of the place
pub moved_whole : (p q : ℕ) (v : TextVerdict) → q ≡ p → ((x : Step (List ℕ)) → judged q v x ≡ x) → (x : Step (List ℕ)) → judged p v x ≡ x
moved_whole p q v e h x = sym (ap (λ k. judged k v x) e) ∙ h x

pub moved_stuck : (p q : ℕ) (v : TextVerdict) (f : PortFault) → q ≡ p → ((x : Step (List ℕ)) → judged q v x ≡ fault f) → (x : Step (List ℕ)) → judged p v x ≡ fault f
moved_stuck p q v f e h x = sym (ap (λ k. judged k v x) e) ∙ h x

-- a number from 1 to a limit
pub counted : (v most : ℕ) → both (ltb 0 v) (leb v most) ≡ true → (0 < v) × (v ≤ most)
counted v most h = by (ltb 0 v) (leb v most) refl refl h
  where
    by : (s t : Bool) → ltb 0 v ≡ s → leb v most ≡ t → both s t ≡ true → (0 < v) × (v ≤ most)
    by true true e f g = (ltb-true 0 v e, leb-true v most f)
    by true false e f g = absurd (clash g)
    by false t e f g = absurd (clash g)

pub same_true : (xs ys : List ℕ) → same xs ys ≡ true → xs ≡ ys
same_true [] [] h = refl
same_true [] (y ∷ ys) h = absurd (clash h)
same_true (x ∷ xs) [] h = absurd (clash h)
same_true (x ∷ xs) (y ∷ ys) h = by (eqb x y) refl h (λ g. same_true xs ys g)
  where
    by : (t : Bool) → eqb x y ≡ t → cond t (same xs ys) false ≡ true → (same xs ys ≡ true → xs ≡ ys) → x ∷ xs ≡ y ∷ ys
    by true e g f = let a = eqb-true x y e in let b = f g in cc
    by false e g f = absurd (clash g)

pub same_self : (xs : List ℕ) → same xs xs ≡ true
same_self [] = refl
same_self (x ∷ xs) = rw (eq-eqb x x refl) (same_self xs)

pub same_decided : (xs ys : List ℕ) (r : Bool) → Decides r (xs ≡ ys) → r ≡ same xs ys
same_decided xs ys true h = let e : xs ≡ ys = h.0 refl in sym (rw e (same_self ys))
same_decided xs ys false h = by (same xs ys) refl
  where
    by : (t : Bool) → same xs ys ≡ t → false ≡ t
    by true e = absurd (clash (h.1 (same_true xs ys e)))
    by false e = refl

-- a field and minutes under another name of the bit that says whether they are there, and of its limit
pub field_told : {b c : Bool} {n l : ℕ} {x : Step ℕ} (at p : ℕ) (s : List ℕ) → b ≡ c → n ≡ l → field b at n p s ≡ x → field c at l p s ≡ x
field_told at p s bit e h = sym (λ i. field (bit i) at (e i) p s) ∙ h

pub minutes_told : {b c : Bool} {x : Step ℕ} (p : ℕ) (s : List ℕ) → b ≡ c → minutes b p s ≡ x → minutes c p s ≡ x
minutes_told p s bit h = sym (λ i. minutes (bit i) p s) ∙ h

-- how a record begins, by the count of its bytes
pub head_none : (m : Model) (p : ℕ) (s : List ℕ) → length s ≡ 0 → head m p s ≡ fault (Record (Byte (Ends p)))
unfolding head
head_none m p s h = then_fault _ (byte_none p s h)

pub head_one : (m : Model) (p : ℕ) (s : List ℕ) → length s ≡ 1 → head m p s ≡ admitted m (get_or s 0 0) p (fault (Record (Byte (Ends (p + 1)))))
unfolding head byte and_then
head_one m p [] h = absurd (omega arith)
head_one m p (k ∷ []) h = refl
head_one m p (k ∷ b ∷ s) h = absurd (omega arith)

module _ (m : Model) (p : ℕ) (s : List ℕ) (two : 2 ≤ length s) where
  abbrev first_byte : ℕ
  first_byte = get_or s 0 0

  abbrev map_byte : ℕ
  map_byte = get_or s 1 0

  abbrev made : ℕ → Head
  made k = record { kind = k; place = p; map = map_byte; map_place = p + 1 }

  abbrev told : Step Head
  told = provided (ltb map_byte (map_limit first_byte)) (Record (Map (p + 1))) (got (made first_byte) (p + 2) (take (length s - 2) (drop 2 s)))

  head_two : head m p s ≡ admitted m first_byte p told
  unfolding head byte and_then
  head_two = two_by s two refl
    where
      two_by : (t : List ℕ) → 2 ≤ length t → t ≡ s → head m p s ≡ admitted m first_byte p told
      two_by [] l e = absurd (omega arith)
      two_by (k ∷ []) l e = absurd (omega arith)
      two_by (k ∷ b ∷ t) l e =
          let rest : take (length s - 2) (drop 2 s) ≡ t = rw (sym e) (take_all _ t (omega arith)) in
          rw (rest, sym e) (ap (λ q. admitted m k p (provided (ltb b (map_limit k)) (Record (Map (p + 1))) (got (record { kind = k; place = p; map = b; map_place = p + 1 }) q t))) (omega arith))

  pub head_refused : {e : PortFault} → ((x : Step Head) → admitted m first_byte p x ≡ fault e) → head m p s ≡ fault e
  head_refused h = head_two ∙ h told

  module _ (k : ℕ) (ok : (x : Step Head) → admitted m first_byte p x ≡ x) (is : first_byte ≡ k) where
    pub head_map : ltb map_byte (map_limit k) ≡ false → head m p s ≡ fault (Record (Map (p + 1)))
    head_map h = head_two ∙ ok told ∙ failed _ _ (ap (λ j. ltb map_byte (map_limit j)) is ∙ h)

    pub head_got : ltb map_byte (map_limit k) ≡ true → head m p s ≡ got (made k) (p + 2) (take (length s - 2) (drop 2 s))
    head_got h = head_two ∙ ok told ∙ passed _ _ (ap (λ j. ltb map_byte (map_limit j)) is ∙ h) ∙ ap (λ j. got (made j) (p + 2) (take (length s - 2) (drop 2 s))) is

-- a record's fields, by its kind
module _ (m : Model) (h : Head) (p : ℕ) (s : List ℕ) where
  pub body_1 : h.kind ≡ 1 → body m h p s ≡ and_then (condition m h.place h.map_place h.map p s) (λ c q r. got (condition_entry c) q r)
  unfolding body
  body_1 e = rw e refl

  pub body_2 : h.kind ≡ 2 → body m h p s ≡ and_then (move m h.place h.map_place h.map p s) (λ v q r. got (move_entry v) q r)
  unfolding body
  body_2 e = rw e refl

  pub body_3 : h.kind ≡ 3 → body m h p s ≡ and_then (request m h.map_place h.map p s) (λ w q r. got (request_entry w) q r)
  unfolding body
  body_3 e = rw e refl
