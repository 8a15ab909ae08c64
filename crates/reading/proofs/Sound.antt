-- What is read of a sheet is what its bytes are written from.
use Rattle.std.proofs.Common.{◌≡◌, ℕ, zero, suc, ◌+◌, ◌*◌, ◌/◌, ◌%◌, ◌<◌, ◌≤◌, Bool, true, false, cond, eqb, ltb, List, [], ◌∷◌, ◌++◌, length, get_or, take, drop, sym, refl, ap, ◌∙◌, subst, append_assoc, append-nil, arith, take-append-drop, length-take-le, w8, Fits, ltb-true, eqb-true, leb-true}
use Rattle.reading.specs.Theorems.{Only}
use borrow.Author.Tests.{clash}
use Rattle.formula.specs.Grammar.{TextVerdict, whole, stuck, verdict, both}
use Rattle.port.specs.declared.Header.{Header}
use Rattle.port.specs.declared.Move.{Move}
use Rattle.port.specs.Model.{Model, RequestModel}
use Rattle.faults.specs.declared.layers.PortFault.{PortFault}
use Rattle.faults.specs.declared.layers.PortFault.TheVariants.{Start}
use Rattle.reading.specs.Reading.{Step, got, fault, and_then, provided, byte, bytes, number, field, minutes, text_length, whole_text, judged, text, absent, same, denied, condition, move, request, present, follows, room, map_limit, none, Head, admitted, head, body, entry, opening_bytes, opening, count, start_stage, heading, Entry, condition_entry, move_entry, request_entry, add, empty, held, refused, finish, records, reading}
use Rattle.reading.specs.SheetOf.{Bytes, number_bytes, minutes_bytes, text_bytes, bit_of, text_bit, condition_bytes, move_bytes, request_bytes, concatenated, records_of, header_of, sheet_of}
use Rattle.reading.proofs.Steps.{same_true}
use Rattle.reading.proofs.Whole.{entry_less, heading_less}

-- P of the value and of the bytes left, if a value was read
abbrev pub Post : {V : Type 0} → (V → List ℕ → Type 0) → Step V → Type 0
Post P (got v q r) = P v r
Post P (fault e) = Unit {0}

pub then_post : {V W : Type 0} (P : V → List ℕ → Type 0) (Q : W → List ℕ → Type 0) (x : Step V) (k : V → ℕ → List ℕ → Step W) → Post P x → ((v : V) (q : ℕ) (r : List ℕ) → P v r → Post Q (k v q r)) → Post Q (and_then x k)
unfolding and_then
then_post P Q (got v q r) k h f = f v q r h
then_post P Q (fault e) k h f = tt

pub if_post : {V : Type 0} (Q : V → List ℕ → Type 0) (b : Bool) (e : PortFault) (x : Step V) → (b ≡ true → Post Q x) → Post Q (provided b e x)
unfolding provided
if_post Q true e x h = h refl
if_post Q false e x h = tt

abbrev ByteAt : List ℕ → ℕ → List ℕ → Type 0
ByteAt s b r = s ≡ b ∷ r

byte_post : (p : ℕ) (s : List ℕ) → Post (ByteAt s) (byte p s)
unfolding byte
byte_post p [] = tt
byte_post p (b ∷ s) = refl

abbrev BytesAt : ℕ → List ℕ → List ℕ → List ℕ → Type 0
BytesAt n s w r = (s ≡ w ++ r) × (length w ≡ n)

bytes_post : (n p : ℕ) (s : List ℕ) → Post (BytesAt n s) (bytes n p s)
unfolding bytes
bytes_post n p s =
    if_post (BytesAt n s) _ _ (got (take n s) (p + n) (drop n s)) (λ h. (sym (take-append-drop n s), length-take-le n s (leb-true n (length s) h)))

abbrev NumberAt : Bool → List ℕ → ℕ → List ℕ → Type 0
NumberAt b s v r = (s ≡ number_bytes v ++ r) × (bit_of v ≡ cond b 1 0)

some_number : (s : List ℕ) (v : ℕ) (r : List ℕ) → s ≡ v ∷ r → 0 < v → NumberAt true s v r
some_number s zero r e h = absurd (omega arith)
some_number s (suc v) r e h = (e, refl)

number_post : (b : Bool) (p : ℕ) (s : List ℕ) → Post (NumberAt b s) (number b p s)
unfolding number
number_post false p s = (refl, refl)
number_post true p s =
    then_post (ByteAt s) (NumberAt true s) (byte p s) _ (byte_post p s) (λ v q r e.
    if_post (NumberAt true s) _ _ (got v q r) (λ h. some_number s v r e (ltb-true 0 v h)))

field_post : (b : Bool) (at limit p : ℕ) (s : List ℕ) → Post (NumberAt b s) (field b at limit p s)
unfolding field
field_post b at limit p s =
    then_post (NumberAt b s) (NumberAt b s) (number b p s) _ (number_post b p s) (λ v q r e. if_post (NumberAt b s) _ _ (got v q r) (λ h. e))

abbrev MinutesAt : Bool → List ℕ → ℕ → List ℕ → Type 0
MinutesAt b s v r = (s ≡ minutes_bytes v ++ r) × (bit_of v ≡ cond b 1 0)

some_minutes_bytes : (s : List ℕ) (v high low : ℕ) (r : List ℕ) → v ≡ 256 * high + low → s ≡ high ∷ low ∷ r → low < 256 → 0 < v → MinutesAt true s v r
some_minutes_bytes s zero high low r is e l h = absurd (omega arith)
some_minutes_bytes s (suc v) high low r is e l h =
    let hi : suc v / 256 ≡ high = omega arith in
    let lo : suc v % 256 ≡ low = omega arith in
    (rw (hi, lo) e, refl)

minutes_post : (b : Bool) (p : ℕ) (s : List ℕ) → Bytes s → Post (MinutesAt b s) (minutes b p s)
unfolding minutes
minutes_post false p s bs = (refl, refl)
minutes_post true p s bs =
    then_post (ByteAt s) (MinutesAt true s) (byte p s) _ (byte_post p s) (λ high q r e.
    then_post (ByteAt r) (MinutesAt true s) (byte q r) _ (byte_post q r) (λ low q' r' f.
    if_post (MinutesAt true s) _ _ (got (256 * high + low) q' r') (λ h.
    let all : s ≡ high ∷ low ∷ r' = cc in
    let fit = subst Bytes all bs in
    some_minutes_bytes s (256 * high + low) high low r' refl all fit.1.0 (ltb-true 0 (256 * high + low) h))))

abbrev TextAt : Bool → List ℕ → List ℕ → List ℕ → Type 0
TextAt b s w r = (s ≡ text_bytes w ++ r) × (text_bit w ≡ cond b 1 0)

abbrev WholeAt : List ℕ → List ℕ → List ℕ → Type 0
WholeAt s w r = (s ≡ length w ∷ (w ++ r)) × (same w absent ≡ false)

not_denied : (b : Bool) → denied b ≡ true → b ≡ false
not_denied true h = sym h
not_denied false h = refl

text_length_post : (p : ℕ) (s : List ℕ) → Post (ByteAt s) (text_length p s)
unfolding text_length
text_length_post p s =
    then_post (ByteAt s) (ByteAt s) (byte p s) _ (byte_post p s) (λ n q r e. if_post (ByteAt s) _ _ (got n q r) (λ h. e))

whole_text_post : (p : ℕ) (s : List ℕ) → Post (WholeAt s) (whole_text p s)
unfolding whole_text
whole_text_post p s =
    then_post (ByteAt s) (WholeAt s) (text_length p s) _ (text_length_post p s) (λ n q r e.
    then_post (BytesAt n r) (WholeAt s) (bytes n q r) _ (bytes_post n q r) (λ w q' r' f.
    if_post (WholeAt s) _ _ (got w q' r') (λ h.
    let tail : r ≡ w ++ r' = f.0 in
    let size : length w ≡ n = f.1 in
    (cc, not_denied (same w absent) h))))

judged_post : (Q : List ℕ → List ℕ → Type 0) (p : ℕ) (v : TextVerdict) (x : Step (List ℕ)) → Post Q x → Post Q (judged p v x)
unfolding judged
judged_post Q p whole x h = h
judged_post Q p (stuck k) x h = tt

text_post : (b : Bool) (marks p : ℕ) (s : List ℕ) → Post (TextAt b s) (text b marks p s)
unfolding text
text_post false marks p s = (refl, refl)
text_post true marks p s =
    then_post (WholeAt s) (TextAt true s) (whole_text p s) _ (whole_text_post p s) (λ w q r e.
    judged_post (TextAt true s) (p + 1) (verdict marks w) (got w q r) (rw e.1 e.0, rw e.1 refl))

-- bytes after bytes
rest_bytes : (xs r : List ℕ) → Bytes (xs ++ r) → Bytes r
rest_bytes [] r h = h
rest_bytes (x ∷ xs) r h = rest_bytes xs r h.1

num_small : (v : ℕ) (r : List ℕ) → Bytes (number_bytes v ++ r) → v < 256
num_small zero r h = omega arith
num_small (suc v) r h = h.0

digit : (x : ℕ) → x < 2 → cond (eqb x 1) 1 0 ≡ x
digit zero h = refl
digit (suc zero) h = refl
digit (suc (suc x)) h = absurd (omega arith)

bits4 : (map : ℕ) → map < 16 → map ≡ map / 1 % 2 + 2 * (map / 2 % 2) + 4 * (map / 4 % 2) + 8 * (map / 8 % 2)
bits4 zero h = refl
bits4 (suc zero) h = refl
bits4 (suc (suc zero)) h = refl
bits4 (suc (suc (suc zero))) h = refl
bits4 (suc (suc (suc (suc zero)))) h = refl
bits4 (suc (suc (suc (suc (suc zero))))) h = refl
bits4 (suc (suc (suc (suc (suc (suc zero)))))) h = refl
bits4 (suc (suc (suc (suc (suc (suc (suc zero))))))) h = refl
bits4 (suc (suc (suc (suc (suc (suc (suc (suc zero)))))))) h = refl
bits4 (suc (suc (suc (suc (suc (suc (suc (suc (suc zero))))))))) h = refl
bits4 (suc (suc (suc (suc (suc (suc (suc (suc (suc (suc zero)))))))))) h = refl
bits4 (suc (suc (suc (suc (suc (suc (suc (suc (suc (suc (suc zero))))))))))) h = refl
bits4 (suc (suc (suc (suc (suc (suc (suc (suc (suc (suc (suc (suc zero)))))))))))) h = refl
bits4 (suc (suc (suc (suc (suc (suc (suc (suc (suc (suc (suc (suc (suc zero))))))))))))) h = refl
bits4 (suc (suc (suc (suc (suc (suc (suc (suc (suc (suc (suc (suc (suc (suc zero)))))))))))))) h = refl
bits4 (suc (suc (suc (suc (suc (suc (suc (suc (suc (suc (suc (suc (suc (suc (suc zero))))))))))))))) h = refl
bits4 (suc (suc (suc (suc (suc (suc (suc (suc (suc (suc (suc (suc (suc (suc (suc (suc x)))))))))))))))) h = absurd (omega arith)

abbrev ConditionAt : ℕ → List ℕ → ℕ → List ℕ → Type 0
ConditionAt map s c r = 1 ∷ map ∷ s ≡ condition_bytes c ++ r

condition_post : (m : Model) (at map_at map p : ℕ) (s : List ℕ) → map < 4 → Bytes s → Post (ConditionAt map s) (condition m at map_at map p s)
unfolding condition
condition_post m at map_at map p s lt bs =
    then_post (NumberAt (present map 0) s) (ConditionAt map s) _ _ (field_post (present map 0) map_at _ p s) (λ low q r e.
    then_post (NumberAt (present map 1) r) (ConditionAt map s) _ _ (field_post (present map 1) map_at _ q r) (λ high q' r' f.
    if_post (ConditionAt map s) _ _ (got (low + 256 * high) q' r') (λ _.
    let small : low < 256 = num_small low r (subst Bytes e.0 bs) in
    let lo : (low + 256 * high) % 256 ≡ low = omega arith in
    let hi : (low + 256 * high) / 256 ≡ high = omega arith in
    let b0 : bit_of low ≡ map / 1 % 2 = e.1 ∙ digit (map / 1 % 2) (omega arith) in
    let b1 : bit_of high ≡ map / 2 % 2 = f.1 ∙ digit (map / 2 % 2) (omega arith) in
    let bits : map ≡ bit_of low + 2 * bit_of high = omega arith in
    let line : s ≡ (number_bytes low ++ number_bytes high) ++ r' = e.0 ∙ ap (λ x. number_bytes low ++ x) f.0 ∙ sym (append_assoc (number_bytes low) (number_bytes high) r') in
    rw (lo, hi) (λ i. 1 ∷ bits i ∷ line i))))

abbrev MoveAt : ℕ → List ℕ → Move → List ℕ → Type 0
MoveAt map s v r = 2 ∷ map ∷ s ≡ move_bytes v ++ r

pub four : (a b c d r : List ℕ) → (a ++ (b ++ (c ++ d))) ++ r ≡ a ++ (b ++ (c ++ (d ++ r)))
four a b c d r = simp append_assoc

move_post : (m : Model) (at map_at map p : ℕ) (s : List ℕ) → map < 16 → Bytes s → Post (MoveAt map s) (move m at map_at map p s)
unfolding move
move_post m at map_at map p s lt bs =
    then_post (NumberAt (present map 0) s) (MoveAt map s) _ _ (field_post (present map 0) map_at _ p s) (λ c q1 r1 e1.
    then_post (NumberAt (present map 1) r1) (MoveAt map s) _ _ (field_post (present map 1) map_at _ q1 r1) (λ o q2 r2 e2.
    then_post (NumberAt (present map 2) r2) (MoveAt map s) _ _ (field_post (present map 2) map_at _ q2 r2) (λ u q3 r3 e3.
    let bs1 = rest_bytes (number_bytes c) r1 (subst Bytes e1.0 bs) in
    let bs2 = rest_bytes (number_bytes o) r2 (subst Bytes e2.0 bs1) in
    let bs3 = rest_bytes (number_bytes u) r3 (subst Bytes e3.0 bs2) in
    then_post (MinutesAt (present map 3) r3) (MoveAt map s) _ _ (minutes_post (present map 3) q3 r3 bs3) (λ t q4 r4 e4.
    if_post (MoveAt map s) _ _ (got (record { condition = c; operation = o; outcome = u; minutes = t }) q4 r4) (λ _.
    let b0 : bit_of c ≡ map / 1 % 2 = e1.1 ∙ digit (map / 1 % 2) (omega arith) in
    let b1 : bit_of o ≡ map / 2 % 2 = e2.1 ∙ digit (map / 2 % 2) (omega arith) in
    let b2 : bit_of u ≡ map / 4 % 2 = e3.1 ∙ digit (map / 4 % 2) (omega arith) in
    let b3 : bit_of t ≡ map / 8 % 2 = e4.1 ∙ digit (map / 8 % 2) (omega arith) in
    let bits : map ≡ bit_of c + 2 * bit_of o + 4 * bit_of u + 8 * bit_of t = bits4 map lt ∙ sym (λ i. b0 i + 2 * b1 i + 4 * b2 i + 8 * b3 i) in
    let line : s ≡ (number_bytes c ++ (number_bytes o ++ (number_bytes u ++ minutes_bytes t))) ++ r4 =
    e1.0 ∙ ap (λ x. number_bytes c ++ x) (e2.0 ∙ ap (λ x. number_bytes o ++ x) (e3.0 ∙ ap (λ x. number_bytes u ++ x) e4.0)) ∙ sym (four (number_bytes c) (number_bytes o) (number_bytes u) (minutes_bytes t) r4) in
    λ i. 2 ∷ bits i ∷ line i)))))

abbrev RequestAt : ℕ → List ℕ → RequestModel → List ℕ → Type 0
RequestAt map s w r = 3 ∷ map ∷ s ≡ request_bytes w ++ r

request_post : (m : Model) (map_at map p : ℕ) (s : List ℕ) → map < 16 → Post (RequestAt map s) (request m map_at map p s)
unfolding request
request_post m map_at map p s lt =
    then_post (NumberAt (present map 0) s) (RequestAt map s) _ _ (field_post (present map 0) map_at _ p s) (λ c q1 r1 e1.
    then_post (NumberAt (present map 1) r1) (RequestAt map s) _ _ (field_post (present map 1) map_at _ q1 r1) (λ o q2 r2 e2.
    then_post (TextAt (present map 2) r2) (RequestAt map s) _ _ (text_post (present map 2) _ q2 r2) (λ u q3 r3 e3.
    then_post (TextAt (present map 3) r3) (RequestAt map s) _ _ (text_post (present map 3) _ q3 r3) (λ t q4 r4 e4.
    let b0 : bit_of c ≡ map / 1 % 2 = e1.1 ∙ digit (map / 1 % 2) (omega arith) in
    let b1 : bit_of o ≡ map / 2 % 2 = e2.1 ∙ digit (map / 2 % 2) (omega arith) in
    let b2 : text_bit u ≡ map / 4 % 2 = e3.1 ∙ digit (map / 4 % 2) (omega arith) in
    let b3 : text_bit t ≡ map / 8 % 2 = e4.1 ∙ digit (map / 8 % 2) (omega arith) in
    let bits : map ≡ bit_of c + 2 * bit_of o + 4 * text_bit u + 8 * text_bit t = bits4 map lt ∙ sym (λ i. b0 i + 2 * b1 i + 4 * b2 i + 8 * b3 i) in
    let line : s ≡ (number_bytes c ++ (number_bytes o ++ (text_bytes u ++ text_bytes t))) ++ r4 =
    e1.0 ∙ ap (λ x. number_bytes c ++ x) (e2.0 ∙ ap (λ x. number_bytes o ++ x) (e3.0 ∙ ap (λ x. text_bytes u ++ x) e4.0)) ∙ sym (four (number_bytes c) (number_bytes o) (text_bytes u) (text_bytes t) r4) in
    λ i. 3 ∷ bits i ∷ line i))))

abbrev entry_bytes : Entry → List ℕ
entry_bytes (condition_entry c) = condition_bytes c
entry_bytes (move_entry v) = move_bytes v
entry_bytes (request_entry w) = request_bytes w

-- what the kinds before an entry leave empty
abbrev Follow : Model → Entry → Type 0
Follow m (condition_entry c) = (m.moves ≡ []) × (m.requests ≡ [])
Follow m (move_entry v) = m.requests ≡ []
Follow m (request_entry w) = Unit {0}

pub none_nil : {V : Type 0} (xs : List V) → none xs ≡ true → xs ≡ []
none_nil [] h = refl
none_nil (x ∷ xs) h = absurd (omega (arith, eqb-true (length (x ∷ xs)) 0 h))

pub both_true : (a b : Bool) → both a b ≡ true → (a ≡ true) × (b ≡ true)
both_true true b h = (refl, h)
both_true false b h = absurd (clash h)

abbrev BodyAt : Model → ℕ → ℕ → List ℕ → Entry → List ℕ → Type 0
BodyAt m k map s e r = (k ∷ map ∷ s ≡ entry_bytes e ++ r) × Follow m e

module _ (m : Model) (k at map_at map p : ℕ) (s : List ℕ) (bs : Bytes s) where
  body_by : (t u : Bool) → eqb k 1 ≡ t → eqb k 2 ≡ u → cond t (both (none m.moves) (none m.requests)) (cond u (none m.requests) (eqb k 3)) ≡ true → map < cond t 4 16 → Post (BodyAt m k map s) (cond t (and_then (condition m at map_at map p s) (λ c q r. got (condition_entry c) q r)) (cond u (and_then (move m at map_at map p s) (λ v q r. got (move_entry v) q r)) (and_then (request m map_at map p s) (λ w q r. got (request_entry w) q r))))
  body_by true u a b h lt =
      let two = both_true (none m.moves) (none m.requests) h in
      then_post (ConditionAt map s) (BodyAt m k map s) (condition m at map_at map p s) _ (condition_post m at map_at map p s lt bs) (λ c q r e.
      (ap (λ x. x ∷ map ∷ s) (eqb-true k 1 a) ∙ e, (none_nil m.moves two.0, none_nil m.requests two.1)))
  body_by false true a b h lt =
      then_post (MoveAt map s) (BodyAt m k map s) (move m at map_at map p s) _ (move_post m at map_at map p s lt bs) (λ v q r e.
      (ap (λ x. x ∷ map ∷ s) (eqb-true k 2 b) ∙ e, none_nil m.requests h))
  body_by false false a b h lt =
      then_post (RequestAt map s) (BodyAt m k map s) (request m map_at map p s) _ (request_post m map_at map p s lt) (λ w q r e.
      (ap (λ x. x ∷ map ∷ s) (eqb-true k 3 h) ∙ e, tt))

body_post : (m : Model) (h : Head) (p : ℕ) (s : List ℕ) → Bytes s → follows m h.kind ≡ true → h.map < map_limit h.kind → Post (BodyAt m h.kind h.map s) (body m h p s)
unfolding body
body_post m h p s bs f lt = body_by m h.kind h.place h.map_place h.map p s bs (eqb h.kind 1) (eqb h.kind 2) refl refl f lt

post_map : {V : Type 0} (P Q : V → List ℕ → Type 0) (x : Step V) → ((v : V) (r : List ℕ) → P v r → Q v r) → Post P x → Post Q x
post_map P Q (got v q r) f h = f v r h
post_map P Q (fault e) f h = tt

abbrev EntryAt : Model → List ℕ → Entry → List ℕ → Type 0
EntryAt m s e r = (s ≡ entry_bytes e ++ r) × Follow m e

pub admitted_post : (Q : Head → List ℕ → Type 0) (m : Model) (k p : ℕ) (x : Step Head) → (follows m k ≡ true → room m k ≡ true → Post Q x) → Post Q (admitted m k p x)
unfolding admitted
admitted_post Q m k p x h = if_post Q _ _ _ (λ f. if_post Q _ _ x (λ g. h f g))

abbrev BeginsAt : Model → List ℕ → Head → List ℕ → Type 0
BeginsAt m s h r = (s ≡ h.kind ∷ h.map ∷ r) × (follows m h.kind ≡ true) × (h.map < map_limit h.kind)

head_post : (m : Model) (p : ℕ) (s : List ℕ) → Post (BeginsAt m s) (head m p s)
unfolding head
head_post m p s =
    then_post (ByteAt s) (BeginsAt m s) (byte p s) _ (byte_post p s) (λ k q r e.
    admitted_post (BeginsAt m s) m k p _ (λ fol _.
    then_post (ByteAt r) (BeginsAt m s) (byte q r) _ (byte_post q r) (λ b q' r' f.
    if_post (BeginsAt m s) _ _ (got (record { kind = k; place = p; map = b; map_place = q }) q' r') (λ h.
    let line : s ≡ k ∷ b ∷ r' = cc in
    (line, fol, ltb-true b (map_limit k) h)))))

entry_post : (m : Model) (p : ℕ) (s : List ℕ) → Bytes s → Post (EntryAt m s) (entry m p s)
unfolding entry
entry_post m p s bs =
    then_post (BeginsAt m s) (EntryAt m s) (head m p s) _ (head_post m p s) (λ h q r e.
    let fit = subst Bytes e.0 bs in
    post_map (BodyAt m h.kind h.map r) (EntryAt m s) (body m h q r) (λ x y g. (e.0 ∙ g.0, g.1)) (body_post m h q r fit.1.1 e.1 e.2))

-- the bytes of one record more
joined_more : {V : Type 0} (f : V → List ℕ) (xs : List V) (x : V) → concatenated f (xs ++ x ∷ []) ≡ concatenated f xs ++ f x
unfolding concatenated
joined_more f [] x = append-nil (f x)
joined_more f (y ∷ xs) x = ap (λ l. f y ++ l) (joined_more f xs x) ∙ sym (append_assoc (f y) (concatenated f xs) (f x))

joined_none : {V : Type 0} (f : V → List ℕ) (xs : List V) → xs ≡ [] → concatenated f xs ≡ []
unfolding concatenated
joined_none f xs e = ap (concatenated f) e

add_bytes : (m : Model) (e : Entry) → Follow m e → records_of (add m e) ≡ records_of m ++ entry_bytes e
unfolding add
add_bytes m (condition_entry c) h =
    rw (joined_more condition_bytes m.conditions c, joined_none move_bytes m.moves h.0, joined_none request_bytes m.requests h.1) (append-nil _ ∙ sym (ap (λ l. l ++ condition_bytes c) (append-nil (concatenated condition_bytes m.conditions))))
add_bytes m (move_entry v) h =
    rw (joined_more move_bytes m.moves v, joined_none request_bytes m.requests h) (ap (λ l. concatenated condition_bytes m.conditions ++ l) (append-nil (concatenated move_bytes m.moves ++ move_bytes v)) ∙ sym (append_assoc (concatenated condition_bytes m.conditions) (concatenated move_bytes m.moves) (move_bytes v)) ∙ ap (λ l. (concatenated condition_bytes m.conditions ++ l) ++ move_bytes v) (sym (append-nil (concatenated move_bytes m.moves))))
add_bytes m (request_entry w) h =
    rw (joined_more request_bytes m.requests w) (simp append_assoc)

pub add_header : (m : Model) (e : Entry) → (add m e).header ≡ m.header
unfolding add
add_header m (condition_entry c) = refl
add_header m (move_entry v) = refl
add_header m (request_entry w) = refl

pub record Grown (m m' : Model) (s : List ℕ) : Type 0 where
  pub records : records_of m' ≡ records_of m ++ s
  pub header : m'.header ≡ m.header

finish_same : (n : ℕ) (m m' : Model) → finish n m ≡ held m' → m ≡ m'
unfolding finish
finish_same n m m' h = by (ltb m.header.condition (length m.conditions)) h
  where
    by : (t : Bool) → cond t (held m) (refused Start n) ≡ held m' → m ≡ m'
    by true e = cc
    by false e = let z : ◌≡◌ {A = ℕ} 0 1 = cc in absurd (omega arith)

grown_none : (m m' : Model) → m ≡ m' → Grown m m' []
grown_none m m' e = subst (λ x. Grown m x []) e (record { records = sym (append-nil (records_of m)); header = refl })

records_by : (fuel n : ℕ) (m : Model) (p : ℕ) (s : List ℕ) (m' : Model) → Bytes s → 0 < length s → length s ≤ suc fuel → ((e : Entry) (q : ℕ) (r : List ℕ) → Bytes r → length r ≤ fuel → records fuel (n + 1) (add m e) q r ≡ held m' → Grown (add m e) m' r) → (x : Step Entry) → entry m p s ≡ x → elim x [ got e q r ↦ records fuel (n + 1) (add m e) q r | fault z ↦ refused z n ] ≡ held m' → Grown m m' s
records_by fuel n m p s m' bs some le ih (got e q r) is h =
    let at = subst (Post (EntryAt m s)) is (entry_post m p s bs) in
    let g = ih e q r (rest_bytes (entry_bytes e) r (subst Bytes at.0 bs)) (omega (arith, entry_less m p s e q r some is)) h in
    record {
      records = g.records ∙ ap (λ l. l ++ r) (add_bytes m e at.1) ∙ append_assoc (records_of m) (entry_bytes e) r ∙ ap (λ l. records_of m ++ l) (sym at.0);
      header = g.header ∙ add_header m e;
    }
records_by fuel n m p s m' bs some le ih (fault z) is h = let y : ◌≡◌ {A = ℕ} 0 1 = cc in absurd (omega arith)

records_sound : (fuel n : ℕ) (m : Model) (p : ℕ) (s : List ℕ) (m' : Model) → Bytes s → length s ≤ fuel → records fuel n m p s ≡ held m' → Grown m m' s
unfolding records
records_sound zero n m p [] m' bs le h = grown_none m m' (finish_same n m m' h)
records_sound zero n m p (b ∷ s) m' bs le h = absurd (omega arith)
records_sound (suc fuel) n m p [] m' bs le h = grown_none m m' (finish_same n m m' h)
records_sound (suc fuel) n m p (b ∷ s) m' bs le h =
    records_by fuel n m p (b ∷ s) m' bs (omega arith) le (λ e q r x l g. records_sound fuel (n + 1) (add m e) q r m' x l g) (entry m p (b ∷ s)) refl h

-- the header's bytes
abbrev OpenAt : List ℕ → List ℕ → List ℕ → Type 0
OpenAt s w r = s ≡ opening_bytes ++ r

opening_post : (p : ℕ) (s : List ℕ) → Post (OpenAt s) (opening p s)
unfolding opening
opening_post p s =
    then_post (BytesAt 4 s) (OpenAt s) (bytes 4 p s) _ (bytes_post 4 p s) (λ w q r e.
    if_post (OpenAt s) _ _ (got w q r) (λ h. e.0 ∙ ap (λ x. x ++ r) (same_true w opening_bytes h)))

count_post : (most p : ℕ) (s : List ℕ) → Post (ByteAt s) (count most p s)
unfolding count
count_post most p s =
    then_post (ByteAt s) (ByteAt s) (byte p s) _ (byte_post p s) (λ b q r e. if_post (ByteAt s) _ _ (got b q r) (λ h. e))

stage_post : (stages p : ℕ) (s : List ℕ) → Post (ByteAt s) (start_stage stages p s)
unfolding start_stage
stage_post stages p s =
    then_post (ByteAt s) (ByteAt s) (byte p s) _ (byte_post p s) (λ b q r e. if_post (ByteAt s) _ _ (got b q r) (λ h. e))

abbrev HeadAt : List ℕ → Header → List ℕ → Type 0
HeadAt s h r = s ≡ header_of h ++ r

heading_post : (p : ℕ) (s : List ℕ) → Post (HeadAt s) (heading p s)
unfolding heading
heading_post p s =
    then_post (OpenAt s) (HeadAt s) (opening p s) _ (opening_post p s) (λ _ q0 r0 e0.
    then_post (ByteAt r0) (HeadAt s) (count 16 q0 r0) _ (count_post 16 q0 r0) (λ a q1 r1 e1.
    then_post (ByteAt r1) (HeadAt s) (count 32 q1 r1) _ (count_post 32 q1 r1) (λ b q2 r2 e2.
    then_post (ByteAt r2) (HeadAt s) (count 16 q2 r2) _ (count_post 16 q2 r2) (λ c q3 r3 e3.
    then_post (ByteAt r3) (HeadAt s) (start_stage c q3 r3) _ (stage_post c q3 r3) (λ d q4 r4 e4.
    then_post (ByteAt r4) (HeadAt s) (byte q4 r4) _ (byte_post q4 r4) (λ x q5 r5 e5.
    e0 ∙ ap (λ l. opening_bytes ++ l) (e1 ∙ ap (λ l. a ∷ l) (e2 ∙ ap (λ l. b ∷ l) (e3 ∙ ap (λ l. c ∷ l) (e4 ∙ ap (λ l. d ∷ l) e5))))))))))

reading_by : (t : List ℕ) (m : Model) → Bytes t → (x : Step Header) → heading 0 t ≡ x → elim x [ got h q r ↦ records (length t) 0 (empty h) q r | fault z ↦ refused z 0 ] ≡ held m → t ≡ sheet_of m
unfolding sheet_of concatenated
reading_by t m bs (got h q r) is e =
    let at : t ≡ header_of h ++ r = subst (Post (HeadAt t)) is (heading_post 0 t) in
    let g = records_sound (length t) 0 (empty h) q r m (rest_bytes (header_of h) r (subst Bytes at bs)) (heading_less t h q r is) e in
    at ∙ sym (λ i. header_of (g.header i) ++ g.records i)
reading_by t m bs (fault z) is e = let y : ◌≡◌ {A = ℕ} 0 1 = cc in absurd (omega arith)

-- a sheet that is taken is the sheet of the port that it tells
pub reading_sound : (t : List ℕ) (m : Model) → Bytes t → reading t ≡ held m → t ≡ sheet_of m
unfolding reading
reading_sound t m bs e = reading_by t m bs (heading 0 t) refl e

-- so no other sheet tells that port
pub reading_only : (t : List ℕ) (m : Model) → t ≡ sheet_of m → Only t m
reading_only t m e u bs h = reading_sound u m bs h ∙ sym e

-- the bytes of a slice are bytes
pub all_bytes : (t : List ℕ) → ((i : ℕ) → Fits w8 (get_or t i 0)) → Bytes t
all_bytes [] h = tt
all_bytes (b ∷ t) h = (omega (arith, h 0), all_bytes t (λ i. h (suc i)))
