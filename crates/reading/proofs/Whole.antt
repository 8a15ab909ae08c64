-- Every reader leaves no more bytes than it was given, and the records one after another.
use Rattle.std.proofs.Common.{◌≡◌, ℕ, zero, suc, ◌+◌, ◌-◌, ◌*◌, ◌<◌, ◌≤◌, Bool, true, false, cond, eqb, ltb, List, [], ◌∷◌, length, take, drop, sym, refl, ap, ◌∙◌, subst, arith, length-drop}
use Rattle.formula.specs.Grammar.{TextVerdict, whole, stuck, verdict}
use Rattle.port.specs.declared.Header.{Header}
use Rattle.port.specs.Model.{Model}
use Rattle.faults.specs.declared.layers.PortFault.{PortFault}
use Rattle.faults.specs.declared.layers.PortFault.TheVariants.{Start}
use Rattle.reading.specs.Reading.{Step, got, fault, and_then, provided, byte, bytes, number, field, minutes, text_length, whole_text, judged, text, condition, move, request, Head, admitted, head, body, entry, opening, count, start_stage, heading, Entry, add, empty, held, refused, finish, records, reading}

-- no more than n bytes are left
abbrev Below : {V : Type 0} → ℕ → Step V → Type 0
Below n (got v q r) = length r ≤ n
Below n (fault e) = Unit {0}

then_below : {V W : Type 0} (n : ℕ) (x : Step V) (k : V → ℕ → List ℕ → Step W) → Below n x → ((v : V) (q : ℕ) (r : List ℕ) → length r ≤ n → Below n (k v q r)) → Below n (and_then x k)
unfolding and_then
then_below n (got v q r) k h f = f v q r h
then_below n (fault e) k h f = tt

if_below : {V : Type 0} (n : ℕ) (b : Bool) (e : PortFault) (x : Step V) → Below n x → Below n (provided b e x)
unfolding provided
if_below n true e x h = h
if_below n false e x h = tt

byte_less : (n p : ℕ) (s : List ℕ) → length s ≤ suc n → Below n (byte p s)
unfolding byte
byte_less n p [] h = tt
byte_less n p (b ∷ s) h = omega arith

byte_below : (n p : ℕ) (s : List ℕ) → length s ≤ n → Below n (byte p s)
byte_below n p s h = byte_less n p s (omega arith)

bytes_below : (n k p : ℕ) (s : List ℕ) → length s ≤ n → Below n (bytes k p s)
unfolding bytes
bytes_below n k p s h = if_below n _ _ (got (take k s) (p + k) (drop k s)) (simp length-drop (omega arith))

number_below : (n : ℕ) (b : Bool) (p : ℕ) (s : List ℕ) → length s ≤ n → Below n (number b p s)
unfolding number
number_below n false p s h = h
number_below n true p s h = then_below n (byte p s) _ (byte_below n p s h) (λ v q r l. if_below n _ _ (got v q r) l)

field_below : (n : ℕ) (b : Bool) (at limit p : ℕ) (s : List ℕ) → length s ≤ n → Below n (field b at limit p s)
unfolding field
field_below n b at limit p s h =
    then_below n (number b p s) _ (number_below n b p s h) (λ v q r l. if_below n _ _ (got v q r) l)

minutes_below : (n : ℕ) (b : Bool) (p : ℕ) (s : List ℕ) → length s ≤ n → Below n (minutes b p s)
unfolding minutes
minutes_below n false p s h = h
minutes_below n true p s h =
    then_below n (byte p s) _ (byte_below n p s h) (λ high q r l.
    then_below n (byte q r) _ (byte_below n q r l) (λ low q r l. if_below n _ _ (got (256 * high + low) q r) l))

whole_text_below : (n p : ℕ) (s : List ℕ) → length s ≤ n → Below n (whole_text p s)
unfolding whole_text text_length
whole_text_below n p s h =
    then_below n (text_length p s) _ (then_below n (byte p s) _ (byte_below n p s h) (λ k q r l. if_below n _ _ (got k q r) l)) (λ k q r l.
    then_below n (bytes k q r) _ (bytes_below n k q r l) (λ w q r l. if_below n _ _ (got w q r) l))

judged_below : (n p : ℕ) (v : TextVerdict) (x : Step (List ℕ)) → Below n x → Below n (judged p v x)
unfolding judged
judged_below n p whole x h = h
judged_below n p (stuck k) x h = tt

text_below : (n : ℕ) (b : Bool) (marks p : ℕ) (s : List ℕ) → length s ≤ n → Below n (text b marks p s)
unfolding text
text_below n false marks p s h = h
text_below n true marks p s h =
    then_below n (whole_text p s) _ (whole_text_below n p s h) (λ w q r l. judged_below n (p + 1) (verdict marks w) (got w q r) l)

condition_below : (n : ℕ) (m : Model) (at map_at map p : ℕ) (s : List ℕ) → length s ≤ n → Below n (condition m at map_at map p s)
unfolding condition
condition_below n m at map_at map p s h =
    then_below n _ _ (field_below n _ map_at _ p s h) (λ low q r l.
    then_below n _ _ (field_below n _ map_at _ q r l) (λ high q r l. if_below n _ _ (got (low + 256 * high) q r) l))

move_below : (n : ℕ) (m : Model) (at map_at map p : ℕ) (s : List ℕ) → length s ≤ n → Below n (move m at map_at map p s)
unfolding move
move_below n m at map_at map p s h =
    then_below n _ _ (field_below n _ map_at _ p s h) (λ c q r l.
    then_below n _ _ (field_below n _ map_at _ q r l) (λ o q r l.
    then_below n _ _ (field_below n _ map_at _ q r l) (λ u q r l.
    then_below n _ _ (minutes_below n _ q r l) (λ t q r l. if_below n _ _ (got (record { condition = c; operation = o; outcome = u; minutes = t }) q r) l))))

request_below : (n : ℕ) (m : Model) (map_at map p : ℕ) (s : List ℕ) → length s ≤ n → Below n (request m map_at map p s)
unfolding request
request_below n m map_at map p s h =
    then_below n _ _ (field_below n _ map_at _ p s h) (λ f q r l.
    then_below n _ _ (field_below n _ map_at _ q r l) (λ t q r l.
    then_below n _ _ (text_below n _ _ q r l) (λ k q r l.
    then_below n _ _ (text_below n _ _ q r l) (λ w q r l. l))))

cond_below : {V : Type 0} (n : ℕ) (b : Bool) (x y : Step V) → Below n x → Below n y → Below n (cond b x y)
cond_below n true x y h g = h
cond_below n false x y h g = g

body_below : (n : ℕ) (m : Model) (h : Head) (p : ℕ) (s : List ℕ) → length s ≤ n → Below n (body m h p s)
unfolding body
body_below n m h p s l =
    cond_below n (eqb h.kind 1) _ _ (then_below n (condition m h.place h.map_place h.map p s) _ (condition_below n m h.place h.map_place h.map p s l) (λ v q r l. l)) (
    cond_below n (eqb h.kind 2) _ _ (then_below n (move m h.place h.map_place h.map p s) _ (move_below n m h.place h.map_place h.map p s l) (λ v q r l. l)) (
    then_below n (request m h.map_place h.map p s) _ (request_below n m h.map_place h.map p s l) (λ v q r l. l)))

admitted_below : (n : ℕ) (m : Model) (k p : ℕ) (x : Step Head) → Below n x → Below n (admitted m k p x)
unfolding admitted
admitted_below n m k p x h = if_below n _ _ _ (if_below n _ _ x h)

head_below : (n : ℕ) (m : Model) (p : ℕ) (s : List ℕ) → length s ≤ suc n → Below n (head m p s)
unfolding head
head_below n m p s h =
    then_below n (byte p s) _ (byte_less n p s h) (λ k q r l.
    admitted_below n m k p _ (
    then_below n (byte q r) _ (byte_below n q r l) (λ b q' r' l.
    if_below n _ _ (got (record { kind = k; place = p; map = b; map_place = q }) q' r') l)))

entry_below : (n : ℕ) (m : Model) (p : ℕ) (s : List ℕ) → length s ≤ suc n → Below n (entry m p s)
unfolding entry
entry_below n m p s h = then_below n (head m p s) _ (head_below n m p s h) (λ x q r l. body_below n m x q r l)

-- one record more
got_below : {V : Type 0} (n : ℕ) (x : Step V) (v : V) (q : ℕ) (r : List ℕ) → x ≡ got v q r → Below n x → length r ≤ n
got_below {V} n x v q r e h = subst (λ (y : Step V). Below n y) e h

pub entry_less : (m : Model) (p : ℕ) (s : List ℕ) (e : Entry) (q : ℕ) (r : List ℕ) → 0 < length s → entry m p s ≡ got e q r → length r < length s
entry_less m p s e q r some h = omega (arith, got_below (length s - 1) (entry m p s) e q r h (entry_below (length s - 1) m p s (omega arith)))

pub records_more : (fuel n : ℕ) (m : Model) (p : ℕ) (s : List ℕ) (e : Entry) (q : ℕ) (r : List ℕ) → 0 < length s → length s ≤ fuel → entry m p s ≡ got e q r → (more : ℕ) × (length r ≤ more) × (records fuel n m p s ≡ records more (n + 1) (add m e) q r)
unfolding records
records_more zero n m p s e q r some le h = absurd (omega arith)
records_more (suc fuel) n m p [] e q r some le h = absurd (omega arith)
records_more (suc fuel) n m p (b ∷ s) e q r some le h =
    (fuel, omega (arith, entry_less m p (b ∷ s) e q r some h), ap (λ x. elim x [ got e q r ↦ records fuel (n + 1) (add m e) q r | fault x ↦ refused x n ]) h)

pub records_fault : (fuel n : ℕ) (m : Model) (p : ℕ) (s : List ℕ) (x : PortFault) → 0 < length s → length s ≤ fuel → entry m p s ≡ fault x → records fuel n m p s ≡ refused x n
unfolding records
records_fault zero n m p s x some le h = absurd (omega arith)
records_fault (suc fuel) n m p [] x some le h = absurd (omega arith)
records_fault (suc fuel) n m p (b ∷ s) x some le h =
    ap (λ x. elim x [ got e q r ↦ records fuel (n + 1) (add m e) q r | fault x ↦ refused x n ]) h

pub records_end : (fuel n : ℕ) (m : Model) (p : ℕ) (s : List ℕ) → length s ≤ 0 → records fuel n m p s ≡ finish n m
unfolding records
records_end zero n m p s h = refl
records_end (suc fuel) n m p [] h = refl
records_end (suc fuel) n m p (b ∷ s) h = absurd (omega arith)

-- the header
heading_below : (n p : ℕ) (s : List ℕ) → length s ≤ n → Below n (heading p s)
unfolding heading opening count start_stage
heading_below n p s h =
    then_below n _ _ (then_below n (bytes 4 p s) _ (bytes_below n 4 p s h) (λ w q r l. if_below n _ _ (got w q r) l)) (λ _ q r l.
    then_below n _ _ (then_below n (byte q r) _ (byte_below n q r l) (λ b q r l. if_below n _ _ (got b q r) l)) (λ _ q r l.
    then_below n _ _ (then_below n (byte q r) _ (byte_below n q r l) (λ b q r l. if_below n _ _ (got b q r) l)) (λ _ q r l.
    then_below n _ _ (then_below n (byte q r) _ (byte_below n q r l) (λ b q r l. if_below n _ _ (got b q r) l)) (λ _ q r l.
    then_below n _ _ (then_below n (byte q r) _ (byte_below n q r l) (λ b q r l. if_below n _ _ (got b q r) l)) (λ _ q r l.
    then_below n _ _ (byte_below n q r l) (λ _ q r l. l))))))

pub heading_less : (t : List ℕ) (h : Header) (q : ℕ) (r : List ℕ) → heading 0 t ≡ got h q r → length r ≤ length t
heading_less t h q r e = got_below (length t) (heading 0 t) h q r e (heading_below (length t) 0 t (omega arith))

pub reading_got : (t : List ℕ) (h : Header) (q : ℕ) (r : List ℕ) → heading 0 t ≡ got h q r → reading t ≡ records (length t) 0 (empty h) q r
unfolding reading
reading_got t h q r e =
    ap (λ x. elim x [ got h q r ↦ records (length t) 0 (empty h) q r | fault x ↦ refused x 0 ]) e

pub reading_fault : (t : List ℕ) (x : PortFault) → heading 0 t ≡ fault x → reading t ≡ refused x 0
unfolding reading
reading_fault t x e =
    ap (λ x. elim x [ got h q r ↦ records (length t) 0 (empty h) q r | fault x ↦ refused x 0 ]) e

pub finish_held : (n : ℕ) (m : Model) → ltb m.header.condition (length m.conditions) ≡ true → finish n m ≡ held m
unfolding finish
finish_held n m h = rw h refl

pub finish_start : (n : ℕ) (m : Model) → ltb m.header.condition (length m.conditions) ≡ false → finish n m ≡ refused Start n
unfolding finish
finish_start n m h = rw h refl

-- the reading of a whole sheet, from what was read of its header and of its records
pub heading_from : {p : ℕ} {s : List ℕ} (t : List ℕ) (x : Step Header) → p ≡ 0 → s ≡ t → heading p s ≡ x → heading 0 t ≡ x
heading_from t x e f h = sym (λ i. heading (e i) (f i)) ∙ h
