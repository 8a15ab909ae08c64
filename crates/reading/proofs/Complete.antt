-- The bytes of a record that may follow are read as that record.
use Rattle.std.proofs.Common.{◌≡◌, ℕ, zero, suc, ◌+◌, ◌*◌, ◌/◌, ◌%◌, ◌<◌, ◌≤◌, Bool, true, false, cond, eqb, ltb, leb, List, [], ◌∷◌, ◌++◌, length, sym, refl, ap, ◌∙◌, subst, append_assoc, append-nil, arith, length-append, lt-ltb, le-leb}
use lib.Seq.{take-append_seam, drop-append_seam}
use Rattle.formula.specs.Grammar.{verdict, both}
use Rattle.port.specs.declared.Move.{Move}
use Rattle.port.specs.Model.{Model, RequestModel}
use Rattle.reading.specs.Reading.{Step, got, and_then, byte, bytes, number, field, minutes, text_length, whole_text, text, absent, same, denied, rises, low_limit, high_limit, condition, move, request, follows, room, map_limit, Head, admitted, head, body, entry, opening_bytes, opening, count, start_stage, heading, Entry, condition_entry, move_entry, request_entry, add, held, records, reading}
use mathlib.Core.List as List
use Rattle.reading.specs.SheetOf.{number_bytes, minutes_bytes, text_bytes, bit_of, text_bit, condition_bytes, move_bytes, request_bytes, concatenated, records_of, header_of, sheet_of}
use Rattle.port.specs.Limits.{TextOk, key}
use Rattle.port.specs.Valid.{Valid}
use Rattle.reading.proofs.Limited.{Conditions, Moves, Requests, conditions_one_by_one, moves_one_by_one, requests_one_by_one, formula_whole}
use Rattle.port.specs.declared.Header.{Header}
use Rattle.reading.proofs.Sound.{four}
use Rattle.reading.proofs.Whole.{records_more, records_end, finish_held, reading_got, heading_less}
use Rattle.reading.proofs.Steps.{then_got, passed, same_true, judged_whole}

-- the value v is read, and the bytes r are left
abbrev Gets : {V : Type 0} → Step V → V → List ℕ → Type 0
Gets x v r = (q : ℕ) × (x ≡ got v q r)

then_gets : {V W : Type 0} (x : Step V) (k : V → ℕ → List ℕ → Step W) (v : V) (r : List ℕ) (w : W) (s : List ℕ) → Gets x v r → ((q : ℕ) → Gets (k v q r) w s) → Gets (and_then x k) w s
then_gets x k v r w s g f = ((f g.0).0, then_got k g.1 ∙ (f g.0).1)

byte_gets : (b p : ℕ) (r : List ℕ) → Gets (byte p (b ∷ r)) b r
unfolding byte
byte_gets b p r = (p + 1, refl)

bytes_gets : (w : List ℕ) (p : ℕ) (r : List ℕ) → Gets (bytes (length w) p (w ++ r)) w r
unfolding bytes
bytes_gets w p r =
    (p + length w, passed _ _ (le-leb _ _ (simp length-append (omega arith))) ∙ (λ i. got (take-append_seam w r i) (p + length w) (drop-append_seam w r i)))

number_gets : (b : Bool) (v p : ℕ) (r : List ℕ) → bit_of v ≡ cond b 1 0 → Gets (number b p (number_bytes v ++ r)) v r
unfolding number
number_gets false zero p r h = (p, refl)
number_gets false (suc v) p r h = absurd (omega arith)
number_gets true zero p r h = absurd (omega arith)
number_gets true (suc v) p r h =
    then_gets (byte p (suc v ∷ r)) _ (suc v) r (suc v) r (byte_gets (suc v) p r) (λ q. (q, passed _ _ (lt-ltb 0 (suc v) (omega arith))))

field_gets : (b : Bool) (at limit v p : ℕ) (r : List ℕ) → bit_of v ≡ cond b 1 0 → v < limit → Gets (field b at limit p (number_bytes v ++ r)) v r
unfolding field
field_gets b at limit v p r h lt =
    then_gets (number b p (number_bytes v ++ r)) _ v r v r (number_gets b v p r h) (λ q. (q, passed _ _ (lt-ltb v limit lt)))

minutes_gets : (b : Bool) (v p : ℕ) (r : List ℕ) → bit_of v ≡ cond b 1 0 → Gets (minutes b p (minutes_bytes v ++ r)) v r
unfolding minutes
minutes_gets false zero p r h = (p, refl)
minutes_gets false (suc v) p r h = absurd (omega arith)
minutes_gets true zero p r h = absurd (omega arith)
minutes_gets true (suc v) p r h =
    let is : 256 * (suc v / 256) + suc v % 256 ≡ suc v = omega arith in
    then_gets (byte p (suc v / 256 ∷ suc v % 256 ∷ r)) _ (suc v / 256) (suc v % 256 ∷ r) (suc v) r (byte_gets (suc v / 256) p (suc v % 256 ∷ r)) (λ q.
    then_gets (byte q (suc v % 256 ∷ r)) _ (suc v % 256) r (suc v) r (byte_gets (suc v % 256) q r) (λ q'.
    (q', passed _ _ (lt-ltb 0 _ (omega arith)) ∙ ap (λ x. got x q' r) is)))

fits_text : (marks : ℕ) (w : List ℕ) → TextOk marks w → both (ltb 0 (length w)) (leb (length w) 63) ≡ true
fits_text marks w ok = rw (lt-ltb 0 (length w) ok.0, le-leb (length w) 63 ok.1) refl

text_by : (t b : Bool) (marks : ℕ) (w : List ℕ) (p : ℕ) (r : List ℕ) → same w absent ≡ t → ◌≡◌ {A = ℕ} (cond t 0 1) (cond b 1 0) → TextOk marks w → Gets (text b marks p (cond t [] (length w ∷ w) ++ r)) w r
unfolding text whole_text text_length
text_by true false marks w p r is h ok = (p, ap (λ x. got x p r) (sym (same_true w absent is)))
text_by true true marks w p r is h ok = absurd (omega arith)
text_by false false marks w p r is h ok = absurd (omega arith)
text_by false true marks w p r is h ok =
    then_gets (whole_text p (length w ∷ (w ++ r))) _ w r w r
    (then_gets (text_length p (length w ∷ (w ++ r))) _ (length w) (w ++ r) w r (then_gets (byte p (length w ∷ (w ++ r))) _ (length w) (w ++ r) (length w) (w ++ r) (byte_gets (length w) p (w ++ r)) (λ q. (q, passed _ _ (fits_text marks w ok)))) (λ q.
    then_gets (bytes (length w) q (w ++ r)) _ w r w r (bytes_gets w q r) (λ q'. (q', passed _ _ (ap denied is)))))
    (λ q. (q, judged_whole _ _ _ (formula_whole (verdict marks w) ok.2)))

text_gets : (b : Bool) (marks : ℕ) (w : List ℕ) (p : ℕ) (r : List ℕ) → text_bit w ≡ cond b 1 0 → TextOk marks w → Gets (text b marks p (text_bytes w ++ r)) w r
text_gets b marks w p r h ok = text_by (same w absent) b marks w p r refl h ok

-- the bits of a map
bit_small : (v : ℕ) → bit_of v ≤ 1
bit_small zero = omega arith
bit_small (suc v) = omega arith

text_small : (w : List ℕ) → text_bit w ≤ 1
text_small w = elim (same w absent) as (λ t. cond t 0 1 ≤ 1) [ true ↦ omega arith | false ↦ omega arith ]

digit : (x y : ℕ) → x ≤ 1 → y ≡ x → x ≡ cond (eqb y 1) 1 0
digit zero y h e = rw e refl
digit (suc zero) y h e = rw e refl
digit (suc (suc x)) y h e = absurd (omega arith)

module _ (a b c d : ℕ) (ha : a ≤ 1) (hb : b ≤ 1) (hc : c ≤ 1) (hd : d ≤ 1) where
  bit0 : a ≡ cond (eqb ((a + 2 * b + 4 * c + 8 * d) / 1 % 2) 1) 1 0
  bit0 = digit a _ ha (omega arith)

  bit1 : b ≡ cond (eqb ((a + 2 * b + 4 * c + 8 * d) / 2 % 2) 1) 1 0
  bit1 = digit b _ hb (let h : (a + 2 * b + 4 * c + 8 * d) / 2 ≡ b + 2 * c + 4 * d = omega arith in omega arith)

  bit2 : c ≡ cond (eqb ((a + 2 * b + 4 * c + 8 * d) / 4 % 2) 1) 1 0
  bit2 = digit c _ hc (let h : (a + 2 * b + 4 * c + 8 * d) / 4 ≡ c + 2 * d = omega arith in omega arith)

  bit3 : d ≡ cond (eqb ((a + 2 * b + 4 * c + 8 * d) / 8 % 2) 1) 1 0
  bit3 = digit d _ hd (let h : (a + 2 * b + 4 * c + 8 * d) / 8 ≡ d = omega arith in omega arith)

second_bit : (a b : ℕ) → a ≤ 1 → b ≤ 1 → (a + 2 * b) / 2 % 2 ≡ b
second_bit a b ha hb = let h : (a + 2 * b) / 2 ≡ b = omega arith in omega arith

-- the fields of a condition, a move and a request
condition_gets : (m : Model) (at map_at c p : ℕ) (r : List ℕ) → c % 256 < low_limit m.header.marks → c / 256 < high_limit m.header.marks → rises m.conditions c ≡ true → Gets (condition m at map_at (bit_of (c % 256) + 2 * bit_of (c / 256)) p ((number_bytes (c % 256) ++ number_bytes (c / 256)) ++ r)) c r
unfolding condition
condition_gets m at map_at c p r l h up =
    let is : c % 256 + 256 * (c / 256) ≡ c = omega arith in
    let s0 = bit_small (c % 256) in
    let s1 = bit_small (c / 256) in
    let m0 : (bit_of (c % 256) + 2 * bit_of (c / 256)) / 1 % 2 ≡ bit_of (c % 256) = omega arith in
    let m1 : (bit_of (c % 256) + 2 * bit_of (c / 256)) / 2 % 2 ≡ bit_of (c / 256) = second_bit _ _ s0 s1 in
    rw (append_assoc (number_bytes (c % 256)) (number_bytes (c / 256)) r) (
    then_gets _ _ (c % 256) (number_bytes (c / 256) ++ r) c r (field_gets _ map_at _ (c % 256) p (number_bytes (c / 256) ++ r) (digit _ _ s0 m0) l) (λ q.
    then_gets _ _ (c / 256) r c r (field_gets _ map_at _ (c / 256) q r (digit _ _ s1 m1) h) (λ q'.
    (q', passed _ _ (ap (rises m.conditions) is ∙ up) ∙ ap (λ x. got x q' r) is))))

move_gets : (m : Model) (at map_at : ℕ) (v : Move) (p : ℕ) (r : List ℕ) → v.condition < length m.conditions → v.operation < m.header.operations → v.outcome < length m.conditions → rises (List.map key m.moves) (key v) ≡ true → Gets (move m at map_at (bit_of v.condition + 2 * bit_of v.operation + 4 * bit_of v.outcome + 8 * bit_of v.minutes) p ((number_bytes v.condition ++ (number_bytes v.operation ++ (number_bytes v.outcome ++ minutes_bytes v.minutes))) ++ r)) v r
unfolding move
move_gets m at map_at v p r h1 h2 h3 up =
    let s0 = bit_small v.condition in
    let s1 = bit_small v.operation in
    let s2 = bit_small v.outcome in
    let s3 = bit_small v.minutes in
    rw (four (number_bytes v.condition) (number_bytes v.operation) (number_bytes v.outcome) (minutes_bytes v.minutes) r) (
    then_gets _ _ v.condition _ v r (field_gets _ map_at _ v.condition p _ (bit0 _ _ _ _ s0 s1 s2 s3) h1) (λ q1.
    then_gets _ _ v.operation _ v r (field_gets _ map_at _ v.operation q1 _ (bit1 _ _ _ _ s0 s1 s2 s3) h2) (λ q2.
    then_gets _ _ v.outcome _ v r (field_gets _ map_at _ v.outcome q2 _ (bit2 _ _ _ _ s0 s1 s2 s3) h3) (λ q3.
    then_gets _ _ v.minutes r v r (minutes_gets _ v.minutes q3 r (bit3 _ _ _ _ s0 s1 s2 s3)) (λ q4.
    (q4, passed _ _ up))))))

request_gets : (m : Model) (map_at : ℕ) (w : RequestModel) (p : ℕ) (r : List ℕ) → w.from < m.header.stages → w.to < m.header.stages → TextOk m.header.marks w.keep → TextOk m.header.marks w.reach → Gets (request m map_at (bit_of w.from + 2 * bit_of w.to + 4 * text_bit w.keep + 8 * text_bit w.reach) p ((number_bytes w.from ++ (number_bytes w.to ++ (text_bytes w.keep ++ text_bytes w.reach))) ++ r)) w r
unfolding request
request_gets m map_at w p r h1 h2 h3 h4 =
    let s0 = bit_small w.from in
    let s1 = bit_small w.to in
    let s2 = text_small w.keep in
    let s3 = text_small w.reach in
    rw (four (number_bytes w.from) (number_bytes w.to) (text_bytes w.keep) (text_bytes w.reach) r) (
    then_gets _ _ w.from _ w r (field_gets _ map_at _ w.from p _ (bit0 _ _ _ _ s0 s1 s2 s3) h1) (λ q1.
    then_gets _ _ w.to _ w r (field_gets _ map_at _ w.to q1 _ (bit1 _ _ _ _ s0 s1 s2 s3) h2) (λ q2.
    then_gets _ _ w.keep _ w r (text_gets _ _ w.keep q2 _ (bit2 _ _ _ _ s0 s1 s2 s3) h3) (λ q3.
    then_gets _ _ w.reach r w r (text_gets _ _ w.reach q3 r (bit3 _ _ _ _ s0 s1 s2 s3) h4) (λ q4.
    (q4, refl))))))

head_gets : (m : Model) (k map p : ℕ) (s : List ℕ) → follows m k ≡ true → room m k ≡ true → map < map_limit k → Gets (head m p (k ∷ map ∷ s)) (record { kind = k; place = p; map = map; map_place = p + 1 }) s
unfolding head admitted byte and_then
head_gets m k map p s fol roomy lt =
    (p + 1 + 1, passed _ _ fol ∙ passed _ _ roomy ∙ passed _ _ (lt-ltb map (map_limit k) lt))

entry_gets : (m : Model) (k map p : ℕ) (s : List ℕ) (e : Entry) (r : List ℕ) → follows m k ≡ true → room m k ≡ true → map < map_limit k → ((at map_at q : ℕ) → Gets (body m (record { kind = k; place = at; map = map; map_place = map_at }) q s) e r) → Gets (entry m p (k ∷ map ∷ s)) e r
unfolding entry
entry_gets m k map p s e r fol roomy lt f =
    let h : Head = record { kind = k; place = p; map = map; map_place = p + 1 } in
    then_gets (head m p (k ∷ map ∷ s)) _ h s e r
    (head_gets m k map p s fol roomy lt)
    (λ q. f p (p + 1) q)

abbrev model : Header → List ℕ → List Move → List RequestModel → Model
model h cs vs ws = record { header = h; conditions = cs; moves = vs; requests = ws }

-- the records from place p on come down to those from q on
pub record Comes (m m' : Model) (fuel n p : ℕ) (s r : List ℕ) : Type 0 where
  pub more : ℕ
  pub count : ℕ
  pub place : ℕ
  pub enough : length r ≤ more
  pub same : records fuel n m p s ≡ records more count m' place r

comes_none : (m : Model) (fuel n p : ℕ) (s : List ℕ) → length s ≤ fuel → Comes m m fuel n p s s
comes_none m fuel n p s le = record { more = fuel; count = n; place = p; enough = le; same = refl }

comes_one : (m : Model) (e : Entry) (fuel n p : ℕ) (s r : List ℕ) → 0 < length s → length s ≤ fuel → Gets (entry m p s) e r → Comes m (add m e) fuel n p s r
comes_one m e fuel n p s r some le g =
    let x = records_more fuel n m p s e g.0 r some le g.1 in
    record { more = x.0; count = n + 1; place = g.0; enough = x.1; same = x.2 }

comes_on : (m m' m'' : Model) (fuel n p : ℕ) (s r t : List ℕ) → (c : Comes m m' fuel n p s r) → Comes m' m'' c.more c.count c.place r t → Comes m m'' fuel n p s t
comes_on m m' m'' fuel n p s r t c d =
    record { more = d.more; count = d.count; place = d.place; enough = d.enough; same = c.same ∙ d.same }

come_step : (m m'' : Model) (e : Entry) (b tail rest : List ℕ) (fuel n p : ℕ) → 0 < length b → length ((b ++ tail) ++ rest) ≤ fuel → Gets (entry m p (b ++ (tail ++ rest))) e (tail ++ rest) → ((fuel n p : ℕ) → length (tail ++ rest) ≤ fuel → Comes (add m e) m'' fuel n p (tail ++ rest) rest) → Comes m m'' fuel n p ((b ++ tail) ++ rest) rest
come_step m m'' e b tail rest fuel n p some le g f =
    let line = append_assoc b tail rest in
    let one = comes_one m e fuel n p (b ++ (tail ++ rest)) (tail ++ rest) (simp length-append (omega arith)) (subst (λ x. length x ≤ fuel) line le) g in
    subst (λ x. Comes m m'' fuel n p x rest) (sym line) (comes_on m (add m e) m'' fuel n p (b ++ (tail ++ rest)) (tail ++ rest) rest one (f one.more one.count one.place one.enough))

conditions_come : (h : Header) (old cs : List ℕ) (fuel n p : ℕ) (rest : List ℕ) → Conditions h.marks old cs → length (concatenated condition_bytes cs ++ rest) ≤ fuel → Comes (model h old [] []) (model h (old ++ cs) [] []) fuel n p (concatenated condition_bytes cs ++ rest) rest
unfolding concatenated add body
conditions_come h old [] fuel n p rest ok le = rw (append-nil old) (comes_none _ fuel n p rest le)
conditions_come h old (c ∷ cs) fuel n p rest ok le =
    let s0 = bit_small (c % 256) in
    let s1 = bit_small (c / 256) in
    let tail = concatenated condition_bytes cs ++ rest in
    come_step (model h old [] []) (model h (old ++ c ∷ cs) [] []) (condition_entry c) (condition_bytes c) (concatenated condition_bytes cs) rest fuel n p (omega arith) le
    (entry_gets (model h old [] []) 1 (bit_of (c % 256) + 2 * bit_of (c / 256)) p ((number_bytes (c % 256) ++ number_bytes (c / 256)) ++ tail) (condition_entry c) tail refl (lt-ltb (length old) 256 ok.0) (omega arith)
    (λ at map_at q. then_gets _ _ c tail (condition_entry c) tail (condition_gets (model h old [] []) at map_at c q tail ok.1 ok.2 ok.3) (λ q'. (q', refl))))
    (λ f k o l. subst (λ x. Comes (model h (old ++ c ∷ []) [] []) (model h x [] []) f k o tail rest) (append_assoc old (c ∷ []) cs) (conditions_come h (old ++ c ∷ []) cs f k o rest ok.4 l))

moves_come : (h : Header) (cs : List ℕ) (old vs : List Move) (fuel n p : ℕ) (rest : List ℕ) → Moves h.operations (length cs) old vs → length (concatenated move_bytes vs ++ rest) ≤ fuel → Comes (model h cs old []) (model h cs (old ++ vs) []) fuel n p (concatenated move_bytes vs ++ rest) rest
unfolding concatenated add body
moves_come h cs old [] fuel n p rest ok le = rw (append-nil old) (comes_none _ fuel n p rest le)
moves_come h cs old (v ∷ vs) fuel n p rest ok le =
    let s0 = bit_small v.condition in
    let s1 = bit_small v.operation in
    let s2 = bit_small v.outcome in
    let s3 = bit_small v.minutes in
    let tail = concatenated move_bytes vs ++ rest in
    come_step (model h cs old []) (model h cs (old ++ v ∷ vs) []) (move_entry v) (move_bytes v) (concatenated move_bytes vs) rest fuel n p (omega arith) le
    (entry_gets (model h cs old []) 2 (bit_of v.condition + 2 * bit_of v.operation + 4 * bit_of v.outcome + 8 * bit_of v.minutes) p ((number_bytes v.condition ++ (number_bytes v.operation ++ (number_bytes v.outcome ++ minutes_bytes v.minutes))) ++ tail) (move_entry v) tail refl (lt-ltb (length old) 4096 ok.0) (omega arith)
    (λ at map_at q. then_gets _ _ v tail (move_entry v) tail (move_gets (model h cs old []) at map_at v q tail ok.1 ok.2 ok.3 ok.4) (λ q'. (q', refl))))
    (λ f k o l. subst (λ x. Comes (model h cs (old ++ v ∷ []) []) (model h cs x []) f k o tail rest) (append_assoc old (v ∷ []) vs) (moves_come h cs (old ++ v ∷ []) vs f k o rest ok.5 l))

requests_come : (h : Header) (cs : List ℕ) (vs : List Move) (old ws : List RequestModel) (fuel n p : ℕ) (rest : List ℕ) → Requests h.marks h.stages old ws → length (concatenated request_bytes ws ++ rest) ≤ fuel → Comes (model h cs vs old) (model h cs vs (old ++ ws)) fuel n p (concatenated request_bytes ws ++ rest) rest
unfolding concatenated add body
requests_come h cs vs old [] fuel n p rest ok le = rw (append-nil old) (comes_none _ fuel n p rest le)
requests_come h cs vs old (w ∷ ws) fuel n p rest ok le =
    let s0 = bit_small w.from in
    let s1 = bit_small w.to in
    let s2 = text_small w.keep in
    let s3 = text_small w.reach in
    let tail = concatenated request_bytes ws ++ rest in
    come_step (model h cs vs old) (model h cs vs (old ++ w ∷ ws)) (request_entry w) (request_bytes w) (concatenated request_bytes ws) rest fuel n p (omega arith) le
    (entry_gets (model h cs vs old) 3 (bit_of w.from + 2 * bit_of w.to + 4 * text_bit w.keep + 8 * text_bit w.reach) p ((number_bytes w.from ++ (number_bytes w.to ++ (text_bytes w.keep ++ text_bytes w.reach))) ++ tail) (request_entry w) tail refl (lt-ltb (length old) 32 ok.0) (omega arith)
    (λ at map_at q. then_gets _ _ w tail (request_entry w) tail (request_gets (model h cs vs old) map_at w q tail ok.1 ok.2 ok.3 ok.4) (λ q'. (q', refl))))
    (λ f k o l. subst (λ x. Comes (model h cs vs (old ++ w ∷ [])) (model h cs vs x) f k o tail rest) (append_assoc old (w ∷ []) ws) (requests_come h cs vs (old ++ w ∷ []) ws f k o rest ok.5 l))

count_gets : (most v p : ℕ) (r : List ℕ) → 0 < v → v ≤ most → Gets (count most p (v ∷ r)) v r
unfolding count
count_gets most v p r some few =
    then_gets (byte p (v ∷ r)) _ v r v r (byte_gets v p r) (λ q. (q, passed _ _ (rw (lt-ltb 0 v some, le-leb v most few) refl)))

heading_gets : (m : Model) (r : List ℕ) → Valid m → Gets (heading 0 (header_of m.header ++ r)) m.header r
unfolding heading opening start_stage
heading_gets m r ok =
    let h = m.header in
    let r4 = h.condition ∷ r in
    let r3 = h.stage ∷ r4 in
    let r2 = h.stages ∷ r3 in
    let r1 = h.operations ∷ r2 in
    let r0 = h.marks ∷ r1 in
    then_gets (opening 0 (opening_bytes ++ r0)) _ opening_bytes r0 h r (then_gets (bytes 4 0 (opening_bytes ++ r0)) _ opening_bytes r0 opening_bytes r0 (bytes_gets opening_bytes 0 r0) (λ q. (q, passed _ _ refl))) (λ q0.
    then_gets (count 16 q0 r0) _ h.marks r1 h r (count_gets 16 h.marks q0 r1 ok.marks_some ok.marks_few) (λ q1.
    then_gets (count 32 q1 r1) _ h.operations r2 h r (count_gets 32 h.operations q1 r2 ok.operations_some ok.operations_few) (λ q2.
    then_gets (count 16 q2 r2) _ h.stages r3 h r (count_gets 16 h.stages q2 r3 ok.stages_some ok.stages_few) (λ q3.
    then_gets (start_stage h.stages q3 r3) _ h.stage r4 h r (then_gets (byte q3 r3) _ h.stage r4 h.stage r4 (byte_gets h.stage q3 r4) (λ q. (q, passed _ _ (lt-ltb _ _ ok.stage)))) (λ q4.
    then_gets (byte q4 r4) _ h.condition r h r (byte_gets h.condition q4 r) (λ q5. (q5, refl)))))))

-- the sheet of a valid port is taken, and tells that port
pub reading_complete : (m : Model) → Valid m → reading (sheet_of m) ≡ held m
unfolding sheet_of
reading_complete m ok =
    let h = m.header in
    let t = header_of h ++ records_of m in
    let cb = concatenated condition_bytes m.conditions in
    let mb = concatenated move_bytes m.moves in
    let rb = concatenated request_bytes m.requests in
    let g = heading_gets m (records_of m) ok in
    let c1 = conditions_come h [] m.conditions (length t) 0 g.0 (mb ++ rb) (conditions_one_by_one _ [] m.conditions ok.conditions_few ok.conditions_marked ok.conditions_rise) (heading_less t h g.0 (records_of m) g.1) in
    let c2 = moves_come h m.conditions [] m.moves c1.more c1.count c1.place rb (moves_one_by_one _ _ [] m.moves ok.moves_few ok.moves_exist ok.moves_rise) c1.enough in
    let line = append-nil rb in
    let le3 : length (rb ++ []) ≤ c2.more = subst (λ x. length x ≤ c2.more) (sym line) c2.enough in
    let c3 = requests_come h m.conditions m.moves [] m.requests c2.more c2.count c2.place [] (requests_one_by_one _ _ [] m.requests ok.requests_few ok.requests_staged ok.requests_worded) le3 in
    reading_got t h g.0 (records_of m) g.1 ∙ c1.same ∙ c2.same ∙ ap (λ x. records c2.more c2.count (model h m.conditions m.moves []) c2.place x) (sym line) ∙ c3.same ∙ records_end c3.more c3.count m c3.place [] (omega arith) ∙ finish_held c3.count m (lt-ltb _ _ ok.start)
