-- A port that is read is valid.
use Rattle.std.proofs.Common.{◌≡◌, ℕ, zero, suc, ◌+◌, ◌*◌, ◌/◌, ◌%◌, ◌^◌, ◌<◌, ◌≤◌, min, Bool, true, false, cond, eqb, ltb, leb, List, [], ◌∷◌, ◌++◌, length, take, drop, sym, refl, ap, subst, arith, length-append, length-take-le, pow_mono, ltb-true, leb-true}
use mathlib.Core.List as List
use native.Mathlib.Nat.{min-le_right}
use Rattle.formula.specs.Grammar.{TextVerdict, whole, stuck, verdict, goes, step, both}
use Rattle.port.specs.declared.Header.{Header}
use Rattle.port.specs.declared.Move.{Move}
use Rattle.port.specs.Model.{Model, RequestModel}
use Rattle.faults.specs.declared.layers.PortFault.TheVariants.{Start}
use Rattle.reading.specs.Reading.{Step, got, fault, and_then, byte, bytes, number, field, minutes, text_length, whole_text, judged, text, rises, low_limit, high_limit, present, condition, move, request, follows, room, none, Head, head, body, entry, opening, count, start_stage, heading, Entry, condition_entry, move_entry, request_entry, add, empty, held, refused, finish, records, reading}
use Rattle.formula.specs.Truth.{is_whole}
use Rattle.port.specs.Limits.{In, no_move, Marked, Rise, key, MovesExist, MovesRise, TextOk}
use Rattle.port.specs.Valid.{Valid}
use Rattle.reading.proofs.Limited.{bytes_below, each_more, in_more, rise_more, moves_rise_more}
use Rattle.reading.proofs.Sound.{Post, then_post, if_post, admitted_post, both_true, none_nil, add_header}

abbrev Below : ℕ → ℕ → List ℕ → Type 0
Below n v r = v < n

any_post : {V : Type 0} (x : Step V) → Post (λ (v : V) (r : List ℕ). Unit {0}) x
any_post (got v q r) = tt
any_post (fault e) = tt

field_below : (b : Bool) (at limit p : ℕ) (s : List ℕ) → Post (Below limit) (field b at limit p s)
unfolding field
field_below b at limit p s =
    then_post (λ (v : ℕ) (r : List ℕ). Unit {0}) (Below limit) (number b p s) _ (any_post (number b p s)) (λ v q r _. if_post (Below limit) _ _ (got v q r) (λ h. ltb-true v limit h))

judged_fine : (marks p : ℕ) (w : List ℕ) (v : TextVerdict) (q : ℕ) (r : List ℕ) → verdict marks w ≡ v → (0 < length w) × (length w ≤ 63) → Post (λ w (r : List ℕ). TextOk marks w) (judged p v (got w q r))
unfolding judged
judged_fine marks p w whole q r e h = (h.0, h.1, ap is_whole e)
judged_fine marks p w (stuck k) q r e h = tt

low_few : (marks : ℕ) → low_limit marks ≤ 256
low_few marks = pow_mono {i = min marks 8} {j = 8} (min-le_right marks 8)

bytes_long : (n p : ℕ) (s : List ℕ) → Post (λ (w r : List ℕ). length w ≡ n) (bytes n p s)
unfolding bytes
bytes_long n p s =
    if_post (λ (w r : List ℕ). length w ≡ n) _ _ (got (take n s) (p + n) (drop n s)) (λ h. length-take-le n s (leb-true n (length s) h))

abbrev SizedAt : List ℕ → List ℕ → Type 0
SizedAt w r = (0 < length w) × (length w ≤ 63)

whole_text_sized : (p : ℕ) (s : List ℕ) → Post SizedAt (whole_text p s)
unfolding whole_text text_length
whole_text_sized p s =
    let Q : ℕ → List ℕ → Type 0 = λ n r. (0 < n) × (n ≤ 63) in
    then_post Q SizedAt (text_length p s) _
    (then_post (λ (v : ℕ) (r : List ℕ). Unit {0}) Q (byte p s) _ (any_post (byte p s)) (λ n q r _.
    if_post Q _ _ (got n q r) (λ h. let two = both_true (ltb 0 n) (leb n 63) h in (ltb-true 0 n two.0, leb-true n 63 two.1))))
    (λ n q r h.
    then_post (λ (w r : List ℕ). length w ≡ n) SizedAt (bytes n q r) _ (bytes_long n q r) (λ w q' r' e.
    if_post SizedAt _ _ (got w q' r') (λ _. (rw e h.0, rw e h.1))))

text_fine : (b : Bool) (marks p : ℕ) (s : List ℕ) → Post (λ w (r : List ℕ). TextOk marks w) (text b marks p s)
unfolding text judged verdict goes step
text_fine false marks p s = (omega arith, omega arith, refl)
text_fine true marks p s =
    then_post SizedAt (λ w (r : List ℕ). TextOk marks w) (whole_text p s) _ (whole_text_sized p s) (λ w q r h.
    judged_fine marks (p + 1) w (verdict marks w) q r refl h)

-- an entry that may come next
abbrev Joins : Model → Entry → List ℕ → Type 0
Joins m (condition_entry c) r = (m.moves ≡ []) × (m.requests ≡ []) × (length m.conditions < 256) × (c < 2 ^ m.header.marks) × (rises m.conditions c ≡ true)
Joins m (move_entry v) r = (m.requests ≡ []) × (length m.moves < 4096) × (v.condition < length m.conditions) × (v.operation < m.header.operations) × (v.outcome < length m.conditions) × (rises (List.map key m.moves) (key v) ≡ true)
Joins m (request_entry w) r = (length m.requests < 32) × (w.from < m.header.stages) × (w.to < m.header.stages) × TextOk m.header.marks w.keep × TextOk m.header.marks w.reach

module _ (m : Model) (k at map_at map p : ℕ) (s : List ℕ) where
  condition_fine : m.moves ≡ [] → m.requests ≡ [] → length m.conditions < 256 → Post (Joins m) (and_then (condition m at map_at map p s) (λ c q r. got (condition_entry c) q r))
  unfolding condition
  condition_fine e f few =
      let Q : ℕ → List ℕ → Type 0 = λ c r. Joins m (condition_entry c) r in
      then_post Q (Joins m) (condition m at map_at map p s) _
      (then_post (Below (low_limit m.header.marks)) Q _ _ (field_below _ map_at _ p s) (λ low q r a.
      then_post (Below (high_limit m.header.marks)) Q _ _ (field_below _ map_at _ q r) (λ high q r b.
      if_post Q _ _ (got (low + 256 * high) q r) (λ up.
      let small : low < 256 = omega (arith, a, low_few m.header.marks) in
      let lo : (low + 256 * high) % 256 ≡ low = omega arith in
      let hi : (low + 256 * high) / 256 ≡ high = omega arith in
      (e, f, few, bytes_below m.header.marks (low + 256 * high) (rw lo a) (rw hi b), up)))))
      (λ c q r h. h)

  move_fine : m.requests ≡ [] → length m.moves < 4096 → Post (Joins m) (and_then (move m at map_at map p s) (λ v q r. got (move_entry v) q r))
  unfolding move
  move_fine f few =
      let Q : Move → List ℕ → Type 0 = λ v r. Joins m (move_entry v) r in
      then_post Q (Joins m) (move m at map_at map p s) _
      (then_post (Below (length m.conditions)) Q _ _ (field_below _ map_at _ p s) (λ c q r a.
      then_post (Below m.header.operations) Q _ _ (field_below _ map_at _ q r) (λ o q r b.
      then_post (Below (length m.conditions)) Q _ _ (field_below _ map_at _ q r) (λ u q r d.
      then_post (λ (v : ℕ) (r : List ℕ). Unit {0}) Q _ _ (any_post (minutes (present map 3) q r)) (λ t q r _.
      if_post Q _ _ (got (record { condition = c; operation = o; outcome = u; minutes = t }) q r) (λ up. (f, few, a, b, d, up)))))))
      (λ c q r h. h)

  request_fine : length m.requests < 32 → Post (Joins m) (and_then (request m map_at map p s) (λ w q r. got (request_entry w) q r))
  unfolding request
  request_fine few =
      let Q : RequestModel → List ℕ → Type 0 = λ v r. Joins m (request_entry v) r in
      then_post Q (Joins m) (request m map_at map p s) _
      (then_post (Below m.header.stages) Q _ _ (field_below _ map_at _ p s) (λ c q r a.
      then_post (Below m.header.stages) Q _ _ (field_below _ map_at _ q r) (λ o q r b.
      then_post (λ w (r : List ℕ). TextOk m.header.marks w) Q _ _ (text_fine _ m.header.marks q r) (λ u q r d.
      then_post (λ w (r : List ℕ). TextOk m.header.marks w) Q _ _ (text_fine _ m.header.marks q r) (λ t q r x. (few, a, b, d, x))))))
      (λ c q r h. h)

  body_by : (t u : Bool) → eqb k 3 ≡ eqb k 3 → cond t (both (none m.moves) (none m.requests)) (cond u (none m.requests) (eqb k 3)) ≡ true → cond t (ltb (length m.conditions) 256) (cond u (ltb (length m.moves) 4096) (ltb (length m.requests) 32)) ≡ true → Post (Joins m) (cond t (and_then (condition m at map_at map p s) (λ c q r. got (condition_entry c) q r)) (cond u (and_then (move m at map_at map p s) (λ v q r. got (move_entry v) q r)) (and_then (request m map_at map p s) (λ w q r. got (request_entry w) q r))))
  body_by true u _ h g =
      let two = both_true (none m.moves) (none m.requests) h in
      condition_fine (none_nil m.moves two.0) (none_nil m.requests two.1) (ltb-true _ _ g)
  body_by false true _ h g = move_fine (none_nil m.requests h) (ltb-true _ _ g)
  body_by false false _ h g = request_fine (ltb-true _ _ g)

pub entry_fine : (m : Model) (p : ℕ) (s : List ℕ) → Post (Joins m) (entry m p s)
unfolding entry head body
entry_fine m p s =
    let F : Head → List ℕ → Type 0 = λ h r. (follows m h.kind ≡ true) × (room m h.kind ≡ true) in
    then_post F (Joins m) (head m p s) _
    (then_post (λ (v : ℕ) (r : List ℕ). Unit {0}) F (byte p s) _ (any_post (byte p s)) (λ k q r _.
    admitted_post F m k p _ (λ fol roomy.
    then_post (λ (v : ℕ) (r : List ℕ). Unit {0}) F (byte q r) _ (any_post (byte q r)) (λ b q' r' _.
    if_post F _ _ (got (record { kind = k; place = p; map = b; map_place = q }) q' r') (λ _. (fol, roomy))))))
    (λ h q r ok. body_by m h.kind h.place h.map_place h.map q r (eqb h.kind 1) (eqb h.kind 2) refl ok.0 ok.1)

-- the limits that what was read so far keeps to
record Sofar (m : Model) : Type 0 where
  conditions_few : length m.conditions ≤ 256
  marked : Marked m.header.marks m.conditions
  rise : Rise m.conditions
  moves_few : length m.moves ≤ 4096
  exist : MovesExist (length m.conditions) m.header.operations m.moves
  moves_rise : MovesRise m.moves
  requests_few : length m.requests ≤ 32
  staged : (q : RequestModel) → In q m.requests → (q.from < m.header.stages) × (q.to < m.header.stages)
  worded : (q : RequestModel) → In q m.requests → TextOk m.header.marks q.keep × TextOk m.header.marks q.reach

one_more : {A : Type 0} (xs : List A) (x : A) (n : ℕ) → length xs < n → length (xs ++ x ∷ []) ≤ n
one_more xs x n h = simp length-append (omega arith)

add_sofar : (m : Model) (e : Entry) (r : List ℕ) → Sofar m → Joins m e r → Sofar (add m e)
unfolding add
add_sofar m (condition_entry c) r ok j =
    record {
      conditions_few = one_more m.conditions c 256 j.2;
      marked = each_more (λ x. x < 2 ^ m.header.marks) 0 m.conditions c ok.marked j.3;
      rise = rise_more m.conditions c ok.rise j.4;
      moves_few = ok.moves_few;
      exist = subst (MovesExist (length (m.conditions ++ c ∷ [])) m.header.operations) (sym j.0) (λ i lt. absurd (omega arith));
      moves_rise = ok.moves_rise;
      requests_few = ok.requests_few;
      staged = ok.staged;
      worded = ok.worded;
    }
add_sofar m (move_entry v) r ok j =
    let n = length m.conditions in
    record {
      conditions_few = ok.conditions_few;
      marked = ok.marked;
      rise = ok.rise;
      moves_few = one_more m.moves v 4096 j.1;
      exist = each_more (λ x. (x.condition < n) × (x.operation < m.header.operations) × (x.outcome < n)) no_move m.moves v ok.exist (j.2, j.3, j.4);
      moves_rise = moves_rise_more m.moves v ok.moves_rise j.5;
      requests_few = ok.requests_few;
      staged = ok.staged;
      worded = ok.worded;
    }
add_sofar m (request_entry w) r ok j =
    record {
      conditions_few = ok.conditions_few;
      marked = ok.marked;
      rise = ok.rise;
      moves_few = ok.moves_few;
      exist = ok.exist;
      moves_rise = ok.moves_rise;
      requests_few = one_more m.requests w 32 j.0;
      staged = in_more (λ q. (q.from < m.header.stages) × (q.to < m.header.stages)) m.requests w ok.staged (j.1, j.2);
      worded = in_more (λ q. TextOk m.header.marks q.keep × TextOk m.header.marks q.reach) m.requests w ok.worded (j.3, j.4);
    }

empty_sofar : (h : Header) → Sofar (empty h)
empty_sofar h =
    record {
      conditions_few = omega arith;
      marked = λ i lt. absurd (omega arith);
      rise = λ i j lt lj. absurd (omega arith);
      moves_few = omega arith;
      exist = λ i lt. absurd (omega arith);
      moves_rise = λ i j lt lj. absurd (omega arith);
      requests_few = omega arith;
      staged = λ q i. absurd i;
      worded = λ q i. absurd i;
    }

record Done (h : Header) (m : Model) : Type 0 where
  sofar : Sofar m
  start : m.header.condition < length m.conditions
  header : m.header ≡ h

finish_done : (n : ℕ) (m m' : Model) → Sofar m → finish n m ≡ held m' → Done m.header m'
unfolding finish
finish_done n m m' ok h = by (ltb m.header.condition (length m.conditions)) refl h
  where
    by : (t : Bool) → ltb m.header.condition (length m.conditions) ≡ t → cond t (held m) (refused Start n) ≡ held m' → Done m.header m'
    by true q e = let same : m ≡ m' = cc in subst (λ x. Done m.header x) same (record { sofar = ok; start = ltb-true _ _ q; header = refl })
    by false q e = let z : ◌≡◌ {A = ℕ} 0 1 = cc in absurd (omega arith)

records_by : (fuel n : ℕ) (m : Model) (p : ℕ) (s : List ℕ) (m' : Model) → Sofar m → ((e : Entry) (q : ℕ) (r : List ℕ) → Sofar (add m e) → records fuel (n + 1) (add m e) q r ≡ held m' → Done (add m e).header m') → (x : Step Entry) → Post (Joins m) x → elim x [ got e q r ↦ records fuel (n + 1) (add m e) q r | fault z ↦ refused z n ] ≡ held m' → Done m.header m'
records_by fuel n m p s m' ok ih (got e q r) j h =
    subst (λ x. Done x m') (add_header m e) (ih e q r (add_sofar m e r ok j) h)
records_by fuel n m p s m' ok ih (fault z) j h = let y : ◌≡◌ {A = ℕ} 0 1 = cc in absurd (omega arith)

records_done : (fuel n : ℕ) (m : Model) (p : ℕ) (s : List ℕ) (m' : Model) → Sofar m → records fuel n m p s ≡ held m' → Done m.header m'
unfolding records
records_done zero n m p s m' ok h = finish_done n m m' ok h
records_done (suc fuel) n m p [] m' ok h = finish_done n m m' ok h
records_done (suc fuel) n m p (b ∷ s) m' ok h =
    records_by fuel n m p (b ∷ s) m' ok (λ e q r o g. records_done fuel (n + 1) (add m e) q r m' o g) (entry m p (b ∷ s)) (entry_fine m p (b ∷ s)) h

-- the header
abbrev Within : ℕ → ℕ → List ℕ → Type 0
Within most v r = (0 < v) × (v ≤ most)

count_fine : (most p : ℕ) (s : List ℕ) → Post (Within most) (count most p s)
unfolding count
count_fine most p s =
    then_post (λ (v : ℕ) (r : List ℕ). Unit {0}) (Within most) (byte p s) _ (any_post (byte p s)) (λ b q r _.
    if_post (Within most) _ _ (got b q r) (λ h. let two = both_true (ltb 0 b) (leb b most) h in (ltb-true 0 b two.0, leb-true b most two.1)))

abbrev HeaderOk : Header → List ℕ → Type 0
HeaderOk h r = (0 < h.marks) × (h.marks ≤ 16) × (0 < h.operations) × (h.operations ≤ 32) × (0 < h.stages) × (h.stages ≤ 16) × (h.stage < h.stages)

heading_fine : (p : ℕ) (s : List ℕ) → Post HeaderOk (heading p s)
unfolding heading start_stage
heading_fine p s =
    then_post (λ (w r : List ℕ). Unit {0}) HeaderOk (opening p s) _ (any_post (opening p s)) (λ _ q0 r0 _.
    then_post (Within 16) HeaderOk (count 16 q0 r0) _ (count_fine 16 q0 r0) (λ a q1 r1 e1.
    then_post (Within 32) HeaderOk (count 32 q1 r1) _ (count_fine 32 q1 r1) (λ b q2 r2 e2.
    then_post (Within 16) HeaderOk (count 16 q2 r2) _ (count_fine 16 q2 r2) (λ c q3 r3 e3.
    then_post (Below c) HeaderOk (start_stage c q3 r3) _ (then_post (λ (v : ℕ) (r : List ℕ). Unit {0}) (Below c) (byte q3 r3) _ (any_post (byte q3 r3)) (λ d q r _. if_post (Below c) _ _ (got d q r) (λ h. ltb-true d c h))) (λ d q4 r4 e4.
    then_post (λ (v : ℕ) (r : List ℕ). Unit {0}) HeaderOk (byte q4 r4) _ (any_post (byte q4 r4)) (λ x q5 r5 _.
    (e1.0, e1.1, e2.0, e2.1, e3.0, e3.1, e4)))))))

reading_by : (t : List ℕ) (m : Model) (x : Step Header) → Post HeaderOk x → elim x [ got h q r ↦ records (length t) 0 (empty h) q r | fault z ↦ refused z 0 ] ≡ held m → Valid m
reading_by t m (got h q r) ok e =
    let d = records_done (length t) 0 (empty h) q r m (empty_sofar h) e in
    let g : HeaderOk m.header r = subst (λ y. HeaderOk y r) (sym d.header) ok in
    record {
      marks_some = g.0;
      marks_few = g.1;
      operations_some = g.2;
      operations_few = g.3;
      stages_some = g.4;
      stages_few = g.5;
      stage = g.6;
      start = d.start;
      conditions_few = d.sofar.conditions_few;
      conditions_marked = d.sofar.marked;
      conditions_rise = d.sofar.rise;
      moves_few = d.sofar.moves_few;
      moves_exist = d.sofar.exist;
      moves_rise = d.sofar.moves_rise;
      requests_few = d.sofar.requests_few;
      requests_staged = d.sofar.staged;
      requests_worded = d.sofar.worded;
    }
reading_by t m (fault z) ok e = let y : ◌≡◌ {A = ℕ} 0 1 = cc in absurd (omega arith)

-- a port that a sheet tells is valid
pub reading_valid : (t : List ℕ) (m : Model) → reading t ≡ held m → Valid m
unfolding reading
reading_valid t m e = reading_by t m (heading 0 t) (heading_fine 0 t) e
