-- Each valid port can be held in memory, and each that is held is valid.
use Rattle.std.proofs.Common.{◌≡◌, ℕ, ◌<◌, ◌≤◌, Bool, true, false, List, [], ◌∷◌, length, map, sym, refl, ap, ◌∙◌, subst, inl, inr, arith}
use denote.RawPtr.{null_ptr}
use lib.ListN.{length-map}
use Rattle.std.specs.Global.{Global, Vec}
use Rattle.std.specs.Vec.{vec_items}
use Rattle.formula.specs.Grammar.{step, goes, verdict}
use Rattle.port.specs.declared.Request.{Request}
use Rattle.port.specs.declared.held.Port.{Port}
use Rattle.port.specs.Limits.{In, MovesExist, TextOk}
use Rattle.port.specs.Model.{Model, RequestModel, request_model, model_of}
use Rattle.port.specs.Valid.{Valid}
use Rattle.reading.proofs.Limited.{in_map}
use Rattle.cases_words.specs.Rows.{Said}
use Rattle.cases_words.specs.Ports.{PortRow}
use Rattle.cases_words.specs.Held.{held as rows, HeldAs, HeldHold, SameLimits}
use Rattle.cases_words.proofs.Rows.{all_said}
use Rattle.cases_words.proofs.Ports.{valid, valid_decides}
use Rattle.cases_words.proofs.Requests.{Held, held_as}

-- ── from a valid port to one in memory ──

vec_of : {A : Type 0} → Global → (xs : List A) → length xs ≤ 4096 → Vec A
vec_of heap xs l = record { ptr = null_ptr; len = length xs; cap = length xs; alloc = heap; items = xs; ok = (refl, omega arith); small = omega arith }

module _ (heap : Global) (m : Model) (v : Valid m) where
  asked : Held m.requests
  asked = held_as heap m.requests (λ w i. let h = v.requests_worded w i in ((h.0.0, h.0.1), (h.1.0, h.1.1)))

  same_many : length asked.requests ≡ length m.requests
  same_many = sym (length-map asked.requests request_model) ∙ ap length asked.such

  in_model : (q : Request) → In q asked.requests → In (request_model q) m.requests
  in_model q i = subst (In (request_model q)) asked.such (in_map request_model asked.requests q i)

  held_port : Port
  unfolding vec_of
  held_port =
      record {
        header = m.header;
        conditions = vec_of heap m.conditions (omega (arith, v.conditions_few));
        moves = vec_of heap m.moves v.moves_few;
        requests = vec_of heap asked.requests (omega (arith, same_many, v.requests_few));
        marks_some = v.marks_some;
        marks_few = v.marks_few;
        operations_some = v.operations_some;
        operations_few = v.operations_few;
        stages_some = v.stages_some;
        stages_few = v.stages_few;
        start_stage = v.stage;
        start_condition = v.start;
        conditions_few = v.conditions_few;
        conditions_marked = v.conditions_marked;
        conditions_rise = v.conditions_rise;
        moves_few = v.moves_few;
        moves_exist = v.moves_exist;
        moves_rise = v.moves_rise;
        requests_few = omega (arith, same_many, v.requests_few);
        requests_staged = λ q i. v.requests_staged (request_model q) (in_model q i);
        keeps_worded = λ q i. (v.requests_worded (request_model q) (in_model q i)).0.2;
        reaches_worded = λ q i. (v.requests_worded (request_model q) (in_model q i)).1.2;
      }

  its_model : model_of held_port ≡ m
  unfolding held_port vec_of
  its_model = ap (λ (qs : List RequestModel). let x : Model = record { header = m.header; conditions = m.conditions; moves = m.moves; requests = qs } in x) asked.such

-- ── from one in memory to a valid port ──

record Origin {A B : Type 0} (f : A → B) (xs : List A) (y : B) : Type 0 where
  from : A
  member : In from xs
  is : y ≡ f from

in_unmap : {A B : Type 0} (f : A → B) (xs : List A) (y : B) → In y (map f xs) → Origin f xs y
in_unmap f [] y i = absurd i
in_unmap f (x ∷ xs) y (inl q) = record { from = x; member = inl refl; is = q }
in_unmap f (x ∷ xs) y (inr i) = let o = in_unmap f xs y i in record { from = o.from; member = inr o.member; is = o.is }

text_fine : (marks : ℕ) (q : Request) (p : Port) → In q (vec_items p.requests) → TextOk p.header.marks (vec_items q.keep.bytes) × TextOk p.header.marks (vec_items q.reach.bytes)
text_fine marks q p i =
    let k = q.keep.bytes.ok.0 in
    let r = q.reach.bytes.ok.0 in
    let a = q.keep.some in
    let b = q.keep.few in
    let c = q.reach.some in
    let d = q.reach.few in
    ((omega arith, omega arith, p.keeps_worded q i), (omega arith, omega arith, p.reaches_worded q i))

port_valid : (p : Port) → Valid (model_of p)
port_valid p =
    let c = p.conditions.ok.0 in
    let m = p.moves.ok.0 in
    let r = p.requests.ok.0 in
    record {
      marks_some = p.marks_some;
      marks_few = p.marks_few;
      operations_some = p.operations_some;
      operations_few = p.operations_few;
      stages_some = p.stages_some;
      stages_few = p.stages_few;
      stage = p.start_stage;
      start = subst (λ n. p.header.condition < n) c p.start_condition;
      conditions_few = subst (λ n. n ≤ 256) c p.conditions_few;
      conditions_marked = p.conditions_marked;
      conditions_rise = p.conditions_rise;
      moves_few = subst (λ n. n ≤ 4096) m p.moves_few;
      moves_exist = subst (λ n. MovesExist n p.header.operations (vec_items p.moves)) c p.moves_exist;
      moves_rise = p.moves_rise;
      requests_few = let e = length-map (vec_items p.requests) request_model in omega (arith, p.requests_few);
      requests_staged = λ w i.
          let o = in_unmap request_model (vec_items p.requests) w i in
          subst (λ (x : RequestModel). (x.from < p.header.stages) × (x.to < p.header.stages)) (sym o.is) (p.requests_staged o.from o.member);
      requests_worded = λ w i.
          let o = in_unmap request_model (vec_items p.requests) w i in
          subst (λ (x : RequestModel). TextOk p.header.marks x.keep × TextOk p.header.marks x.reach) (sym o.is) (text_fine p.header.marks o.from p o.member);
    }

-- ── the rows ──

valid_hold : (r : PortRow) → In r rows → Said r.holds (Valid r.port)
unfolding verdict goes step
valid_hold = all_said _ (λ (r : PortRow). valid r.port) (λ (r : PortRow). r.holds) (λ r. valid_decides r.port) rows refl

by_limits : (holds : Bool) (m : Model) → Said holds (Valid m) → HeldAs holds m
by_limits true m v = λ heap. (held_port heap m v, its_model heap m v)
by_limits false m n = λ p e. n (subst Valid e (port_valid p))

pub held_hold : HeldHold
held_hold r i = by_limits r.holds r.port (valid_hold r i)

pub same_limits : SameLimits
same_limits = record { valid = port_valid; held = λ heap m v. (held_port heap m v, its_model heap m v) }
