-- The rows of loads.
use Rattle.std.proofs.Common.{◌≡◌, ℕ, ◌≤◌, Bool, true, false, cond, ◌&&◌, eqb, List, [], ◌∷◌, ◌++◌, map, Ok, Err, Result, sym, refl, ap, ◌∙◌, arith, eqb-true, eq-eqb}
use mathlib.Core.Bool.{and-eq-true_iff, false≢true}
use Rattle.std.specs.Global.{Global, Vec}
use Rattle.formula.specs.Grammar.{step, goes, verdict}
use Rattle.faults.specs.declared.errors.LoadError.{LoadError}
use Rattle.faults.specs.declared.errors.LoadError.TheVariants.{Fault, Memory}
use Rattle.port.specs.declared.held.Port.{Port}
use Rattle.port.specs.Limits.{In}
use Rattle.port.specs.Model.{Model, model_of}
use Rattle.port.specs.Valid.{Valid}
use Rattle.reading.specs.Reading.{Read, held, refused, and_then, provided, byte, bytes, number, field, minutes, text_length, whole_text, judged, text, rises, condition, move, request, admitted, head, body, entry, count, start_stage, opening, heading, add, finish, records, reading}
use Rattle.reading.specs.SheetOf.{concatenated, sheet_of}
use Rattle.sheet.specs.Loading.{TellsReading, Loaded, HoldsPort}
use Rattle.cases_words.specs.Rows.{Said}
use Rattle.cases_words.proofs.Rows.{same_answers}
use Rattle.cases_words.proofs.Fields.{fault_code}
use Rattle.cases_words.proofs.Held.{same_limits}
use Rattle.cases_words.proofs.Ports.{valid, valid_decides}
use Rattle.cases_words.proofs.Records.{model_code}
use Rattle.cases_sheets.specs.Loads.{TellsRow, tells, TellsHold, LoadRow, loads, LoadIs, LoadsHold, HoldsRow, holdings, HoldingsHold, ComesTo, OneAnswer, AsItWas}
use Rattle.cases_sheets.proofs.Rows.{all_same, said_as}

abbrev read_code : Read → List ℕ
read_code (held m) = 0 ∷ model_code m
read_code (refused f n) = 1 ∷ (fault_code f ++ (n ∷ []))

-- ── the answer ──

-- what would be read if the answer is told
abbrev told : (Model → Read) → Read → Result Model LoadError → Read
told value x (Ok v) = value v
told value x (Err (Fault f n)) = refused f n
told value x (Err Memory) = x

telling : (value : Model → Read) (x : Read) (r : Result Model LoadError) → x ≡ told value x r → TellsReading value x r
telling value x (Ok v) e = e
telling value x (Err (Fault f n)) e = e
telling value x (Err Memory) e = tt

tells_told : (value : Model → Read) (x : Read) (r : Result Model LoadError) → TellsReading value x r → x ≡ told value x r
tells_told value x (Ok v) e = e
tells_told value x (Err (Fault f n)) e = e
tells_told value x (Err Memory) e = refl

tells_same : (r : TellsRow) → In r tells → Said r.holds (r.read ≡ told r.value r.read r.answer)
unfolding finish
tells_same = all_same read_code (λ (r : TellsRow). r.read) (λ (r : TellsRow). told r.value r.read r.answer) (λ (r : TellsRow). r.holds) tells refl refl

pub tells_hold : TellsHold
tells_hold r i =
    said_as r.holds (telling r.value r.read r.answer) (tells_told r.value r.read r.answer) (tells_same r i)

-- ── the load ──

abbrev state_code : Read × Model → List ℕ
state_code p = read_code p.0 ++ (999 ∷ model_code p.1)

-- what would be read, with the port before, if the load does as it promises
abbrev promised : Read → Model → Model → Result (Unit {0}) LoadError → Read × Model
promised x from to (Ok _) = (held to, from)
promised x from to (Err (Fault f n)) = (refused f n, to)
promised x from to (Err Memory) = (x, to)

loads_same : (r : LoadRow) → In r loads → Said r.holds ((reading r.sheet, r.before) ≡ promised (reading r.sheet) r.before r.after r.answer)
unfolding concatenated sheet_of step goes verdict reading and_then provided byte bytes number field minutes text_length whole_text judged text rises condition move request admitted head body entry count start_stage opening heading add finish records
loads_same =
    all_same state_code (λ (r : LoadRow). (reading r.sheet, r.before)) (λ (r : LoadRow). promised (reading r.sheet) r.before r.after r.answer)
    (λ (r : LoadRow). r.holds) loads refl refl

abbrev fine : LoadRow → Bool
fine r = valid r.before && valid r.after

all_fine : map fine loads ≡ map (λ (r : LoadRow). true) loads
unfolding step goes verdict
all_fine = refl

-- a port in memory that says this
module _ (m : Model) (v : Valid m) where
  its_port : Global → Port
  its_port heap = (same_limits.held heap m v).0

  its_model : (heap : Global) → model_of (its_port heap) ≡ m
  unfolding its_port
  its_model heap = (same_limits.held heap m v).1

module _ (sheet : List ℕ) (from to : Model) (v : Valid from) (w : Valid to) where
  -- the port after is the one before
  kept : (answer : Result (Unit {0}) LoadError) → from ≡ to → ((b : Port) → Loaded sheet b b answer) → LoadIs true sheet from to answer
  kept answer e l =
      record {
        before = its_port from v;
        after = its_port from v;
        is_from = its_model from v;
        is_to = λ heap. its_model from v heap ∙ e;
        said = λ heap. l (its_port from v heap);
      }

  loaded : (answer : Result (Unit {0}) LoadError) → (reading sheet, from) ≡ promised (reading sheet) from to answer → LoadIs true sheet from to answer
  loaded (Ok u) e =
      record {
        before = its_port from v;
        after = its_port to w;
        is_from = its_model from v;
        is_to = its_model to w;
        said = λ heap. ap (λ (p : Read × Model). p.0) e ∙ ap held (sym (its_model to w heap));
      }
  loaded (Err (Fault f n)) e = kept (Err (Fault f n)) (ap (λ (p : Read × Model). p.1) e) (λ b. (ap (λ (p : Read × Model). p.0) e, refl))
  loaded (Err Memory) e = kept (Err Memory) (ap (λ (p : Read × Model). p.1) e) (λ b. refl)

  promises : (answer : Result (Unit {0}) LoadError) (b a : Port) → model_of b ≡ from → model_of a ≡ to → Loaded sheet b a answer →
      (reading sheet, from) ≡ promised (reading sheet) from to answer
  promises (Ok u) b a p q l = ap (λ (x : Read). (x, from)) (l ∙ ap held q)
  promises (Err (Fault f n)) b a p q l =
      ap (λ (x : Read). (x, from)) l.0 ∙ ap (λ (m : Model). (refused f n, m)) (sym p ∙ ap model_of (sym l.1) ∙ q)
  promises (Err Memory) b a p q l = ap (λ (m : Model). (reading sheet, m)) (sym p ∙ ap model_of (sym l) ∙ q)

  load_is : (holds : Bool) (answer : Result (Unit {0}) LoadError) → Said holds ((reading sheet, from) ≡ promised (reading sheet) from to answer) →
      LoadIs holds sheet from to answer
  load_is true answer e = loaded answer e
  load_is false answer n =
      record {
        before = its_port from v;
        after = its_port to w;
        is_from = its_model from v;
        is_to = its_model to w;
        said = λ b a p q l. n (promises answer b a p q l);
      }

pub loads_hold : LoadsHold
loads_hold r i =
    let h = (and-eq-true_iff (valid r.before) (valid r.after)).0 (same_answers fine (λ (r : LoadRow). true) loads all_fine r i) in
    load_is r.sheet r.before r.after ((valid_decides r.before).0 h.0) ((valid_decides r.after).0 h.1) r.holds r.answer (loads_same r i)

-- ── the port that is held ──

abbrev held_code : Bool × Model → List ℕ
held_code p = cond p.0 1 0 ∷ model_code p.1

-- whether there is no fault, with the port after, if the port is held
abbrev holding : Model → Model → Result (Unit {0}) LoadError → Bool × Model
holding m after (Ok _) = (true, m)
holding m after (Err (Fault f n)) = (false, after)
holding m after (Err Memory) = (true, after)

holds_same : (r : HoldsRow) → In r holdings → Said r.holds ((true, r.after) ≡ holding r.asked r.after r.answer)
holds_same =
    all_same held_code (λ (r : HoldsRow). (true, r.after)) (λ (r : HoldsRow). holding r.asked r.after r.answer) (λ (r : HoldsRow). r.holds) holdings refl refl

all_valid : map (λ (r : HoldsRow). valid r.after) holdings ≡ map (λ (r : HoldsRow). true) holdings
unfolding step goes verdict
all_valid = refl

holds_it : (m after : Model) (r : Result (Unit {0}) LoadError) (p : Port) → model_of p ≡ after → (true, after) ≡ holding m after r → HoldsPort m p r
holds_it m after (Ok u) p q e = q ∙ ap (λ (x : Bool × Model). x.1) e
holds_it m after (Err (Fault f n)) p q e = absurd (false≢true (sym (ap (λ (x : Bool × Model). x.0) e)))
holds_it m after (Err Memory) p q e = tt

it_holds : (m after : Model) (r : Result (Unit {0}) LoadError) (p : Port) → model_of p ≡ after → HoldsPort m p r → (true, after) ≡ holding m after r
it_holds m after (Ok u) p q h = ap (λ (x : Model). (true, x)) (sym q ∙ h)
it_holds m after (Err (Fault f n)) p q h = absurd h
it_holds m after (Err Memory) p q h = refl

pub holdings_hold : HoldingsHold
holdings_hold r i =
    let v = (valid_decides r.after).0 (same_answers (λ (r : HoldsRow). valid r.after) (λ (r : HoldsRow). true) holdings all_valid r i) in
    record {
      port = its_port r.after v;
      is = its_model r.after v;
      said = λ p q. said_as r.holds (holds_it r.asked r.after r.answer p q) (it_holds r.asked r.after r.answer p q) (holds_same r i);
    }

-- ── of all loads ──

abbrev is_held : Read → Bool
is_held (held m) = true
is_held (refused f n) = false

one_answer_of : (t : List ℕ) (x : Read) → reading t ≡ x → (before after : Port) (r : Result (Unit {0}) LoadError) → Loaded t before after r → ComesTo x before after r
one_answer_of t (held m) e before after (Ok u) l = let h : held (model_of after) ≡ held m = sym l ∙ e in cc
one_answer_of t (held m) e before after (Err (Fault f n)) l = false≢true (ap is_held (sym l.0 ∙ e))
one_answer_of t (held m) e before after (Err Memory) l = tt
one_answer_of t (refused f n) e before after (Ok u) l = false≢true (ap is_held (sym e ∙ l))
one_answer_of t (refused f n) e before after (Err (Fault g k)) l =
    let h : refused g k ≡ refused f n = sym l.0 ∙ e in
    let fault : g ≡ f = cc in
    let records : k ≡ n = cc in
    (fault, (records, l.1))
one_answer_of t (refused f n) e before after (Err Memory) l = l

pub one_answer : OneAnswer
one_answer t before after r l = one_answer_of t (reading t) refl before after r l

-- ── as it was ──

-- room for more conditions than there may be, which is other than this
abbrev other : ℕ → ℕ
other c = cond (eqb c 300) 301 300

other_is : (c : ℕ) → ((300 ≤ other c) × (other c ≤ 301)) × (other c ≡ c → ⊥)
other_is c = go (eqb c 300) refl
  where
    go : (b : Bool) → eqb c 300 ≡ b → ((300 ≤ cond b 301 300) × (cond b 301 300 ≤ 301)) × (cond b 301 300 ≡ c → ⊥)
    go true e = ((omega arith, omega arith), λ h. let k : c ≡ 300 = eqb-true c 300 e in omega (arith, h, k))
    go false e = ((omega arith, omega arith), λ h. false≢true (sym e ∙ eq-eqb c 300 (sym h)))

-- the port, with other room for its conditions
roomed : Port → Port
roomed p =
    let o = other_is p.conditions.cap in
    let room : Vec ℕ = record p.conditions { cap = other p.conditions.cap; ok = (p.conditions.ok.0, omega (arith, o.0.0, p.conditions_few)); small = omega (arith, o.0.1) } in
    record p { conditions = room }

differs : (p : Port) → roomed p ≡ p → ⊥
unfolding roomed
differs p e = (other_is p.conditions.cap).1 (ap (λ (q : Port). q.conditions.cap) e)

stays : (t : List ℕ) (b a : Port) (e : LoadError) → Loaded {U = Unit {0}} t b a (Err e) → a ≡ b
stays t b a (Fault f n) l = l.1
stays t b a Memory l = l

pub as_it_was : AsItWas
unfolding roomed
as_it_was p = record { port = roomed p; same = refl; stays = λ t e l. differs p (stays t p (roomed p) e l) }
