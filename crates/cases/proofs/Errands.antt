-- The rows of errands: a row that passes a computed test holds.
use Rattle.std.proofs.Common.{◌≡◌, ℕ, ◌%◌, ◌<◌, Bool, true, false, not, ◌&&◌, ◌||◌, eqb, ltb, leb, is_none, slice_index, List, [], ◌∷◌, map, length, Some, None, Option, sym, refl, ap, ap₂, ◌∙◌, subst, inl, inr, arith, eqb-true, eq-eqb, ltb-true, leb-true, le-leb}
use mathlib.Core.Bool.{and-eq-true_iff, false≢true}
use Rattle.port.specs.Limits.{In}
use Rattle.port.specs.Model.{Model as PortModel}
use Rattle.port.specs.Valid.{Valid}
use Rattle.port.specs.declared.Move.{Move}
use Rattle.plans.specs.Plans.{Can, end}
use Rattle.plans.specs.Flags.{task_at}
use Rattle.plans.specs.Reach.{any_of, each}
use Rattle.plans.proofs.Decide.{some_in, each_in, implies}
use Rattle.costs.specs.Costs.{cost}
use Rattle.locks.specs.Places.{IsAt, Leads, place_of}
use Rattle.locks.specs.Targets.{named_by}
use Rattle.locks.specs.Works.{Before, change, outcomes}
use Rattle.locks.proofs.Standing.{place_found, same_place}
use Rattle.locks.proofs.Outcomes.{outcome_in, outcome_of, outcome_inside}
use Rattle.locks.proofs.Going.{goes_nth, goes_least, named_is}
use Rattle.solver.specs.declared.Entry.{Entry}
use Rattle.solver.specs.declared.Entry.TheVariants.{None as Nothing, There, Work}
use Rattle.solver.specs.Policy.{World, Solved}
use Rattle.histories.specs.declared.Command.{Command}
use Rattle.histories.specs.declared.Command.TheVariants.{Ask, Step, Close}
use Rattle.histories.specs.Calls.{At, History, Passes, refusal, rules, start_at, is_there}
use Rattle.histories.specs.Errands.{Errand, errands}
use Rattle.cases.specs.Ports.{low_staithe, low_staithe_sheet}
use Rattle.cases.specs.Sheets.{port}
use Rattle.cases.specs.Policies.{Row as PolicyRow, world, staithe_minutes}
use Rattle.cases.specs.Errands.{Picks, scripted, nearest, Picked, later, Goes, Promised, Shows, marks_of, out_at, steps, calls, Row, rows, ErrandsHold}
use Rattle.cases.proofs.Policies.{policies_hold}
use Rattle.cases.proofs.Sheets.{sheets_valid}
use Rattle.cases.proofs.Rows.{same_answers}

-- ── entries and moves ──

abbrev works : Entry → ℕ → Bool
works Nothing p = false
works There p = false
works (Work o) p = eqb o p

works_true : (x : Entry) (p : ℕ) → works x p ≡ true → x ≡ Work p
works_true Nothing p e = absurd (false≢true e)
works_true There p e = absurd (false≢true e)
works_true (Work o) p e = ap Work (eqb-true o p e)

there_true : (x : Entry) → is_there x ≡ true → x ≡ There
there_true Nothing e = absurd (false≢true e)
there_true There e = refl
there_true (Work o) e = absurd (false≢true e)

there_work : (x : Entry) (o : ℕ) → x ≡ There → x ≡ Work o → ⊥
there_work x o p q = let z : ◌≡◌ {A = ℕ} 0 1 = cc in omega arith

one_work : (x : Entry) (o p : ℕ) → x ≡ Work o → x ≡ Work p → o ≡ p
one_work x o p e f = cc

abbrev move : ℕ → ℕ → ℕ → ℕ → Move
move c o d t = record { condition = c; operation = o; outcome = d; minutes = t }

abbrev same : Move → Move → Bool
same a b = eqb a.condition b.condition && (eqb a.operation b.operation && (eqb a.outcome b.outcome && eqb a.minutes b.minutes))

same_true : (a b : Move) → same a b ≡ true → a ≡ b
same_true a b e =
    let f = (and-eq-true_iff (eqb a.condition b.condition) (eqb a.operation b.operation && (eqb a.outcome b.outcome && eqb a.minutes b.minutes))).0 e in
    let g = (and-eq-true_iff (eqb a.operation b.operation) (eqb a.outcome b.outcome && eqb a.minutes b.minutes)).0 f.1 in
    let h = (and-eq-true_iff (eqb a.outcome b.outcome) (eqb a.minutes b.minutes)).0 g.1 in
    ap₂ {C = Move} (λ (x y : ℕ). move x y a.outcome a.minutes) (eqb-true a.condition b.condition f.0) (eqb-true a.operation b.operation g.0)
    ∙ ap₂ {C = Move} (λ (x y : ℕ). move b.condition b.operation x y) (eqb-true a.outcome b.outcome h.0) (eqb-true a.minutes b.minutes h.1)

-- ── what a lock picks ──

abbrev is : Option ℕ → ℕ → Bool
is None d = false
is (Some x) d = eqb x d

is_true : (x : Option ℕ) (d : ℕ) → is x d ≡ true → x ≡ Some d
is_true None d e = absurd (false≢true e)
is_true (Some x) d e = ap Some (eqb-true x d e)

abbrev before : ℕ → ℕ → ℕ → ℕ → Bool
before x d y e = leb x y && (not (leb y x) || leb d e)

before_true : (x d y e : ℕ) → before x d y e ≡ true → Before x d y e
before_true x d y e h =
    let p = (and-eq-true_iff (leb x y) (not (leb y x) || leb d e)).0 h in
    (leb-true x y p.0, λ l. leb-true d e ((implies (leb y x) (leb d e)).0 p.1 (le-leb y x l)))

abbrev picked : PortModel → Picks → ℕ → ℕ → ℕ → Bool
picked M (scripted bytes) c o d = is (named_by (slice_index bytes 0) (outcomes M.moves c o)) d
picked M nearest c o d =
    any_of (λ (e : ℕ). eqb e d) (outcomes M.moves c o)
    && each (λ (e : ℕ). before (change M c d) d (change M c e) e) (outcomes M.moves c o)

picked_true : (M : PortModel) (p : Picks) (c o d : ℕ) → picked M p c o d ≡ true → Picked M p c o d
picked_true M (scripted bytes) c o d e = is_true (named_by (slice_index bytes 0) (outcomes M.moves c o)) d e
picked_true M nearest c o d e =
    let ds = outcomes M.moves c o in
    let after : ℕ → Bool = λ e. before (change M c d) d (change M c e) e in
    let h = (and-eq-true_iff (any_of (λ (e : ℕ). eqb e d) ds) (each after ds)).0 e in
    let t = some_in (λ (e : ℕ). eqb e d) ds h.0 in
    (subst (λ (x : ℕ). In x ds) (eqb-true t.0 d t.2) t.1, λ b i. before_true (change M c d) d (change M c b) b (each_in after ds h.1 b i))

one_some : (x : Option ℕ) (d e : ℕ) → x ≡ Some d → x ≡ Some e → e ≡ d
one_some x d e h k = cc

-- there is no other pick
picked_one : (M : PortModel) (p : Picks) (c o d e : ℕ) → Picked M p c o d → Picked M p c o e → e ≡ d
picked_one M (scripted bytes) c o d e h k = one_some (named_by (slice_index bytes 0) (outcomes M.moves c o)) d e h k
picked_one M nearest c o d e h k = let a = h.1 e k.0 in let b = k.1 d h.0 in omega (arith, a.0, a.1, b.0, b.1)

-- ── one policy ──

module _ (r : PolicyRow) where
  abbrev w : World
  w = world r

  abbrev M : PortModel
  M = r.port

  -- a move that is made, and whose like there is none among the moves of the port
  abbrev makes : Picks → ℕ → ℕ → Move → Bool
  makes p q c m =
      works (w.entry q c) m.operation
      && (any_of (λ (a : Move). same a m) M.moves
      && (eqb m.condition c
      && (picked M p c m.operation m.outcome
      && each (λ (a : Move). not (eqb a.condition c && (eqb a.operation m.operation && eqb a.outcome m.outcome)) || same a m) M.moves)))

  record Makes (p : Picks) (q c : ℕ) (m : Move) : Type 0 where
    entry : w.entry q c ≡ Work m.operation
    can : Can M.moves c m.operation m
    pick : Picked M p c m.operation m.outcome
    single : (a : Move) → Can M.moves c m.operation a → a.outcome ≡ m.outcome → a ≡ m

  makes_true : (p : Picks) (q c : ℕ) (m : Move) → makes p q c m ≡ true → Makes p q c m
  makes_true p q c m e =
      let fit : Move → Bool = λ a. eqb a.condition c && (eqb a.operation m.operation && eqb a.outcome m.outcome) in
      let single : Bool = each (λ (a : Move). not (fit a) || same a m) M.moves in
      let pick : Bool = picked M p c m.operation m.outcome in
      let there : Bool = any_of (λ (a : Move). same a m) M.moves in
      let e1 = (and-eq-true_iff (works (w.entry q c) m.operation) (there && (eqb m.condition c && (pick && single)))).0 e in
      let e2 = (and-eq-true_iff there (eqb m.condition c && (pick && single))).0 e1.1 in
      let e3 = (and-eq-true_iff (eqb m.condition c) (pick && single)).0 e2.1 in
      let e4 = (and-eq-true_iff pick single).0 e3.1 in
      let t = some_in (λ (a : Move). same a m) M.moves e2.0 in
      record {
        entry = works_true (w.entry q c) m.operation e1.0;
        can = (subst (λ (x : Move). In x M.moves) (same_true t.0 m t.2) t.1, eqb-true m.condition c e3.0, refl);
        pick = picked_true M p c m.operation m.outcome e4.0;
        single = λ a can d.
            same_true a m ((implies (fit a) (same a m)).0 (each_in (λ (b : Move). not (fit b) || same b m) M.moves e4.1 a can.0)
            ((and-eq-true_iff (eqb a.condition c) (eqb a.operation m.operation && eqb a.outcome m.outcome)).1 (
              eq-eqb a.condition c can.1,
              (and-eq-true_iff (eqb a.operation m.operation) (eqb a.outcome m.outcome)).1 (eq-eqb a.operation m.operation can.2, eq-eqb a.outcome m.outcome d),
            )));
      }

  abbrev passes : At → Command → Bool
  passes a k = is_none (refusal (rules w a k))

  passes_true : (a : At) (k : Command) → passes a k ≡ true → Passes w a k
  passes_true a k e = go (refusal (rules w a k)) e
    where
      go : (x : Option ℕ) → is_none x ≡ true → x ≡ None
      go None e = refl
      go (Some n) e = absurd (false≢true e)

  -- the moves of a lock at stage s, worked and closed
  abbrev goes : Picks → ℕ → ℕ → ℕ → List Move → Bool
  goes p s q c [] = is_there (w.entry q c) && passes (out_at s q c) (Close q)
  goes p s q c (m ∷ ms) = makes p q c m && (passes (out_at s q c) (Step q) && goes (later p) s q m.outcome ms)

  goes_true : (p : Picks) (s q c : ℕ) (ms : List Move) → goes p s q c ms ≡ true → Goes w M q p c ms
  goes_true p s q c [] e = there_true (w.entry q c) ((and-eq-true_iff (is_there (w.entry q c)) (passes (out_at s q c) (Close q))).0 e).0
  goes_true p s q c (m ∷ ms) e =
      let rest : Bool = goes (later p) s q m.outcome ms in
      let h = (and-eq-true_iff (makes p q c m) (passes (out_at s q c) (Step q) && rest)).0 e in
      let k = (and-eq-true_iff (passes (out_at s q c) (Step q)) rest).0 h.1 in
      let t = makes_true p q c m h.0 in
      (t.entry, t.can, t.pick, goes_true (later p) s q m.outcome ms k.1)

  alone : (p : Picks) (s q c : ℕ) (ms ns : List Move) → goes p s q c ms ≡ true → Goes w M q p c ns → ns ≡ ms
  alone p s q c [] [] e g = refl
  alone p s q c [] (n ∷ ns) e g = absurd (there_work (w.entry q c) n.operation (goes_true p s q c [] e) g.0)
  alone p s q c (m ∷ ms) [] e g = absurd (there_work (w.entry q c) m.operation g (goes_true p s q c (m ∷ ms) e).0)
  alone p s q c (m ∷ ms) (n ∷ ns) e g =
      let rest : Bool = goes (later p) s q m.outcome ms in
      let h = (and-eq-true_iff (makes p q c m) (passes (out_at s q c) (Step q) && rest)).0 e in
      let k = (and-eq-true_iff (passes (out_at s q c) (Step q)) rest).0 h.1 in
      let t = makes_true p q c m h.0 in
      let o : n.operation ≡ m.operation = one_work (w.entry q c) n.operation m.operation g.0 t.entry in
      let d : n.outcome ≡ m.outcome = picked_one M p c m.operation m.outcome n.outcome t.pick (subst (λ (x : ℕ). Picked M p c x n.outcome) o g.2) in
      let f : n ≡ m = t.single n (g.1.0, g.1.1, g.1.2 ∙ o) d in
      ap₂ {C = List Move} (λ (x : Move) (xs : List Move). x ∷ xs) f
      (alone (later p) s q m.outcome ms ns k.1 (subst (λ (x : ℕ). Goes w M q (later p) x ns) d g.3))

  worked_on : (p : Picks) (s q c : ℕ) (ms : List Move) → goes p s q c ms ≡ true →
      History w (out_at s q c) (steps w s q c ms) (start_at (task_at w.domain q).to (Some (end c ms)))
  worked_on p s q c [] e =
      let h = (and-eq-true_iff (is_there (w.entry q c)) (passes (out_at s q c) (Close q))).0 e in
      (refl, (q, (refl, passes_true (out_at s q c) (Close q) h.1, refl, refl)), refl)
  worked_on p s q c (m ∷ ms) e =
      let rest : Bool = goes (later p) s q m.outcome ms in
      let h = (and-eq-true_iff (makes p q c m) (passes (out_at s q c) (Step q) && rest)).0 e in
      let k = (and-eq-true_iff (passes (out_at s q c) (Step q)) rest).0 h.1 in
      let t = makes_true p q c m h.0 in (
        refl,
        (q, c, m.operation, (refl, passes_true (out_at s q c) (Step q) k.0, refl, t.entry, t.can, refl)),
        worked_on (later p) s q m.outcome ms k.1,
      )

  asked : (p : Picks) (s q c : ℕ) (ms : List Move) → passes (start_at s (Some c)) (Ask q) ≡ true → goes p s q c ms ≡ true →
      History w (start_at s (Some c)) (calls w s q c ms) (start_at (task_at w.domain q).to (Some (end c ms)))
  asked p s q c ms a e =
      (refl, (q, (refl, passes_true (start_at s (Some c)) (Ask q) a, refl, refl)), worked_on p s q c ms e)

  -- ── what a lock shows ──

  module _ (v : Valid M) where
    found : (c : ℕ) → c < length M.conditions → Some c ≡ place_of M.conditions (marks_of M c)
    found c l = place_found M.conditions c (marks_of M c) l refl (λ k b e. let u = v.conditions_rise k c b l in omega arith)

    same_at : (c d : ℕ) → c < length M.conditions → IsAt M d (marks_of M c) → d ≡ c
    same_at c d l a = same_place M d c (marks_of M c) v.conditions_rise a (l, refl)

    promised : (p : Picks) (c o d : ℕ) → c < length M.conditions → Picked M p c o d → Promised M p (marks_of M c) o (marks_of M d)
    promised (scripted bytes) c o d l h =
        goes_nth M (marks_of M c) o (slice_index bytes 0) (slice_index bytes 0) c d (marks_of M d) v (found c l) refl (sym h) refl
    promised nearest c o d l h = goes_least M (marks_of M c) o c d (marks_of M d) v (found c l) h refl

    promised_one : (p : Picks) (c o d m' : ℕ) → c < length M.conditions → Picked M p c o d → Promised M p (marks_of M c) o m' → m' ≡ marks_of M d
    promised_one (scripted bytes) c o d m' l h (b, t) =
        let byte = slice_index bytes 0 in
        sym t.1.1
        ∙ ap (λ (x : ℕ). marks_of M (slice_index (outcomes M.moves x o) (byte % length (outcomes M.moves x o)))) (same_at c b l t.0)
        ∙ ap (marks_of M) (sym (named_is byte d (outcomes M.moves c o) (sym h)))
    promised_one nearest c o d m' l h (b, e, t) =
        let there =
        subst (λ (x : ℕ). Leads M x o e × ((y : ℕ) → Leads M x o y → Before (change M x e) e (change M x y) y)) (same_at c b l t.0) (t.1, t.3) in
        let move = there.0 in
        let i = subst (λ (y : ℕ). In y (outcomes M.moves c o)) move.2 (outcome_in M.moves c o move.0 move.1.0 move.1.1 move.1.2) in
        let first = h.1 e i in
        let second = there.1 d (outcome_of M.moves c o d h.0) in
        let same : e ≡ d = omega (arith, first.0, first.1, second.0, second.1) in
        sym t.2.1 ∙ ap (marks_of M) same

    abbrev shown_by : List Move → List ℕ
    shown_by ms = map (λ (m : Move). marks_of M m.outcome) ms

    leads_inside : (p : Picks) (q c : ℕ) (m : Move) (ms : List Move) → Goes w M q p c (m ∷ ms) → m.outcome < length M.conditions
    leads_inside p q c m ms g =
        outcome_inside M c m.operation m.outcome v (outcome_in M.moves c m.operation m g.1.0 g.1.1 g.1.2)

    shows : (p : Picks) (q c : ℕ) (ms : List Move) → c < length M.conditions → Goes w M q p c ms → Shows w M q p (marks_of M c) (shown_by ms)
    shows p q c [] l g = (c, ((l, refl), g))
    shows p q c (m ∷ ms) l g =
        (c, m.operation, ((l, refl), g.0, promised p c m.operation m.outcome l g.2, shows (later p) q m.outcome ms (leads_inside p q c m ms g) g.3))

    only : (p : Picks) (q c : ℕ) (ms : List Move) (ns : List ℕ) → c < length M.conditions → Goes w M q p c ms → Shows w M q p (marks_of M c) ns → ns ≡ shown_by ms
    only p q c [] [] l g s = refl
    only p q c [] (n ∷ ns) l g (b, o, t) =
        absurd (there_work (w.entry q c) o g (subst (λ (x : ℕ). w.entry q x ≡ Work o) (same_at c b l t.0) t.1))
    only p q c (m ∷ ms) [] l g (b, t) =
        absurd (there_work (w.entry q c) m.operation (subst (λ (x : ℕ). w.entry q x ≡ There) (same_at c b l t.0) t.1) g.0)
    only p q c (m ∷ ms) (n ∷ ns) l g (b, o, t) =
        let worked : w.entry q c ≡ Work o = subst (λ (x : ℕ). w.entry q x ≡ Work o) (same_at c b l t.0) t.1 in
        let e : o ≡ m.operation = one_work (w.entry q c) o m.operation worked g.0 in
        let f : n ≡ marks_of M m.outcome =
        promised_one p c m.operation m.outcome n l g.2 (subst (λ (x : ℕ). Promised M p (marks_of M c) x n) e t.2) in
        ap₂ {C = List ℕ} (λ (x : ℕ) (xs : List ℕ). x ∷ xs) f
        (only (later p) q m.outcome ms ns (leads_inside p q c m ms g) g.3 (subst (λ (x : ℕ). Shows w M q (later p) x ns) f t.3))

-- ── the rows ──

abbrev asks : Row → Bool
asks r = passes r.policy (start_at r.stage (Some r.condition)) (Ask r.request)

abbrev goes_on : Row → Bool
goes_on r = goes r.policy r.picks r.stage r.request r.condition r.moves

abbrev right : Row → Bool
right r = ltb r.condition (length r.policy.port.conditions) && (asks r && goes_on r)

all_right : each right rows ≡ true
unfolding lib.Count.ones
all_right = refl

visits : map (λ (r : Row). map (λ (m : Move). m.outcome) r.moves) rows ≡ map (λ (r : Row). r.visits) rows
visits = refl

abbrev lived : Row → List Errand
lived r = errands (calls (world r.policy) r.stage r.request r.condition r.moves)

abbrev told : Row → List Errand
told r = record { request = r.request; quote = r.quote; moves = r.moves; out = false } ∷ []

all_lived : map lived rows ≡ map told rows
all_lived = refl

spent : map (λ (r : Row). cost r.policy.model r.moves) rows ≡ map (λ (r : Row). r.spent) rows
spent = refl

all_shown : map (λ (r : Row). map (λ (m : Move). marks_of r.policy.port m.outcome) r.moves) rows ≡ map (λ (r : Row). r.shown) rows
all_shown = refl

is_staithe : (r : Row) → In r rows → r.policy ≡ staithe_minutes
is_staithe r (inl q) = ap (λ (x : Row). x.policy) q
is_staithe r (inr (inl q)) = ap (λ (x : Row). x.policy) q
is_staithe r (inr (inr n)) = absurd n

staithe_valid : Valid low_staithe
staithe_valid = sheets_valid (record { sheet = low_staithe_sheet; told = port low_staithe }) (inl refl) low_staithe refl

pub errands_hold : ErrandsHold
errands_hold r i =
    let h = (and-eq-true_iff (ltb r.condition (length r.policy.port.conditions)) (asks r && goes_on r)).0 (each_in right rows all_right r i) in
    let k = (and-eq-true_iff (asks r) (goes_on r)).0 h.1 in
    let inside : r.condition < length r.policy.port.conditions = ltb-true r.condition (length r.policy.port.conditions) h.0 in
    let valid : Valid r.policy.port = subst (λ (x : PolicyRow). Valid x.port) (sym (is_staithe r i)) staithe_valid in
    let moves = goes_true r.policy r.picks r.stage r.request r.condition r.moves k.1 in
    let shown = same_answers (λ (x : Row). map (λ (m : Move). marks_of x.policy.port m.outcome) x.moves) (λ (x : Row). x.shown) rows all_shown r i in
    record {
      solved = subst (λ (x : PolicyRow). Solved (world x)) (sym (is_staithe r i)) (policies_hold staithe_minutes (inr (inl refl)));
      goes = moves;
      alone = λ ms g. alone r.policy r.picks r.stage r.request r.condition r.moves ms k.1 g;
      visits = same_answers (λ (x : Row). map (λ (m : Move). m.outcome) x.moves) (λ (x : Row). x.visits) rows visits r i;
      shows = subst (λ (ms : List ℕ). Shows (world r.policy) r.policy.port r.request r.picks (marks_of r.policy.port r.condition) ms) shown
          (shows r.policy valid r.picks r.request r.condition r.moves inside moves);
      only = λ ms s. only r.policy valid r.picks r.request r.condition r.moves ms inside moves s ∙ shown;
      asked = asked r.policy r.picks r.stage r.request r.condition r.moves k.0 k.1;
      errand = same_answers lived told rows all_lived r i;
      spent = same_answers (λ (x : Row). cost x.policy.model x.moves) (λ (x : Row). x.spent) rows spent r i;
    }
