-- The rows of promises: of quotes and openings by one test, of histories each by its own.
use Rattle.std.proofs.Common.{◌≡◌, ℕ, ◌+◌, ◌<◌, ◌≤◌, Bool, true, false, not, ◌&&◌, ltb, ◌↔◌, List, [], ◌∷◌, get_or, Some, None, sym, refl, ap, ◌∙◌, subst, inl, inr, arith, ltb-true}
use mathlib.Core.Bool.{and-eq-true_iff, false≢true}
use Rattle.plans.specs.Flags.{task_at}
use Rattle.port.specs.Limits.{In}
use Rattle.port.specs.declared.Move.{Move}
use Rattle.plans.specs.Plans.{Plan, stop, work, IsRun, Works, end}
use Rattle.plans.specs.Reach.{each}
use Rattle.plans.specs.Simulation.{WellFormed, Holds, Kept}
use Rattle.plans.proofs.Serve.{kept_ranged, kept_serves, serves_mono}
use Rattle.locks.specs.Places.{possible}
use Rattle.locks.proofs.Standing.{possible_there}
use Rattle.costs.specs.Costs.{Laws, Le, cost}
use Rattle.costs.specs.Models.{minutes_laws, →lex}
use Rattle.search.proofs.Runs.{has_cost}
use Rattle.costs.proofs.Order.{weaken}
use Rattle.solver.specs.declared.Entry.TheVariants.{None as NoEntry, There}
use Rattle.solver.specs.Policy.{World, Safe, Solved}
use Rattle.histories.specs.declared.Command.TheVariants.{Quote, Ask, Step, Close}
use Rattle.histories.specs.Calls.{quoted, granted, worked, closed, refused, refusal, open_rules, Opens, start_at}
use Rattle.histories.specs.Errands.{request_of}
use Rattle.histories.specs.Promise.{Inside, LeastInSimulations, Promise, Promised, Opening}
use Rattle.histories.proofs.Basics.{some_inj, some_none}
use Rattle.histories.proofs.Holds.{promise_holds}
use Rattle.histories.proofs.Policy.{inside_safe, quote_least, safe_entry}
use Rattle.cases_plans.proofs.Rows.{alike, right, all_say, ◌⨾◌, each_says}
use Rattle.cases_plans.proofs.Tests.{both, attains_test, attains_decided}
use Rattle.cases_plans.proofs.Kept.{kept_test, kept_decided, formed_decided}
use Rattle.cases_histories.specs.Sluice.{lift, flood, two, nought, sluice, entries, costs, ranks, with_tables, w, working}
use Rattle.cases_histories.specs.Calls.{at}
use Rattle.cases_histories.specs.Errands.{errand, event, leaving}
use Rattle.cases_histories.specs.Promises.{Claim, inside, least, opening, Means, rows, PromisesSay, brink, edge, IsLeast, brinks, BrinksSay, IsPromise, low, high, idle, lives, LivesSay, beginnings, BeginningsSay}
use Rattle.cases_histories.proofs.Tests.{same_numbers, numbers_tell, same_place, places_tell, same_entry, entries_tell}
use Rattle.cases_histories.proofs.Plans.{each_run, each_run_iff, inside_test, price_decided, safe_decided}
use Rattle.cases_histories.proofs.Rights.{one_price, priced_sized, formed, joined}
use Rattle.cases_histories.proofs.Policies.{solved_decided}
use Rattle.cases_histories.proofs.Takes.{took_decided, history_decided, opens_test, opens_decided, unlike}

pub own_solved : Solved w
own_solved = (solved_decided entries costs ranks).0 refl

-- ── quotes ──

inside_decided : (q c : ℕ) (R : ℕ → ℕ → Bool) (plan : Plan) → (inside_test w q (R (task_at sluice q).to) plan c ≡ true) ↔ Inside w q c R plan
inside_decided q c R plan =
    both (attains_test sluice.moves (task_at sluice q).keep (task_at sluice q).reach plan c)
    (each_run sluice.moves (λ ms. R (task_at sluice q).to (end c ms)) plan c)
    (attains_decided sluice.moves (task_at sluice q).keep (task_at sluice q).reach plan c)
    (each_run_iff sluice.moves (λ ms. R (task_at sluice q).to (end c ms)) plan c)

-- one least cost is at most another, so that there is one
module _ (v : World) (laws : Laws v.model) where
  least_most : (q c : ℕ) (f g : List ℕ) → LeastInSimulations v q c f → LeastInSimulations v q c g → Le v.model f g
  least_most q c f g a b =
      let s = b.some in
      let t = a.least s.0 s.1 s.2.0 s.2.1 in
      subst (λ (x : List ℕ). Le v.model f x) (one_price v laws s.1 c t.0 g t.1 s.2.2) t.2

  least_one : (q c : ℕ) (f g : List ℕ) → LeastInSimulations v q c f → LeastInSimulations v q c g → f ≡ g
  least_one q c f g a b =
      laws.tie f g (priced_sized v laws a.some.1 c f a.some.2.2) (priced_sized v laws b.some.1 c g b.some.2.2)
      (least_most q c f g a b) (least_most q c g f b a)

abbrev least_test : ℕ → ℕ → List ℕ → Bool
least_test q c f = not (same_entry (w.entry q c) NoEntry) && same_numbers f (w.cost q c)

not_so : {P : Type 0} (b : Bool) → (b ≡ true) ↔ P → (not b ≡ true) ↔ (P → ⊥)
not_so true h = (λ e. absurd (false≢true e), λ n. absurd (n (h.0 refl)))
not_so false h = (λ e p. false≢true (h.1 p), λ n. refl)

least_decided : (q c : ℕ) → q < 3 → c < 3 → (f : List ℕ) → (least_test q c f ≡ true) ↔ LeastInSimulations w q c f
least_decided q c l m f = (
  λ e.
      let h = parts.0 e in
      subst (λ (x : List ℕ). LeastInSimulations w q c x) (sym h.1) (own h.0),
  λ a.
      let s = a.some in
      let there = safe_entry w own_solved (weaken minutes_laws) q l c m s.1 (inside_safe w q c s.0 s.1 s.2.0 s.2.1) in
      parts.1 (there, least_one w minutes_laws q c f (w.cost q c) a (own there)),
)
  where
    own : (w.entry q c ≡ NoEntry → ⊥) → LeastInSimulations w q c (w.cost q c)
    own ne = quote_least w own_solved (weaken minutes_laws) q l c m ne

    parts : (least_test q c f ≡ true) ↔ ((w.entry q c ≡ NoEntry → ⊥) × (f ≡ w.cost q c))
    parts =
        both (not (same_entry (w.entry q c) NoEntry)) (same_numbers f (w.cost q c))
        (not_so (same_entry (w.entry q c) NoEntry) (entries_tell (w.entry q c) NoEntry)) (numbers_tell f (w.cost q c))

-- ── the brink ──

brink_formed : WellFormed brink
brink_formed = (formed_decided brink).0 refl

-- at its ends nothing is possible
brink_idle : (m : Move) → In m brink.moves → (o : ℕ) → possible brink.moves m.outcome o ≡ false
brink_idle m (inl e) o = ap (λ (x : Move). possible brink.moves x.outcome o) e
brink_idle m (inr (inl e)) o = ap (λ (x : Move). possible brink.moves x.outcome o) e
brink_idle m (inr (inr n)) o = absurd n

idle_run : (plan : Plan) (c : ℕ) (ms : List Move) → ((o : ℕ) → possible brink.moves c o ≡ false) → Works brink.moves plan c →
    IsRun brink.moves plan c ms → ms ≡ []
idle_run stop c [] still x r = refl
idle_run stop c (m ∷ ms) still x r = absurd r
idle_run (work o next) c ms still x r = absurd (false≢true (sym (still o) ∙ possible_there brink.moves c o x.0))

-- a first move that ends in a kept pair is a lift
lifted : (m : Move) → In m brink.moves → Kept brink 1 m.outcome → 3 ≤ m.minutes
lifted m (inl e) k = subst (λ (x : Move). 3 ≤ x.minutes) (sym e) (omega arith)
lifted m (inr (inl e)) k =
    absurd (false≢true ((kept_decided brink brink_formed 1 2).1 (subst (λ (x : Move). Kept brink 1 x.outcome) e k)))
lifted m (inr (inr n)) k = absurd n

brink_dear : (plan : Plan) → Safe edge 0 plan 0 → (ms : List Move) → IsRun brink.moves plan 0 ms → Le edge.model (two 3 1) (cost edge.model ms)
brink_dear stop s ms r = absurd (false≢true ((safe_decided edge brink_formed 0 stop 0).1 s))
brink_dear (work o next) s [] r = absurd r
brink_dear (work o next) s (m ∷ ms) r =
    let none = idle_run (next m.outcome) m.outcome ms (brink_idle m r.0.0) (s.0.0.1 m r.0) r.1 in
    let k : Kept brink 1 m.outcome = subst (λ (x : List Move). Kept brink 1 (end m.outcome x)) none (s.1 (m ∷ ms) r) in
    →lex 3 1 (get_or (cost edge.model ms) 0 0 + m.minutes) (get_or (cost edge.model ms) 1 0 + 1)
    (joined m.minutes (get_or (cost edge.model ms) 0 0) (get_or (cost edge.model ms) 1 0) (lifted m r.0.0 k))

brink_least : IsLeast (two 3 1)
brink_least = record {
  some = (
    kept_test brink,
    working 1,
    (
      record {
        ranged = λ s c h. kept_ranged brink s c ((kept_decided brink brink_formed s c).0 h);
        closed = λ s c h. serves_mono brink (Kept brink) (Holds (kept_test brink))
            (λ t d k. (kept_decided brink brink_formed t d).1 k) s c (kept_serves brink s c ((kept_decided brink brink_formed s c).0 h));
      },
      brink_inside,
      (price_decided edge (working 1) 0 (two 3 1)).0 refl,
    ),
  );
  least = λ R plan sim i.
      let s = inside_safe edge 0 0 R plan sim i in
      let t = has_cost (weaken minutes_laws) brink.moves (task_at brink 0).keep (task_at brink 0).reach plan 0 s.0 in
      (t.0, t.1, subst (λ (x : List ℕ). Le edge.model (two 3 1) x) t.1.some.2 (brink_dear plan s t.1.some.0 t.1.some.1));
}
  where
    brink_inside : Inside edge 0 0 (kept_test brink) (working 1)
    brink_inside =
        let s = (safe_decided edge brink_formed 0 (working 1) 0).0 refl in
        (s.0, λ ms r. (kept_decided brink brink_formed 1 (end 0 ms)).1 (s.1 ms r))

other_least : (f : List ℕ) → same_numbers f (two 3 1) ≡ false → IsLeast f → ⊥
other_least f e a = false≢true (sym e ∙ (numbers_tell f (two 3 1)).1 (least_one edge minutes_laws 0 0 f (two 3 1) a brink_least))

pub brinks_say : BrinksSay
brinks_say = each_says IsLeast brinks (
    brink_least
    ⨾ other_least (two 1 1) refl
    ⨾ other_least nought refl
    ⨾ tt
    )

-- ── openings ──

iff_alike : {P Q : Type 0} (a b : Bool) → (a ≡ true) ↔ P → (b ≡ true) ↔ Q → (alike a b ≡ true) ↔ (P ↔ Q)
iff_alike true true p q = (λ e. (λ x. q.0 refl, λ x. p.0 refl), λ h. refl)
iff_alike true false p q = (λ e. absurd (false≢true e), λ h. q.1 (h.0 (p.0 refl)))
iff_alike false true p q = (λ e. absurd (false≢true e), λ h. p.1 (h.1 (q.0 refl)))
iff_alike false false p q = (λ e. (λ x. absurd (false≢true (p.1 x)), λ x. absurd (false≢true (q.1 x))), λ h. refl)

module _ (rs : List ℕ) (s c : ℕ) where
  abbrev v : World
  v = with_tables entries costs rs

  abbrev accepts_test : Bool
  accepts_test = alike (opens_test v s (Some c)) (kept_test sluice s c)

  abbrev refuses_test : Bool
  refuses_test = alike (same_place (refusal (open_rules v s (Some c))) (Some 24)) (not (kept_test sluice s c))

  opening_decided : ((accepts_test && refuses_test) ≡ true) ↔ Opening v s c
  opening_decided = (
    λ e. let h = parts.0 e in record { accepts = h.0; refuses = h.1 },
    λ o. parts.1 (o.accepts, o.refuses),
  )
    where
      parts : ((accepts_test && refuses_test) ≡ true)
          ↔ ((Opens v s (Some c) ↔ Kept sluice s c) × ((refusal (open_rules v s (Some c)) ≡ Some 24) ↔ (Kept sluice s c → ⊥)))
      parts =
          both accepts_test refuses_test
          (iff_alike (opens_test v s (Some c)) (kept_test sluice s c) (opens_decided v s (Some c)) (kept_decided sluice formed s c))
          (iff_alike (same_place (refusal (open_rules v s (Some c))) (Some 24)) (not (kept_test sluice s c))
          (places_tell (refusal (open_rules v s (Some c))) (Some 24)) (not_so (kept_test sluice s c) (kept_decided sluice formed s c)))

-- ── the rows of both ──

-- what the test decides: requests and conditions that there are
abbrev decides : Claim → Bool
decides (least q c f) = ltb q 3 && ltb c 3
decides x = true

abbrev test : Claim → Bool
test (inside q c R plan) = inside_test w q (R (task_at sluice q).to) plan c
test (least q c f) = least_test q c f
test (opening rs s c) = accepts_test rs s c && refuses_test rs s c

decided : (x : Claim) → decides x ≡ true → (test x ≡ true) ↔ Means x
decided (inside q c R plan) e = inside_decided q c R plan
decided (least q c f) e =
    let h = (and-eq-true_iff (ltb q 3) (ltb c 3)).0 e in least_decided q c (ltb-true q 3 h.0) (ltb-true c 3 h.1) f
decided (opening rs s c) e = opening_decided rs s c

all_right : each (right decides test) rows ≡ true
all_right = refl

pub promises_say : PromisesSay
promises_say = all_say Means decides test decided rows all_right

-- ── histories ──

-- every history from an accepted opening has the promise
pub from_start : (s c : ℕ) → s < 4 → Opens w s (Some c) → Promised w (start_at s (Some c))
from_start s c l o = promise_holds w minutes_laws formed own_solved s (Some c) l o

nowhere : Promise w [] (at 3 None None) → ⊥
nowhere p = some_none (sym p.stands.1.0)

outside : Promise w [] (at 3 None (Some 3)) → ⊥
outside p =
    let e : 3 ≡ p.stands.0 = some_inj p.stands.1.0 in
    let l : p.stands.0 < 3 = p.stands.1.1 in
    omega arith

no_grant : Promise w [] (at 1 None (Some 1)) → ⊥
no_grant p =
    let b = at 1 None (Some 1) in
    let t = p.grants refl 1 refl (refused 25) b ((took_decided w b (Ask 1) (refused 25) b).0 refl) in
    unlike (refused 25) (granted t.0) t.1 refl

no_step : Promise w [] (at 1 (Some 1) (Some 1)) → ⊥
no_step p =
    let b = at 1 (Some 1) (Some 1) in
    let t = p.steps 1 refl (λ q. false≢true ((entries_tell NoEntry There).1 q)) (refused 25) b ((took_decided w b (Step 1) (refused 25) b).0 refl) in
    unlike (refused 25) (worked t.0) t.1 refl

no_close : Promise w [] (at 1 (Some 0) (Some 1)) → ⊥
no_close p =
    let b = at 1 (Some 0) (Some 1) in
    let t = p.closes 0 refl refl (refused 22) b ((took_decided w b (Close 0) (refused 22) b).0 refl) in
    unlike (refused 22) (closed t.0) t.1 refl

-- what is so of the request and the condition that a call names is so of them
at_call : (P : ℕ → ℕ → Bool) (q c r d : ℕ) → q ≡ r → c ≡ d → P q c ≡ false → P r d ≡ true → ⊥
at_call P q c r d e f x y =
    false≢true (sym x ∙ subst (λ (n : ℕ). P q n ≡ true) (sym f) (subst (λ (n : ℕ). P n d ≡ true) (sym e) y))

no_keep : Promise w (event high (Step 0) (worked lift) high ∷ []) high → ⊥
no_keep p =
    let t = p.keeps (event high (Step 0) (worked lift) high) (inl refl) lift refl in
    at_call (λ q c. (task_at sluice q).keep c) 0 1 t.0 t.1 (ap request_of t.2.0) (some_inj t.2.1) refl t.2.2

no_reach : Promise w (event low (Close 0) (closed 0) idle ∷ []) idle → ⊥
no_reach p =
    let t = p.reaches (event low (Close 0) (closed 0) idle) (inl refl) 0 refl in
    at_call (λ q c. (task_at sluice q).reach c) 0 0 t.0 t.1 (ap request_of t.2.0) (some_inj t.2.1) refl t.2.2

dear : (c : ℕ) → 0 ≡ c → LeastInSimulations w 0 c (two 4 1) → ⊥
dear c e a =
    let b : LeastInSimulations w 0 0 (two 4 1) = subst (λ (x : ℕ). LeastInSimulations w 0 x (two 4 1)) (sym e) a in
    false≢true ((least_decided 0 0 (omega arith) (omega arith) (two 4 1)).1 b)

pub lives_say : LivesSay
lives_say = each_says IsPromise lives (
    from_start 0 0 (omega arith) refl leaving (at 0 None (Some 1)) ((history_decided w idle leaving (at 0 None (Some 1))).0 refl)
    ⨾ from_start 0 0 (omega arith) refl (event idle (Ask 0) (granted (two 3 1)) low ∷ []) low
    ((history_decided w idle (event idle (Ask 0) (granted (two 3 1)) low ∷ []) low).0 refl)
    ⨾ from_start 2 0 (omega arith) refl [] (at 2 None (Some 0)) refl
    ⨾ nowhere
    ⨾ outside
    ⨾ (λ p. p.spends (errand 0 (two 3 1) (flood ∷ []) true) (inl refl))
    ⨾ no_grant
    ⨾ no_step
    ⨾ no_close
    ⨾ no_keep
    ⨾ no_reach
    ⨾ (λ p. let t = p.quotes (event idle (Quote 0) (quoted (two 4 1)) idle) (inl refl) (two 4 1) (inl refl) in dear t.0 (some_inj t.1.0) t.1.1)
    ⨾ (λ p. let t = p.quotes (event idle (Ask 0) (granted (two 4 1)) low) (inl refl) (two 4 1) (inr refl) in dear t.0 (some_inj t.1.0) t.1.1)
    ⨾ tt
    )

pub beginnings_say : BeginningsSay
beginnings_say = each_says (Promised w) beginnings (
    from_start 0 0 (omega arith) refl
    ⨾ from_start 2 0 (omega arith) refl
    ⨾ (λ p. no_grant (p [] (at 1 None (Some 1)) refl))
    ⨾ (λ p. nowhere (p [] (at 3 None None) refl))
    ⨾ tt
    )
