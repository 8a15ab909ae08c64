-- What an outing comes to, from what its parts promise.
use Rattle.std.proofs.Common.{◌≡◌, ℕ, Bool, true, not, cond, leb, ◌&&◌, List, length, Some, None, Option, Ok, Err, Result, IsErrAnd, MatchResult, sym, refl, ap, ◌∙◌, subst, arith}
use Rattle.std.proofs.lemmas.Bool.{le-leb}
use Rattle.port.specs.Model.{model_of}
use Rattle.port.specs.Model.{Model as PortModel}
use Rattle.port.specs.declared.held.Port.{Port}
use Rattle.plans.specs.Domains.{domain_of}
use Rattle.plans.specs.Simulation.{Domain}
use Rattle.costs.specs.Costs.{Model, Laws}
use Rattle.locks.specs.Steps.{WorkedInTurn}
use Rattle.solver.specs.declared.Entry.{Entry}
use Rattle.solver.specs.Policy.{Solved, world_of}
use Rattle.solver.specs.Solving.{enough, pairs_of, places_of}
use Rattle.histories.specs.declared.Command.{Command}
use Rattle.histories.specs.Calls.{refusal, open_rules}
use Rattle.control.specs.declared.policy.Policy.{Policy}
use Rattle.control.specs.States.{Answer, State, state}
use Rattle.control.specs.declared.refusal.Refusal.{Refusal}
use Rattle.control.specs.declared.tour.OutingError.{OutingError}
use Rattle.control.specs.declared.tour.OutingError.TheVariants.{Refused}
use Rattle.control.specs.Numbers.{refusal_number}
use Rattle.control.specs.Handlings.{Carried, Tended, accepted}
use Rattle.control.specs.Outings.{Failed, Ready, Logged, ShowsAll, Outed, Told}
use Rattle.control.specs.Worlds.{opening_rules, world, place_in}
use Rattle.control.proofs.Courses.{retold}
use Rattle.control.proofs.Handled.{taken}
use Rattle.control.proofs.Opened.{opens_in, promises, opening}

module _ {K : Type 0} (k : Model) (e : K → List ℕ) (p : Port) (t : Policy K) (sv : Solved (world k e p t)) where
  ready : Ready (model_of p) k (world k e p t)
  ready = record { over = refl; under = refl; solved = sv }

  pub told : Laws k → (M : PortModel) (m : ℕ) (ks : List Command) (rs : List (Answer K)) (last : State) →
      refusal (opening_rules k e p t m) ≡ None →
      Logged e (world k e p t) (model_of p).conditions M (state p.header.stage None m) ks rs last →
      Told k e (model_of p) M m ks last.marks rs
  told laws M m ks rs last opens logged =
      record {
        world = world k e p t;
        ready = ready;
        opens = opens_in k e p t m opens;
        kept = opening k e p t m sv;
        last = last;
        logged = logged;
        ends = refl;
        outed = outed;
      }
    where
      outed : M ≡ model_of p → Outed e (world k e p t) p.header.stage (place_in p m) (place_in p last.marks) ks rs
      outed own =
          let h = retold e (world k e p t) (model_of p) p.conditions_rise refl M own logged.turns (state p.header.stage None m) last logged.chained in
          record {
            history = h.history;
            end = _;
            asked = h.asked ∙ logged.asked;
            answered = subst (λ (x : List (Answer K)). ShowsAll e x h.history) logged.answered h.answered;
            chained = h.chained;
            ends = refl;
            promise = promises k e p t m laws opens sv h.history _ h.chained;
          }

  -- with what was done to the lock
  pub carried : {S : Type 0} (present : S → ℕ) (works : S → ℕ → Bool → S → Type 0) → Laws k → (M : PortModel) (s s' : S) (ks : List Command)
      (rs : List (Answer K)) (x : ℕ) (y : Option ℕ) → refusal (opening_rules k e p t (present s)) ≡ None →
      Tended e present works (world k e p t) (model_of p).conditions M (state p.header.stage None (present s)) s ks rs (state x y (present s')) s' →
      Carried k e present works (model_of p) M s ks s' rs
  unfolding told
  carried {S} present works laws M s s' ks rs x y opens tended =
      record {
        told = told laws M (present s) ks rs (state x y (present s')) opens tended.logged;
        handled = tended.handled;
        steps = λ own.
            subst (λ (as_told : List (Answer K)). WorkedInTurn works (accepted as_told) s s') tended.logged.answered
            (taken e works (world k e p t) (model_of p) p.conditions_rise refl M own present tended.logged.turns
            (state p.header.stage None (present s)) (state x y (present s')) s s' tended.logged.chained tended.handled);
      }

-- a log of a controller that was opened with these terms
pub tended_there : {K S : Type 0} (k : Model) (e : K → List ℕ) (present : S → ℕ) (works : S → ℕ → Bool → S → Type 0) (p' p : Port) (t' t : Policy K) (M : PortModel)
    (s' s : ℕ) (o' o : Option ℕ) → p' ≡ p → t' ≡ t → s' ≡ s → o' ≡ o → (m : ℕ) (u v : S) (ks : List Command) (rs : List (Answer K)) (last : State) →
    Tended e present works (world k e p' t') (model_of p').conditions M (state s' o' m) u ks rs last v →
    Tended e present works (world k e p t) (model_of p).conditions M (state s o m) u ks rs last v
tended_there {K} {S} k e present works p' p t' t M s' s o' o ep et es eo m u v ks rs last l =
    let l1 = subst (λ (x : Port). Tended e present works (world k e x t') (model_of x).conditions M (state s' o' m) u ks rs last v) ep l in
    let l2 = subst (λ (x : Policy K). Tended e present works (world k e p x) (model_of p).conditions M (state s' o' m) u ks rs last v) et l1 in
    let l3 = subst (λ (x : ℕ). Tended e present works (world k e p t) (model_of p).conditions M (state x o' m) u ks rs last v) es l2 in
    subst (λ (x : Option ℕ). Tended e present works (world k e p t) (model_of p).conditions M (state s x m) u ks rs last v) eo l3

-- the world of tables is that of a policy that shows them
pub solved_there : {K : Type 0} (k : Model) (e : K → List ℕ) (p : Port) (t : Policy K) (es : List Entry) (cs : List K) (rs : List ℕ) →
    t.entries.now ≡ es → t.costs.now ≡ cs → t.ranks.now ≡ rs → Solved (world_of (domain_of (model_of p)) k e es cs rs) → Solved (world k e p t)
solved_there {K} k e p t es cs rs a b c s =
    let s1 : Solved (world_of (domain_of (model_of p)) k e t.entries.now cs rs) =
    subst (λ (x : List Entry). Solved (world_of (domain_of (model_of p)) k e x cs rs)) (sym a) s in
    let s2 : Solved (world_of (domain_of (model_of p)) k e t.entries.now t.costs.now rs) =
    subst (λ (x : List K). Solved (world_of (domain_of (model_of p)) k e t.entries.now x rs)) (sym b) s1 in
    subst (λ (x : List ℕ). Solved (world_of (domain_of (model_of p)) k e t.entries.now t.costs.now x)) (sym c) s2

-- tables of a port's places and pairs have room for it
pub roomy : {K : Type 0} (D : Domain) (entries : List Entry) (costs : List K) (ranks : List ℕ) → length entries ≡ places_of D → length costs ≡ places_of D → length ranks ≡ pairs_of D →
    enough D entries costs ranks ≡ true
roomy D entries costs ranks a b c =
    let first = le-leb (places_of D) (length entries) (omega (arith, a)) in
    let second = le-leb (places_of D) (length costs) (omega (arith, b)) in
    let third = le-leb (pairs_of D) (length ranks) (omega (arith, c)) in
    ap (λ x. x && (leb (places_of D) (length costs) && leb (pairs_of D) (length ranks))) first ∙ ap (λ x. x && leb (pairs_of D) (length ranks)) second ∙ third

-- a refused opening over tables that have room, told of the whole outing
pub barred : {K Y : Type 0} (k : Model) (e : K → List ℕ) (p : Port) (t : Policy K) (m : ℕ) → Solved (world k e p t) →
    enough (domain_of (model_of p)) t.entries.now t.costs.now t.ranks.now ≡ true → (x : Refusal) → refusal (opening_rules k e p t m) ≡ Some (refusal_number x) →
    (r : Result Y OutingError) (P : OutingError → Type 0) → IsErrAnd r P → ((y : OutingError) → P y → y ≡ Refused x) → (Q : Y → Type 0) →
    MatchResult r Q (λ y. Failed k (model_of p) m m y)
barred k e p t m sv room x h (Ok y) P n same Q = absurd n
barred k e p t m sv room x h (Err y) P n same Q =
    subst (λ (z : OutingError). Failed k (model_of p) m m z) (sym (same y n))
    record {
      world = world k e p t;
      ready = ready k e p t sv;
      refused = sym (ap (λ b. cond b (Some 12) (refusal (open_rules (world k e p t) (model_of p).header.stage (place_in p m)))) (ap not room)) ∙ h;
      kept = opening k e p t m sv;
      stays = refl;
    }
