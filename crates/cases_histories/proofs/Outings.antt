-- The rows of outings: of courses by one test, of logs each by its own.
use Rattle.std.proofs.Common.{◌≡◌, ℕ, ◌<◌, Bool, true, false, cond, not, ◌&&◌, eqb, ltb, ◌↔◌, List, [], ◌∷◌, map, Some, None, Ok, Err, Option, sym, refl, ap, ◌∙◌, subst, arith}
use Rattle.std.specs.Fmt.{digits}
use mathlib.Core.Bool.{false≢true}
use Rattle.port.specs.Model.{Model, first}
use Rattle.plans.specs.Domains.{domain_of}
use Rattle.plans.specs.Flags.{rank_at}
use Rattle.plans.specs.Reach.{each}
use Rattle.plans.specs.Simulation.{Domain, WellFormed, InRange, Rank}
use Rattle.costs.specs.Costs.{Model as CostsOf}
use Rattle.costs.specs.Models.{minutes_model, minutes_laws}
use Rattle.solver.specs.Policy.{World, Solved}
use Rattle.solver.proofs.KeptSets.{kept_largest, kept_simulates}
use Rattle.histories.specs.declared.Command.{Command}
use Rattle.histories.specs.declared.Command.TheVariants.{Quote, Ask}
use Rattle.histories.specs.Calls.{At, Event, History, Took, quoted, refused, refusal, open_rules, start_at}
use Rattle.histories.specs.Calls.{ExactAnswer}
use Rattle.histories.specs.Promise.{Promised, Opening}
use Rattle.histories.proofs.Basics.{some_inj, some_none}
use Rattle.histories.proofs.Holds.{promise_holds, opening_holds}
use Rattle.control.specs.declared.answer.Reply.TheVariants.{Quoted, Granted}
use Rattle.control.specs.declared.refusal.Refusal.TheVariants.{NotOffered}
use Rattle.control.specs.States.{Answer, State, state, Does, Shows}
use Rattle.control.specs.Outings.{Turn, Course, Logged, ShowsAll, Outed, Ready, Told}
use Rattle.cases_plans.proofs.Rows.{right, all_say, ◌⨾◌, each_says}
use Rattle.cases_plans.proofs.Tests.{both}
use Rattle.cases_plans.proofs.Kept.{formed_decided, pairwise_iff, rank_test, rank_decided}
use Rattle.cases_histories.specs.Sluice.{two, nought, w, as_given, port}
use Rattle.cases_histories.specs.Calls.{at}
use Rattle.cases_histories.specs.Errands.{event, leaving}
use Rattle.cases_histories.specs.Controls.{marks}
use Rattle.cases_histories.specs.Outings.{turn, Claim, course, shows_all, Means, answers, rows, CoursesSay, errors, ErrorsSay, alone, Tells, logs, LogsSay}
use Rattle.cases_histories.proofs.Values as values
use Rattle.cases_histories.proofs.Takes.{three, took_decided, history_decided}
use Rattle.cases_histories.proofs.Promises.{from_start}
use Rattle.cases_histories.proofs.Decisions.{same_state, states_tell, does_test, does_decided, shows_test, shows_decided}

-- ── courses ──

abbrev course_test : World → List ℕ → Model → State → List (Turn (List ℕ)) → State → Bool
course_test v cs M a [] b = same_state b a
course_test v cs M a (t ∷ ts) b = same_state t.before a && (does_test v cs M a t.command t.answer t.after && course_test v cs M t.after ts b)

chained : (v : World) (cs : List ℕ) (M : Model) (a : State) (t : Turn (List ℕ)) (ts : List (Turn (List ℕ))) (b : State) →
    (course_test v cs M t.after ts b ≡ true) ↔ Course as_given v cs M t.after ts b → (course_test v cs M a (t ∷ ts) b ≡ true) ↔ Course as_given v cs M a (t ∷ ts) b
chained v cs M a t ts b rest =
    let parts =
    three {Q = Does as_given v cs M a t.command t.answer t.after} {R = Course as_given v cs M t.after ts b}
    (same_state t.before a) (does_test v cs M a t.command t.answer t.after) (course_test v cs M t.after ts b)
    (states_tell t.before a) (does_decided v cs M a t.command t.answer t.after) rest in
    (λ e. let h = parts.0 e in (h.0, h.1.0, h.1.1), λ c. parts.1 (c.0, (c.1, c.2)))

pub course_decided : (v : World) (cs : List ℕ) (M : Model) (a : State) (ts : List (Turn (List ℕ))) (b : State) →
    (course_test v cs M a ts b ≡ true) ↔ Course as_given v cs M a ts b
course_decided v cs M a [] b = states_tell b a
course_decided v cs M a (t ∷ ts) b = chained v cs M a t ts b (course_decided v cs M t.after ts b)

abbrev all_test : List (Answer (List ℕ)) → List Event → Bool
all_test [] [] = true
all_test [] (x ∷ h) = false
all_test (r ∷ rs) [] = false
all_test (r ∷ rs) (x ∷ h) = shows_test r x.answer && all_test rs h

all_decided : (rs : List (Answer (List ℕ))) (h : List Event) → (all_test rs h ≡ true) ↔ ShowsAll as_given rs h
all_decided [] [] = (λ e. tt, λ u. refl)
all_decided [] (x ∷ h) = (λ e. absurd (false≢true e), λ u. absurd u)
all_decided (r ∷ rs) [] = (λ e. absurd (false≢true e), λ u. absurd u)
all_decided (r ∷ rs) (x ∷ h) =
    both {P = Shows as_given r x.answer} {Q = ShowsAll as_given rs h} (shows_test r x.answer) (all_test rs h) (shows_decided r x.answer) (all_decided rs h)

abbrev test : Claim → Bool
test (course M a ts b) = course_test w marks M a ts b
test (shows_all rs h) = all_test rs h

decided : (x : Claim) → (test x ≡ true) ↔ Means x
decided (course M a ts b) = course_decided w marks M a ts b
decided (shows_all rs h) = all_decided rs h

all_right : each (right (λ x. true) test) rows ≡ true
all_right = refl

pub courses_say : CoursesSay
courses_say = all_say Means (λ x. true) test (λ x e. decided x) rows all_right

all_told : values.told errors ≡ true
unfolding digits
all_told = refl

pub errors_say : ErrorsSay
errors_say = values.values_say errors all_told

-- ── logs ──

-- a list with items is not one without
abbrev holds_some : {A : Type 0} → List A → ℕ
holds_some [] = 0
holds_some (x ∷ xs) = 1

pub some_nothing : {A : Type 0} {P : Type 0} (x : A) (xs : List A) → x ∷ xs ≡ [] → P
some_nothing x xs e = let z : ◌≡◌ {A = ℕ} 1 0 = ap holds_some e in absurd (omega arith)

abbrev idle : State
idle = state 0 None 0

module _ (v : World) (cs : List ℕ) (M : Model) (a b : State) where
  -- without commands there are no calls
  pub no_turns : (ts : List (Turn (List ℕ))) → map (λ (t : Turn (List ℕ)). t.command) ts ≡ [] → Course as_given v cs M a ts b → b ≡ a
  no_turns [] e c = c
  no_turns (t ∷ ts) e c = some_nothing t.command (map (λ (t : Turn (List ℕ)). t.command) ts) e

  -- a command without an answer, and an answer without a command
  unanswered : (k : Command) (ks : List Command) → Logged as_given v cs M a (k ∷ ks) [] b → ⊥
  unanswered k ks l = go l.turns l.asked l.answered
    where
      go : (ts : List (Turn (List ℕ))) → map (λ (t : Turn (List ℕ)). t.command) ts ≡ k ∷ ks → map (λ (t : Turn (List ℕ)). t.answer) ts ≡ [] → ⊥
      go [] e f = some_nothing k ks (sym e)
      go (t ∷ ts) e f = some_nothing t.answer (map (λ (t : Turn (List ℕ)). t.answer) ts) f

  unasked : (r : Answer (List ℕ)) (rs : List (Answer (List ℕ))) → Logged as_given v cs M a [] (r ∷ rs) b → ⊥
  unasked r rs l = go l.turns l.asked l.answered
    where
      go : (ts : List (Turn (List ℕ))) → map (λ (t : Turn (List ℕ)). t.command) ts ≡ [] → map (λ (t : Turn (List ℕ)). t.answer) ts ≡ r ∷ rs → ⊥
      go [] e f = some_nothing r rs (sym f)
      go (t ∷ ts) e f = some_nothing t.command (map (λ (t : Turn (List ℕ)). t.command) ts) e

-- the same of histories
no_events : (v : World) (a b : At) (h : List Event) → map (λ (x : Event). x.command) h ≡ [] → History v a h b → b ≡ a
no_events v a b [] e c = c
no_events v a b (x ∷ h) e c = some_nothing x.command (map (λ (x : Event). x.command) h) e

quiet : (rs : List (Answer (List ℕ))) (h : List Event) (k : Command) (ks : List Command) → map (λ (x : Event). x.command) h ≡ k ∷ ks →
    ShowsAll as_given [] h → ⊥
quiet rs [] k ks e s = some_nothing k ks (sym e)
quiet rs (x ∷ h) k ks e s = s

chatty : (h : List Event) (r : Answer (List ℕ)) (rs : List (Answer (List ℕ))) → map (λ (x : Event). x.command) h ≡ [] → ShowsAll as_given (r ∷ rs) h → ⊥
chatty [] r rs e s = s
chatty (x ∷ h) r rs e s = some_nothing x.command (map (λ (x : Event). x.command) h) e

elsewhere : Outed as_given w 0 (Some 0) (Some 1) [] [] → ⊥
elsewhere o =
    let e = no_events w (start_at 0 (Some 0)) o.end o.history o.asked o.chained in
    let z : ◌≡◌ {A = ℕ} 0 1 = some_inj (sym (ap (λ (x : At). x.place) e) ∙ o.ends) in
    omega arith

abbrev first_of : List Command → Command
first_of [] = Quote 0
first_of (k ∷ ks) = k

-- the first call of a history is not answered by a quote that is not the policy's
mistold : Outed as_given w 0 (Some 0) (Some 0) (Quote 0 ∷ []) (Ok (Quoted nought) ∷ []) → ⊥
mistold o = go o.history o.end o.asked o.answered o.chained
  where
    no_such : (b : At) → Took w (start_at 0 (Some 0)) (Quote 0) (quoted nought) b → ⊥
    no_such b t = false≢true ((took_decided w (start_at 0 (Some 0)) (Quote 0) (quoted nought) b).1 t)

    go : (h : List Event) (b : At) → map (λ (x : Event). x.command) h ≡ Quote 0 ∷ [] → ShowsAll as_given (Ok (Quoted nought) ∷ []) h →
        History w (start_at 0 (Some 0)) h b → ⊥
    go [] b e s c = s
    go (x ∷ h) b e s c =
        no_such x.after (subst (λ (k : Command). Took w (start_at 0 (Some 0)) k (quoted nought) x.after) (ap first_of e)
        (subst (λ (r : ExactAnswer). Took w (start_at 0 (Some 0)) x.command r x.after) s.0 c.1))

-- ── the port before any load ──

abbrev D : Domain
D = domain_of first

formed : WellFormed D
formed = (formed_decided D).0 refl

ranked : (s c : ℕ) → InRange D s c → Rank D s c (rank_at 1 (0 ∷ []) s c)
ranked s c r =
    (rank_decided D formed s c (rank_at 1 (0 ∷ []) s c) r).0 ((pairwise_iff D (λ s c. rank_test D s c (rank_at 1 (0 ∷ []) s c))).0 refl s c r)

alone_solved : Solved (alone 0)
alone_solved = record {
  ranked = ranked;
  simulates = kept_simulates (alone 0) ranked;
  largest = kept_largest (alone 0) ranked;
  entered = λ q c l m. let n : q < 0 = l in absurd (omega arith);
}

pub alone_ready : Ready first minutes_model (alone 0)
alone_ready = record { over = refl; under = refl; solved = alone_solved }

pub alone_promised : Promised (alone 0) (start_at 0 (Some 0))
alone_promised = promise_holds (alone 0) minutes_laws formed alone_solved 0 (Some 0) (omega arith) refl

pub alone_opening : (c : ℕ) → Some 0 ≡ Some c → Opening (alone 0) 0 c
alone_opening c e =
    subst (λ (x : ℕ). Opening (alone 0) 0 x) (some_inj e) (opening_holds (alone 0) alone_solved 0 0 (omega arith) (omega arith))

abbrev pub no_tales : Told minutes_model as_given first first 0 [] 0 []
no_tales = record {
  world = alone 0;
  ready = alone_ready;
  opens = refl;
  kept = alone_opening;
  last = idle;
  logged = record { turns = []; asked = refl; answered = refl; chained = refl };
  ends = refl;
  outed = λ s. record {
    history = [];
    end = start_at 0 (Some 0);
    asked = refl;
    answered = tt;
    chained = refl;
    ends = refl;
    promise = alone_promised [] (start_at 0 (Some 0)) refl;
  };
}

abbrev asks : List (Turn (List ℕ))
asks = turn (state 0 None 0) (Quote 5) (Err NotOffered) (state 0 None 0) ∷ []

abbrev refuses : List Event
refuses = event (start_at 0 (Some 0)) (Quote 5) (refused 22) (start_at 0 (Some 0)) ∷ []

one_tale : Told minutes_model as_given first first 0 (Quote 5 ∷ []) 0 (Err NotOffered ∷ [])
one_tale = record {
  world = alone 0;
  ready = alone_ready;
  opens = refl;
  kept = alone_opening;
  last = state 0 None 0;
  logged = record {
    turns = asks;
    asked = refl;
    answered = refl;
    chained = (course_decided (alone 0) first.conditions first (state 0 None 0) asks (state 0 None 0)).0 refl;
  };
  ends = refl;
  outed = λ s. record {
    history = refuses;
    end = start_at 0 (Some 0);
    asked = refl;
    answered = (all_decided (Err NotOffered ∷ []) refuses).0 refl;
    chained = (history_decided (alone 0) (start_at 0 (Some 0)) refuses (start_at 0 (Some 0))).0 refl;
    ends = refl;
    promise = alone_promised refuses (start_at 0 (Some 0))
        ((history_decided (alone 0) (start_at 0 (Some 0)) refuses (start_at 0 (Some 0))).0 refl);
  };
}

drifting : Told minutes_model as_given first first 0 [] 1 [] → ⊥
drifting t =
    let e = no_turns t.world first.conditions first (state 0 None 0) t.last t.logged.turns t.logged.asked t.logged.chained in
    let z : ◌≡◌ {A = ℕ} 0 1 = sym (ap (λ (x : State). x.marks) e) ∙ t.ends in
    omega arith

-- in its one condition an opening is not refused by 23
open_here : (v : World) → v.domain ≡ D → refusal (open_rules v 0 (Some 0)) ≡ Some 23 → ⊥
open_here v e h = go (ltb 0 v.domain.conditions) (eqb (v.rank 0 0) 0) (ap (λ (x : Domain). ltb 0 x.conditions) e) h
  where
    go : (a b : Bool) → a ≡ true → cond {A = Option ℕ} (not a) (Some 23) (cond {A = Option ℕ} (not b) (Some 24) None) ≡ Some 23 → ⊥
    go true true q h = some_none (sym h)
    go true false q h = let z : ◌≡◌ {A = ℕ} 24 23 = some_inj h in omega arith
    go false b q h = false≢true q

nowhere : (P : ℕ → Type 0) (c : ℕ) → ◌≡◌ {A = Option ℕ} None (Some c) → P c
nowhere P c e = absurd (some_none (sym e))

pub logs_say : LogsSay
logs_say = each_says Tells logs (
    record {
      turns = turn idle (Ask 0) (Ok (Granted (two 3 1))) (state 0 (Some 0) 0) ∷ [];
      asked = refl;
      answered = refl;
      chained = (course_decided w marks port idle (turn idle (Ask 0) (Ok (Granted (two 3 1))) (state 0 (Some 0) 0) ∷ []) (state 0 (Some 0) 0)).0 refl;
    }
    ⨾ record { turns = []; asked = refl; answered = refl; chained = refl }
    ⨾ (λ l. let e = no_turns w marks port (state 0 (Some 0) 0) (state 0 (Some 0) 1) l.turns l.asked l.chained in
    let z : ◌≡◌ {A = ℕ} 1 0 = ap (λ (x : State). x.marks) e in omega arith)
    ⨾ unanswered w marks port (state 0 None 0) (state 0 None 0) (Ask 0) []
    ⨾ unasked w marks port (state 0 None 0) (state 0 None 0) (Err NotOffered) []
    ⨾ record {
      history = leaving;
      end = at 0 None (Some 1);
      asked = refl;
      answered = (all_decided answers leaving).0 refl;
      chained = (history_decided w (start_at 0 (Some 0)) leaving (at 0 None (Some 1))).0 refl;
      ends = refl;
      promise = from_start 0 0 (omega arith) refl leaving (at 0 None (Some 1)) ((history_decided w (start_at 0 (Some 0)) leaving (at 0 None (Some 1))).0 refl);
    }
    ⨾ record {
      history = [];
      end = start_at 0 (Some 0);
      asked = refl;
      answered = tt;
      chained = refl;
      ends = refl;
      promise = from_start 0 0 (omega arith) refl [] (start_at 0 (Some 0)) refl;
    }
    ⨾ elsewhere
    ⨾ mistold
    ⨾ (λ o. quiet [] o.history (Ask 0) [] o.asked o.answered)
    ⨾ (λ o. chatty o.history (Err NotOffered) [] o.asked o.answered)
    ⨾ alone_ready
    ⨾ (λ r. let z : ◌≡◌ {A = ℕ} 1 3 = ap (λ (x : Domain). x.conditions) r.over in omega arith)
    ⨾ (λ r. let z : ◌≡◌ {A = ℕ} 2 1 = ap (λ (x : CostsOf). x.columns) r.under in omega arith)
    ⨾ (λ r. (r.solved.ranked 0 0 (omega arith, omega arith)).0 ((ranked 0 0 (omega arith, omega arith)).0))
    ⨾ no_tales
    ⨾ one_tale
    ⨾ drifting
    ⨾ (λ t. some_none t.opens)
    ⨾ (λ t. unanswered t.world first.conditions first (state 0 None 0) t.last (Quote 5) [] t.logged)
    ⨾ record { world = alone 0; ready = alone_ready; refused = refl; kept = nowhere (Opening (alone 0) 0); stays = refl }
    ⨾ refl
    ⨾ (λ b. let z : ◌≡◌ {A = ℕ} 0 1 = b.stays in omega arith)
    ⨾ (λ b. let z : ◌≡◌ {A = ℕ} 23 24 = some_inj b.refused in omega arith)
    ⨾ (λ b. open_here b.world b.ready.over b.refused)
    ⨾ (λ e. let z : ◌≡◌ {A = ℕ} 1 0 = e in omega arith)
    ⨾ tt
    )
