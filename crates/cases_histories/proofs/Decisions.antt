-- Tests that decide what a controller decides and does.
use Rattle.std.proofs.Common.{◌≡◌, ℕ, zero, suc, Bool, true, false, ◌&&◌, ◌||◌, eqb, ltb, ◌⊎◌, ◌↔◌, List, [], Some, None, Ok, Err, Option, Result, sym, refl, ap, ◌∙◌, subst, inl, inr, ⊎_elim}
use mathlib.Core.Bool.{and-eq-true_iff, false≢true}
use Rattle.port.specs.Model.{Model}
use Rattle.port.specs.declared.Move.{Move}
use Rattle.plans.specs.Flags.{task_at}
use Rattle.plans.specs.Reach.{any_of}
use Rattle.plans.proofs.Decide.{some_in, in_some, or_cases, or_left, or_right}
use Rattle.locks.specs.Places.{place_of}
use Rattle.locks.specs.Works.{LockWorked}
use Rattle.solver.specs.declared.Entry.{Entry}
use Rattle.solver.specs.declared.Entry.TheVariants.{None as NoEntry, There, Work}
use Rattle.solver.specs.Policy.{World}
use Rattle.histories.specs.declared.Command.{Command}
use Rattle.histories.specs.declared.Command.TheVariants.{Quote, Ask, Step, Close}
use Rattle.histories.specs.Calls.{At, Rule, refusal, offered, cost_at, Passes, Took, quoted, granted, worked, closed, refused}
use Rattle.histories.specs.Calls.{ExactAnswer}
use Rattle.histories.proofs.Basics.{some_inj, some_none}
use Rattle.control.specs.declared.answer.Reply.TheVariants.{Quoted, Granted, Worked, Closed}
use Rattle.control.specs.declared.refusal.Refusal.{Refusal}
use Rattle.control.specs.Numbers.{refusal_number}
use Rattle.control.specs.Rulings.{Spot, spot_rules, Spotted, Found, Next}
use Rattle.control.specs.States.{Answer, State, state, at_of, Ruled, Balks, Does, Shows, Did}
use Rattle.port.specs.Limits.{no_move}
use Rattle.cases_plans.proofs.Tests.{both, equal, below, same_move, same_moves}
use Rattle.cases_plans.proofs.Worked.{worked_test, worked_decided}
use Rattle.cases_histories.specs.Sluice.{as_given}
use Rattle.cases_histories.proofs.Tests.{same_numbers, numbers_tell, same_place, places_tell}
use Rattle.cases_histories.proofs.Takes.{quoting, quoting_iff, asking, asking_iff, stepping, stepping_iff, closing, closing_iff, first_test, first_decided, took_test, took_decided, three, sort}

-- one of two tests passes
pub one_of : {P Q : Type 0} (a b : Bool) → (a ≡ true) ↔ P → (b ≡ true) ↔ Q → ((a || b) ≡ true) ↔ (P ⊎ Q)
one_of a b p q = (
  λ e. ⊎_elim (λ x. inl (p.0 x)) (λ x. inr (q.0 x)) (or_cases a b e),
  λ t. ⊎_elim (λ x. or_left a b (p.1 x)) (λ x. or_right a b (q.1 x)) t,
)

-- ── spots and findings ──

module _ (w : World) where
  abbrev pub spot_test : ℕ → Option ℕ → ℕ → ℕ → Bool
  spot_test s p q c = offered w s q && (same_place p (Some c) && ltb c w.domain.conditions)

  pub spot_decided : (s : ℕ) (p : Option ℕ) (q c : ℕ) → (spot_test s p q c ≡ true) ↔ Spot w s p q c
  spot_decided s p q c =
      let parts =
      three (offered w s q) (same_place p (Some c)) (ltb c w.domain.conditions)
      (λ e. e, λ e. e) (places_tell p (Some c)) (below c w.domain.conditions) in (
        λ e. let h = parts.0 e in record { offer = h.0; at = h.1.0; inside = h.1.1 },
        λ t. parts.1 (t.offer, (t.at, t.inside)),
      )

  abbrev pub spotted_test : ℕ → Option ℕ → ℕ → Result ℕ Refusal → Bool
  spotted_test s p q (Ok c) = spot_test s p q c
  spotted_test s p q (Err e) = same_place (refusal (spot_rules w s p q)) (Some (refusal_number e))

  pub spotted_decided : (s : ℕ) (p : Option ℕ) (q : ℕ) (r : Result ℕ Refusal) → (spotted_test s p q r ≡ true) ↔ Spotted w s p q r
  spotted_decided s p q (Ok c) = spot_decided s p q c
  spotted_decided s p q (Err e) = places_tell (refusal (spot_rules w s p q)) (Some (refusal_number e))

  -- the entry where the lock stands is to work an operation that passes
  abbrev pub working : (ℕ → Bool) → Entry → Bool
  working P (Work o) = P o
  working P x = false

  abbrev pub works_on : Option ℕ → ℕ → (ℕ → Bool) → Bool
  works_on None q P = false
  works_on (Some c) q P = working P (w.entry q c)

  pub works_on_iff : (p : Option ℕ) (q : ℕ) (P : ℕ → Bool) → (works_on p q P ≡ true) ↔ ((o : ℕ) × (Next w p q o × (P o ≡ true)))
  works_on_iff None q P = (λ e. absurd (false≢true e), λ t. absurd (some_none (sym t.1.0.1.0)))
  works_on_iff (Some c) q P = (go (w.entry q c) refl, λ t. back t.0 t.1.0.0 (some_inj t.1.0.1.0) t.1.0.1.1 t.1.1)
    where
      go : (x : Entry) → w.entry q c ≡ x → working P x ≡ true → (o : ℕ) × (Next w (Some c) q o × (P o ≡ true))
      go NoEntry h e = absurd (false≢true e)
      go There h e = absurd (false≢true e)
      go (Work o) h e = (o, ((c, (refl, h)), e))

      back : (o d : ℕ) → c ≡ d → w.entry q d ≡ Work o → P o ≡ true → working P (w.entry q c) ≡ true
      back o d e f t = subst (λ (x : Entry). working P x ≡ true) (sym (ap (w.entry q) e ∙ f)) t

  abbrev pub next_test : Option ℕ → ℕ → ℕ → Bool
  next_test p q o = works_on p q (eqb o)

  pub next_decided : (p : Option ℕ) (q o : ℕ) → (next_test p q o ≡ true) ↔ Next w p q o
  next_decided p q o = (
    λ e. let t = (works_on_iff p q (eqb o)).0 e in subst (λ (x : ℕ). Next w p q x) (sym ((equal o t.0).0 t.1.1)) t.1.0,
    λ n. (works_on_iff p q (eqb o)).1 (o, (n, (equal o o).1 refl)),
  )

abbrev pub found_test : List Rule → ℕ → Result ℕ Refusal → Bool
found_test rs n (Ok x) = same_place (refusal rs) None && eqb x n
found_test rs n (Err e) = same_place (refusal rs) (Some (refusal_number e))

pub found_decided : (rs : List Rule) (n : ℕ) (r : Result ℕ Refusal) → (found_test rs n r ≡ true) ↔ Found rs (λ x. x ≡ n) r
found_decided rs n (Ok x) = both (same_place (refusal rs) None) (eqb x n) (places_tell (refusal rs) None) (equal x n)
found_decided rs n (Err e) = places_tell (refusal rs) (Some (refusal_number e))

-- ── what a command comes to ──

module _ (w : World) where
  abbrev pub ruled_test : At → Command → Answer (List ℕ) → Bool
  ruled_test a k (Err r) = first_test w a k (Some (refusal_number r))
  ruled_test a k (Ok (Quoted x)) = quoting (λ q. first_test w a (Quote q) None && same_numbers x (cost_at w q a.place)) k
  ruled_test a k (Ok (Granted x)) = asking (λ q. first_test w a (Ask q) None && same_numbers x (cost_at w q a.place)) k
  ruled_test a k (Ok (Worked o)) = stepping (λ q. first_test w a (Step q) None && next_test w a.place q o) k
  ruled_test a k (Ok (Closed s)) = closing (λ q. first_test w a (Close q) None && eqb s (task_at w.domain q).to) k

  pub ruled_decided : (a : At) (k : Command) (r : Answer (List ℕ)) → (ruled_test a k r ≡ true) ↔ Ruled as_given w a k r
  ruled_decided a k (Err r) = first_decided w a k (Some (refusal_number r))
  ruled_decided a k (Ok (Quoted x)) = (
    λ e. let t = (quoting_iff test k).0 e in let h = (parts t.0).0 t.1.1 in (t.0, (t.1.0, h.0, h.1)),
    λ t. (quoting_iff test k).1 (t.0, (t.1.0, (parts t.0).1 (t.1.1, t.1.2))),
  )
    where
      test : ℕ → Bool
      test q = first_test w a (Quote q) None && same_numbers x (cost_at w q a.place)

      parts : (q : ℕ) → (test q ≡ true) ↔ (Passes w a (Quote q) × (x ≡ cost_at w q a.place))
      parts q =
          both (first_test w a (Quote q) None) (same_numbers x (cost_at w q a.place)) (first_decided w a (Quote q) None)
          (numbers_tell x (cost_at w q a.place))
  ruled_decided a k (Ok (Granted x)) = (
    λ e. let t = (asking_iff test k).0 e in let h = (parts t.0).0 t.1.1 in (t.0, (t.1.0, h.0, h.1)),
    λ t. (asking_iff test k).1 (t.0, (t.1.0, (parts t.0).1 (t.1.1, t.1.2))),
  )
    where
      test : ℕ → Bool
      test q = first_test w a (Ask q) None && same_numbers x (cost_at w q a.place)

      parts : (q : ℕ) → (test q ≡ true) ↔ (Passes w a (Ask q) × (x ≡ cost_at w q a.place))
      parts q =
          both (first_test w a (Ask q) None) (same_numbers x (cost_at w q a.place)) (first_decided w a (Ask q) None)
          (numbers_tell x (cost_at w q a.place))
  ruled_decided a k (Ok (Worked o)) = (
    λ e. let t = (stepping_iff test k).0 e in let h = (parts t.0).0 t.1.1 in (t.0, (t.1.0, h.0, h.1)),
    λ t. (stepping_iff test k).1 (t.0, (t.1.0, (parts t.0).1 (t.1.1, t.1.2))),
  )
    where
      test : ℕ → Bool
      test q = first_test w a (Step q) None && next_test w a.place q o

      parts : (q : ℕ) → (test q ≡ true) ↔ (Passes w a (Step q) × Next w a.place q o)
      parts q =
          both {Q = Next w a.place q o} (first_test w a (Step q) None) (next_test w a.place q o) (first_decided w a (Step q) None) (next_decided w a.place q o)
  ruled_decided a k (Ok (Closed s)) = (
    λ e. let t = (closing_iff test k).0 e in let h = (parts t.0).0 t.1.1 in (t.0, (t.1.0, h.0, h.1)),
    λ t. (closing_iff test k).1 (t.0, (t.1.0, (parts t.0).1 (t.1.1, t.1.2))),
  )
    where
      test : ℕ → Bool
      test q = first_test w a (Close q) None && eqb s (task_at w.domain q).to

      parts : (q : ℕ) → (test q ≡ true) ↔ (Passes w a (Close q) × (s ≡ (task_at w.domain q).to))
      parts q =
          both (first_test w a (Close q) None) (eqb s (task_at w.domain q).to) (first_decided w a (Close q) None) (equal s (task_at w.domain q).to)

-- ── what a call does ──

abbrev pub same_state : State → State → Bool
same_state a b = eqb a.stage b.stage && (same_place a.out b.out && eqb a.marks b.marks)

state_is : (a b : State) → a.stage ≡ b.stage → a.out ≡ b.out → a.marks ≡ b.marks → a ≡ b
state_is a b p q r = ap (λ n. state n a.out a.marks) p ∙ ap (λ o. state b.stage o a.marks) q ∙ ap (λ n. state b.stage b.out n) r

pub states_tell : (a b : State) → (same_state a b ≡ true) ↔ (a ≡ b)
states_tell a b =
    let parts = three (eqb a.stage b.stage) (same_place a.out b.out) (eqb a.marks b.marks) (equal a.stage b.stage) (places_tell a.out b.out) (equal a.marks b.marks) in (
      λ e. let h = parts.0 e in state_is a b h.0 h.1.0 h.1.1,
      λ q. parts.1 (ap (λ (x : State). x.stage) q, (ap (λ (x : State). x.out) q, ap (λ (x : State). x.marks) q)),
    )

module _ (w : World) (cs : List ℕ) (M : Model) where
  abbrev where_of : State → Option ℕ
  where_of a = place_of cs a.marks

  abbrev pub balks_test : State → Command → Refusal → Bool
  balks_test a k r =
      stepping (λ q. first_test w (at_of cs a) (Step q) None
      && (works_on w (where_of a) q (λ o. worked_test M a.marks o false a.marks) && eqb (refusal_number r) 29)) k

  pub balks_decided : (a : State) (k : Command) (r : Refusal) → (balks_test a k r ≡ true) ↔ Balks w cs M a k r
  balks_decided a k r = (
    λ e.
        let t = (stepping_iff test k).0 e in
        let h = (parts t.0).0 t.1.1 in
        let o = (works_on_iff w (where_of a) t.0 refuses).0 h.1.0 in
        (t.0, o.0, (t.1.0, h.0, o.1.0, (worked_decided M a.marks o.0 false a.marks).0 o.1.1, h.1.1)),
    λ t. (stepping_iff test k).1 (
      t.0,
      (
        t.2.0,
        (parts t.0).1
            (t.2.1, ((works_on_iff w (where_of a) t.0 refuses).1 (t.1, (t.2.2, (worked_decided M a.marks t.1 false a.marks).1 t.2.3)), t.2.4)),
      ),
    ),
  )
    where
      refuses : ℕ → Bool
      refuses o = worked_test M a.marks o false a.marks

      test : ℕ → Bool
      test q = first_test w (at_of cs a) (Step q) None && (works_on w (where_of a) q refuses && eqb (refusal_number r) 29)

      parts : (q : ℕ) → (test q ≡ true)
          ↔ (Passes w (at_of cs a) (Step q) × ((works_on w (where_of a) q refuses ≡ true) × (refusal_number r ≡ 29)))
      parts q =
          three (first_test w (at_of cs a) (Step q) None) (works_on w (where_of a) q refuses) (eqb (refusal_number r) 29)
          (first_decided w (at_of cs a) (Step q) None) (λ e. e, λ e. e) (equal (refusal_number r) 29)

  abbrev pub does_test : State → Command → Answer (List ℕ) → State → Bool
  does_test a k (Err r) b = same_state b a && (first_test w (at_of cs a) k (Some (refusal_number r)) || balks_test a k r)
  does_test a k (Ok (Quoted x)) b =
      quoting (λ q. first_test w (at_of cs a) (Quote q) None && (same_numbers x (cost_at w q (where_of a)) && same_state b a)) k
  does_test a k (Ok (Granted x)) b =
      asking (λ q. first_test w (at_of cs a) (Ask q) None && (same_numbers x (cost_at w q (where_of a)) && same_state b (state a.stage (Some q) a.marks))) k
  does_test a k (Ok (Worked o)) b =
      stepping (λ q. first_test w (at_of cs a) (Step q) None
      && (next_test w (where_of a) q o && (worked_test M a.marks o true b.marks && same_state b (state a.stage a.out b.marks)))) k
  does_test a k (Ok (Closed s)) b =
      closing (λ q. first_test w (at_of cs a) (Close q) None && (eqb s (task_at w.domain q).to && same_state b (state s None a.marks))) k

  pub does_decided : (a : State) (k : Command) (r : Answer (List ℕ)) (b : State) → (does_test a k r b ≡ true) ↔ Does as_given w cs M a k r b
  does_decided a k (Err r) b =
      both (same_state b a) (first_test w (at_of cs a) k (Some (refusal_number r)) || balks_test a k r) (states_tell b a)
      (one_of {Q = Balks w cs M a k r} (first_test w (at_of cs a) k (Some (refusal_number r))) (balks_test a k r)
      (first_decided w (at_of cs a) k (Some (refusal_number r))) (balks_decided a k r))
  does_decided a k (Ok (Quoted x)) b = (
    λ e. let t = (quoting_iff test k).0 e in let h = (parts t.0).0 t.1.1 in (t.0, (t.1.0, h.0, h.1.0, h.1.1)),
    λ t. (quoting_iff test k).1 (t.0, (t.1.0, (parts t.0).1 (t.1.1, (t.1.2, t.1.3)))),
  )
    where
      test : ℕ → Bool
      test q = first_test w (at_of cs a) (Quote q) None && (same_numbers x (cost_at w q (where_of a)) && same_state b a)

      parts : (q : ℕ) → (test q ≡ true) ↔ (Passes w (at_of cs a) (Quote q) × ((x ≡ cost_at w q (where_of a)) × (b ≡ a)))
      parts q =
          three (first_test w (at_of cs a) (Quote q) None) (same_numbers x (cost_at w q (where_of a))) (same_state b a)
          (first_decided w (at_of cs a) (Quote q) None) (numbers_tell x (cost_at w q (where_of a))) (states_tell b a)
  does_decided a k (Ok (Granted x)) b = (
    λ e. let t = (asking_iff test k).0 e in let h = (parts t.0).0 t.1.1 in (t.0, (t.1.0, h.0, h.1.0, h.1.1)),
    λ t. (asking_iff test k).1 (t.0, (t.1.0, (parts t.0).1 (t.1.1, (t.1.2, t.1.3)))),
  )
    where
      after : ℕ → State
      after q = state a.stage (Some q) a.marks

      test : ℕ → Bool
      test q = first_test w (at_of cs a) (Ask q) None && (same_numbers x (cost_at w q (where_of a)) && same_state b (after q))

      parts : (q : ℕ) → (test q ≡ true) ↔ (Passes w (at_of cs a) (Ask q) × ((x ≡ cost_at w q (where_of a)) × (b ≡ after q)))
      parts q =
          three (first_test w (at_of cs a) (Ask q) None) (same_numbers x (cost_at w q (where_of a))) (same_state b (after q))
          (first_decided w (at_of cs a) (Ask q) None) (numbers_tell x (cost_at w q (where_of a))) (states_tell b (after q))
  does_decided a k (Ok (Worked o)) b = (
    λ e. let t = (stepping_iff test k).0 e in let h = (parts t.0).0 t.1.1 in (t.0, (t.1.0, h.0, h.1.0, h.1.1.0, h.1.1.1)),
    λ t. (stepping_iff test k).1 (t.0, (t.1.0, (parts t.0).1 (t.1.1, (t.1.2, (t.1.3, t.1.4))))),
  )
    where
      after : State
      after = state a.stage a.out b.marks

      test : ℕ → Bool
      test q =
          first_test w (at_of cs a) (Step q) None && (next_test w (where_of a) q o && (worked_test M a.marks o true b.marks && same_state b after))

      parts : (q : ℕ) → (test q ≡ true)
          ↔ (Passes w (at_of cs a) (Step q) × (Next w (where_of a) q o × (LockWorked M a.marks o true b.marks × (b ≡ after))))
      parts q =
          let rest = both (worked_test M a.marks o true b.marks) (same_state b after) (worked_decided M a.marks o true b.marks) (states_tell b after) in
          three {Q = Next w (where_of a) q o} (first_test w (at_of cs a) (Step q) None) (next_test w (where_of a) q o)
          (worked_test M a.marks o true b.marks && same_state b after)
          (first_decided w (at_of cs a) (Step q) None) (next_decided w (where_of a) q o) rest
  does_decided a k (Ok (Closed s)) b = (
    λ e. let t = (closing_iff test k).0 e in let h = (parts t.0).0 t.1.1 in (t.0, (t.1.0, h.0, h.1.0, h.1.1)),
    λ t. (closing_iff test k).1 (t.0, (t.1.0, (parts t.0).1 (t.1.1, (t.1.2, t.1.3)))),
  )
    where
      after : State
      after = state s None a.marks

      test : ℕ → Bool
      test q = first_test w (at_of cs a) (Close q) None && (eqb s (task_at w.domain q).to && same_state b after)

      parts : (q : ℕ) → (test q ≡ true) ↔ (Passes w (at_of cs a) (Close q) × ((s ≡ (task_at w.domain q).to) × (b ≡ after)))
      parts q =
          three (first_test w (at_of cs a) (Close q) None) (eqb s (task_at w.domain q).to) (same_state b after)
          (first_decided w (at_of cs a) (Close q) None) (equal s (task_at w.domain q).to) (states_tell b after)

-- ── what it shows ──

-- answers by their costs, their moves and their numbers; and an answer anew from these and its kind
abbrev cost_of : ExactAnswer → List ℕ
cost_of (quoted f) = f
cost_of (granted f) = f
cost_of r = []

abbrev move_of : ExactAnswer → Move
move_of (worked m) = m
move_of r = no_move

abbrev number_of : ExactAnswer → ℕ
number_of (closed s) = s
number_of (refused n) = n
number_of r = 0

abbrev anew : ℕ → List ℕ → Move → ℕ → ExactAnswer
anew zero f m n = quoted f
anew (suc zero) f m n = granted f
anew (suc (suc zero)) f m n = worked m
anew (suc (suc (suc zero))) f m n = closed n
anew (suc (suc (suc (suc k)))) f m n = refused n

same_anew : (r : ExactAnswer) → anew (sort r) (cost_of r) (move_of r) (number_of r) ≡ r
same_anew (quoted f) = refl
same_anew (granted f) = refl
same_anew (worked m) = refl
same_anew (closed s) = refl
same_anew (refused n) = refl

abbrev pub same_told : ExactAnswer → ExactAnswer → Bool
same_told a b = eqb (sort a) (sort b) && (same_numbers (cost_of a) (cost_of b) && (same_move (move_of a) (move_of b) && eqb (number_of a) (number_of b)))

told_is : (a b : ExactAnswer) → sort a ≡ sort b → cost_of a ≡ cost_of b → move_of a ≡ move_of b → number_of a ≡ number_of b → a ≡ b
told_is a b p q r s =
    sym (same_anew a)
    ∙ ap (λ n. anew n (cost_of a) (move_of a) (number_of a)) p
    ∙ ap (λ f. anew (sort b) f (move_of a) (number_of a)) q
    ∙ ap (λ m. anew (sort b) (cost_of b) m (number_of a)) r
    ∙ ap (λ n. anew (sort b) (cost_of b) (move_of b) n) s
    ∙ same_anew b

pub tolds_tell : (a b : ExactAnswer) → (same_told a b ≡ true) ↔ (a ≡ b)
tolds_tell a b =
    let last = both (same_move (move_of a) (move_of b)) (eqb (number_of a) (number_of b)) (same_moves (move_of a) (move_of b)) (equal (number_of a) (number_of b)) in
    let parts =
    three (eqb (sort a) (sort b)) (same_numbers (cost_of a) (cost_of b)) (same_move (move_of a) (move_of b) && eqb (number_of a) (number_of b))
    (equal (sort a) (sort b)) (numbers_tell (cost_of a) (cost_of b)) last in (
      λ e. let h = parts.0 e in told_is a b h.0 h.1.0 h.1.1.0 h.1.1.1,
      λ q. parts.1 (ap sort q, (ap cost_of q, (ap move_of q, ap number_of q))),
    )

abbrev pub shows_test : Answer (List ℕ) → ExactAnswer → Bool
shows_test (Ok (Quoted x)) t = same_told t (quoted x)
shows_test (Ok (Granted x)) t = same_told t (granted x)
shows_test (Ok (Worked o)) t = same_told t (worked (move_of t)) && eqb (move_of t).operation o
shows_test (Ok (Closed s)) t = same_told t (closed s)
shows_test (Err r) t = same_told t (refused (refusal_number r))

pub shows_decided : (r : Answer (List ℕ)) (t : ExactAnswer) → (shows_test r t ≡ true) ↔ Shows as_given r t
shows_decided (Ok (Quoted x)) t = tolds_tell t (quoted x)
shows_decided (Ok (Granted x)) t = tolds_tell t (granted x)
shows_decided (Ok (Worked o)) t = (
  λ e. let h = parts.0 e in (move_of t, (h.0, h.1)),
  λ s. parts.1 (s.1.0 ∙ ap worked (sym (ap move_of s.1.0)), ap (λ (m : Move). m.operation) (ap move_of s.1.0) ∙ s.1.1),
)
  where
    parts : ((same_told t (worked (move_of t)) && eqb (move_of t).operation o) ≡ true) ↔ ((t ≡ worked (move_of t)) × ((move_of t).operation ≡ o))
    parts = both (same_told t (worked (move_of t))) (eqb (move_of t).operation o) (tolds_tell t (worked (move_of t))) (equal (move_of t).operation o)
shows_decided (Ok (Closed s)) t = tolds_tell t (closed s)
shows_decided (Err r) t = tolds_tell t (refused (refusal_number r))

-- ── what is one of a history ──

module _ (w : World) (a : At) (k : Command) (b : At) where
  took_as : (s t : ExactAnswer) → t ≡ s → Took w a k t b → took_test w a k s b ≡ true
  took_as s t q h = (took_decided w a k s b).1 (subst (λ (x : ExactAnswer). Took w a k x b) q h)

  abbrev pub did_test : Answer (List ℕ) → Bool
  did_test (Err r) = took_test w a k (refused (refusal_number r)) b
  did_test (Ok (Quoted x)) = took_test w a k (quoted x) b
  did_test (Ok (Granted x)) = took_test w a k (granted x) b
  did_test (Ok (Worked o)) = any_of (λ (m : Move). eqb m.operation o && took_test w a k (worked m) b) w.domain.moves
  did_test (Ok (Closed s)) = took_test w a k (closed s) b

  pub did_decided : (r : Answer (List ℕ)) → (did_test r ≡ true) ↔ Did as_given w a k r b
  did_decided (Err r) = (
    λ e. (refused (refusal_number r), (refl, (took_decided w a k (refused (refusal_number r)) b).0 e)),
    λ t. took_as (refused (refusal_number r)) t.0 t.1.0 t.1.1,
  )
  did_decided (Ok (Quoted x)) = (λ e. (quoted x, (refl, (took_decided w a k (quoted x) b).0 e)), λ t. took_as (quoted x) t.0 t.1.0 t.1.1)
  did_decided (Ok (Granted x)) = (λ e. (granted x, (refl, (took_decided w a k (granted x) b).0 e)), λ t. took_as (granted x) t.0 t.1.0 t.1.1)
  did_decided (Ok (Worked o)) = (
    λ e.
        let t = some_in test w.domain.moves e in
        let h = (and-eq-true_iff (eqb t.0.operation o) (took_test w a k (worked t.0) b)).0 t.2 in
        (worked t.0, ((t.0, (refl, (equal t.0.operation o).0 h.0)), (took_decided w a k (worked t.0) b).0 h.1)),
    λ t. made t.0 t.1.0.0 t.1.0.1.0 t.1.0.1.1 t.1.1,
  )
    where
      test : Move → Bool
      test m = eqb m.operation o && took_test w a k (worked m) b

      made : (t : ExactAnswer) (m : Move) → t ≡ worked m → m.operation ≡ o → Took w a k t b → any_of test w.domain.moves ≡ true
      made t m q p h =
          let u : Took w a k (worked m) b = subst (λ (x : ExactAnswer). Took w a k x b) q h in
          in_some test m w.domain.moves u.3.4.0
          ((and-eq-true_iff (eqb m.operation o) (took_test w a k (worked m) b)).1 ((equal m.operation o).1 p, (took_decided w a k (worked m) b).1 u))
  did_decided (Ok (Closed s)) = (λ e. (closed s, (refl, (took_decided w a k (closed s) b).0 e)), λ t. took_as (closed s) t.0 t.1.0 t.1.1)
