-- What calls do with the lock itself: a log grows by one call, and a lock of the controller's own port is worked by the accepted steps alone.
use Rattle.std.proofs.Common.{◌≡◌, ℕ, Bool, List, [], ◌∷◌, ◌++◌, map, Some, Ok, Err, refl, ap, ◌∙◌, subst, sym, inl, inr}
use Rattle.port.specs.Limits.{Rise}
use Rattle.port.specs.Model.{Model, model_of}
use Rattle.costs.specs.Costs.{Model as CostsOf}
use Rattle.locks.specs.Steps.{WorkedInTurn}
use Rattle.solver.specs.Policy.{World}
use Rattle.histories.specs.declared.Command.{Command}
use Rattle.histories.specs.Calls.{refusal, rules}
use Rattle.histories.proofs.Basics.{some_none}
use Rattle.control.specs.declared.answer.Reply.TheVariants.{Quoted, Granted, Worked, Closed}
use Rattle.control.specs.declared.terms.Terms.{Terms}
use Rattle.control.specs.Handlings.{Handles, HandlesAll, Tended, operation_of, accepted}
use Rattle.control.specs.Outings.{Turn, Course}
use Rattle.control.specs.States.{Answer, State, at_of, Balks, Does}
use Rattle.control.specs.Worlds.{terms_world}
use Rattle.control.proofs.Courses.{map_more, course_more}
use Rattle.control.proofs.Done.{never_balks}

module _ {K S : Type 0} (e : K → List ℕ) (present : S → ℕ) (works : S → ℕ → Bool → S → Type 0) (w : World) (cs : List ℕ) (M : Model) where
  handled_more : (ts : List (Turn K)) (s u v : S) (t : Turn K) → HandlesAll present works w cs ts s u → t.before.marks ≡ present u →
      Handles works w (at_of cs t.before) t.command t.answer u v → HandlesAll present works w cs (ts ++ (t ∷ [])) s v
  handled_more [] s u v t h m d = (
    v,
    (
      subst (λ (x : S). t.before.marks ≡ present x) h m,
      subst (λ (x : S). Handles works w (at_of cs t.before) t.command t.answer x v) h d,
      refl,
    ),
  )
  handled_more (x ∷ ts) s u v t h m d = (h.0, (h.1.0, h.1.1, handled_more ts h.0 u v t h.1.2 m d))

  -- before the first call
  pub tended_start : (a : State) (s : S) (rs : List (Answer K)) → rs ≡ [] → Tended e present works w cs M a s [] rs a s
  tended_start a s rs is =
      subst (λ (x : List (Answer K)). Tended e present works w cs M a s [] x a s) (sym is)
      record { logged = record { turns = []; asked = refl; answered = refl; chained = refl }; handled = refl }

  -- by one call more
  pub tended_more : (a b d : State) (s u v : S) (ks : List Command) (rs : List (Answer K)) (k : Command) (r : Answer K) →
      Tended e present works w cs M a s ks rs b u → Does e w cs M b k r d → b.marks ≡ present u → Handles works w (at_of cs b) k r u v →
      Tended e present works w cs M a s (ks ++ (k ∷ [])) (rs ++ (r ∷ [])) d v
  tended_more a b d s u v ks rs k r t does marks handles =
      let one : Turn K = record { before = b; command = k; answer = r; after = d } in
      let l = t.logged in
      record {
        logged = record {
          turns = l.turns ++ (one ∷ []);
          asked = map_more (λ t. t.command) l.turns one ∙ ap (λ (x : List Command). x ++ (k ∷ [])) l.asked;
          answered = map_more (λ t. t.answer) l.turns one ∙ ap (λ (x : List (Answer K)). x ++ (r ∷ [])) l.answered;
          chained = course_more e w cs M l.turns a one l.chained does;
        };
        handled = handled_more l.turns s u v one t.handled marks handles;
      }

-- a call of a controller whose terms are those that it began with
pub handles_there : {X K S : Type 0} (k : CostsOf) (e : K → List ℕ) (works : S → ℕ → Bool → S → Type 0) (t' t : Terms X K) → t' ≡ t →
    (a : State) (c : Command) (r : Answer K) (s v : S) →
    Handles works (terms_world k e t') (at_of (model_of t'.port.now).conditions a) c r s v →
    Handles works (terms_world k e t) (at_of (model_of t.port.now).conditions a) c r s v
handles_there {X} {K} {S} k e works t' t p a c r s v h =
    subst (λ (x : Terms X K). Handles works (terms_world k e x) (at_of (model_of x.port.now).conditions a) c r s v) p h

module _ {K S : Type 0} (e : K → List ℕ) (works : S → ℕ → Bool → S → Type 0) (w : World) (P : Model) (up : Rise P.conditions) (moves : w.domain.moves ≡ P.moves) (M : Model) (own : M ≡ P) where
  step_taken : (a : State) (k : Command) (r : Answer K) (b : State) (os : List ℕ) (s u s' : S) → Does e w P.conditions M a k r b →
      Handles works w (at_of P.conditions a) k r s u → WorkedInTurn works os u s' → WorkedInTurn works (operation_of r ++ os) s s'
  step_taken a k (Ok (Quoted x)) b os s u s' d h rest = subst (λ (y : S). WorkedInTurn works os y s') h rest
  step_taken a k (Ok (Granted x)) b os s u s' d h rest = subst (λ (y : S). WorkedInTurn works os y s') h rest
  step_taken a k (Ok (Worked o)) b os s u s' d h rest = (u, (h, rest))
  step_taken a k (Ok (Closed x)) b os s u s' d h rest = subst (λ (y : S). WorkedInTurn works os y s') h rest
  step_taken a k (Err r) b os s u s' d (inl h) rest = subst (λ (y : S). WorkedInTurn works os y s') h.1 rest
  step_taken a k (Err r) b os s u s' (is, inl n) (inr h) rest =
      absurd (some_none (sym n ∙ ap (λ (x : Command). refusal (rules w (at_of P.conditions a) x)) h.2.0 ∙ h.2.1))
  step_taken a k (Err r) b os s u s' (is, inr f) (inr h) rest =
      absurd (never_balks e w P up moves a k r (subst (λ (x : Model). Balks w P.conditions x a k r) own f))

  -- over a lock of the controller's own port
  pub taken : (present : S → ℕ) (ts : List (Turn K)) (a b : State) (s s' : S) → Course e w P.conditions M a ts b →
      HandlesAll present works w P.conditions ts s s' → WorkedInTurn works (accepted (map (λ t. t.answer) ts)) s s'
  taken present [] a b s s' c h = h
  taken present (t ∷ ts) a b s s' c h =
      step_taken a t.command t.answer t.after (accepted (map (λ t. t.answer) ts)) s h.0 s' c.1
      (subst (λ (x : State). Handles works w (at_of P.conditions x) t.command t.answer s h.0) c.0 h.1.1)
      (taken present ts t.after b h.0 s' c.2 h.1.2)
