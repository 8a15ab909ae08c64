-- A course grows by one call, and over a lock of the controller's own port a whole one is a history.
use Rattle.std.proofs.Common.{◌≡◌, ℕ, List, [], ◌∷◌, ◌++◌, map, refl, ap, ◌∙◌, subst}
use Rattle.port.specs.Limits.{Rise}
use Rattle.port.specs.Model.{Model, model_of}
use Rattle.costs.specs.Costs.{Model as CostsOf}
use Rattle.solver.specs.Policy.{World}
use Rattle.histories.specs.declared.Command.{Command}
use Rattle.histories.specs.Calls.{Event, History}
use Rattle.control.specs.declared.terms.Terms.{Terms}
use Rattle.control.specs.Worlds.{terms_world}
use Rattle.control.specs.States.{Answer, State, at_of, Does}
use Rattle.control.specs.Outings.{Turn, Course, ShowsAll}
use Rattle.control.proofs.Done.{did_own}

pub map_more : {A B : Type 0} (f : A → B) (xs : List A) (x : A) → map f (xs ++ (x ∷ [])) ≡ map f xs ++ (f x ∷ [])
map_more f [] x = refl
map_more f (y ∷ xs) x = ap (λ zs. f y ∷ zs) (map_more f xs x)

module _ {K : Type 0} (e : K → List ℕ) (w : World) (cs : List ℕ) (M : Model) where
  pub course_more : (ts : List (Turn K)) (a : State) (t : Turn K) → Course e w cs M a ts t.before → Does e w cs M t.before t.command t.answer t.after →
      Course e w cs M a (ts ++ (t ∷ [])) t.after
  course_more [] a t c d = (c, subst (λ (x : State). Does e w cs M x t.command t.answer t.after) c d, refl)
  course_more (x ∷ ts) a t c d = (c.0, c.1, course_more ts x.after t c.2 d)

-- A history of calls, with the commands and the answers of a course.
pub record Retold {K : Type 0} (e : K → List ℕ) (w : World) (cs : List ℕ) (a : State) (ts : List (Turn K)) (b : State) : Type 0 where
  pub history : List Event
  pub asked : map (λ x. x.command) history ≡ map (λ t. t.command) ts
  pub answered : ShowsAll e (map (λ t. t.answer) ts) history
  pub chained : History w (at_of cs a) history (at_of cs b)

module _ {K : Type 0} (e : K → List ℕ) (w : World) (P : Model) (up : Rise P.conditions) (moves : w.domain.moves ≡ P.moves) (M : Model) (own : M ≡ P) where
  pub retold : (ts : List (Turn K)) (a b : State) → Course e w P.conditions M a ts b → Retold e w P.conditions a ts b
  retold [] a b c = record { history = []; asked = refl; answered = tt; chained = ap (at_of P.conditions) c }
  retold (t ∷ ts) a b c =
      let d = did_own e w P up moves M own a t.command t.answer t.after c.1 in
      let rest = retold ts t.after b c.2 in
      let one : Event = record { before = at_of P.conditions a; command = t.command; answer = d.0; after = at_of P.conditions t.after } in
      record {
        history = one ∷ rest.history;
        asked = ap (λ ks. t.command ∷ ks) rest.asked;
        answered = (d.1.0, rest.answered);
        chained = (refl, d.1.1, rest.chained);
      }

-- a call of a controller whose terms and lock are those that it began with
pub does_there : {X K : Type 0} (k : CostsOf) (e : K → List ℕ) (t' t : Terms X K) (M' M : Model) → t' ≡ t → M' ≡ M →
    (a : State) (c : Command) (r : Answer K) (b : State) →
    Does e (terms_world k e t') (model_of t'.port.now).conditions M' a c r b → Does e (terms_world k e t) (model_of t.port.now).conditions M a c r b
does_there {X} {K} k e t' t M' M p h a c r b d =
    let d1 : Does e (terms_world k e t) (model_of t.port.now).conditions M' a c r b =
    subst (λ (x : Terms X K). Does e (terms_world k e x) (model_of x.port.now).conditions M' a c r b) p d in
    subst (λ (x : Model). Does e (terms_world k e t) (model_of t.port.now).conditions x a c r b) h d1
