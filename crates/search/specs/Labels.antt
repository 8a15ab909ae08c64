-- What the search keeps while conditions become final in order of cost.
use Rattle.std.specs.Prelude.{◌≡◌, ℕ, suc, ◌<◌, Bool, true, false, List, [], ◌∷◌, Some, None, Option, slice_index_or}
use Rattle.port.specs.Limits.{In}
use Rattle.port.specs.declared.Move.{Move}
use Rattle.plans.specs.Plans.{Plan, Can, IsRun, Attains}
use Rattle.costs.specs.Costs.{Model, Le, cost, Reached, Joinable}
use Rattle.search.specs.Answers.{Prices}

-- V has the cost a for the outcome of the move
abbrev pub After : (ℕ → Option (List ℕ)) → Move → List ℕ → Type 0
After V m a = V m.outcome ≡ Some a

-- f is the greatest that a move of P costs, joined onto what W says follows it
pub record Worst (k : Model) (W : Move → List ℕ → Type 0) (P : Move → Type 0) (f : List ℕ) : Type 0 where
  pub each : (m : Move) → P m → (a : List ℕ) × W m a × Le k (k.join m a) f
  pub top : (m : Move) × P m × ((a : List ℕ) × W m a × (k.join m a ≡ f))

-- the greatest of the listed moves, where there is one and each outcome has a cost
abbrev pub Greatest : Model → (ℕ → Option (List ℕ)) → List Move → Option (List ℕ) → Type 0
Greatest k V ms None = (f : List ℕ) → Worst k (After V) (λ m. In m ms) f → ⊥
Greatest k V ms (Some f) = Worst k (After V) (λ m. In m ms) f

-- the least, over the operations, of what the moves Q of an operation come to
abbrev pub Cheapest : Model → (ℕ → Option (List ℕ)) → (ℕ → Move → Type 0) → Option (List ℕ) → Type 0
Cheapest k V Q None = (o : ℕ) (g : List ℕ) → Worst k (After V) (Q o) g → ⊥
Cheapest k V Q (Some f) = ((o : ℕ) × Worst k (After V) (Q o) f) × ((o : ℕ) (g : List ℕ) → Worst k (After V) (Q o) g → Le k f g)

-- the moves of a list by the operation o
abbrev pub By : List Move → ℕ → Move → Type 0
By ms o m = In m ms × (m.operation ≡ o)

-- what is on offer for c: nothing where it is final or may not be worked in, else the cheapest operation
abbrev pub Offered : Model → List Move → (ℕ → Bool) → (ℕ → Option (List ℕ)) → ℕ → Option (List ℕ) → Type 0
Offered k moves keep V c None = V c ≡ None → keep c ≡ true → Cheapest k V (Can moves c) None
Offered k moves keep V c (Some f) = (V c ≡ None) × (keep c ≡ true) × Cheapest k V (Can moves c) (Some f)

-- each plan from c has a run of at least f
abbrev pub AtLeast : Model → List Move → (ℕ → Bool) → (ℕ → Bool) → ℕ → List ℕ → Type 0
AtLeast k moves keep goal c f = (p : Plan) → Attains moves keep goal p c → (ms : List Move) × IsRun moves p c ms × Le k f (cost k ms)

-- Each cost of V is final.
pub record Final (k : Model) (moves : List Move) (keep goal : ℕ → Bool) (n : ℕ) (V : ℕ → Option (List ℕ)) : Type 0 where
  pub goals : (c : ℕ) → c < n → goal c ≡ true → V c ≡ Some k.zero
  pub prices : (c : ℕ) (f : List ℕ) → V c ≡ Some f → (p : Plan) × Prices k moves keep goal c f p
  pub least : (c : ℕ) (f : List ℕ) → V c ≡ Some f → AtLeast k moves keep goal c f
  pub by : (c : ℕ) (f : List ℕ) → V c ≡ Some f → goal c ≡ false → (keep c ≡ true) × ((o : ℕ) × Worst k (After V) (Can moves c o) f)

-- how many conditions of a table have a cost
abbrev pub done : {A : Type 0} → List (Option A) → ℕ
done [] = 0
done (None ∷ t) = done t
done (Some a ∷ t) = suc (done t)

-- each cost of the table is one of a run of at most `steps` moves
abbrev pub Few : {A : Type 0} → Model → (A → List ℕ) → ℕ → List (Option A) → Type 0
Few {A} k e steps t = (c : ℕ) (a : A) → slice_index_or t c None ≡ Some a → Reached k steps (e a)

-- and so is each that is below f
abbrev pub FewBelow : {A : Type 0} → Model → (A → List ℕ) → ℕ → List (Option A) → List ℕ → Type 0
FewBelow {A} k e steps t f = (c : ℕ) (a : A) → slice_index_or t c None ≡ Some a → k.within f (e a) ≡ false → Reached k steps (e a)

-- each outcome of the listed moves that has a cost has one onto which a move may be joined
abbrev pub FewAfter : {A : Type 0} → Model → (A → List ℕ) → List (Option A) → List Move → Type 0
FewAfter {A} k e t ms = (m : Move) (a : A) → In m ms → slice_index_or t m.outcome None ≡ Some a → Joinable k (e a)
