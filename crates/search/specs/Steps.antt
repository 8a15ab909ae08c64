-- What the steps of the search do.
use Rattle.std.specs.Prelude.{◌≡◌, ℕ, ◌-◌, ◌<◌, ◌≤◌, Bool, true, false, cond, List, length, Some, None, Option, slice_index_or}
use Rattle.port.specs.declared.Move.{Move}
use Rattle.plans.specs.Plans.{Plan, Can, Attains}
use Rattle.costs.specs.Costs.{Model, Le, most_joined}
use Rattle.search.specs.Labels.{After, Worst, Offered, Final, Few, FewBelow, done}
use Rattle.tables.specs.Tables.{looked}
use Rattle.search.specs.declared.Choice.{Choice}
use Rattle.search.specs.declared.Choice.TheVariants.{None as Nothing, There, Work}

-- the goal costs nothing
abbrev pub start : Model → (ℕ → Bool) → ℕ → Option (List ℕ)
start k goal c = cond (goal c) (Some k.zero) None

-- each of n conditions costs what it does at first
abbrev pub Started : {A : Type 0} → Model → (A → List ℕ) → (ℕ → Bool) → ℕ → List (Option A) → Type 0
Started k e goal n t = (length t ≡ n) × ((c : ℕ) → c < n → looked e t c ≡ start k goal c)

-- each of n conditions has what is on offer for it
abbrev pub AllOffered : Model → List Move → (ℕ → Bool) → ℕ → (ℕ → Option (List ℕ)) → (ℕ → Option (List ℕ)) → Type 0
AllOffered k moves keep n V U = (c : ℕ) → c < n → Offered k moves keep V c (U c)

-- no cost is above the offer of one of n conditions
abbrev pub Above : Model → ℕ → (ℕ → Option (List ℕ)) → (ℕ → Option (List ℕ)) → Type 0
Above k n V U = (c d : ℕ) (f g : List ℕ) → d < n → V c ≡ Some f → U d ≡ Some g → Le k f g

-- each cost of the table that is below another is one of a run of at most `steps` moves
abbrev pub Early : {A : Type 0} → Model → (A → List ℕ) → ℕ → List (Option A) → Type 0
Early k e steps t = (d : ℕ) (f : List ℕ) → looked e t d ≡ Some f → FewBelow k e steps t f

-- while one of n conditions has no cost, each cost of the table is one of a run of at most `steps` moves
abbrev pub Spare : {A : Type 0} → Model → (A → List ℕ) → ℕ → ℕ → List (Option A) → Type 0
Spare k e n steps t = (c : ℕ) → c < n → looked e t c ≡ None → Few k e steps t

-- what the search keeps: the costs are final, and each other condition has what is on offer for it
pub record SearchState {A : Type 0} (k : Model) (e : A → List ℕ) (moves : List Move) (keep goal : ℕ → Bool) (n : ℕ) (costs offers : List (Option A)) : Type 0 where
  pub costs_sized : length costs ≡ n
  pub offers_sized : length offers ≡ n
  pub final : Final k moves keep goal n (looked e costs)
  pub few : Few k e (done costs - 1) costs
  -- no cost is above an offer, so one that is below another was not the last
  pub above : Above k n (looked e costs) (looked e offers)
  pub early : Early k e (done costs - 2) costs
  pub offered : AllOffered k moves keep n (looked e costs) (looked e offers)

-- what it ends with: from a condition without a cost no plan leads to the goal
pub record Settled {A : Type 0} (k : Model) (e : A → List ℕ) (moves : List Move) (keep goal : ℕ → Bool) (n : ℕ) (costs : List (Option A)) : Type 0 where
  pub sized : length costs ≡ n
  pub final : Final k moves keep goal n (looked e costs)
  -- a move more may be joined onto each cost, but where every condition has one and none is above it
  pub early : Early k e (most_joined - 1) costs
  pub spare : Spare k e n (most_joined - 1) costs
  pub closed : (p : Plan) (c : ℕ) → c < n → looked e costs c ≡ None → Attains moves keep goal p c → ⊥

-- the lowest operation at c that comes to what V has for it, with that cost
abbrev pub LowestAt : {A : Type 0} → Model → (A → List ℕ) → List Move → (ℕ → Option (List ℕ)) → ℕ → Option (ℕ × A) → Type 0
LowestAt k e moves V c None = (f : List ℕ) → V c ≡ Some f → (o : ℕ) → Worst k (After V) (Can moves c o) f → ⊥
LowestAt k e moves V c (Some w) = (V c ≡ Some (e w.1)) × Worst k (After V) (Can moves c w.0) (e w.1) × ((p : ℕ) → Worst k (After V) (Can moves c p) (e w.1) → w.0 ≤ p)

-- what is chosen at c by the costs V
abbrev pub Picked : {A : Type 0} → Model → (A → List ℕ) → List Move → (ℕ → Option (List ℕ)) → (ℕ → Bool) → ℕ → Choice A → Type 0
Picked k e moves V goal c Nothing = (goal c ≡ false) × LowestAt k e moves V c None
Picked k e moves V goal c There = goal c ≡ true
Picked k e moves V goal c (Work o x) = (goal c ≡ false) × LowestAt k e moves V c (Some (o, x))

-- what is chosen at each of n conditions
abbrev pub AllPicked : {A : Type 0} → Model → (A → List ℕ) → List Move → (ℕ → Option (List ℕ)) → (ℕ → Bool) → ℕ → List (Choice A) → Type 0
AllPicked k e moves V goal n r = (length r ≡ n) × ((c : ℕ) → c < n → Picked k e moves V goal c (slice_index_or r c Nothing))
