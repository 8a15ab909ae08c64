-- What a program computes: the conditions from which a goal can be attained, and from them the sets of the iteration.
use Rattle.std.specs.Prelude.{◌≡◌, ℕ, zero, suc, ◌<◌, Bool, true, false, not, ◌&&◌, ◌||◌, List, [], ◌∷◌, ◌==◌}
use Rattle.port.specs.declared.Move.{Move}
use Rattle.plans.specs.Plans.{Plan, Can, Possible, Attains}
use Rattle.plans.specs.Simulation.{Domain, Task}

-- Some plan keeps to `keep` and attains `goal` from c.
abbrev pub Attainable : List Move → (ℕ → Bool) → (ℕ → Bool) → ℕ → Type 0
Attainable moves keep goal c = (plan : Plan) × Attains moves keep goal plan c

-- The rule: c is kept to, and some operation is possible there and leads only into X.
abbrev pub Steps : List Move → (ℕ → Bool) → (ℕ → Type 0) → ℕ → Type 0
Steps moves keep X c =
    (o : ℕ) × (keep c ≡ true) × Possible moves c o × ((m : Move) → Can moves c o m → X m.outcome)

abbrev pub Member : (ℕ → Bool) → ℕ → Type 0
Member G c = G c ≡ true

-- A set that has the goals and is closed under the rule, among the conditions below n.
pub record Closed (n : ℕ) (moves : List Move) (keep goal G : ℕ → Bool) : Type 0 where
  pub goals : (c : ℕ) → c < n → Member goal c → Member G c
  pub steps : (c : ℕ) → c < n → Steps moves keep (Member G) c → Member G c

abbrev pub any_of : {A : Type 0} → (A → Bool) → List A → Bool
any_of p [] = false
any_of p (x ∷ xs) = p x || any_of p xs

abbrev pub each : {A : Type 0} → (A → Bool) → List A → Bool
each p [] = true
each p (x ∷ xs) = p x && each p xs

-- Each outcome of operation o in condition c is in G.
abbrev pub leads : List Move → (ℕ → Bool) → ℕ → ℕ → Bool
leads moves G c o = each (λ m. not (m.condition == c && m.operation == o) || G m.outcome) moves

abbrev pub steps : List Move → (ℕ → Bool) → (ℕ → Bool) → ℕ → Bool
steps moves keep G c = keep c && any_of (λ m. (m.condition == c) && leads moves G c m.operation) moves

-- The goals, and k times what steps into what is there.
abbrev pub grown : List Move → (ℕ → Bool) → (ℕ → Bool) → ℕ → ℕ → Bool
grown moves keep goal zero c = goal c
grown moves keep goal (suc k) c = grown moves keep goal k c || steps moves keep (grown moves keep goal k) c

-- Among the conditions below n, those from which the goal is attainable.
abbrev pub attains : ℕ → List Move → (ℕ → Bool) → (ℕ → Bool) → ℕ → Bool
attains n moves keep goal c = grown moves keep goal n c

abbrev pub reached : Domain → (ℕ → Bool) → (ℕ → Bool) → ℕ → Bool
reached D keep goal c = attains D.conditions D.moves keep goal c

-- The request's goal, with the set that is to hold at its end.
abbrev pub aim : (ℕ → ℕ → Bool) → Task → ℕ → Bool
aim R q c = q.reach c && R q.to c

abbrev pub serves : Domain → (ℕ → ℕ → Bool) → ℕ → ℕ → Bool
serves D R s c = each (λ q. not (q.from == s) || reached D q.keep (aim R q) c) D.tasks

-- The pairs that are left after k steps.
abbrev pub left_after : Domain → ℕ → ℕ → ℕ → Bool
left_after D zero s c = true
left_after D (suc k) s c = serves D (left_after D k) s c
