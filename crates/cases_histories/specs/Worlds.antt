-- Examples of a port in memory with a policy, and of a controller on them: of each port that says what the dock does.
use Rattle.std.specs.Prelude.{◌≡◌, ℕ, Bool, true, false, List, [], ◌∷◌, Some, None, Ok, Err, Option, Result, codes}
use Rattle.std.specs.Borrow.{Bor}
use Rattle.std.specs.Global.{Global}
use Rattle.port.specs.Limits.{In}
use Rattle.port.specs.Model.{Model, model_of}
use Rattle.port.specs.declared.held.Port.{Port}
use Rattle.costs.specs.Models.{minutes_model}
use Rattle.solver.specs.declared.Entry.{Entry}
use Rattle.solver.specs.declared.Entry.TheVariants.{None as NoEntry, There, Work}
use Rattle.histories.specs.declared.Command.{Command}
use Rattle.histories.specs.declared.Command.TheVariants.{Ask, Step, Close}
use Rattle.histories.specs.Calls.{At, refusal, quote_rules, step_rules}
use Rattle.control.specs.declared.answer.Reply.TheVariants.{Granted, Worked, Closed}
use Rattle.control.specs.declared.controller.Controller.{Controller}
use Rattle.control.specs.declared.policy.Policy.{Policy}
use Rattle.control.specs.declared.terms.Terms.{Terms}
use Rattle.control.specs.declared.refusal.Refusal.{Refusal}
use Rattle.control.specs.declared.refusal.Refusal.TheVariants.{NotOffered, Arrived, Stuck}
use Rattle.control.specs.Rulings.{Priced, Next}
use Rattle.control.specs.States.{Answer, State, state}
use Rattle.control.specs.Worlds.{world, terms_world, place_in, opening_rules}
use Rattle.control.specs.Controllers.{beside, at_in, FindsCall, RulesCall, DoesCall, DidCall}
use Rattle.cases_plans.specs.Rows.{Row, holds, fails}
use Rattle.cases_histories.specs.Sluice.{move, two, nought, as_given}
use Rattle.cases_histories.specs.Calls.{at}
use Rattle.cases_histories.specs.Solving.{Buffers, buffers}

-- two conditions, of mark a; operation 0 leads from the first to the second; a request at stage 0 to get there, and on to stage 1
abbrev pub dock : Model
dock = record {
  header = record { marks = 1; operations = 1; stages = 2; stage = 0; condition = 0 };
  conditions = 0 ∷ 1 ∷ [];
  moves = move 0 0 1 3 ∷ [];
  requests = record { from = 0; to = 1; keep = codes "1"; reach = codes "a" } ∷ [];
}

-- a reference, wherever it points
abbrev shared : {X : Type 0} → X → Bor X
shared x = record { ref_ptr = (0, 0); now = x }

abbrev pub policy : Buffers → Policy (List ℕ)
policy b = record { entries = shared b.entries; costs = shared b.costs; ranks = shared b.ranks }

-- the dock's tables; with no costs; with a rank that is not 0
abbrev pub good : Buffers
good = buffers (Work 0 ∷ There ∷ []) (two 3 1 ∷ nought ∷ []) (0 ∷ 0 ∷ 0 ∷ 0 ∷ [])

abbrev pub costless : Buffers
costless = buffers (Work 0 ∷ There ∷ []) [] (0 ∷ 0 ∷ 0 ∷ 0 ∷ [])

abbrev pub dropped : Buffers
dropped = buffers (Work 0 ∷ There ∷ []) (two 3 1 ∷ nought ∷ []) (1 ∷ 0 ∷ 0 ∷ 0 ∷ [])

abbrev pub terms : Port → Buffers → Terms ℕ (List ℕ)
terms p b = record { port = shared p; policy = policy b }

abbrev pub controller : Port → Buffers → ℕ → Option ℕ → Controller ℕ (List ℕ)
controller p t s o = record { terms = terms p t; stage = s; out = o }

pub data Claim : Type 0 where
  -- of a port with a policy: entries, costs and ranks; where the marks are; which rule refuses an opening over a lock with the marks
  tells_entry : Buffers → (q c : ℕ) → Entry → Claim
  tells_cost : Buffers → (q c : ℕ) → List ℕ → Claim
  tells_rank : Buffers → (s c r : ℕ) → Claim
  placed : (m : ℕ) → Option ℕ → Claim
  opening : Buffers → (m : ℕ) → Option ℕ → Claim
  -- of a controller at a stage, with a request out or none, beside a lock with the marks
  stands : (s : ℕ) → Option ℕ → (m : ℕ) → State → Claim
  stands_in : (s : ℕ) → Option ℕ → (m : ℕ) → At → Claim
  finds_quote : (s q m : ℕ) → Result (List ℕ) Refusal → Claim
  finds_step : (s q m : ℕ) → Result ℕ Refusal → Claim
  rules : (s : ℕ) → Option ℕ → (m : ℕ) → Command → Answer (List ℕ) → Claim
  -- and of it and one with some policy after
  does : (s : ℕ) → Option ℕ → (m : ℕ) → Command → Answer (List ℕ) → Buffers → (s' : ℕ) → Option ℕ → (m' : ℕ) → Claim
  did : (s : ℕ) → Option ℕ → (m : ℕ) → Command → Answer (List ℕ) → Buffers → (s' : ℕ) → Option ℕ → (m' : ℕ) → Claim

abbrev pub Means : Port → Claim → Type 0
Means p (tells_entry t q c x) = (world minutes_model as_given p (policy t)).entry q c ≡ x
Means p (tells_cost t q c f) = (terms_world minutes_model as_given (terms p t)).cost q c ≡ f
Means p (tells_rank t s c r) = (terms_world minutes_model as_given (terms p t)).rank s c ≡ r
Means p (placed m x) = place_in p m ≡ x
Means p (opening t m x) = refusal (opening_rules minutes_model as_given p (policy t) m) ≡ x
Means p (stands s o m a) = beside (controller p good s o) m ≡ a
Means p (stands_in s o m a) = at_in (controller p good s o) m ≡ a
Means p (finds_quote s q m r) = FindsCall minutes_model as_given (controller p good s None) q m quote_rules (Priced as_given) r
Means p (finds_step s q m r) = FindsCall minutes_model as_given (controller p good s None) q m step_rules Next r
Means p (rules s o m k r) = RulesCall minutes_model as_given (controller p good s o) m k r
Means p (does s o m k r t s' o' m') = DoesCall minutes_model as_given dock (controller p good s o) m k r (controller p t s' o') m'
Means p (did s o m k r t s' o' m') = DidCall minutes_model as_given (controller p good s o) m k r (controller p t s' o') m'

abbrev pub rows : List (Row Claim)
rows =
    -- world, terms_world: what the policy's tables say, by the port's number of conditions
    holds (tells_entry good 0 1 There) ∷
    holds (tells_entry good 1 0 NoEntry) ∷
    fails (tells_entry good 0 0 There) ∷
    fails (tells_entry good 1 0 There) ∷
    holds (tells_cost good 0 0 (two 3 1)) ∷
    holds (tells_cost costless 0 0 nought) ∷
    fails (tells_cost good 0 1 (two 3 1)) ∷
    fails (tells_cost costless 0 0 (two 3 1)) ∷
    holds (tells_rank dropped 0 0 1) ∷
    holds (tells_rank dropped 0 1 0) ∷
    fails (tells_rank dropped 0 0 0) ∷
    fails (tells_rank dropped 1 0 1) ∷
    -- place_in: the condition with the marks
    holds (placed 1 (Some 1)) ∷
    holds (placed 2 None) ∷
    fails (placed 1 (Some 0)) ∷
    fails (placed 2 (Some 2)) ∷
    -- opening_rules: a short table first, then the rules of the start stage
    holds (opening good 0 None) ∷
    holds (opening costless 2 (Some 12)) ∷
    holds (opening good 2 (Some 23)) ∷
    holds (opening dropped 0 (Some 24)) ∷
    fails (opening costless 2 (Some 23)) ∷
    fails (opening dropped 0 None) ∷
    fails (opening dropped 1 (Some 24)) ∷
    -- beside, at_in
    holds (stands 0 (Some 0) 1 (state 0 (Some 0) 1)) ∷
    holds (stands 1 None 2 (state 1 None 2)) ∷
    fails (stands 0 (Some 0) 1 (state 0 None 1)) ∷
    fails (stands 1 None 2 (state 2 None 1)) ∷
    holds (stands_in 0 (Some 0) 1 (at 0 (Some 0) (Some 1))) ∷
    holds (stands_in 1 None 2 (at 1 None None)) ∷
    fails (stands_in 0 (Some 0) 1 (at 0 (Some 0) (Some 0))) ∷
    fails (stands_in 1 None 2 (at 1 None (Some 2))) ∷
    -- FindsCall: the first of the rules, or what is so at the lock's condition
    holds (finds_quote 0 0 0 (Ok (two 3 1))) ∷
    holds (finds_quote 1 0 0 (Err NotOffered)) ∷
    fails (finds_quote 0 0 0 (Ok nought)) ∷
    fails (finds_quote 1 0 0 (Ok (two 3 1))) ∷
    holds (finds_step 0 0 0 (Ok 0)) ∷
    holds (finds_step 0 0 1 (Err Arrived)) ∷
    fails (finds_step 0 0 0 (Ok 1)) ∷
    fails (finds_step 0 0 1 (Err Stuck)) ∷
    -- RulesCall
    holds (rules 0 None 0 (Ask 0) (Ok (Granted (two 3 1)))) ∷
    holds (rules 0 (Some 0) 1 (Close 0) (Ok (Closed 1))) ∷
    fails (rules 0 (Some 0) 0 (Ask 0) (Ok (Granted (two 3 1)))) ∷
    fails (rules 0 (Some 0) 1 (Close 0) (Ok (Closed 0))) ∷
    -- DoesCall, DidCall: on the same terms
    holds (does 0 None 0 (Ask 0) (Ok (Granted (two 3 1))) good 0 (Some 0) 0) ∷
    holds (does 0 (Some 0) 0 (Step 0) (Ok (Worked 0)) good 0 (Some 0) 1) ∷
    fails (does 0 None 0 (Ask 0) (Ok (Granted (two 3 1))) dropped 0 (Some 0) 0) ∷
    fails (does 0 (Some 0) 0 (Step 0) (Ok (Worked 0)) good 0 (Some 0) 0) ∷
    holds (did 0 (Some 0) 0 (Step 0) (Ok (Worked 0)) good 0 (Some 0) 1) ∷
    holds (did 0 (Some 0) 1 (Close 0) (Ok (Closed 1)) good 1 None 1) ∷
    fails (did 0 (Some 0) 0 (Step 0) (Ok (Worked 0)) costless 0 (Some 0) 1) ∷
    fails (did 0 (Some 0) 1 (Close 0) (Ok (Closed 1)) good 0 None 1) ∷
    []

-- what a row says of each port that says what the dock does
abbrev pub OfDocks : Bool → Claim → Type 0
OfDocks true x = (p : Port) → model_of p ≡ dock → Means p x
OfDocks false x = (p : Port) → model_of p ≡ dock → Means p x → ⊥

-- each row stands for each such port; and with any allocator there is one
abbrev pub WorldsSay : Type 0
WorldsSay = ((r : Row Claim) → In r rows → OfDocks r.stands r.claim) × ((heap : Global) → (p : Port) × (model_of p ≡ dock))
