-- Examples of the domain that a port tells.
use Rattle.std.specs.Prelude.{true, false, List, [], ◌∷◌, length, codes}
use Rattle.port.specs.Model.{Model, RequestModel}
use Rattle.plans.specs.Domains.{holds_in, task_of, domain_of}
use Rattle.cases_plans.specs.Rows.{Row, holds, fails, AllSay}
use Rattle.cases_plans.specs.Values.{Claim, number, flag, transitions, Means}
use Rattle.cases_plans.specs.Basin.{moves, lift, jam, haul, lower, stay}

-- The small lock as a port: mark a where the gate is up, and mark b where it is stuck. Its condition 2 has both, and so is 3 in marks.
abbrev pub raising : RequestModel
raising = record { from = 0; to = 1; keep = codes "1"; reach = codes "a" }

abbrev pub settling : RequestModel
settling = record { from = 1; to = 0; keep = codes "!b"; reach = codes "!a" }

abbrev pub port : Model
port = record {
  header = record { marks = 2; operations = 4; stages = 6; stage = 0; condition = 0 };
  conditions = 0 ∷ 1 ∷ 3 ∷ [];
  moves = moves;
  requests = raising ∷ settling ∷ [];
}

abbrev pub rows : List (Row Claim)
rows =
    -- holds_in: a text is read on the marks of a condition, and not on its number; past the last condition on no mark
    holds (flag (holds_in port (codes "1") 0) true) ∷
    holds (flag (holds_in port (codes "a") 0) false) ∷
    holds (flag (holds_in port (codes "a&!b") 1) true) ∷
    holds (flag (holds_in port (codes "a&b") 2) true) ∷
    holds (flag (holds_in port (codes "!a") 3) true) ∷
    fails (flag (holds_in port (codes "b") 1) true) ∷
    fails (flag (holds_in port (codes "b&!a") 2) true) ∷
    -- task_of: the stages of a request, and where its texts hold
    holds (number (task_of port raising).from 0) ∷
    holds (number (task_of port raising).to 1) ∷
    holds (number (task_of port settling).from 1) ∷
    holds (flag ((task_of port raising).keep 0) true) ∷
    holds (flag ((task_of port raising).reach 0) false) ∷
    holds (flag ((task_of port settling).reach 0) true) ∷
    holds (flag ((task_of port settling).keep 2) false) ∷
    fails (number (task_of port raising).to 0) ∷
    fails (flag ((task_of port settling).keep 1) false) ∷
    fails (flag ((task_of port settling).reach 1) true) ∷
    -- domain_of: as many conditions and stages as the port has, its moves in their order, and a task for each request
    holds (number (domain_of port).conditions 3) ∷
    holds (number (domain_of port).stages 6) ∷
    holds (transitions (domain_of port).moves (lift ∷ jam ∷ haul ∷ lower ∷ stay ∷ [])) ∷
    holds (number (length (domain_of port).tasks) 2) ∷
    fails (number (domain_of port).conditions 2) ∷
    fails (number (domain_of port).stages 4) ∷
    fails (transitions (domain_of port).moves (lift ∷ jam ∷ lower ∷ stay ∷ [])) ∷
    fails (number (length (domain_of port).tasks) 1) ∷
    []

abbrev pub DomainsSay : Type 0
DomainsSay = AllSay Means rows
