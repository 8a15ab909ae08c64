-- The number of each refusal.
use Rattle.std.specs.Prelude.{ℕ, List, ◌++◌, codes, decimal}
use Rattle.histories.specs.Refusals.{short, already_out, not_offered, no_condition, dropped, no_plan, arrived, not_arrived, not_out, cannot_work}
use Rattle.control.specs.declared.refusal.Refusal.{Refusal}
use Rattle.control.specs.declared.refusal.Refusal.TheVariants.{Short, AlreadyOut, NotOffered, NoCondition, Dropped, NoPlan, Arrived, NotArrived, NotOut, Stuck}

abbrev pub refusal_number : Refusal → ℕ
refusal_number Short = short
refusal_number AlreadyOut = already_out
refusal_number NotOffered = not_offered
refusal_number NoCondition = no_condition
refusal_number Dropped = dropped
refusal_number NoPlan = no_plan
refusal_number Arrived = arrived
refusal_number NotArrived = not_arrived
refusal_number NotOut = not_out
refusal_number Stuck = cannot_work

-- What a refusal is printed as.
abbrev pub refusal_text : Refusal → List ℕ
refusal_text r = codes "refused " ++ decimal (refusal_number r)
