-- The refusals of a controller, by their numbers.
use Rattle.std.specs.Prelude.{ℕ}

-- an opening: a table is too short for the port
abbrev pub short : ℕ
short = 12

-- an ask: a grant is out
abbrev pub already_out : ℕ
already_out = 21

-- the request is not one of this stage
abbrev pub not_offered : ℕ
not_offered = 22

-- the lock's marks are no condition of the port
abbrev pub no_condition : ℕ
no_condition = 23

-- an opening: the rank of the start is not 0
abbrev pub dropped : ℕ
dropped = 24

-- the entry is None
abbrev pub no_plan : ℕ
no_plan = 25

-- a step: the entry is There
abbrev pub arrived : ℕ
arrived = 26

-- a close: the entry is not There
abbrev pub not_arrived : ℕ
not_arrived = 27

-- a step or a close: its request is not out
abbrev pub not_out : ℕ
not_out = 28

-- the entry is an operation that is not possible where the lock stands, or the lock refuses it
abbrev pub cannot_work : ℕ
cannot_work = 29
