-- Stages of the rounds as they are held in memory, from their rows.
use Rattle.std.specs.Prelude.{ℕ, Bool, List}
use Rattle.std.specs.Global.{Global}
use Rattle.rounds.specs.Stages.{rank_row}
use Rattle.cases_search.specs.Held.{row}

-- what a function takes
abbrev pub Source : {A B : Type 0} → (A → B) → Type 0
Source {A} f = A

-- a stage of the rounds: the crate `rounds` keeps the name of the type to itself, but its definitions tell it
abbrev pub Stage : Type 0
Stage = Source rank_row

pub record StageRows : Type 0 where
  pub alive : List Bool
  pub next : List Bool
  pub ranks : List ℕ
  pub lost : Bool

abbrev pub stage : (alive next : List Bool) (ranks : List ℕ) (lost : Bool) → StageRows
stage alive next ranks lost = record { alive = alive; next = next; ranks = ranks; lost = lost }

abbrev pub stage_of : Global → StageRows → Stage
stage_of heap s = record {
  alive = row heap s.alive;
  next = row heap s.next;
  ranks = row heap s.ranks;
  lost = s.lost;
}
