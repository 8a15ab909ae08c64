-- Tasks of the rounds as they are held in memory, from their rows.
use Rattle.std.specs.Prelude.{ℕ, ◌≤◌, Bool, List, length, take}
use Rattle.std.specs.Global.{Global, Vec}
use Rattle.std.proofs.Common.{refl, arith}
use Rattle.std.proofs.lemmas.List.{length-take}
use denote.RawPtr.{null_ptr}
use Rattle.rounds.specs.declared.tasks.Task.{Task}

pub few : {A : Type 0} (xs : List A) → length (take 100 xs) ≤ 100
few xs = omega (arith, length-take 100 xs)

-- a list in memory: of a longer one the first 100 items
abbrev pub row : {A : Type 0} → Global → List A → Vec A
row heap xs = record {
  ptr = null_ptr;
  len = length (take 100 xs);
  cap = length (take 100 xs);
  alloc = heap;
  items = take 100 xs;
  ok = (refl, omega arith);
  small = omega (arith, few xs);
}

pub record TaskRows : Type 0 where
  pub from : ℕ
  pub to : ℕ
  pub keep : List Bool
  pub reach : List Bool
  pub goal : List Bool
  pub served : List Bool

abbrev pub task_of : Global → TaskRows → Task
task_of heap t = record {
  from = t.from;
  to = t.to;
  keep = row heap t.keep;
  reach = row heap t.reach;
  goal = row heap t.goal;
  served = row heap t.served;
}
