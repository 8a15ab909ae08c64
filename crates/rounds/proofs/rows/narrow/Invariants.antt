use Rattle.std.proofs.Common.{◌≡◌, ℕ, ◌<◌, ◌≤◌, ◌&&◌}
use Rattle.plans.specs.Flags.{has}
use Rattle.rounds.proofs.rows.narrow.Given as goal

abbrev pub invariant-loop-c : goal.invariant-loop-c
invariant-loop-c l = record {
  done : (k : ℕ) → k < l.c → has l.row k ≡ (has l.initial.row k && has l.other k);
  rest : (k : ℕ) → l.c ≤ k → has l.row k ≡ has l.initial.row k;
}
