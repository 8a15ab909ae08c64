use Rattle.std.proofs.Common.{◌≡◌, ℕ, ◌<◌, ◌≤◌, cond, not, ◌&&◌, get_or}
use Rattle.plans.specs.Flags.{has}
use Rattle.rounds.proofs.stages.note.Given as goal

abbrev pub invariant-loop-c : goal.invariant-loop-c
invariant-loop-c l = record {
  noted : (k : ℕ) → k < l.c → get_or l.ranks k 0 ≡ cond (has l.alive k && not (has l.next k)) l.round (get_or l.initial.ranks k 0);
  rest : (k : ℕ) → l.c ≤ k → get_or l.ranks k 0 ≡ get_or l.initial.ranks k 0;
}
