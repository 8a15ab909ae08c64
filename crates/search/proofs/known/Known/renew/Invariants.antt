use Rattle.std.proofs.Common.{ℕ, ◌<◌, ◌≤◌, length}
use Rattle.index.specs.Indexes.{Apart}
use Rattle.tables.specs.Tables.{looked}
use Rattle.search.specs.Labels.{Offered}
use Rattle.plans.specs.Flags.{has}
use Rattle.index.specs.Indexed.{moves_of}
use Rattle.search.specs.Steps.{AllOffered}
use Rattle.search.proofs.known.Known.renew.Given as goal

abbrev pub invariant-loop-c : goal.invariant-loop-c
invariant-loop-c g l =
    let k = g.C.CostModel in
    AllOffered k.model (moves_of l.self.index.now) (has l.self.keep.now) l.c (looked k.exact l.self.costs.now) (looked k.exact l.offers)
    × ((i : ℕ) → l.c ≤ i → i < length l.fn.offers → Apart (moves_of l.self.index.now) i l.d → Offered k.model (moves_of l.self.index.now) (has l.self.keep.now) (looked k.exact l.self.costs.now) i (looked k.exact l.offers i))
