use Rattle.std.proofs.Common.{◌≡◌, ℕ, ◌<◌, List, Bor, get_or, vec_items, vec_len}
use Rattle.port.specs.declared.Move.{Move}
use Rattle.index.specs.Indexes.{Start, row}
use Rattle.index.proofs.build.rows_of.Given as goal

abbrev pub invariant-loop-c : goal.invariant-loop-c
invariant-loop-c l = record {
  counted : vec_len l.rows ≡ l.c;
  starts : Start (vec_items l.port.moves) l.c l.start;
  parted : (k : ℕ) (r : Bor (List Move)) → k < l.c → (get_or (vec_items l.rows) k r).now ≡ row k (vec_items l.port.moves);
}
