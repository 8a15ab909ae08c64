use Rattle.std.proofs.Common.{◌≡◌, ◌∙◌, List, length, vec_items, ap, arith, rules}
use Rattle.port.specs.Limits.{no_move}
use Rattle.port.specs.declared.Move.{Move}
use Rattle.index.proofs.Lists.{part}
use Rattle.index.proofs.Places.{part_row, rows_more, starts_rise}
use Rattle.index.proofs.build.rows_of.Goals as goal

pub slice_bounds-push-count : goal.slice_bounds-push-count
slice_bounds-push-count c = starts_rise (vec_items c.args.port.now.moves) c.loop-c.c c.loop-c.start c.start_of-end.result c.loop-c.invariant.starts c.start_of-end.ensures

pub slice_bounds-push-start : goal.slice_bounds-push-start
slice_bounds-push-start c =
    let ms = vec_items c.args.port.now.moves in
    let r = starts_rise ms c.loop-c.c c.loop-c.start c.start_of-end.result c.loop-c.invariant.starts c.start_of-end.ensures in
    search rules

-- The row that is pushed is the part of the moves between two starts.
pub loop-c-preserved : goal.loop-c-preserved
loop-c-preserved c =
    let ms = vec_items c.args.port.now.moves in
    let same : c.deref.result.now ≡ ms = c.deref.ensures.value in
    let long : length (vec_items c.loop-c.rows) ≡ c.loop-c.c = omega (arith, c.loop-c.rows.ok.0, c.loop-c.invariant.counted) in
    record {
      counted = omega (arith, c.in_ok-push.ensures.len, c.loop-c.invariant.counted);
      starts = c.start_of-end.ensures;
      parted = rows_more ms _ _ _ c.loop-c.c long c.in_ok-push.ensures.items
          (ap (λ (xs : List Move). part no_move c.loop-c.start c.start_of-end.result xs) same
          ∙ part_row ms c.loop-c.c c.loop-c.start c.start_of-end.result c.loop-c.invariant.starts c.start_of-end.ensures)
          c.loop-c.invariant.parted;
    }
