use Rattle.std.proofs.Common.{◌+◌, sym, ap, ◌∙◌, arith, rules}
use Rattle.std.proofs.lemmas.Result.{err_from_is_err_and}
use Rattle.faults.specs.declared.errors.LoadError.TheVariants.{Fault}
use Rattle.reading.specs.Reading.{records}
use Rattle.reading.proofs.Whole.{entry_less, records_more, records_fault, records_end}
use Rattle.sheet.proofs.Loads.{from_map_err, ok_map_err, some_left, none_left}
use Rattle.sheet.proofs.loader.read_records.Goals as goal

pub returns-in_err-found : goal.returns-in_err-found
returns-in_err-found c = λ fuel le.
    let p = err_from_is_err_and c.from_residual.result c.from_residual.ensures.1 in
    let w = from_map_err _ (λ e. Fault e c.loop-heap.count) c.read_record.result c.map_err.result c.in_err-found.field-0.0 c.map_err.ensures.cases (λ e y k. search rules) c.in_err-found.was in
    let i = c.loop-heap.invariant.1 fuel le in
    rw (p.1, p.2, w.2) (i.2 ∙ records_fault _ _ _ _ _ _ (some_left _ _ c.is_empty.ensures c.loop-heap-test.true) i.1 (rw w.1 at c.read_record.ensures.read))

pub loop-heap-smaller : goal.loop-heap-smaller
loop-heap-smaller c =
    let ok = ok_map_err _ c.read_record.result c.map_err.result c.in_ok-found.found c.map_err.ensures.cases c.in_ok-found.was in
    entry_less _ _ _ _ _ _ (some_left _ _ c.is_empty.ensures c.loop-heap-test.true) (rw ok at c.read_record.ensures.read)

pub loop-heap-preserved : goal.loop-heap-preserved
loop-heap-preserved c =
    let ok = ok_map_err _ c.read_record.result c.map_err.result c.in_ok-found.found c.map_err.ensures.cases c.in_ok-found.was in
    let step = rw ok at c.read_record.ensures.read in
    let some = some_left _ _ c.is_empty.ensures c.loop-heap-test.true in (
      omega (arith, entry_less _ _ _ _ _ _ some step, c.loop-heap.invariant.0),
      λ fuel le.
          let i = c.loop-heap.invariant.1 fuel le in
          let m = records_more i.0 c.loop-heap.count _ _ _ _ _ _ some i.1 step in
          (m.0, m.1, i.2 ∙ m.2 ∙ ap (λ x. records m.0 (c.loop-heap.count + 1) x c.read_record.new.reader.place c.read_record.new.reader.rest.now) (sym c.in_ok-add_record.ensures.added)),
    )

pub returns : goal.returns
returns c = λ fuel le.
    let i = c.loop-heap.invariant.1 fuel le in
    i.2 ∙ records_end _ _ _ _ _ (none_left _ _ c.is_empty.ensures c.loop-heap-test.false)
