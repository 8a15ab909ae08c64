use Rattle.std.proofs.Common.{Err, sym, ◌∙◌}
use Rattle.std.proofs.lemmas.Result.{err_from_is_err_and}
use Rattle.records.specs.Drafts.{draft_model}
use Rattle.reading.proofs.Whole.{heading_from, reading_fault, finish_held, finish_start}
use Rattle.sheet.proofs.Loads.{records_from, records_ok}
use Rattle.sheet.proofs.loader.read_draft.Goals as goal

pub returns-in_err-draft : goal.returns-in_err-draft
returns-in_err-draft c =
    let p = err_from_is_err_and c.from_residual.result c.from_residual.ensures.1 in
    rw (p.1, p.2) (reading_fault _ _ (heading_from _ _ c.new-reader.ensures.1 c.new-reader.ensures.0 c.in_err-draft.ensures.read))

pub returns-in_err-records : goal.returns-in_err-records
returns-in_err-records c =
    let p = err_from_is_err_and c.from_residual-in_err-records.result c.from_residual-in_err-records.ensures.1 in
    rw (p.1, p.2) (records_from _ _ _ _ _ (draft_model c.read_records.new.draft) (Err c.in_err-records.field-0.0)
    (heading_from _ _ c.new-reader.ensures.1 c.new-reader.ensures.0 c.in_ok-draft.ensures.read)
    c.in_ok-draft.ensures.begun
    c.in_err-records.ensures)

pub returns-then-not-start_exists : goal.returns-then-not-start_exists
returns-then-not-start_exists c =
    records_ok _ _ _ _ _ _ _
    (heading_from _ _ c.new-reader.ensures.1 c.new-reader.ensures.0 c.in_ok-draft.ensures.read)
    c.in_ok-draft.ensures.begun
    c.in_ok-records.ensures
    ∙ finish_start _ _ (sym c.start_exists.ensures ∙ c.if-not-start_exists.true)

pub returns : goal.returns
returns c =
    records_ok _ _ _ _ _ _ _
    (heading_from _ _ c.new-reader.ensures.1 c.new-reader.ensures.0 c.in_ok-draft.ensures.read)
    c.in_ok-draft.ensures.begun
    c.in_ok-records.ensures
    ∙ finish_held _ _ (sym c.start_exists.ensures ∙ c.if-not-start_exists.false)
