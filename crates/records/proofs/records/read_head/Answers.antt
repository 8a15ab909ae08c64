use Rattle.std.proofs.Common.{rules, sym, ap, ◌∙◌}
use Rattle.formula.proofs.Exits.{exit}
use Rattle.reading.specs.Reading.{fault}
use Rattle.reading.proofs.Steps.{head_none, head_one, head_refused, head_map, head_got}
use Rattle.records.proofs.records.read_head.Goals as goal

pub returns-in_err-admit-in-len1 : goal.returns-in_err-admit-in-len1
returns-in_err-admit-in-len1 c =
    rw (exit _ c.from_residual.ensures.1) (head_one _ _ _ (search rules) ∙ c.in_err-admit-in-len1.ensures _)

pub returns-in_err-kind-in-len2-up : goal.returns-in_err-kind-in-len2-up
returns-in_err-kind-in-len2-up c =
    rw (exit _ c.from_residual-in_err-kind-in-len2-up.ensures.1) (head_refused _ _ _ (search rules) c.in_err-kind-in-len2-up.ensures)

pub returns-then-not-has_fields : goal.returns-then-not-has_fields
returns-then-not-has_fields c =
    head_map _ _ _ (search rules) _ c.in_ok-kind-in-len2-up.ensures.1 c.in_ok-kind-in-len2-up.ensures.0 (sym c.has_fields.ensures ∙ c.if-not-has_fields.true)

pub returns-in-empty : goal.returns-in-empty
returns-in-empty c = head_none _ _ _ (search rules) ∙ ap fault (sym c.from.ensures)

pub returns-in_ok-admit-in-len1 : goal.returns-in_ok-admit-in-len1
returns-in_ok-admit-in-len1 c =
    head_one _ _ _ (search rules) ∙ c.in_ok-admit-in-len1.ensures.1 _ ∙ ap fault (sym c.from-in-len1.ensures)

pub returns-else-not-has_fields : goal.returns-else-not-has_fields
returns-else-not-has_fields c =
    head_got _ _ _ (search rules) _ c.in_ok-kind-in-len2-up.ensures.1 c.in_ok-kind-in-len2-up.ensures.0 (sym c.has_fields.ensures ∙ c.if-not-has_fields.false)
