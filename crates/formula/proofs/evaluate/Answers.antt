use Rattle.std.proofs.Common.{◌≡◌, length, sym, subst, arith}
use Rattle.formula.proofs.Exits.{exit}
use Rattle.formula.specs.Grammar.{Whole, Formula, sum}
use Rattle.formula.proofs.Language.{no_formula_by, no_formula_past, verdict_by, verdict_past}
use Rattle.formula.proofs.Truths.{whole_truth, whole_formula, stuck_no_formula}
use Rattle.formula.proofs.evaluate.Goals as goal

pub returns-in_err-value : goal.returns-in_err-value
returns-in_err-value c =
    let r = c.in_err-value.ensures in
    let v = verdict_by _ _ _ r in
    rw (exit _ c.from_residual.ensures.1) (no_formula_by _ _ _ r, v, stuck_no_formula _ _ _ v)

pub returns-then-end-text : goal.returns-then-end-text
returns-then-end-text c =
    let r = c.in_ok-value.ensures in
    let v = verdict_past _ _ _ _ _ r c.if-end-text.true in
    (no_formula_past _ _ _ _ _ r c.if-end-text.true, v, stuck_no_formula _ _ _ v)

pub returns : goal.returns
returns c =
    let r = c.in_ok-value.ensures in
    let all : c.in_ok-value.end ≡ length c.args.text.now = omega (arith, r.within, c.if-end-text.false) in
    let f : Whole c.args.count c.args.marks c.args.text.now c.in_ok-value.value =
    subst (λ k. Formula c.args.count c.args.marks c.args.text.now sum 0 k c.in_ok-value.value) all r.read in
    (f, sym (whole_truth _ _ _ _ f), whole_formula _ _ _ _ f)
