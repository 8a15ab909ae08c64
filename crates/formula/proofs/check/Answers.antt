use Rattle.formula.proofs.Truths.{formula_truth}
use Rattle.formula.proofs.Language.{whole_verdict}
use Rattle.formula.proofs.check.Goals as goal

pub returns : goal.returns
returns c =
    let told = c.in_ok-evaluate.ensures in
    (whole_verdict c.args.count 0 c.args.text.now _ told.0, told.2, formula_truth c.args.count c.args.text.now told.2)
