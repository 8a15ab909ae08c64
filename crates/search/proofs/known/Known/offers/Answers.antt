use Rattle.std.proofs.Common.{ℕ, length, get_or, Option, None, sym, ap, ◌∙◌, subst, rules}
use Rattle.std.proofs.lemmas.Result.{IfOk-weaker}
use Rattle.costs.specs.Compare.{shown}
use Rattle.tables.specs.Tables.{looked}
use Rattle.plans.specs.Flags.{has}
use Rattle.index.specs.Indexed.{moves_of}
use Rattle.search.specs.Labels.{Offered}
use Rattle.search.proofs.Collect.{each_made}
use Rattle.search.proofs.known.Known.offers.Goals as goal

pub returns : goal.returns
returns g c =
    let k = g.C.CostModel in
    let cs = c.args.self.now.costs.now in
    let P : ℕ → Option g.row.C-Cost.Denot → Type 0 = λ i x. Offered k.model (moves_of c.args.self.now.index.now) (has c.args.self.now.keep.now) (looked k.exact cs) i (shown k.exact x) in
    IfOk-weaker c.collect.result _ _ (λ v h.
    let p = h tt in
    let made = each_made (length cs) P c.map.ensures.runs (λ x y q called. search rules) p.0 p.1 p.2 in
    (ap length p.3.0 ∙ made.0, λ i l. subst (λ t. P i (get_or t i None)) (sym p.3.0) (made.1 i None l))) c.collect.ensures.runs
