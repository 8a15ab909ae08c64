use Rattle.std.proofs.Common.{ℕ, ◌+◌, ◌<◌, ◌≤◌, length, sym, ◌∙◌, subst, arith}
use Rattle.std.proofs.lemmas.List.{set-get_or}
use Rattle.index.specs.Indexes.{Apart}
use Rattle.tables.specs.Tables.{looked}
use Rattle.search.specs.Labels.{Offered}
use Rattle.plans.specs.Flags.{has}
use Rattle.index.specs.Indexed.{moves_of}
use Rattle.search.specs.Steps.{AllOffered}
use Rattle.search.proofs.Steps.{renew_set, renew_skip}
use Rattle.search.proofs.known.Known.renew.Goals as goal
use Rattle.search.proofs.known.Known.renew.Goals.{then-leads, else-leads}

pub loop-c-preserved : goal.loop-c-preserved
loop-c-preserved g c =
    let k = g.C.CostModel in
    let ms = moves_of c.args.self.now.index.now in
    let keep = has c.args.self.now.keep.now in
    let V = looked k.exact c.args.self.now.costs.now in
    let n = length c.args.offers.now in
    let i = c.loop-c.c in
    let t = c.loop-c.offers in
    let l : i < length t = omega arith in
    let m : i < n = omega arith in
    let inv = c.loop-c.invariant in
    elim c.if-leads.branch [
      | then-leads w ↦
          subst (λ u. AllOffered k.model ms keep (i + 1) V (looked k.exact u) × ((d : ℕ) → i + 1 ≤ d → d < n → Apart ms d c.args.d → Offered k.model ms keep V d (looked k.exact u d))) (sym w.offers-is)
          (renew_set k.model k.exact ms keep n c.args.d V t i w.offer.result l inv.0 inv.1 w.offer.ensures)
      | else-leads w ↦
          subst (λ u. AllOffered k.model ms keep (i + 1) V (looked k.exact u) × ((d : ℕ) → i + 1 ≤ d → d < n → Apart ms d c.args.d → Offered k.model ms keep V d (looked k.exact u d))) (sym (w.offers-is ∙ set-get_or t i c.index-offers-c.result))
          (renew_skip k.model k.exact ms keep n c.args.d V t i m inv.0 inv.1 (c.leads.ensures.apart w.if-leads.false))
    ]
