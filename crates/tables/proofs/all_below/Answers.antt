use Rattle.std.proofs.Common.{◌≡◌, ℕ, ◌<◌, Bool, true, false, List, length, Some, Decides, sym, refl, ◌∙◌, true≢false, arith, rules}
use Rattle.std.proofs.lemmas.Iterator.{cases_from_all, YieldsList-from_slice}
use borrow.Author.Tests.{tests}
use Rattle.std.specs.Bool.{MatchBool}
use Rattle.std.specs.List.{AllWithin, HoldsAt}
use Rattle.port.specs.Limits.{In, no_move}
use Rattle.port.specs.declared.Move.{Move}
use Rattle.costs.specs.Compare.{under_of}
use Rattle.tables.specs.Tables.{looked}
use Rattle.index.proofs.Lists.{in_each, in_get_d}
use Rattle.tables.proofs.all_below.Goals as goal

-- what holds at each place holds of each move
decided : (p : Move → Bool) (ms : List Move) (r : Bool) → MatchBool r (AllWithin (λ m. p m ≡ true) ms 0 (length ms)) ((i : ℕ) × (i < length ms) × HoldsAt (λ m. p m ≡ false) ms i) → Decides r ((m : Move) → In m ms → p m ≡ true)
decided p ms true h = ((λ e. in_each no_move (λ m. p m ≡ true) ms (λ i l. h i no_move (omega arith) l)), λ all. refl)
decided p ms false (i, l, h) = ((λ e. absurd (true≢false (sym e))), λ all. absurd (true≢false (sym (all _ (in_get_d no_move ms i l)) ∙ h no_move)))

pub returns : goal.returns
returns g c =
    let k = g.C.CostModel in
    decided (λ m. under_of k.model (looked k.exact c.args.costs.now m.outcome) (Some (k.exact c.args.cost))) c.args.moves.now c.all.result
    (cases_from_all _ _ _ (λ m. under_of k.model (looked k.exact c.args.costs.now m.outcome) (Some (k.exact c.args.cost)) ≡ true) (λ m. under_of k.model (looked k.exact c.args.costs.now m.outcome) (Some (k.exact c.args.cost)) ≡ false) c.all.ensures.ran (YieldsList-from_slice c.args.moves.now cc) (λ x q k. search (rules, tests)) (λ x q k. search (rules, tests)))
