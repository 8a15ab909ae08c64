use Rattle.std.proofs.Common.{◌≡◌, ℕ, List, subst, rules}
use Rattle.std.proofs.lemmas.List.{map-id}
use Rattle.reading.specs.Reading.{rises}
use Rattle.records.proofs.Tests.{rises_by}
use Rattle.records.proofs.draft.Draft.condition_rises.Goals as goal

pub returns : goal.returns
returns c =
    let conditions = c.args.self.now.conditions.items in
    subst (λ (xs : List ℕ). c.is_none_or.result ≡ rises xs c.args.marks) (map-id conditions)
    (rises_by (λ x. x.now) (λ x. x) conditions c.args.marks c.last.result c.is_none_or.result _ (rw c.deref.ensures.value at c.last.ensures.value) c.is_none_or.ensures (λ x k. search rules))
