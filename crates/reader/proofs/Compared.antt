-- What `==` and `!=` say of two texts.
use Rattle.std.proofs.Common.{◌≡◌, ℕ, Bool, List, eqb, not, refl, sym, ap, ◌∙◌}
use Rattle.std.specs.Cmp.Lexicographic.{pointwise}
use Rattle.std.proofs.lemmas.Slice.Eq.{slice_eq-Decides}
use Rattle.std.proofs.lemmas.Bool.Decides.{Decides-eqb}
use Rattle.std.proofs.Math.Bool.{not-not}
use Rattle.reading.specs.Reading.{same}
use Rattle.reading.proofs.Steps.{same_decided}

module _ (these : List ℕ) {those text : List ℕ} (e : those ≡ text) where
  same_as : same these text ≡ pointwise eqb these those
  same_as = ap (same these) (sym e) ∙ sym (same_decided these those _ (slice_eq-Decides Decides-eqb these those _ refl))

  -- Texts are the same where `==` says so.
  pub compared : {r : Bool} → r ≡ pointwise eqb these those → same these text ≡ r
  compared h = same_as ∙ sym h

  -- And they are not where `!=` does.
  pub told_apart : {r : Bool} → r ≡ not (pointwise eqb these those) → same these text ≡ not r
  told_apart h = same_as ∙ sym (not-not _) ∙ ap not (sym h)
