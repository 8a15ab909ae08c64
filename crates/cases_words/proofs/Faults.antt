-- The rows of faults.
use Rattle.std.proofs.Common.{ℕ, List, refl}
use Rattle.std.specs.Fmt.{digits}
use Rattle.cases_words.specs.Faults.{numbers, places, layers, lines, FaultNumbersShown, FaultPlacesShown, FaultLayersShown, FaultLinesShown}
use Rattle.cases_words.proofs.Rows.{all_shown}
use Rattle.cases_words.proofs.Fields.{number_code}

pub numbers_shown : FaultNumbersShown
numbers_shown = all_shown number_code numbers refl refl

pub places_shown : FaultPlacesShown
places_shown = all_shown number_code places refl refl

pub layers_shown : FaultLayersShown
layers_shown = all_shown number_code layers refl refl

pub lines_shown : FaultLinesShown
unfolding digits
lines_shown = all_shown (λ (w : List ℕ). w) lines refl refl
