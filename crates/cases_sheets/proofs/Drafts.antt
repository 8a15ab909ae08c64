-- The rows of drafts.
use Rattle.std.proofs.Common.{refl}
use Rattle.cases_words.proofs.Rows.{all_shown}
use Rattle.cases_words.proofs.Records.{model_code}
use Rattle.cases_sheets.specs.Drafts.{drafts, DraftsShown}

pub drafts_shown : DraftsShown
drafts_shown heap = all_shown model_code (drafts heap) refl refl
