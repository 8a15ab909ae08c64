use Rattle.reading.proofs.Keeps.{reading_valid}
use Rattle.sheet.proofs.loader.read_port.Goals as goal

pub seal-requires : goal.seal-requires
seal-requires c = reading_valid _ _ c.in_ok-read_draft.ensures
