use Rattle.reading.proofs.Complete.{reading_complete}
use Rattle.reading.proofs.written_stands.Goals as goal

pub returns : goal.returns
returns c = reading_complete
