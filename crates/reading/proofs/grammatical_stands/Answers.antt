use Rattle.reading.proofs.Words.{grammatical}
use Rattle.reading.proofs.grammatical_stands.Goals as goal

pub returns : goal.returns
returns c = grammatical
