use Rattle.reading.specs.Reading.{count}
use Rattle.reader.specs.Reads.{counted}
use Rattle.reader.proofs.reader.Reader.next_count.Goals as goal

pub returns-clause-read : goal.returns-clause-read
unfolding count counted
returns-clause-read c = c.next_counted.ensures.read
