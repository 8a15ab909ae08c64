use Rattle.std.proofs.Common.{rules}
use Rattle.reading.proofs.Steps.{byte_none, byte_one}
use Rattle.reader.proofs.reader.Reader.next_byte.Goals as goal

pub returns-in-empty-clause-read : goal.returns-in-empty-clause-read
returns-in-empty-clause-read c = byte_none _ _ (search rules)

pub returns-in-len1-up-clause-read : goal.returns-in-len1-up-clause-read
returns-in-len1-up-clause-read c = byte_one _ _ (search rules)
