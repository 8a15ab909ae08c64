use Rattle.std.proofs.Common.{length, refl, le-leb}
use Rattle.reading.specs.Reading.{bytes, provided}
use Rattle.reading.proofs.Steps.{bytes_short}
use Rattle.reader.proofs.reader.Reader.next_bytes.Goals as goal

pub returns-in_default : goal.returns-in_default
returns-in_default c = bytes_short _ _ _ c.in_default.ensures.cases

pub returns : goal.returns
unfolding bytes provided
returns c =
    let s = c.in-Some.ensures.cases in
    rw (le-leb c.args.n (length c.args.self.now.rest.now) s.0, s.1, s.2) refl
