use Rattle.reading.proofs.Keeps.{reading_valid}
use Rattle.reading.proofs.Sound.{reading_sound, reading_only}
use Rattle.reading.proofs.taken_stands.Goals as goal

pub returns : goal.returns
returns c = λ t m bytes h.
    let is = reading_sound t m bytes h in
    (reading_valid t m h, is, reading_only t m is)
