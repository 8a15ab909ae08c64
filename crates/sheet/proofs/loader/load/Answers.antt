use Rattle.std.proofs.Common.{refl}
use Rattle.std.proofs.lemmas.Result.{err_from_is_err_and}
use Rattle.reading.proofs.Keeps.{reading_valid}
use Rattle.reading.proofs.Sound.{reading_sound, reading_only, all_bytes}
use Rattle.reading.proofs.Words.{grammatical}
use Rattle.sheet.proofs.Loads.{holds_ok, holds_error, loaded_error}
use Rattle.sheet.proofs.loader.load.Goals as goal

pub returns-in_err-read : goal.returns-in_err-read
returns-in_err-read c =
    let p = err_from_is_err_and c.from_residual.result c.from_residual.ensures.1 in
    record {
      read = rw (p.1, p.2) (loaded_error _ _ _ c.in_err-read.field-0.0 c.in_err-read.ensures refl);
      written = rw p.1 tt;
      only = rw p.1 tt;
      accepts = rw (p.1, p.2) (λ m ok is. holds_error _ m c.args.port.now c.in_err-read.field-0.0 c.in_err-read.ensures ok is);
      words = grammatical;
    }

pub returns : goal.returns
returns c =
    let told = c.in_ok-read.ensures in
    let is = reading_sound _ _ (all_bytes _ c.type_inv.sheet) told in
    record {
      read = told;
      written = (reading_valid _ _ told, is);
      only = reading_only _ _ is;
      accepts = λ m ok e. holds_ok _ m _ told ok e;
      words = grammatical;
    }
