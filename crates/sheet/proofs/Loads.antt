-- A whole sheet, from what was read of its header and of its records.
use Rattle.std.proofs.Common.{◌≡◌, ℕ, ◌<◌, ◌≤◌, Bool, true, false, eqb, List, length, Ok, Err, Result, MatchResult, refl, sym, ap, ◌∙◌, subst, arith}
use Rattle.std.specs.Result.{IsErrAnd}
use Rattle.std.proofs.lemmas.Bool.Decides.{nat_tests}
use Rattle.faults.specs.declared.errors.LoadError.{LoadError}
use Rattle.faults.specs.declared.errors.LoadError.TheVariants.{Fault, Memory}
use Rattle.port.specs.declared.Header.{Header}
use Rattle.port.specs.declared.held.Port.{Port}
use Rattle.port.specs.Model.{Model, model_of}
use Rattle.port.specs.Valid.{Valid}
use Rattle.reading.specs.Reading.{got, heading, empty, held, finish, records, reading}
use Rattle.reading.specs.SheetOf.{sheet_of}
use Rattle.reading.proofs.Complete.{reading_complete}
use Rattle.reading.proofs.Whole.{reading_got, heading_less}
use Rattle.sheet.specs.Loading.{TellsReading, Loaded, HoldsPort}

pub records_from : (t : List ℕ) (h : Header) (q : ℕ) (r : List ℕ) (m after : Model) (x : Result ℕ LoadError) → heading 0 t ≡ got h q r → m ≡ empty h → ((fuel : ℕ) → length r ≤ fuel → TellsReading (λ n. finish n after) (records fuel 0 m q r) x) → TellsReading (λ n. finish n after) (reading t) x
records_from t h q r m after x e f g =
    subst (λ y. TellsReading (λ n. finish n after) y x) (ap (λ k. records (length t) 0 k q r) f ∙ sym (reading_got t h q r e)) (g (length t) (heading_less t h q r e))

pub records_ok : (t : List ℕ) (h : Header) (q : ℕ) (r : List ℕ) (m after : Model) (n : ℕ) → heading 0 t ≡ got h q r → m ≡ empty h → ((fuel : ℕ) → length r ≤ fuel → records fuel 0 m q r ≡ finish n after) → reading t ≡ finish n after
records_ok t h q r m after n e f g = records_from t h q r m after (Ok n) e f g

-- the sheet of a valid port gives that port, but for want of memory
pub holds_ok : (t : List ℕ) (m now : Model) → reading t ≡ held now → Valid m → t ≡ sheet_of m → now ≡ m
holds_ok t m now b ok e =
    let a : reading t ≡ held m = ap reading e ∙ reading_complete m ok in
    cc

pub holds_error : (t : List ℕ) (m : Model) (after : Port) (e : LoadError) → TellsReading (λ (p : Port). held (model_of p)) (reading t) (Err e) → Valid m → t ≡ sheet_of m → HoldsPort {U = Unit {0}} m after (Err e)
holds_error t m after (Fault f n) b ok e =
    let a : reading t ≡ held m = ap reading e ∙ reading_complete m ok in
    let z : ◌≡◌ {A = ℕ} 0 1 = cc in
    omega arith
holds_error t m after Memory b ok e = tt

-- a load that fails keeps the port
pub loaded_error : (t : List ℕ) (before after : Port) (e : LoadError) → TellsReading (λ (p : Port). held (model_of p)) (reading t) (Err e) → after ≡ before → Loaded {U = Unit {0}} t before after (Err e)
loaded_error t before after (Fault f n) h same = (h, same)
loaded_error t before after Memory h same = same

-- what a `map_err` answers tells what it was called on
pub from_map_err : {T E D : Type 0} (P : E → D → Type 0) (f : E → D) (r : Result T E) (s : Result T D) (d : D) → MatchResult r (λ x. s ≡ Ok x) (λ e. IsErrAnd s (P e)) → ((e : E) (y : D) → P e y → y ≡ f e) → s ≡ Err d → (e : E) × (r ≡ Err e) × (d ≡ f e)
from_map_err {T} {E} {D} P f (Ok y) s d h told e =
    let a : ◌≡◌ {A = Result T D} (Ok y) (Err d) = sym h ∙ e in
    let z : ◌≡◌ {A = ℕ} 0 1 = cc in
    absurd (omega arith)
from_map_err P f (Err x) s d h told e = (x, refl, told x d (subst (λ z. IsErrAnd z (P x)) e h))

pub ok_map_err : {T E D : Type 0} (P : E → D → Type 0) (r : Result T E) (s : Result T D) (x : T) → MatchResult r (λ y. s ≡ Ok y) (λ e. IsErrAnd s (P e)) → s ≡ Ok x → r ≡ Ok x
ok_map_err {T} {E} {D} P (Ok y) s x h e =
    let a : ◌≡◌ {A = Result T D} (Ok y) (Ok x) = sym h ∙ e in
    let b : y ≡ x = cc in
    ap Ok b
ok_map_err P (Err f) s x h e = absurd (subst (λ z. IsErrAnd z (P f)) e h)

-- whether bytes are left
pub some_left : (n : ℕ) (b : Bool) → b ≡ eqb n 0 → b ≡ false → 0 < n
some_left n b is h = grind (arith, nat_tests)

pub none_left : (n : ℕ) (b : Bool) → b ≡ eqb n 0 → b ≡ true → n ≤ 0
none_left n b is h = grind (arith, nat_tests)
