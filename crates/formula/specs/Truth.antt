-- The truth of a text on a set of marks, computed. Of a text that is no formula it says nothing.
-- The grammar decides what a formula is and what it says (Grammar.antt); the two are proved to agree.
use Rattle.std.specs.Prelude.{ℕ, zero, suc, ◌+◌, ◌-◌, ◌*◌, Bool, true, false, cond, List, [], ◌∷◌, length, ◌==◌, nat_le, nat_lt}
use Rattle.formula.specs.Grammar.{Part, atom, product, sum, TextVerdict, whole, stuck, verdict, flip, both, some, stands}
use Rattle.formula.specs.Bytes.{nought_byte, one_byte, first_letter, not_byte, open_byte, close_byte, and_byte, or_byte}

-- what a part of a text comes to: its value and the bytes after it, or nothing where no such part begins
pub data Value : Type 0 where
  nothing : Value
  value : Bool → List ℕ → Value

-- the value turned, or joined with that of the part after it
abbrev pub turned : Value → Value
turned nothing = nothing
turned (value v t) = value (flip v) t

abbrev pub joined : (Bool → Bool → Bool) → Bool → Value → Value
joined f v nothing = nothing
joined f v (value w t) = value (f v w) t

-- a value and the closing bracket after it
abbrev pub closed : Value → Value
closed nothing = nothing
closed (value v []) = nothing
closed (value v (b ∷ t)) = cond (b == close_byte) (value v t) nothing

-- a value, and where the byte b comes next, the part after that
abbrev pub followed : ℕ → (Bool → Bool → Bool) → (List ℕ → Value) → Value → Value
followed b f more nothing = nothing
followed b f more (value v []) = value v []
followed b f more (value v (x ∷ t)) = cond (x == b) (joined f v (more t)) (value v (x ∷ t))

-- the mark of a letter among n
abbrev pub marked : ℕ → ℕ → ℕ → List ℕ → Value
marked n m b t = cond (nat_le first_letter b) (cond (nat_lt (b - first_letter) n) (value (stands m (b - first_letter)) t) nothing) nothing

-- the part that a text begins with, over n marks, on the marks m; the first number bounds how deep parts nest
unfoldable pub read : ℕ → Part → ℕ → ℕ → List ℕ → Value
read zero part n m t = nothing
read (suc k) atom n m [] = nothing
read (suc k) atom n m (b ∷ t) =
    cond (b == nought_byte) (value false t) (
    cond (b == one_byte) (value true t) (
    cond (b == not_byte) (turned (read k atom n m t)) (
    cond (b == open_byte) (closed (read k sum n m t)) (marked n m b t))))
read (suc k) product n m t = followed and_byte both (read k product n m) (read k atom n m t)
read (suc k) sum n m t = followed or_byte some (read k sum n m) (read k product n m t)

abbrev pub held : Value → Bool
held nothing = false
held (value v t) = v

-- the text is true on the marks m, of n marks
unfoldable pub truth : ℕ → ℕ → List ℕ → Bool
truth n m t = held (read (3 * length t + 3) sum n m t)

abbrev pub is_whole : TextVerdict → Bool
is_whole whole = true
is_whole (stuck p) = false

-- the text is a formula over n marks
abbrev pub is_formula : ℕ → List ℕ → Bool
is_formula n t = is_whole (verdict n t)
