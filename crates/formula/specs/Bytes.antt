-- The bytes that spell a formula, by their codes.
use Rattle.std.specs.Prelude.{ℕ}

-- `0`, which is false
abbrev pub nought_byte : ℕ
nought_byte = 48

-- `1`, which is true
abbrev pub one_byte : ℕ
one_byte = 49

-- `a`, the letter of mark 0; mark k has the letter that comes k later
abbrev pub first_letter : ℕ
first_letter = 97

-- `!`, which turns the atom after it
abbrev pub not_byte : ℕ
not_byte = 33

-- `(` and `)`, which stand round a sum
abbrev pub open_byte : ℕ
open_byte = 40

abbrev pub close_byte : ℕ
close_byte = 41

-- `&`, which stands between the atoms of a product
abbrev pub and_byte : ℕ
and_byte = 38

-- `|`, which stands between the products of a sum
abbrev pub or_byte : ℕ
or_byte = 124
