-- The limits of a port, as numbers, and those of bytes.
use Rattle.std.specs.Prelude.{ℕ}

-- the most that a port may have of each
abbrev pub most_marks : ℕ
most_marks = 16

abbrev pub most_operations : ℕ
most_operations = 32

abbrev pub most_stages : ℕ
most_stages = 16

abbrev pub most_conditions : ℕ
most_conditions = 256

abbrev pub most_moves : ℕ
most_moves = 4096

abbrev pub most_requests : ℕ
most_requests = 32

-- how many bytes its longest text has
abbrev pub longest_text : ℕ
longest_text = 63

-- a byte is a number below this one
abbrev pub byte_end : ℕ
byte_end = 256

-- and how many bits it has
abbrev pub byte_bits : ℕ
byte_bits = 8

-- minutes are two bytes, and a number below this one
abbrev pub minutes_end : ℕ
minutes_end = 65536
