-- What the grammar computes: tests of marks and bytes, the steps of the reading by bytes, and where it ends.
use Rattle.std.specs.Prelude.{Bool, true, false, List, [], ◌∷◌, codes}
use Rattle.formula.specs.Grammar.{flip, both, some, stands, ends, joins, ByteEffect, refuse, to, step, TextVerdict, whole, stuck, goes, opens, after, verdict}
use Rattle.cases_words.specs.Rows.{Row, gives, Shown}

-- a truth value, which is not the other one
abbrev yes_is : Bool → Row Bool
yes_is b = gives b true false

abbrev no_is : Bool → Row Bool
no_is b = gives b false true

abbrev pub bits : List (Row Bool)
bits =
    yes_is (flip false) ∷ no_is (flip true) ∷
    yes_is (both true true) ∷ no_is (both true false) ∷ no_is (both false true) ∷ no_is (both false false) ∷
    yes_is (some true true) ∷ yes_is (some true false) ∷ yes_is (some false true) ∷ no_is (some false false) ∷
    -- 5 is the marks a and c; the last of 16 marks is number 15
    yes_is (stands 5 0) ∷ no_is (stands 5 1) ∷ yes_is (stands 5 2) ∷ no_is (stands 5 3) ∷
    yes_is (stands 32768 15) ∷ no_is (stands 32767 15) ∷
    -- the bytes 0, 1, a and b over two marks; not c, nor /, 2, the byte before a, a capital letter, !, ( or )
    yes_is (ends 2 48) ∷ yes_is (ends 2 49) ∷ yes_is (ends 2 97) ∷ yes_is (ends 2 98) ∷ no_is (ends 2 99) ∷
    no_is (ends 2 47) ∷ no_is (ends 2 50) ∷ no_is (ends 2 96) ∷ no_is (ends 2 65) ∷ no_is (ends 2 33) ∷ no_is (ends 2 40) ∷ no_is (ends 2 41) ∷
    yes_is (ends 16 112) ∷ no_is (ends 16 113) ∷ no_is (ends 0 97) ∷ yes_is (ends 0 49) ∷
    -- with 28 letters, which no port has, the last one is the byte |
    no_is (ends 27 124) ∷ yes_is (ends 28 124) ∷
    -- the bytes | and &
    yes_is (joins 124) ∷ yes_is (joins 38) ∷ no_is (joins 33) ∷ no_is (joins 41) ∷ no_is (joins 97) ∷
    []

-- over two marks
abbrev pub steps : List (Row ByteEffect)
steps =
    -- an atom has to come: after 0, 1 and b it has; ! and ( want another, ( in a group of its own
    gives (step 2 true 0 48) (to false 0) (to true 0) ∷
    gives (step 2 true 3 49) (to false 3) (to false 2) ∷
    gives (step 2 true 1 98) (to false 1) refuse ∷
    gives (step 2 true 1 99) refuse (to false 1) ∷
    gives (step 2 true 1 33) (to true 1) (to false 1) ∷
    gives (step 2 true 1 40) (to true 2) (to true 1) ∷
    gives (step 2 true 1 41) refuse (to false 0) ∷
    gives (step 2 true 0 38) refuse (to true 0) ∷
    -- one has ended, in no group, and in one
    gives (step 2 false 0 38) (to true 0) (to false 0) ∷
    gives (step 2 false 0 124) (to true 0) refuse ∷
    gives (step 2 false 0 41) refuse (to false 0) ∷
    gives (step 2 false 0 97) refuse (to false 0) ∷
    gives (step 2 false 1 124) (to true 1) (to true 0) ∷
    gives (step 2 false 1 38) (to true 1) refuse ∷
    gives (step 2 false 1 41) (to false 0) (to false 1) ∷
    gives (step 2 false 1 33) refuse (to true 1) ∷
    []

abbrev pub verdicts : List (Row TextVerdict)
verdicts =
    -- with so many groups open, the bytes that are left, and the place of the first of them
    gives (goes 2 true 0 [] 4) (stuck 4) whole ∷
    gives (goes 2 false 0 [] 4) whole (stuck 4) ∷
    gives (goes 2 false 1 [] 4) (stuck 4) whole ∷
    gives (goes 2 true 1 (codes "a)") 4) whole (stuck 6) ∷
    gives (goes 2 true 0 (codes "a)") 4) (stuck 5) whole ∷
    gives (goes 2 true 0 (codes "a&c") 0) (stuck 2) (stuck 3) ∷
    -- from place 2 of a text, where an atom has to come, and where one has ended
    gives (opens 2 (codes "a&b") 0 2) whole (stuck 3) ∷
    gives (opens 2 (codes "a&b") 1 2) (stuck 3) whole ∷
    gives (opens 2 (codes "a&b") 0 1) (stuck 1) whole ∷
    gives (after 2 (codes "a&b") 0 1) whole (stuck 1) ∷
    gives (after 2 (codes "a&b") 0 2) (stuck 2) whole ∷
    gives (after 2 (codes "(a)") 1 2) whole (stuck 3) ∷
    -- whole texts
    gives (verdict 2 (codes "a|b&!(a)")) whole (stuck 8) ∷
    gives (verdict 2 (codes "a|b&!(a")) (stuck 7) whole ∷
    gives (verdict 1 (codes "a|b")) (stuck 2) whole ∷
    gives (verdict 2 (codes "ab")) (stuck 1) (stuck 2) ∷
    gives (verdict 2 []) (stuck 0) whole ∷
    []

abbrev pub BitsShown : Type 0
BitsShown = Shown bits

abbrev pub StepsShown : Type 0
StepsShown = Shown steps

abbrev pub VerdictsShown : Type 0
VerdictsShown = Shown verdicts
