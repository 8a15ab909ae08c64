-- What the truth of a text is computed from, part by part.
use Rattle.std.specs.Prelude.{Bool, true, false, List, [], ◌∷◌, codes}
use Rattle.formula.specs.Grammar.{atom, product, sum, whole, stuck, both, some}
use Rattle.formula.specs.Truth.{Value, nothing, value, turned, joined, closed, followed, marked, read, held, truth, is_whole, is_formula}
use Rattle.cases_words.specs.Rows.{Row, gives, Shown}

abbrev pub values : List (Row Value)
values =
    gives (turned (value true (codes "&a"))) (value false (codes "&a")) (value true (codes "&a")) ∷
    gives (turned nothing) nothing (value true []) ∷
    gives (joined both true (value false (codes ")"))) (value false (codes ")")) (value true (codes ")")) ∷
    gives (joined some true (value false (codes ")"))) (value true (codes ")")) (value false (codes ")")) ∷
    gives (joined some true nothing) nothing (value true []) ∷
    gives (joined (λ v w. v) true (value false [])) (value true []) (value false []) ∷
    -- a closing bracket is taken away, and has to be there
    gives (closed (value true (codes ")|b"))) (value true (codes "|b")) (value true (codes ")|b")) ∷
    gives (closed (value true (codes "|b)"))) nothing (value true (codes "|b)")) ∷
    gives (closed (value true [])) nothing (value true []) ∷
    gives (closed nothing) nothing (value false []) ∷
    -- after & another atom has to come; without & the value stays as it is
    gives (followed 38 both (read 1 atom 2 1) (value true (codes "&b|a"))) (value false (codes "|a")) (value true (codes "|a")) ∷
    gives (followed 38 both (read 1 atom 2 1) (value true (codes "|a"))) (value true (codes "|a")) nothing ∷
    gives (followed 38 both (read 1 atom 2 1) (value true (codes "&"))) nothing (value true []) ∷
    gives (followed 38 both (read 1 atom 2 1) (value true [])) (value true []) nothing ∷
    gives (followed 38 both (read 1 atom 2 1) nothing) nothing (value true []) ∷
    -- of two marks, on b
    gives (marked 2 2 98 (codes ")")) (value true (codes ")")) (value false (codes ")")) ∷
    gives (marked 2 2 97 []) (value false []) nothing ∷
    gives (marked 2 2 99 []) nothing (value false []) ∷
    gives (marked 2 2 96 []) nothing (value false []) ∷
    -- parts, as long as they can be: an atom, a product, a sum
    gives (read 9 atom 2 1 (codes "a&b|1")) (value true (codes "&b|1")) (value true []) ∷
    gives (read 9 product 2 1 (codes "a&b|1")) (value false (codes "|1")) (value true (codes "&b|1")) ∷
    gives (read 9 sum 2 1 (codes "a&b|1")) (value true []) (value false (codes "|1")) ∷
    gives (read 9 atom 2 1 (codes "0|1")) (value false (codes "|1")) (value true (codes "|1")) ∷
    gives (read 9 atom 2 1 (codes "2")) nothing (value false []) ∷
    gives (read 9 atom 2 1 (codes "!(a|b)")) (value false []) (value true []) ∷
    gives (read 9 atom 2 1 (codes "(a|b")) nothing (value true []) ∷
    gives (read 9 sum 2 1 (codes "|b")) nothing (value false (codes "|b")) ∷
    -- three deep is too little for a sum, which takes a product and an atom
    gives (read 3 sum 2 1 (codes "a")) (value true []) nothing ∷
    gives (read 2 sum 2 1 (codes "a")) nothing (value true []) ∷
    gives (read 0 atom 2 1 (codes "a")) nothing (value true []) ∷
    []

abbrev yes_is : Bool → Row Bool
yes_is b = gives b true false

abbrev no_is : Bool → Row Bool
no_is b = gives b false true

abbrev pub truths : List (Row Bool)
truths =
    yes_is (held (value true (codes ")"))) ∷ no_is (held (value false [])) ∷ no_is (held nothing) ∷
    yes_is (truth 2 1 (codes "a&!b")) ∷ no_is (truth 2 3 (codes "a&!b")) ∷
    yes_is (truth 2 2 (codes "a|b")) ∷ no_is (truth 2 0 (codes "a|b")) ∷
    yes_is (truth 3 1 (codes "a|b&c")) ∷ no_is (truth 3 1 (codes "(a|b)&c")) ∷
    no_is (truth 1 1 (codes "0")) ∷ yes_is (truth 1 0 (codes "!(!(1))")) ∷ yes_is (truth 16 32768 (codes "p")) ∷ no_is (truth 16 32767 (codes "p")) ∷
    -- a text that is no formula is not true, but it may seem so where it begins with one
    no_is (truth 2 1 (codes "a&")) ∷ no_is (truth 1 2 (codes "b")) ∷ yes_is (truth 2 1 (codes "a)")) ∷
    yes_is (is_whole whole) ∷ no_is (is_whole (stuck 0)) ∷ no_is (is_whole (stuck 7)) ∷
    yes_is (is_formula 2 (codes "a&!b")) ∷ yes_is (is_formula 0 (codes "1")) ∷ yes_is (is_formula 16 (codes "p")) ∷
    no_is (is_formula 1 (codes "a&!b")) ∷ no_is (is_formula 2 (codes "a&")) ∷ no_is (is_formula 2 (codes "a)")) ∷ no_is (is_formula 2 []) ∷
    []

abbrev pub ValuesShown : Type 0
ValuesShown = Shown values

abbrev pub TruthsShown : Type 0
TruthsShown = Shown truths
