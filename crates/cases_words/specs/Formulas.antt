-- Texts and their parts: which are formulas, with which value, and where a text stops being one.
use Rattle.std.specs.Prelude.{◌≡◌, ℕ, Bool, true, false, List, [], ◌∷◌, codes}
use Rattle.formula.specs.Grammar.{Part, atom, product, sum, Formula, Stands, Whole, AtomRead, ProductRead, SumRead, Refused, NoFormula}
use Rattle.port.specs.Limits.{In}
use Rattle.cases_words.specs.Rows.{Said}

-- over three marks, on the marks a and c: the bytes of a text from one place up to another, as such a part, with a value
pub record PartRow : Type 0 where
  pub text : List ℕ
  pub part : Part
  pub from : ℕ
  pub to : ℕ
  pub value : Bool
  pub holds : Bool

abbrev part_row : Bool → List ℕ → Part → ℕ → ℕ → Bool → PartRow
part_row holds text part from to value =
    record { text = text; part = part; from = from; to = to; value = value; holds = holds }

abbrev good : List ℕ → Part → ℕ → ℕ → Bool → PartRow
good = part_row true

abbrev bad : List ℕ → Part → ℕ → ℕ → Bool → PartRow
bad = part_row false

abbrev pub parts : List PartRow
parts =
    -- 0, which is false, and no other byte is so
    good (codes "0") atom 0 1 false ∷ good (codes "a&0") atom 2 3 false ∷ bad (codes "0") atom 0 1 true ∷ bad (codes "2") atom 0 1 false ∷ bad [] atom 0 1 false ∷
    -- 1, which is true
    good (codes "1") atom 0 1 true ∷ good (codes "a&1") atom 2 3 true ∷ bad (codes "1") atom 0 1 false ∷ bad (codes "11") atom 0 2 true ∷ bad (codes "1") atom 0 0 true ∷
    -- a mark, of those that there are
    good (codes "a") atom 0 1 true ∷ good (codes "b") atom 0 1 false ∷ good (codes "c") atom 0 1 true ∷
    bad (codes "a") atom 0 1 false ∷ bad (codes "b") atom 0 1 true ∷ bad (codes "d") atom 0 1 false ∷ bad (codes "A") atom 0 1 true ∷
    -- not, of the atom that comes next, and of no more
    good (codes "!a") atom 0 2 false ∷ good (codes "!!a") atom 0 3 true ∷ good (codes "!(a&b)") atom 0 6 true ∷
    bad (codes "!a") atom 0 2 true ∷ bad (codes "!") atom 0 1 true ∷ bad (codes "a!") atom 0 2 false ∷ bad (codes "!a&b") atom 0 4 true ∷
    -- a group, of a sum, with both its brackets
    good (codes "(a)") atom 0 3 true ∷ good (codes "((a|b))") atom 0 7 true ∷ good (codes "((a|b))") atom 1 6 true ∷
    bad (codes "(b)") atom 0 3 true ∷ bad (codes "(a") atom 0 2 true ∷ bad (codes "()") atom 0 2 true ∷ bad (codes "a)") atom 0 2 true ∷ bad (codes "(a]") atom 0 3 true ∷
    -- a product, of one atom or several
    good (codes "c") product 0 1 true ∷ good (codes "a&b") product 0 1 true ∷ good (codes "a&b") product 0 3 false ∷ good (codes "a&c&!b") product 0 6 true ∷
    bad (codes "a&b") product 0 3 true ∷ bad (codes "a&") product 0 2 true ∷ bad (codes "&a") product 0 2 true ∷ bad (codes "a&b") atom 0 3 false ∷
    bad (codes "a|b") product 0 3 true ∷ bad (codes "a&&c") product 0 4 true ∷
    -- a sum, of one product or several; and binds closer than or
    good (codes "a&b") sum 0 3 false ∷ good (codes "b|c") sum 0 3 true ∷ good (codes "a|b&0") sum 0 5 true ∷ good (codes "b&0|a") sum 0 5 true ∷ good (codes "b|c") sum 0 1 false ∷
    bad (codes "b|c") sum 0 3 false ∷ bad (codes "a|b&0") sum 0 5 false ∷ bad (codes "a|") sum 0 2 true ∷ bad (codes "|a") sum 0 2 true ∷ bad (codes "a||c") sum 0 4 true ∷
    bad (codes "a c") sum 0 3 true ∷
    []

abbrev pub PartsHold : Type 0
PartsHold = (r : PartRow) → In r parts → Said r.holds (Formula 3 5 r.text r.part r.from r.to r.value)

-- a byte at a place of a text
pub record PlaceRow : Type 0 where
  pub text : List ℕ
  pub place : ℕ
  pub byte : ℕ
  pub holds : Bool

abbrev pub places : List PlaceRow
places =
    record { text = codes "ab"; place = 0; byte = 97; holds = true } ∷
    record { text = codes "ab"; place = 1; byte = 98; holds = true } ∷
    record { text = codes "ab"; place = 0; byte = 98; holds = false } ∷
    -- past the end stands nothing, no 0 either
    record { text = codes "ab"; place = 2; byte = 98; holds = false } ∷
    record { text = codes "ab"; place = 2; byte = 0; holds = false } ∷
    []

abbrev pub PlacesHold : Type 0
PlacesHold = (r : PlaceRow) → In r places → Said r.holds (Stands r.text r.place r.byte)

-- a whole text over so many marks, on some of them, with a value
pub record WholeRow : Type 0 where
  pub marks : ℕ
  pub on : ℕ
  pub text : List ℕ
  pub value : Bool
  pub holds : Bool

abbrev whole_row : Bool → ℕ → ℕ → List ℕ → Bool → WholeRow
whole_row holds marks on text value = record { marks = marks; on = on; text = text; value = value; holds = holds }

abbrev pub wholes : List WholeRow
wholes =
    whole_row true 2 1 (codes "a&!b") true ∷
    whole_row true 2 3 (codes "a&!b") false ∷
    whole_row true 16 32768 (codes "p|a") true ∷
    whole_row true 0 0 (codes "!0&1") true ∷
    -- the other value
    whole_row false 2 1 (codes "a&!b") false ∷
    whole_row false 2 3 (codes "a&!b") true ∷
    -- a mark that there is not, a byte after a formula, and nothing
    whole_row false 1 1 (codes "a&!b") true ∷
    whole_row false 2 1 (codes "a&!b)") true ∷
    whole_row false 2 1 (codes "a ") true ∷
    whole_row false 2 1 [] true ∷ whole_row false 2 1 [] false ∷
    []

abbrev pub WholesHold : Type 0
WholesHold = (r : WholeRow) → In r wholes → Said r.holds (Whole r.marks r.on r.text r.value)

-- what a reader of such a part has read, over three marks, on a and c: the longest product, and the longest sum
abbrev pub ReadAs : Part → List ℕ → ℕ → Bool → ℕ → Type 0
ReadAs atom text from value to = AtomRead 3 5 text from value to
ReadAs product text from value to = ProductRead 3 5 text from value to
ReadAs sum text from value to = SumRead 3 5 text from value to

abbrev pub read_parts : List PartRow
read_parts =
    good (codes "a&b|c") atom 0 1 true ∷ good (codes "a&b|(c)") atom 4 7 true ∷ bad (codes "a&b|c") atom 0 1 false ∷ bad (codes "a&b|c") atom 0 3 false ∷
    good (codes "a&b|c") product 0 3 false ∷ good (codes "a&b|c") product 2 3 false ∷ bad (codes "a&b|c") product 0 1 true ∷ bad (codes "a&b|c") product 0 5 true ∷
    good (codes "a&b|c") sum 0 5 true ∷ good (codes "(a|b)") sum 1 4 true ∷ bad (codes "a&b|c") sum 0 3 false ∷ bad (codes "a&b|c") sum 0 1 true ∷ bad (codes "a&b|c") sum 0 5 false ∷
    []

abbrev pub ReadPartsHold : Type 0
ReadPartsHold = (r : PartRow) → In r read_parts → Said r.holds (ReadAs r.part r.text r.from r.value r.to)

-- over two marks, a text that is refused at a place, however many groups are open, where an atom has to come at an earlier one
pub record RefusedRow : Type 0 where
  pub text : List ℕ
  pub from : ℕ
  pub place : ℕ
  pub holds : Bool

abbrev refused_row : Bool → List ℕ → ℕ → ℕ → RefusedRow
refused_row holds text from place = record { text = text; from = from; place = place; holds = holds }

abbrev pub refusals : List RefusedRow
refusals =
    refused_row true (codes "a&") 0 2 ∷
    refused_row true (codes "a&") 2 2 ∷
    refused_row true (codes "a|)b") 0 2 ∷
    -- a whole text, another place, one before the beginning, and a bracket that closes a group if one is open
    refused_row false (codes "a&b") 0 3 ∷
    refused_row false (codes "a&") 0 1 ∷
    refused_row false (codes "a&") 1 2 ∷
    refused_row false (codes "a)") 0 1 ∷
    []

abbrev pub RefusalsHold : Type 0
RefusalsHold = (r : RefusedRow) → In r refusals → Said r.holds (Refused 2 r.text r.from r.place)

-- a text over so many marks that is no formula, and a place
pub record FaultyRow : Type 0 where
  pub marks : ℕ
  pub text : List ℕ
  pub place : ℕ
  pub holds : Bool

abbrev faulty_row : Bool → ℕ → List ℕ → ℕ → FaultyRow
faulty_row holds marks text place = record { marks = marks; text = text; place = place; holds = holds }

abbrev pub faulty : List FaultyRow
faulty =
    -- at a byte
    faulty_row true 2 (codes "a)b") 1 ∷
    faulty_row true 2 (codes "a|c") 2 ∷
    faulty_row true 2 (codes "(a|b]") 4 ∷
    -- just past the end, where the text is only the beginning of one
    faulty_row true 2 (codes "a&") 2 ∷
    faulty_row true 2 (codes "((a)") 4 ∷
    faulty_row true 2 [] 0 ∷
    -- a formula has no such place
    faulty_row false 2 (codes "a|b") 3 ∷
    faulty_row false 2 (codes "a|b") 0 ∷
    faulty_row false 3 (codes "a|c") 2 ∷
    -- and no other has a second one: too early, too late, and past the end
    faulty_row false 2 (codes "a|c") 1 ∷
    faulty_row false 2 (codes "a)b") 2 ∷
    faulty_row false 2 (codes "a&") 3 ∷
    faulty_row false 2 [] 1 ∷
    []

abbrev pub FaultyHold : Type 0
FaultyHold = (r : FaultyRow) → In r faulty → Said r.holds (NoFormula r.marks r.text r.place)

-- and of all texts: there is at most one value on a set of marks, and at most one place where no formula goes on
pub record Unambiguous : Type 0 where
  pub one_value : (n m : ℕ) (t : List ℕ) (v w : Bool) → Whole n m t v → Whole n m t w → v ≡ w
  pub one_place : (n : ℕ) (t : List ℕ) (p q : ℕ) → NoFormula n t p → NoFormula n t q → p ≡ q
