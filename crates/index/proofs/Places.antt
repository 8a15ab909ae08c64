-- What an index of moves finds.
use Rattle.std.proofs.Common.{◌≡◌, ℕ, ◌+◌, ◌-◌, ◌<◌, ◌≤◌, ◌==◌, ◌++◌, get_or, drop, below_more, vec_len, Bool, true, false, Option, Some, None, List, [], length, Bor, vec_items, sym, ap, ◌∙◌, subst, inl, inr, refl, cond, ◌∷◌, ⊎_elim, true≢false, arith}
use Rattle.std.proofs.lemmas.Bool.{cases_lt, eq-eqb, eqb-true, ne_eqb}
use Rattle.std.proofs.lemmas.List.{get_or-drop, get_or_append_left, get_or_at, length-drop}
use Rattle.std.specs.List.{ItemBy}
use Rattle.std.specs.Option.{option_copied, unwrap_or}
use Rattle.std.proofs.lemmas.List.Kept.{IsNonDecreasingBy-filter}
use Rattle.port.specs.Limits.{In, at, key, no_move}
use Rattle.port.specs.declared.Move.{Move}
use Rattle.port.specs.declared.held.Port.{Port}
use Rattle.plans.specs.Plans.{Within}
use Rattle.index.specs.Indexed.{count_of, moves_of, port_of}
use Rattle.index.specs.declared.MoveIndex.{MoveIndex}
use Rattle.index.specs.Indexes.{Apart, Bare, Flags, From, Ordered, Start, flagged, row}
use Rattle.index.proofs.Bounds.{conditions_rise, index_within, port_exist, port_keys}
use Rattle.index.proofs.Lists.{filter_in, filter_part, in_at, in_each, in_filter, in_get_d, part}

-- the moves of condition c are those from its place to the next
module _ (ms : List Move) (c a b : ℕ) (start : Start ms c a) (end : Start ms (c + 1) b) where
  pub starts_rise : a ≤ b
  starts_rise =
      ⊎_elim
      (λ q.
      let e = start.inside in
      let x = start.behind b q in
      let y = end.ahead b (omega arith) (omega arith) in
      absurd (omega arith))
      (λ q. q)
      (cases_lt b a)

  pub part_row : part no_move a b ms ≡ row c ms
  part_row =
      sym (filter_part no_move (λ m. m.condition == c) a b ms starts_rise end.inside
      (λ i l. ne_eqb (at ms i).condition c (λ e. let x = start.behind i l in absurd (omega arith)))
      (λ i h l. eq-eqb (at ms i).condition c (let r = end.inside in let x = start.ahead i h (omega arith) in let y = end.behind i l in omega arith))
      (λ i h l. ne_eqb (at ms i).condition c (λ e. let x = end.ahead i h l in absurd (omega arith))))

-- where the moves of a condition begin, found from where those of the one before it do
pub start_more : (p : Port) (from c n : ℕ) → Start (vec_items p.moves) (c - 1) from → n ≤ length (drop from (vec_items p.moves)) →
    ((i : ℕ) → i < n → (at (drop from (vec_items p.moves)) i).condition < c) →
    (n < length (drop from (vec_items p.moves)) → c ≤ (at (drop from (vec_items p.moves)) n).condition) → Start (vec_items p.moves) c (from + n)
start_more p from c n before inside behind next = record {
  inside = omega (arith, before.inside, inside, long);
  behind = λ i l. ⊎_elim
      (λ q. let x = before.behind i q in omega arith)
      (λ q.
      let j : ℕ = i - from in
      let same : from + j ≡ i = omega arith in
      subst (λ m. m.condition < c) (get_or-drop from ms j no_move ∙ ap (λ k. at ms k) same) (behind j (omega arith)))
      (cases_lt i from);
  ahead = λ i h l.
      let low : c ≤ (at ms (from + n)).condition = subst (λ m. c ≤ m.condition) (get_or-drop from ms n no_move) (next (omega (arith, h, l, long))) in
      let rise = conditions_rise (vec_len p.conditions) ms p.conditions_few (port_exist p) p.moves_rise (from + n) i h l in
      omega arith;
}
  where
    ms : List Move
    ms = vec_items p.moves

    long : length (drop from ms) ≡ length ms - from
    long = length-drop from ms

-- one row more
pub rows_more : (ms : List Move) (rows more : List (Bor (List Move))) (x : Bor (List Move)) (c : ℕ) → length rows ≡ c → more ≡ rows ++ x ∷ [] → x.now ≡ row c ms →
    ((k : ℕ) (r : Bor (List Move)) → k < c → (get_or rows k r).now ≡ row k ms) →
    (k : ℕ) (r : Bor (List Move)) → k < c + 1 → (get_or more k r).now ≡ row k ms
rows_more ms rows more x c long is here before k r l =
    subst (λ (zs : List (Bor (List Move))). (get_or zs k r).now ≡ row k ms) (sym is)
    (below_more (λ j. (get_or (rows ++ x ∷ []) j r).now ≡ row j ms) c
    (λ j h. ap (λ (y : Bor (List Move)). y.now) (get_or_append_left rows (x ∷ []) r j (omega (arith, h, long))) ∙ before j r h)
    (ap (λ (y : Bor (List Move)). y.now) (get_or_at rows x [] r c long) ∙ here) k l)

-- a row has exactly the moves from its condition, in order of operation
pub row_from : (p : Port) (c : ℕ) → From (vec_items p.moves) c (row c (vec_items p.moves))
row_from p c = record { are = are; all = all; ordered = ordered }
  where
    ms : List Move
    ms = vec_items p.moves

    are : (m : Move) → In m (row c ms) → In m ms × (m.condition ≡ c)
    are m h = let r = filter_in no_move (λ m. m.condition == c) ms m h in (r.0, eqb-true m.condition c r.1)

    all : (m : Move) → In m ms → m.condition ≡ c → In m (row c ms)
    all m h e = in_filter no_move (λ m. m.condition == c) ms m h (eq-eqb m.condition c e)

    small : (m : Move) → In m ms → m.outcome < 256
    small = in_each no_move (λ m. m.outcome < 256) ms (λ i l. let x = p.moves_exist i l in let few = p.conditions_few in omega arith)

    ordered : Ordered (row c ms)
    ordered i j h l =
        let f = at (row c ms) i in
        let g = at (row c ms) j in
        let first = are f (in_get_d no_move (row c ms) i (omega arith)) in
        let second = are g (in_get_d no_move (row c ms) j l) in
        let e = first.1 in
        let k = second.1 in
        let low = small f first.0 in
        let high = small g second.0 in
        let rise : key f ≤ key g = IsNonDecreasingBy-filter key (λ (m : Move). m.condition == c) ms (port_keys p) i j no_move h l in
        omega arith

-- a flag that is not set
pub not_flagged : (ms : List Move) (into : List (List Bool)) → Flags ms (length ms) into → (c d : ℕ) → flagged into c d ≡ false → Apart ms c d
not_flagged ms into flags c d e m h p q =
    let x = in_at no_move ms m h in
    let f : flagged into m.condition m.outcome ≡ true = ap (λ (y : Move). flagged into y.condition y.outcome) x.2 ∙ flags x.0 x.1 in
    true≢false (sym f ∙ ap (λ i. flagged into i m.outcome) p ∙ ap (λ i. flagged into c i) q ∙ e)

pub index_apart : (index : MoveIndex) (c d : ℕ) → flagged (vec_items index.into) c d ≡ false → Apart (moves_of index) c d
index_apart index = not_flagged (moves_of index) (vec_items index.into) (subst (λ n. Flags (moves_of index) n (vec_items index.into)) (port_of index).moves.ok.0 index.flags)

-- and one that is
pub index_bare : (index : MoveIndex) (c d : ℕ) → Apart (moves_of index) c d → flagged (vec_items index.into) c d ≡ false
index_bare index c d apart =
    subst (λ n. Bare (moves_of index) n (vec_items index.into)) (port_of index).moves.ok.0 index.bare c d
    (λ j l. apart (at (moves_of index) j) (in_get_d no_move (moves_of index) j l))

-- no move leads from what is no condition
pub row_none : (n : ℕ) (ms : List Move) → Within n ms → (c : ℕ) → n ≤ c → row c ms ≡ []
row_none n [] within c l = refl
row_none n (m ∷ ms) within c l =
    let w = (within m (inl refl)).0 in
    let differs : (m.condition == c) ≡ false = ne_eqb m.condition c (λ e. omega arith) in
    ap (λ b. cond b (m ∷ row c ms) (row c ms)) differs ∙ row_none n ms (λ x h. within x (inr h)) c l

-- a row as it is read: what is read in its place where there is none is empty
pub read_row : (index : MoveIndex) (c : ℕ) (o : Option (Bor (Bor (List Move)))) (copy : Option (Bor (List Move))) (none r : Bor (List Move)) →
    ItemBy (λ (x : Bor (Bor (List Move))). x.now) (vec_items index.rows) c c o → copy ≡ option_copied o → r ≡ unwrap_or copy none → none.now ≡ [] →
    r.now ≡ row c (moves_of index)
read_row index c (Some x) copy none r item copied told empty =
    let l = item.3.0 in
    let long = index.rows.ok.0 in
    let each = index.counted in
    let same : r ≡ x.now = told ∙ ap (λ (o : Option (Bor (List Move))). unwrap_or o none) copied in
    ap (λ (y : Bor (List Move)). y.now) same ∙ ap (λ (y : Bor (List Move)). y.now) (item.3.1 none) ∙ index.parted c none (omega arith)
read_row index c None copy none r item copied told empty =
    let l = item.3 in
    let long = index.rows.ok.0 in
    let each = index.counted in
    let same : r ≡ none = told ∙ ap (λ (o : Option (Bor (List Move))). unwrap_or o none) copied in
    ap (λ (y : Bor (List Move)). y.now) same ∙ empty ∙ sym (row_none (count_of index) (moves_of index) (index_within index) c (omega arith))
