-- A list of moves in order of operation, split behind its first operation.
use Rattle.std.proofs.Common.{◌≡◌, ℕ, ◌+◌, ◌-◌, ◌<◌, ◌≤◌, ◌⊎◌, List, [], ◌∷◌, ◌++◌, length, take, drop, sym, ap, ◌∙◌, subst, inl, inr, ⊎_elim, arith}
use Rattle.std.proofs.lemmas.List.{take-append-drop, length-take-le, length-drop, get_or-take, get_or-drop}
use Rattle.std.proofs.lemmas.Bool.{cases_lt}
use Rattle.port.specs.Limits.{In, no_move, at}
use Rattle.port.specs.declared.Move.{Move}
use Rattle.index.specs.Indexes.{Ordered}
use Rattle.index.proofs.Lists.{in_get_d, in_at}
use Rattle.search.specs.Labels.{By}
use Rattle.search.specs.Groups.{Same, Splits}

in_either : {A : Type 0} (xs ys : List A) (x : A) → In x (xs ++ ys) → In x xs ⊎ In x ys
in_either [] ys x h = inr h
in_either (y ∷ xs) ys x (inl e) = inl (inl e)
in_either (y ∷ xs) ys x (inr h) = ⊎_elim (λ i. inl (inr i)) (λ i. inr i) (in_either xs ys x h)

module _ (ms : List Move) (ordered : Ordered ms) (n : ℕ) (some : 0 < length ms) (front : Same ms (at ms 0).operation n) where
  -- the first move is by its own operation, so the front is not empty
  pub begun : 0 < n
  begun = ⊎_elim (λ l. l) (λ l. let z : n ≡ 0 = omega arith in absurd (front.other (omega arith) (ap (λ i. (at ms i).operation) z))) (cases_lt 0 n)

  head : at (take n ms) 0 ≡ at ms 0
  head = get_or-take n ms 0 no_move begun

  front_length : length (take n ms) ≡ n
  front_length = length-take-le n ms front.inside

  -- a move of the front, and of the others, with its place
  in_front : (m : Move) → In m (take n ms) → (i : ℕ) × (i < n) × (m ≡ at ms i)
  in_front m h =
      let p = in_at no_move (take n ms) m h in
      let l : p.0 < n = subst (λ j. p.0 < j) front_length p.1 in
      (p.0, l, p.2 ∙ get_or-take n ms p.0 no_move l)

  in_back : (m : Move) → In m (drop n ms) → (i : ℕ) × (n ≤ i) × (i < length ms) × (m ≡ at ms i)
  in_back m h =
      let p = in_at no_move (drop n ms) m h in
      let l : p.0 < length ms - n = subst (λ j. p.0 < j) (length-drop n ms) p.1 in
      (n + p.0, omega arith, omega arith, p.2 ∙ get_or-drop n ms p.0 no_move)

  among : (m : Move) (i : ℕ) → i < length ms → m ≡ at ms i → In m ms
  among m i l e = subst (λ (x : Move). In x ms) (sym e) (in_get_d no_move ms i l)

  either_part : (m : Move) → In m ms → In m (take n ms) ⊎ In m (drop n ms)
  either_part m h = in_either (take n ms) (drop n ms) m (subst (In m) (sym (take-append-drop n ms)) h)

  mine : (m : Move) → In m (take n ms) → By ms (at ms 0).operation m
  mine m h = let p = in_front m h in let l = front.inside in (among m p.0 (omega arith) p.2, ap (λ (x : Move). x.operation) p.2 ∙ front.same p.0 p.1)

  -- the others are by greater operations, since moves stand in order of operation
  others : (m : Move) → In m (drop n ms) → In m ms × ((at ms 0).operation < m.operation)
  others m h =
      let p = in_back m h in
      let a = ordered 0 n (omega arith) (omega arith) in
      let b = ordered n p.0 p.1 p.2 in
      let other = front.other (omega arith) in
      let up : (at ms 0).operation < (at ms p.0).operation = ⊎_elim (λ l. l) (λ l. absurd (other (omega arith))) (cases_lt (at ms 0).operation (at ms p.0).operation) in
      (among m p.0 p.2 p.3, subst (λ (x : Move). (at ms 0).operation < x.operation) (sym p.3) up)

  all : (m : Move) → By ms (at ms 0).operation m → In m (take n ms)
  all m h = ⊎_elim (λ i. i) (λ i. let x = (others m i).1 in let y = h.1 in absurd (omega arith)) (either_part m h.0)

  pub splits : Splits ms (take n ms) (drop n ms)
  splits =
      let b = begun in
      let o : (at (take n ms) 0).operation ≡ (at ms 0).operation = ap (λ (x : Move). x.operation) head in
      record {
        shorter = subst (λ j. j < length ms) (sym (length-drop n ms)) (omega arith);
        some = subst (λ j. 0 < j) (sym front_length) b;
        mine = λ m h. subst (λ j. By ms j m) (sym o) (mine m h);
        all = λ m h. all m (subst (λ j. By ms j m) o h);
        others = λ m h. subst (λ j. In m ms × (j < m.operation)) (sym o) (others m h);
        left = either_part;
      }
