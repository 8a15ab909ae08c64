-- Lists and their places.
use Rattle.std.proofs.Common.{◌≡◌, ℕ, zero, suc, ◌+◌, ◌-◌, ◌<◌, ◌≤◌, ◌⊎◌, Bool, true, false, cond, List, [], ◌∷◌, ◌++◌, length, get_or, take, drop, filter, sym, refl, ap, ap₂, ◌∙◌, subst, inl, inr, ⊎_elim, true≢false, arith}
use Rattle.std.proofs.lemmas.List.{take_more, take-append-drop, append-nil, length-take, length-take-le, length-drop, get_or-take, get_or-drop}
use Rattle.std.proofs.lemmas.List.Elements.{filter-append}
use Rattle.port.specs.Limits.{In}

module _ {A : Type 0} (d : A) where
  pub in_get_d : (xs : List A) (i : ℕ) → i < length xs → In (get_or xs i d) xs
  in_get_d [] i l = omega arith
  in_get_d (x ∷ xs) zero l = inl refl
  in_get_d (x ∷ xs) (suc i) l = inr (in_get_d xs i (omega arith))

  pub in_at : (xs : List A) (x : A) → In x xs → (i : ℕ) × (i < length xs) × (x ≡ get_or xs i d)
  in_at [] x i = absurd i
  in_at (y ∷ xs) x (inl e) = (0, omega arith, e)
  in_at (y ∷ xs) x (inr i) = let h = in_at xs x i in let l = h.1 in (suc h.0, omega arith, h.2)

  -- what holds at each place holds of each element
  pub in_each : (P : A → Type 0) (xs : List A) → ((i : ℕ) → i < length xs → P (get_or xs i d)) → (x : A) → In x xs → P x
  in_each P xs h x i = let p = in_at xs x i in subst P (sym p.2) (h p.0 p.1)

  in_left : (xs ys : List A) (x : A) → In x xs → In x (xs ++ ys)
  in_left [] ys x i = absurd i
  in_left (y ∷ xs) ys x (inl e) = inl e
  in_left (y ∷ xs) ys x (inr i) = inr (in_left xs ys x i)

  in_last : (xs : List A) (y : A) → In y (xs ++ (y ∷ []))
  in_last [] y = inl refl
  in_last (x ∷ xs) y = inr (in_last xs y)

  in_split : (xs : List A) (y x : A) → In x (xs ++ (y ∷ [])) → (x ≡ y) ⊎ In x xs
  in_split [] y x (inl e) = inl e
  in_split [] y x (inr i) = absurd i
  in_split (z ∷ xs) y x (inl e) = inr (inl e)
  in_split (z ∷ xs) y x (inr i) = ⊎_elim inl (λ j. inr (inr j)) (in_split xs y x i)

  -- one place more
  pub front_in : (xs : List A) (i : ℕ) → i < length xs → (x : A) → In x (take i xs) → In x (take (i + 1) xs)
  front_in xs i l x h = subst (In x) (sym (take_more xs i d l)) (in_left (take i xs) (get_or xs i d ∷ []) x h)

  pub front_last : (xs : List A) (i : ℕ) → i < length xs → In (get_or xs i d) (take (i + 1) xs)
  front_last xs i l = subst (In (get_or xs i d)) (sym (take_more xs i d l)) (in_last (take i xs) (get_or xs i d))

  pub front_split : (xs : List A) (i : ℕ) → i < length xs → (x : A) → In x (take (i + 1) xs) → (x ≡ get_or xs i d) ⊎ In x (take i xs)
  front_split xs i l x h = in_split (take i xs) (get_or xs i d) x (subst (In x) (take_more xs i d l) h)

  -- the part from a to b
  abbrev pub part : ℕ → ℕ → List A → List A
  part a b xs = take (b - a) (drop a xs)

  pub part_length : (a b : ℕ) (xs : List A) → b ≤ length xs → length (part a b xs) ≡ b - a
  part_length a b xs l = length-take-le (b - a) (drop a xs) (subst (λ n. b - a ≤ n) (sym (length-drop a xs)) (omega arith))

  pub part_at : (a b : ℕ) (xs : List A) (i : ℕ) → i < b - a → get_or (part a b xs) i d ≡ get_or xs (a + i) d
  part_at a b xs i l = get_or-take (b - a) (drop a xs) i d l ∙ get_or-drop a xs i d

module _ {A : Type 0} (d : A) (p : A → Bool) where
  -- a test that passes nothing, and one that passes all
  filter_none : (xs : List A) → ((i : ℕ) → i < length xs → p (get_or xs i d) ≡ false) → filter p xs ≡ []
  filter_none [] h = refl
  filter_none (x ∷ xs) h = ap (λ b. cond b (x ∷ filter p xs) (filter p xs)) (h 0 (omega arith)) ∙ filter_none xs (λ i l. h (suc i) (omega arith))

  filter_whole : (xs : List A) → ((i : ℕ) → i < length xs → p (get_or xs i d) ≡ true) → filter p xs ≡ xs
  filter_whole [] h = refl
  filter_whole (x ∷ xs) h = ap (λ b. cond b (x ∷ filter p xs) (filter p xs)) (h 0 (omega arith)) ∙ ap (λ ys. x ∷ ys) (filter_whole xs (λ i l. h (suc i) (omega arith)))

  -- a part outside which nothing passes, and inside which all does
  pub filter_part : (a b : ℕ) (xs : List A) → a ≤ b → b ≤ length xs →
      ((i : ℕ) → i < a → p (get_or xs i d) ≡ false) →
      ((i : ℕ) → a ≤ i → i < b → p (get_or xs i d) ≡ true) →
      ((i : ℕ) → b ≤ i → i < length xs → p (get_or xs i d) ≡ false) →
      filter p xs ≡ part d a b xs
  filter_part a b xs rise inside before within after =
      let front : filter p (take a xs) ≡ [] = filter_none (take a xs) (λ i l. let k = length-take a xs in ap p (get_or-take a xs i d (omega arith)) ∙ before i (omega arith)) in
      let middle : filter p (part d a b xs) ≡ part d a b xs =
      filter_whole (part d a b xs) (λ i l. let k = part_length d a b xs inside in ap p (part_at d a b xs i (omega arith)) ∙ within (a + i) (omega arith) (omega arith)) in
      let rest : filter p (drop (b - a) (drop a xs)) ≡ [] =
      filter_none (drop (b - a) (drop a xs)) (λ i l.
      let k = length-drop (b - a) (drop a xs) in
      let m = length-drop a xs in
      ap p (get_or-drop (b - a) (drop a xs) i d ∙ get_or-drop a xs (b - a + i) d) ∙ after (a + (b - a + i)) (omega arith) (omega arith)) in
      sym (ap (filter p) (take-append-drop a xs)) ∙ filter-append p (take a xs) (drop a xs)
      ∙ ap (λ ys. ys ++ filter p (drop a xs)) front
      ∙ sym (ap (filter p) (take-append-drop (b - a) (drop a xs))) ∙ filter-append p (part d a b xs) (drop (b - a) (drop a xs))
      ∙ ap₂ (λ ys zs. ys ++ zs) middle rest ∙ append-nil (part d a b xs)

  keeps : (b : Bool) (x y : A) (ys : List A) → In y (cond b (x ∷ ys) ys) → ((y ≡ x) × (b ≡ true)) ⊎ In y ys
  keeps true x y ys (inl e) = inl (e, refl)
  keeps true x y ys (inr i) = inr i
  keeps false x y ys i = inr i

  keeps_last : (b : Bool) (x y : A) (ys : List A) → In y ys → In y (cond b (x ∷ ys) ys)
  keeps_last true x y ys i = inr i
  keeps_last false x y ys i = i

  keeps_first : (b : Bool) (x y : A) (ys : List A) → b ≡ true → y ≡ x → In y (cond b (x ∷ ys) ys)
  keeps_first true x y ys t e = inl e
  keeps_first false x y ys t e = absurd (true≢false (sym t))

  pub filter_in : (xs : List A) (y : A) → In y (filter p xs) → In y xs × (p y ≡ true)
  filter_in [] y i = absurd i
  filter_in (x ∷ xs) y i =
      ⊎_elim
      (λ h. (inl h.0, ap p h.0 ∙ h.1))
      (λ j. let r = filter_in xs y j in (inr r.0, r.1))
      (keeps (p x) x y (filter p xs) i)

  pub in_filter : (xs : List A) (y : A) → In y xs → p y ≡ true → In y (filter p xs)
  in_filter [] y i t = absurd i
  in_filter (x ∷ xs) y (inl e) t = keeps_first (p x) x y (filter p xs) (sym (ap p e) ∙ t) e
  in_filter (x ∷ xs) y (inr i) t = keeps_last (p x) x y (filter p xs) (in_filter xs y i t)
