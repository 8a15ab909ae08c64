-- Tests that decide what ports keep to.
use Rattle.std.proofs.Common.{◌≡◌, ℕ, zero, suc, ◌^◌, ◌<◌, ◌≤◌, Bool, true, false, ◌&&◌, ◌||◌, eqb, ltb, leb, List, [], ◌∷◌, length, get_or, sym, refl, subst, arith, inl, inr, ltb-true, lt-ltb, leb-true, le-leb}
use mathlib.Core.Bool.{and-eq-true_iff, false≢true}
use Rattle.std.specs.Bool.{Decides}
use Rattle.std.proofs.lemmas.Bool.Decides.{Decides-and, Decides-or, Decides-like, Decides-ltb, Decides-eqb}
use Rattle.formula.specs.Grammar.{step, goes, verdict}
use Rattle.formula.specs.Truth.{is_formula}
use Rattle.port.specs.declared.Move.{Move}
use Rattle.port.specs.Limits.{In, no_move, Marked, Rise, key, MovesExist, MovesRise, TextOk}
use Rattle.cases_words.specs.Limits.{InRow, members, MembersHold, moves_at, MovesAtShown, keys, KeysShown, MarkedRow, marked, MarkedHold, RiseRow, rising, RisingHold, MovesRow, existing, ExistingHold, rising_moves, RisingMovesHold, TextRow, texts, TextsHold}
use Rattle.cases_words.proofs.Rows.{all_said, all_shown}

pub leb_decides : (a b : ℕ) → Decides (leb a b) (a ≤ b)
leb_decides a b = (leb-true a b, le-leb a b)

pub true_decides : (b : Bool) → Decides b (b ≡ true)
true_decides b = (λ e. e, λ e. e)

abbrev is_in : ℕ → List ℕ → Bool
is_in a [] = false
is_in a (x ∷ xs) = eqb a x || is_in a xs

in_decides : (a : ℕ) (xs : List ℕ) → Decides (is_in a xs) (In a xs)
in_decides a [] = (λ e. false≢true e, λ h. absurd h)
in_decides a (x ∷ xs) = Decides-or (eqb a x) (is_in a xs) (Decides-eqb a x) (in_decides a xs)

module _ {A : Type 0} (test : A → Bool) where
  abbrev pub each : List A → Bool
  each [] = true
  each (x ∷ xs) = test x && each xs

  module _ (P : A → Type 0) (decides : (x : A) → Decides (test x) (P x)) where
    both_parts : (x : A) (xs : List A) → each (x ∷ xs) ≡ true → (test x ≡ true) × (each xs ≡ true)
    both_parts x xs e = (and-eq-true_iff (test x) (each xs)).0 e

    -- what holds of each member
    pub each_member : (xs : List A) → Decides (each xs) ((q : A) → In q xs → P q)
    each_member [] = (λ e q i. absurd i, λ f. refl)
    each_member (x ∷ xs) = (
      λ e q i. elim i [
        | inl h ↦ subst P (sym h) ((decides x).0 (both_parts x xs e).0)
        | inr h ↦ (each_member xs).0 (both_parts x xs e).1 q h
      ],
      λ f. (and-eq-true_iff (test x) (each xs)).1 ((decides x).1 (f x (inl refl)), (each_member xs).1 (λ q i. f q (inr i))),
    )

    -- and what holds at each place
    at_places : (d : A) (x : A) (xs : List A) → P x → ((i : ℕ) → i < length xs → P (get_or xs i d)) → (i : ℕ) → i < length (x ∷ xs) → P (get_or (x ∷ xs) i d)
    at_places d x xs p f zero l = p
    at_places d x xs p f (suc i) l = f i (omega arith)

    pub each_place : (d : A) (xs : List A) → Decides (each xs) ((i : ℕ) → i < length xs → P (get_or xs i d))
    each_place d [] = (λ e i l. absurd (omega arith), λ f. refl)
    each_place d (x ∷ xs) = (
      λ e. at_places d x xs ((decides x).0 (both_parts x xs e).0) ((each_place d xs).0 (both_parts x xs e).1),
      λ f. (and-eq-true_iff (test x) (each xs)).1 ((decides x).1 (f 0 (omega arith)), (each_place d xs).1 (λ i l. f (suc i) (omega arith))),
    )

-- ── lists that rise ──

module _ {A : Type 0} (f : A → ℕ) (d : A) where
  -- each is below the next
  abbrev pub climbs : List A → Bool
  climbs [] = true
  climbs (x ∷ []) = true
  climbs (x ∷ (y ∷ xs)) = ltb (f x) (f y) && climbs (y ∷ xs)

  abbrev Rises : List A → Type 0
  Rises xs = (i j : ℕ) → i < j → j < length xs → f (get_or xs i d) < f (get_or xs j d)

  next_parts : (x y : A) (xs : List A) → climbs (x ∷ (y ∷ xs)) ≡ true → (f x < f y) × (climbs (y ∷ xs) ≡ true)
  next_parts x y xs e = let h = (and-eq-true_iff (ltb (f x) (f y)) (climbs (y ∷ xs))).0 e in (ltb-true (f x) (f y) h.0, h.1)

  all_above : (x : A) (xs : List A) → climbs (x ∷ xs) ≡ true → (j : ℕ) → j < length xs → f x < f (get_or xs j d)
  all_above x [] e j l = absurd (omega arith)
  all_above x (y ∷ xs) e zero l = (next_parts x y xs e).0
  all_above x (y ∷ xs) e (suc j) l =
      let h = next_parts x y xs e in
      let g = all_above y xs h.1 j (omega arith) in omega arith

  tail_climbs : (x : A) (xs : List A) → climbs (x ∷ xs) ≡ true → climbs xs ≡ true
  tail_climbs x [] e = refl
  tail_climbs x (y ∷ xs) e = (next_parts x y xs e).1

  climbing : (xs : List A) → climbs xs ≡ true → Rises xs
  climbing [] e i j l h = absurd (omega arith)
  climbing (x ∷ xs) e zero zero l h = absurd (omega arith)
  climbing (x ∷ xs) e zero (suc j) l h = all_above x xs e j (omega arith)
  climbing (x ∷ xs) e (suc i) zero l h = absurd (omega arith)
  climbing (x ∷ xs) e (suc i) (suc j) l h = climbing xs (tail_climbs x xs e) i j (omega arith) (omega arith)

  climbed : (xs : List A) → Rises xs → climbs xs ≡ true
  climbed [] r = refl
  climbed (x ∷ []) r = refl
  climbed (x ∷ (y ∷ xs)) r =
      (and-eq-true_iff (ltb (f x) (f y)) (climbs (y ∷ xs))).1
      (lt-ltb (f x) (f y) (r 0 1 (omega arith) (omega arith)), climbed (y ∷ xs) (λ i j l h. r (suc i) (suc j) (omega arith) (omega arith)))

  pub rises_decides : (xs : List A) → Decides (climbs xs) (Rises xs)
  rises_decides xs = (climbing xs, climbed xs)

-- ── the limits ──

abbrev pub all_marked : ℕ → List ℕ → Bool
all_marked marks cs = each (λ c. ltb c (2 ^ marks)) cs

pub marked_decides : (marks : ℕ) (cs : List ℕ) → Decides (all_marked marks cs) (Marked marks cs)
marked_decides marks cs = each_place (λ c. ltb c (2 ^ marks)) (λ c. c < 2 ^ marks) (λ c. Decides-ltb c (2 ^ marks)) 0 cs

pub rise_decides : (cs : List ℕ) → Decides (climbs (λ (c : ℕ). c) 0 cs) (Rise cs)
rise_decides cs = rises_decides (λ (c : ℕ). c) 0 cs

abbrev pub exists : ℕ → ℕ → Move → Bool
exists conditions operations v = ltb v.condition conditions && (ltb v.operation operations && ltb v.outcome conditions)

exists_decides : (conditions operations : ℕ) (v : Move) →
    Decides (exists conditions operations v) ((v.condition < conditions) × (v.operation < operations) × (v.outcome < conditions))
exists_decides conditions operations v =
    Decides-like (exists conditions operations v) (λ h. (h.0, h.1.0, h.1.1)) (λ h. (h.0, (h.1, h.2)))
    (Decides-and (ltb v.condition conditions) (ltb v.operation operations && ltb v.outcome conditions) (Decides-ltb v.condition conditions)
    (Decides-and (ltb v.operation operations) (ltb v.outcome conditions) (Decides-ltb v.operation operations) (Decides-ltb v.outcome conditions)))

pub moves_exist_decides : (conditions operations : ℕ) (ms : List Move) → Decides (each (exists conditions operations) ms) (MovesExist conditions operations ms)
moves_exist_decides conditions operations ms =
    each_place (exists conditions operations) (λ v. (v.condition < conditions) × (v.operation < operations) × (v.outcome < conditions)) (exists_decides conditions operations) no_move ms

pub moves_rise_decides : (ms : List Move) → Decides (climbs key no_move ms) (MovesRise ms)
moves_rise_decides ms = rises_decides key no_move ms

abbrev pub is_text : ℕ → List ℕ → Bool
is_text marks t = ltb 0 (length t) && (leb (length t) 63 && is_formula marks t)

pub text_decides : (marks : ℕ) (t : List ℕ) → Decides (is_text marks t) (TextOk marks t)
text_decides marks t =
    Decides-like (is_text marks t) (λ h. (h.0, h.1.0, h.1.1)) (λ h. (h.0, (h.1, h.2)))
    (Decides-and (ltb 0 (length t)) (leb (length t) 63 && is_formula marks t) (Decides-ltb 0 (length t))
    (Decides-and (leb (length t) 63) (is_formula marks t) (leb_decides (length t) 63) (true_decides (is_formula marks t))))

-- ── the rows ──

pub members_hold : MembersHold
members_hold = all_said _ (λ (r : InRow). is_in r.member r.list) (λ (r : InRow). r.holds) (λ r. in_decides r.member r.list) members refl

abbrev pub move_code : Move → List ℕ
move_code v = v.condition ∷ v.operation ∷ v.outcome ∷ v.minutes ∷ []

pub moves_at_shown : MovesAtShown
moves_at_shown = all_shown move_code moves_at refl refl

pub keys_shown : KeysShown
keys_shown = all_shown (λ n. n ∷ []) keys refl refl

pub marked_hold : MarkedHold
marked_hold = all_said _ (λ (r : MarkedRow). all_marked r.marks r.conditions) (λ (r : MarkedRow). r.holds) (λ r. marked_decides r.marks r.conditions) marked refl

pub rising_hold : RisingHold
rising_hold = all_said _ (λ (r : RiseRow). climbs (λ (c : ℕ). c) 0 r.conditions) (λ (r : RiseRow). r.holds) (λ r. rise_decides r.conditions) rising refl

pub existing_hold : ExistingHold
existing_hold = all_said _ (λ (r : MovesRow). each (exists 3 2) r.moves) (λ (r : MovesRow). r.holds) (λ r. moves_exist_decides 3 2 r.moves) existing refl

pub rising_moves_hold : RisingMovesHold
rising_moves_hold = all_said _ (λ (r : MovesRow). climbs key no_move r.moves) (λ (r : MovesRow). r.holds) (λ r. moves_rise_decides r.moves) rising_moves refl

pub texts_hold : TextsHold
unfolding verdict goes step
texts_hold = all_said _ (λ (r : TextRow). is_text r.marks r.text) (λ (r : TextRow). r.holds) (λ r. text_decides r.marks r.text) texts refl
