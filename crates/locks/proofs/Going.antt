-- Where an operation leads: facts that both locks use, and the facts of each.
use Rattle.std.proofs.Common.{◌≡◌, ℕ, ◌-◌, ◌%◌, ◌<◌, ◌≤◌, true, false, List, [], ◌∷◌, map, length, get_or, drop, Some, None, Option, Ordering, unwrap_or, sym, refl, ap, ◌∙◌, subst, ⊎_elim, mod-lt, arith, true≢false}
use Rattle.std.specs.Fn.{CalledAt}
use Rattle.std.specs.Iterator.Runs.{AnyItem, ItemsMapTo, NoKeyBeyond, Run}
use Rattle.std.specs.List.{HoldsAt}
use Rattle.std.specs.Option.{IfSome, IsSomeAnd, MatchOption, option_map}
use Rattle.std.specs.Ordering.{MatchOrdering, is_lt, nat_cmp, ordering_then}
use Rattle.std.specs.declared.cmp.Ordering.TheVariants.{Less, Equal, Greater}
use Rattle.std.proofs.lemmas.Cmp.{ranked}
use Rattle.std.specs.Slice.{IsGetRangeResult}
use Rattle.std.proofs.lemmas.List.{drop_all, get_or-map, length-drop, length-map, nil_from_length, take_all}
use denote.Param.Members.{Called, Mut}
use denote.Ref.{Bor}
use Rattle.port.specs.Limits.{In, at, no_move}
use Rattle.port.specs.Model.{Model}
use Rattle.port.specs.Valid.{Valid}
use Rattle.port.specs.declared.Move.{Move}
use Rattle.plans.specs.Plans.{Possible}
use Rattle.plans.proofs.Index.{at_in, in_at}
use Rattle.locks.specs.Places.{IsAt, place_of}
use Rattle.locks.specs.Works.{Before, outcomes, change, WorkedNth, WorkedLeast}
use Rattle.locks.specs.Targets.{Goes, Nearest, named_by}
use Rattle.locks.proofs.Standing.{place_is, place_none, same_place}
use Rattle.locks.proofs.Outcomes.{outcome_in, outcome_of, outcome_inside}

-- ── both ──

-- marks that are no condition lead nowhere
pub goes_nowhere : (M : Model) (m o : ℕ) → None ≡ place_of M.conditions m → Goes M m o None
goes_nowhere M m o e c a p = place_none M.conditions m (sym e) c a.0 a.1

-- an operation without outcomes leads nowhere
pub goes_not : (M : Model) (m o c : ℕ) → Valid M → Some c ≡ place_of M.conditions m → ((d : ℕ) → In d (outcomes M.moves c o) → ⊥) → Goes M m o None
goes_not M m o c v e h b a p =
    let s : b ≡ c = same_place M b c m v.conditions_rise a (place_is M.conditions m c (sym e)) in
    let q : Possible M.moves c o = subst (λ (x : ℕ). Possible M.moves x o) s p in
    h q.0.outcome (outcome_in M.moves c o q.0 q.1.0 q.1.1 q.1.2)

-- an outcome leads to its marks
pub goes_to : (M : Model) (m o c d m' : ℕ) → Valid M → Some c ≡ place_of M.conditions m → In d (outcomes M.moves c o) →
    m' ≡ get_or M.conditions d 0 → Goes M m o (Some m')
goes_to M m o c d m' v e i q =
    (c, d, (place_is M.conditions m c (sym e), outcome_of M.moves c o d i, (outcome_inside M c o d v i, sym q)))

-- ── by a byte ──

pub named_none : (byte : ℕ) (ds : List ℕ) → None ≡ named_by byte ds → (d : ℕ) → In d ds → ⊥
named_none byte [] e d i = i
named_none byte (x ∷ xs) e d i = let z : ◌≡◌ {A = ℕ} 0 1 = cc in absurd (omega arith)

pub named_is : (byte d : ℕ) (ds : List ℕ) → Some d ≡ named_by byte ds → d ≡ get_or ds (byte % length ds) 0
named_is byte d [] e = let z : ◌≡◌ {A = ℕ} 0 1 = cc in absurd (omega arith)
named_is byte d (x ∷ xs) e = cc

pub named_in : (byte d : ℕ) (ds : List ℕ) → Some d ≡ named_by byte ds → In d ds
named_in byte d [] e = let z : ◌≡◌ {A = ℕ} 0 1 = cc in absurd (omega arith)
named_in byte d (x ∷ xs) e =
    let s : d ≡ get_or (x ∷ xs) (byte % length (x ∷ xs)) 0 = cc in
    subst (λ (y : ℕ). In y (x ∷ xs)) (sym s) (in_at (x ∷ xs) (byte % length (x ∷ xs)) 0 (mod-lt byte (omega arith)))

pub goes_nth : (M : Model) (m o byte n c d m' : ℕ) → Valid M → Some c ≡ place_of M.conditions m → n ≡ byte →
    Some d ≡ named_by n (outcomes M.moves c o) → m' ≡ get_or M.conditions d 0 → WorkedNth M m o byte m'
goes_nth M m o byte n c d m' v e b named q =
    let named' : Some d ≡ named_by byte (outcomes M.moves c o) = subst (λ (x : ℕ). Some d ≡ named_by x (outcomes M.moves c o)) b named in
    let i : In d (outcomes M.moves c o) = named_in byte d (outcomes M.moves c o) named' in (
      c,
      (
        place_is M.conditions m c (sym e),
        subst (λ (x : ℕ). IsAt M x m') (named_is byte d (outcomes M.moves c o) named') (outcome_inside M c o d v i, sym q),
      ),
    )

-- ── by the fewest changes ──

-- of two pairs of changes and an outcome, one that is not the lesser comes after
not_lesser : (x d y e : ℕ) → is_lt (ordering_then (nat_cmp y x) (nat_cmp e d)) ≡ false → Before x d y e
not_lesser x d y e h = go (nat_cmp y x) (nat_cmp e d) (ranked y x (nat_cmp y x) refl) (ranked e d (nat_cmp e d) refl) h
  where
    go : (u v : Ordering) → MatchOrdering u (y < x) (y ≡ x) (x < y) → MatchOrdering v (e < d) (e ≡ d) (d < e) → is_lt (ordering_then u v) ≡ false → Before x d y e
    go Less v p q t = absurd (true≢false t)
    go Greater v p q t = (omega arith, λ l. absurd (omega arith))
    go Equal Less p q t = absurd (true≢false t)
    go Equal Equal p q t = (omega arith, λ l. omega arith)
    go Equal Greater p q t = (omega arith, λ l. omega arith)

abbrev pub outcome_at : Bor Move → ℕ
outcome_at m = m.now.outcome

-- The least of the moves, by what each changes and then by its outcome.
module _ {S F : Type 0} {steps : S → Option (Bor Move) → S → Type 0} (p : Run steps) (g : Mut F (Bor (Bor Move) × Unit {0}) (ℕ × ℕ)) (f : F) (ms : List Move) (changes : ℕ → ℕ)
    (reads : ItemsMapTo p (λ (y : Bor Move). y.now) ms) (whole : p.whole ≡ true)
    (keyed : (a : Bor (Bor Move) × Unit {0}) (k : ℕ × ℕ) (f' : F) → Called g f a k f' → ((k.0 ≡ changes a.0.now.now.outcome) × (k.1 ≡ a.0.now.now.outcome)) × (f' ≡ f)) where
  abbrev pub names : List ℕ
  names = map (λ (m : Move). m.outcome) ms

  item_at : (k : ℕ) (o : Option (Bor Move)) (m : Bor Move) → IfSome o (λ x. HoldsAt (λ y. x.now ≡ y) ms k) → IsSomeAnd o (λ x. x ≡ m) → m.now ≡ at ms k
  item_at k None m h e = absurd e
  item_at k (Some x) m h e = subst (λ (z : Bor Move). z.now ≡ at ms k) e (h no_move)

  of_key : (m : Bor Move) (k : ℕ × ℕ) → CalledAt g f m k f → (k.0 ≡ changes m.now.outcome) × (k.1 ≡ m.now.outcome)
  of_key m k c =
      let q = (keyed (c.shown, tt) k f c.called).0 in
      subst (λ (z : Bor Move). (k.0 ≡ changes z.now.outcome) × (k.1 ≡ z.now.outcome)) c.shows q

  after : (m : Bor Move) (k : ℕ × ℕ) → CalledAt g f m k f → (j : ℕ) (o : Option (Bor Move)) → option_map (λ (y : Bor Move). y.now) o ≡ Some (at ms j) →
      IfSome o (λ x. (l : ℕ × ℕ) × CalledAt g f x l f × (is_lt (ordering_then (nat_cmp l.0 k.0) (nat_cmp l.1 k.1)) ≡ false)) →
      Before (changes m.now.outcome) m.now.outcome (changes (at ms j).outcome) (at ms j).outcome
  after m k c j None e h = let z : ◌≡◌ {A = ℕ} 0 1 = cc in absurd (omega arith)
  after m k c j (Some x) e h =
      let a = of_key m k c in
      let b = of_key x h.0 h.1 in
      let same : x.now ≡ at ms j = cc in
      let t = not_lesser k.0 k.1 h.0.0 h.0.1 h.2 in
      subst (λ (z : Move). Before (changes m.now.outcome) m.now.outcome (changes z.outcome) z.outcome) same
      (subst (λ (n : ℕ). Before (changes m.now.outcome) n (changes x.now.outcome) x.now.outcome) a.1
      (subst (λ (n : ℕ). Before n k.1 (changes x.now.outcome) x.now.outcome) a.0
      (subst (λ (n : ℕ). Before k.0 k.1 (changes x.now.outcome) n) b.1 (subst (λ (n : ℕ). Before k.0 k.1 n h.0.1) b.0 t))))

  pub nearest_of : (r : Option (Bor Move)) → MatchOption r (p.len ≡ 0) (λ m. AnyItem p (λ x. x ≡ m) × NoKeyBeyond p g f is_lt (λ (a b : ℕ × ℕ). ordering_then (nat_cmp a.0 b.0) (nat_cmp a.1 b.1)) m) →
      Nearest changes names (option_map outcome_at r)
  nearest_of None h =
      let none : ms ≡ [] = nil_from_length ms (sym (reads.1 whole) ∙ h) in
      λ e i. subst (λ (xs : List Move). In e (map (λ (m : Move). m.outcome) xs)) none i
  nearest_of (Some m) h =
      let k = h.0.0 in
      let l : k < length ms = omega (arith, h.0.1, reads.1 whole) in
      let is : m.now ≡ at ms k = item_at k (p.at k) m (reads.3 k) h.0.2 in
      let key = h.1 (λ a r f' c. (keyed a r f' c).1) in (
        subst (λ (z : Move). In z.outcome names) (sym is) (in_outcomes k l),
        λ e i.
            let t = at_in e names 0 i in
            let j = t.0 in
            let within : j < length ms = subst (λ (n : ℕ). j < n) (length-map ms (λ (m : Move). m.outcome)) t.1 in
            let read : (at ms j).outcome ≡ e = sym (get_or-map (λ (m : Move). m.outcome) ms j no_move 0 within) ∙ t.2 in
            subst (λ (n : ℕ). Before (changes m.now.outcome) m.now.outcome (changes n) n) read
            (after m key.0 key.1 j (p.at j) (reads.2 j no_move (omega (arith, reads.1 whole))) (key.2 j)),
      )
    where
      in_outcomes : (k : ℕ) → k < length ms → In (at ms k).outcome names
      in_outcomes k l =
          subst (λ (n : ℕ). In n names) (get_or-map (λ (m : Move). m.outcome) ms k no_move 0 l)
          (in_at names k 0 (subst (λ (n : ℕ). k < n) (sym (length-map ms (λ (m : Move). m.outcome))) l))

pub goes_least : (M : Model) (m o c d m' : ℕ) → Valid M → Some c ≡ place_of M.conditions m →
    Nearest (change M c) (outcomes M.moves c o) (Some d) → m' ≡ get_or M.conditions d 0 → WorkedLeast M m o m'
goes_least M m o c d m' v e n q = (
  c,
  d,
  (
    place_is M.conditions m c (sym e),
    outcome_of M.moves c o d n.0,
    (outcome_inside M c o d v n.0, sym q),
    λ b t. n.1 b (subst (λ (y : ℕ). In y (outcomes M.moves c o)) t.2 (outcome_in M.moves c o t.0 t.1.0 t.1.1 t.1.2)),
  ),
)

-- ── what is left of a script ──

pub rest_of : (script : List ℕ) (r : Option (Bor (List ℕ))) (none left : Bor (List ℕ)) → IsGetRangeResult script 1 (length script) r → left ≡ unwrap_or r none → none.now ≡ [] →
    left.now ≡ drop 1 script
rest_of script None none left h e n =
    let short : length script ≤ 1 = ⊎_elim (λ q. omega arith) (λ q. omega arith) h.0 in
    ap (λ (x : Bor (List ℕ)). x.now) e ∙ n ∙ sym (drop_all 1 script short)
rest_of script (Some x) none left h e n =
    ap (λ (y : Bor (List ℕ)). y.now) e ∙ h.0.2 ∙ take_all (length script - 1) (drop 1 script) (omega (arith, length-drop 1 script))
