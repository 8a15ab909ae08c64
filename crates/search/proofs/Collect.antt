-- What `map` over a range and `collect` give, item by item.
use Rattle.std.proofs.Common.{◌≡◌, ℕ, ◌+◌, ◌-◌, ◌<◌, true, length, get_or, Some, None, Option, ap, ◌∙◌, subst, arith}
use Rattle.std.specs.Iterator.Runs.{Run, EachRunFrom, SomeRun, IsMapRun}
use Rattle.std.specs.Option.{IfSome, IsSomeAnd, option_map}
use Rattle.std.proofs.iter.Yields.{nat_range_steps}
use Rattle.std.proofs.iter.runs.Sources.{range_runs}
use denote.Param.Members.{Mut, Called}
use Rattle.std.specs.declared.ops.Range.{Range}

same_some : {A : Type 0} {a b : A} → Some a ≡ Some b → a ≡ b
same_some e = cc

no_some : {A : Type 0} {a : A} → ◌≡◌ {A = Option A} None (Some a) → ⊥
no_some e = let z : ◌≡◌ {A = ℕ} 0 1 = cc in omega arith

-- the item at a place, by what it was made of
made : {B : Type 0} (R : ℕ → B → Type 0) (a : Option ℕ) (b : Option B) (c : ℕ) (z : B) → option_map (λ y. y) a ≡ Some c → IfSome a (λ x. IsSomeAnd b (R x)) → option_map (λ y. y) b ≡ Some z → R c z
made R None b c z e h f = absurd (no_some e)
made R (Some x) None c z e h f = absurd h
made R (Some x) (Some y) c z e h f = subst (λ i. R i z) (same_some e) (subst (R x) (same_some f) h)

-- each place below n has what the closure gave at that number
pub each_made : {S B F : Type 0} {steps : S → Option B → S → Type 0} {g : Mut F (ℕ × Unit {0}) B} {f : F} {s : S} (n : ℕ) (P : ℕ → B → Type 0) → EachRunFrom steps s (λ p. SomeRun nat_range_steps (record { start = 0; end = n }) (λ q. IsMapRun p q g f)) → ((x : ℕ) (y : B) (q : F) → Called g f (x, tt) y q → (q ≡ f) × P x y) → (p : Run steps) → p.from ≡ s → p.whole ≡ true → (length p.items ≡ n) × ((c : ℕ) (d : B) → c < n → P c (get_or p.items c d))
each_made {g = g} {f = f} n P runs gives p from whole =
    let m = runs p p.seen from in
    let q = m.0 in
    let made_by = m.2 in
    let counts = range_runs q q.seen in
    let start : q.from.start ≡ 0 = ap (λ (r : Range ℕ). r.start) m.1 in
    let end : q.from.end ≡ n = ap (λ (r : Range ℕ). r.end) m.1 in
    let all : q.len ≡ q.from.end - q.from.start = counts.1 (made_by.0 ∙ whole) in
    let same : p.len ≡ q.len = made_by.1 in
    let long = p.long in
    let pairs = made_by.2 (λ a r h e. (gives a.0 r h e).0) in (
      omega arith,
      λ c d l.
          let place : q.from.start + c ≡ c = omega arith in
          let inside : c < q.len = omega arith in
          let read : c < p.len = omega arith in
          (gives c _ f (made (λ x y. Called g f (x, tt) y f) (q.at c) (p.at c) c (get_or p.items c d) (counts.3 c inside ∙ ap (λ i. Some i) place) (pairs.0 c) (p.reads c d read))).1,
    )
