-- Tests that tell whether two values are the same, and tests of moves.
use Rattle.std.proofs.Common.{◌≡◌, ℕ, Bool, true, false, ◌&&◌, eqb, ◌↔◌, List, Option, sym, refl, ap, ◌∙◌, eq-eqb, eqb-true}
use mathlib.Core.Bool.{and-eq-true_iff, false≢true}
use Rattle.port.specs.declared.Move.{Move}
use Rattle.plans.specs.Plans.{Can}
use Rattle.plans.specs.Reach.{any_of}
use Rattle.plans.proofs.Decide.{some_in, in_some}
use Rattle.locks.specs.Places.{fits}
use Rattle.locks.proofs.Standing.{fits_true, fits_parts}
use Rattle.solver.specs.declared.Entry.{Entry}
use Rattle.solver.specs.declared.Entry.TheVariants.{None as NoEntry, There, Work}
use Rattle.histories.specs.Calls.{At, Rule}
use Rattle.histories.specs.Errands.{Errand}
use Rattle.cases_plans.proofs.Rows.{alike}
use Rattle.cases_plans.proofs.Tests.{both, equal, same_move, same_moves}
use Rattle.cases_plans.proofs.Values.{alike_iff, Tells, same_list, list_tells, same_option, option_tells}

abbrev pub same_numbers : List ℕ → List ℕ → Bool
same_numbers a b = same_list eqb a b

pub numbers_tell : Tells same_numbers
numbers_tell a b = list_tells eqb equal a b

abbrev pub same_place : Option ℕ → Option ℕ → Bool
same_place a b = same_option eqb a b

pub places_tell : Tells same_place
places_tell a b = option_tells eqb equal a b

-- ── entries ──

abbrev pub same_entry : Entry → Entry → Bool
same_entry NoEntry NoEntry = true
same_entry There There = true
same_entry (Work o) (Work p) = eqb o p
same_entry x y = false

-- an entry by its kind, and by the operation that it works
abbrev kind : Entry → ℕ
kind NoEntry = 0
kind There = 1
kind (Work o) = 2

abbrev pub operation_of : Entry → ℕ
operation_of (Work o) = o
operation_of x = 0

other_kind : {P : Type 0} (x y : Entry) → x ≡ y → eqb (kind x) (kind y) ≡ false → P
other_kind x y q f = absurd (false≢true (sym f ∙ eq-eqb (kind x) (kind y) (ap kind q)))

pub entries_tell : Tells same_entry
entries_tell NoEntry NoEntry = (λ e. refl, λ q. refl)
entries_tell NoEntry There = (λ e. absurd (false≢true e), λ q. other_kind NoEntry There q refl)
entries_tell NoEntry (Work p) = (λ e. absurd (false≢true e), λ q. other_kind NoEntry (Work p) q refl)
entries_tell There NoEntry = (λ e. absurd (false≢true e), λ q. other_kind There NoEntry q refl)
entries_tell There There = (λ e. refl, λ q. refl)
entries_tell There (Work p) = (λ e. absurd (false≢true e), λ q. other_kind There (Work p) q refl)
entries_tell (Work o) NoEntry = (λ e. absurd (false≢true e), λ q. other_kind (Work o) NoEntry q refl)
entries_tell (Work o) There = (λ e. absurd (false≢true e), λ q. other_kind (Work o) There q refl)
entries_tell (Work o) (Work p) = (λ e. ap Work (eqb-true o p e), λ q. eq-eqb o p (ap operation_of q))

-- ── moves ──

-- some move of the operation passes a test
abbrev pub some_fits : List Move → ℕ → ℕ → (Move → Bool) → Bool
some_fits moves c o p = any_of (λ (m : Move). fits c o m && p m) moves

pub some_fits_iff : (moves : List Move) (c o : ℕ) (p : Move → Bool) → (some_fits moves c o p ≡ true) ↔ ((m : Move) × Can moves c o m × (p m ≡ true))
some_fits_iff moves c o p = (
  λ e.
      let t = some_in test moves e in
      let h = (and-eq-true_iff (fits c o t.0) (p t.0)).0 t.2 in
      let f = fits_parts c o t.0 h.0 in
      (t.0, (t.1, f.0, f.1), h.1),
  λ t. in_some test t.0 moves t.1.0 ((and-eq-true_iff (fits c o t.0) (p t.0)).1 (fits_true c o t.0 t.1.1 t.1.2, t.2)),
)
  where
    test : Move → Bool
    test m = fits c o m && p m

-- ── where controller and lock stand, rules, and errands ──

abbrev pub same_at : At → At → Bool
same_at a b = eqb a.stage b.stage && (same_place a.out b.out && same_place a.place b.place)

at_is : (a b : At) → a.stage ≡ b.stage → a.out ≡ b.out → a.place ≡ b.place → a ≡ b
at_is a b p q r = ap (λ n. made n a.out a.place) p ∙ ap (λ o. made b.stage o a.place) q ∙ ap (λ o. made b.stage b.out o) r
  where
    made : ℕ → Option ℕ → Option ℕ → At
    made stage out place = record { stage = stage; out = out; place = place }

pub ats_tell : Tells same_at
ats_tell a b =
    let rest = both (same_place a.out b.out) (same_place a.place b.place) (places_tell a.out b.out) (places_tell a.place b.place) in
    let parts = both (eqb a.stage b.stage) (same_place a.out b.out && same_place a.place b.place) (equal a.stage b.stage) rest in (
      λ e. let h = parts.0 e in at_is a b h.0 h.1.0 h.1.1,
      λ q. parts.1 (ap (λ (x : At). x.stage) q, (ap (λ (x : At). x.out) q, ap (λ (x : At). x.place) q)),
    )

abbrev pub same_rule : Rule → Rule → Bool
same_rule a b = eqb a.number b.number && alike a.applies b.applies

rule_is : (a b : Rule) → a.number ≡ b.number → a.applies ≡ b.applies → a ≡ b
rule_is a b p q = ap (λ n. made n a.applies) p ∙ ap (λ t. made b.number t) q
  where
    made : ℕ → Bool → Rule
    made number applies = record { number = number; applies = applies }

pub rules_tell : Tells same_rule
rules_tell a b =
    let parts = both (eqb a.number b.number) (alike a.applies b.applies) (equal a.number b.number) (alike_iff a.applies b.applies) in (
      λ e. let h = parts.0 e in rule_is a b h.0 h.1,
      λ q. parts.1 (ap (λ (x : Rule). x.number) q, ap (λ (x : Rule). x.applies) q),
    )

abbrev pub same_errand : Errand → Errand → Bool
same_errand a b = eqb a.request b.request && (same_numbers a.quote b.quote && (same_list same_move a.moves b.moves && alike a.out b.out))

errand_is : (a b : Errand) → a.request ≡ b.request → a.quote ≡ b.quote → a.moves ≡ b.moves → a.out ≡ b.out → a ≡ b
errand_is a b p q r s =
    ap (λ n. made n a.quote a.moves a.out) p
    ∙ ap (λ f. made b.request f a.moves a.out) q
    ∙ ap (λ ms. made b.request b.quote ms a.out) r
    ∙ ap (λ t. made b.request b.quote b.moves t) s
  where
    made : ℕ → List ℕ → List Move → Bool → Errand
    made request quote moves out = record { request = request; quote = quote; moves = moves; out = out }

pub errands_tell : Tells same_errand
errands_tell a b =
    let moved = both (same_list same_move a.moves b.moves) (alike a.out b.out) (list_tells same_move same_moves a.moves b.moves) (alike_iff a.out b.out) in
    let rest = both (same_numbers a.quote b.quote) (same_list same_move a.moves b.moves && alike a.out b.out) (numbers_tell a.quote b.quote) moved in
    let parts =
    both (eqb a.request b.request) (same_numbers a.quote b.quote && (same_list same_move a.moves b.moves && alike a.out b.out)) (equal a.request b.request) rest in (
      λ e. let h = parts.0 e in errand_is a b h.0 h.1.0 h.1.1.0 h.1.1.1,
      λ q. parts.1 (ap (λ (x : Errand). x.request) q, (ap (λ (x : Errand). x.quote) q, (ap (λ (x : Errand). x.moves) q, ap (λ (x : Errand). x.out) q))),
    )
