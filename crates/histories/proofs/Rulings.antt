-- What it says that no rule refuses a call, and what it takes.
use Rattle.std.proofs.Common.{◌≡◌, ℕ, ◌<◌, Bool, true, false, not, T, eqb, ltb, length, is_some, Some, None, Option, refl, ap, ◌∙◌, subst, true≢false, arith, eqb→eq, ltb→lt, lt→ltb}
use mathlib.Core.Bool.{false≢true, and-eq-true_iff}
use lib.Dec.{eqb_refl}
use Rattle.solver.specs.declared.Entry.{Entry}
use Rattle.solver.specs.declared.Entry.TheVariants.{None as Nothing, There, Work}
use Rattle.histories.specs.declared.Command.TheVariants.{Quote, Ask, Step, Close}
use Rattle.plans.specs.Flags.{task_at}
use Rattle.solver.specs.Policy.{World}
use Rattle.histories.specs.Calls.{At, offered, placed, entry_at, is_nothing, is_there, stuck, is_out, rules, Passes}
use Rattle.histories.proofs.Basics.{was_true, is_true, not_false, passes_clear, clear_passes}

pub offer_is : (w : World) (s q : ℕ) → offered w s q ≡ true → (q < length w.domain.tasks) × ((task_at w.domain q).from ≡ s)
offer_is w s q e =
    let p = (and-eq-true_iff (ltb q (length w.domain.tasks)) (eqb (task_at w.domain q).from s)).0 e in
    (ltb→lt q (length w.domain.tasks) (was_true p.0), eqb→eq (task_at w.domain q).from s (was_true p.1))

pub is_offer : (w : World) (s q : ℕ) → q < length w.domain.tasks → (task_at w.domain q).from ≡ s → offered w s q ≡ true
is_offer w s q h e =
    (and-eq-true_iff (ltb q (length w.domain.tasks)) (eqb (task_at w.domain q).from s)).1
    (is_true _ (lt→ltb q (length w.domain.tasks) h), is_true _ (subst (λ (x : ℕ). T (eqb (task_at w.domain q).from x)) e (eqb_refl (task_at w.domain q).from)))

pub placed_is : (w : World) (p : Option ℕ) → placed w p ≡ true → (c : ℕ) × ((p ≡ Some c) × (c < w.domain.conditions))
placed_is w None e = absurd (false≢true e)
placed_is w (Some c) e = (c, (refl, ltb→lt c w.domain.conditions (was_true e)))

pub is_placed : (w : World) (p : Option ℕ) (c : ℕ) → p ≡ Some c → c < w.domain.conditions → placed w p ≡ true
is_placed w p c e h = ap (placed w) e ∙ is_true _ (lt→ltb c w.domain.conditions h)

pub something : (e : Entry) → is_nothing e ≡ false → e ≡ Nothing → ⊥
something Nothing h e = true≢false h
something There h e = let z : ◌≡◌ {A = ℕ} 0 1 = cc in omega arith
something (Work o) h e = let z : ◌≡◌ {A = ℕ} 0 1 = cc in omega arith

pub is_something : (e : Entry) → (e ≡ Nothing → ⊥) → is_nothing e ≡ false
is_something Nothing h = absurd (h refl)
is_something There h = refl
is_something (Work o) h = refl

pub there_is : (e : Entry) → is_there e ≡ true → e ≡ There
there_is Nothing h = absurd (false≢true h)
there_is There h = refl
there_is (Work o) h = absurd (false≢true h)

pub is_elsewhere : (e : Entry) → (e ≡ There → ⊥) → is_there e ≡ false
is_elsewhere Nothing h = refl
is_elsewhere There h = absurd (h refl)
is_elsewhere (Work o) h = refl

pub out_is : (o : Option ℕ) (q : ℕ) → is_out o q ≡ true → o ≡ Some q
out_is None q e = absurd (false≢true e)
out_is (Some p) q e = ap (λ (x : ℕ). Some x) (eqb→eq p q (was_true e))

pub is_out_is : (o : Option ℕ) (q : ℕ) → o ≡ Some q → is_out o q ≡ true
is_out_is o q e = ap (λ (x : Option ℕ). is_out x q) e ∙ is_true _ (eqb_refl q)

pub idle_is : (o : Option ℕ) → is_some o ≡ false → o ≡ None
idle_is None e = refl
idle_is (Some p) e = absurd (true≢false e)

-- the request is offered, and the lock stands at a condition
pub record Met (w : World) (s : ℕ) (p : Option ℕ) (q : ℕ) : Type 0 where
  pub known : q < length w.domain.tasks
  pub from : (task_at w.domain q).from ≡ s
  pub spot : ℕ
  pub at : p ≡ Some spot
  pub inside : spot < w.domain.conditions

met : (w : World) (s : ℕ) (p : Option ℕ) (q : ℕ) → not (offered w s q) ≡ false → not (placed w p) ≡ false → Met w s p q
met w s p q x y =
    let o = offer_is w s q (not_false _ x) in
    let t = placed_is w p (not_false _ y) in
    record { known = o.0; from = o.1; spot = t.0; at = t.1.0; inside = t.1.1 }

pub quote_met : (w : World) (a : At) (q : ℕ) → Passes w a (Quote q) → Met w a.stage a.place q × (is_nothing (entry_at w q a.place) ≡ false)
quote_met w a q e =
    let r = passes_clear (rules w a (Quote q)) e in
    (met w a.stage a.place q r.0 r.1.0, r.1.1.0)

pub ask_met : (w : World) (a : At) (q : ℕ) → Passes w a (Ask q) → (a.out ≡ None) × Met w a.stage a.place q × (is_nothing (entry_at w q a.place) ≡ false)
ask_met w a q e =
    let r = passes_clear (rules w a (Ask q)) e in
    (idle_is a.out r.0, met w a.stage a.place q r.1.0 r.1.1.0, r.1.1.1.0)

pub step_met : (w : World) (a : At) (q : ℕ) → Passes w a (Step q) → (a.out ≡ Some q) × Met w a.stage a.place q
step_met w a q e =
    let r = passes_clear (rules w a (Step q)) e in
    (out_is a.out q (not_false _ r.0), met w a.stage a.place q r.1.0 r.1.1.0)

pub close_met : (w : World) (a : At) (q : ℕ) → Passes w a (Close q) → (a.out ≡ Some q) × Met w a.stage a.place q × (entry_at w q a.place ≡ There)
close_met w a q e =
    let r = passes_clear (rules w a (Close q)) e in
    (out_is a.out q (not_false _ r.0), met w a.stage a.place q r.1.0 r.1.1.0, there_is _ (not_false _ r.1.1.1.0))

is_not : (b : Bool) → b ≡ true → not b ≡ false
is_not b e = ap not e

pub ask_passes : (w : World) (a : At) (q : ℕ) → a.out ≡ None → Met w a.stage a.place q → (entry_at w q a.place ≡ Nothing → ⊥) →
    stuck w a.place (entry_at w q a.place) ≡ false → Passes w a (Ask q)
ask_passes w a q o m n k =
    clear_passes (rules w a (Ask q)) (
      ap (λ (x : Option ℕ). is_some x) o,
      (
        is_not _ (is_offer w a.stage q m.known m.from),
        (is_not _ (is_placed w a.place m.spot m.at m.inside), (is_something _ n, (k, tt))),
      ),
    )

pub step_passes : (w : World) (a : At) (q : ℕ) → a.out ≡ Some q → Met w a.stage a.place q → (entry_at w q a.place ≡ Nothing → ⊥) →
    (entry_at w q a.place ≡ There → ⊥) → stuck w a.place (entry_at w q a.place) ≡ false → Passes w a (Step q)
step_passes w a q o m n t k =
    clear_passes (rules w a (Step q)) (
      is_not _ (is_out_is a.out q o),
      (
        is_not _ (is_offer w a.stage q m.known m.from),
        (is_not _ (is_placed w a.place m.spot m.at m.inside), (is_something _ n, (is_elsewhere _ t, (k, tt)))),
      ),
    )

pub close_passes : (w : World) (a : At) (q : ℕ) → a.out ≡ Some q → Met w a.stage a.place q → entry_at w q a.place ≡ There → Passes w a (Close q)
close_passes w a q o m t =
    clear_passes (rules w a (Close q)) (
      is_not _ (is_out_is a.out q o),
      (
        is_not _ (is_offer w a.stage q m.known m.from),
        (is_not _ (is_placed w a.place m.spot m.at m.inside), (is_not _ (ap is_there t), tt)),
      ),
    )
