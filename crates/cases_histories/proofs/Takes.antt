-- Tests that decide which calls and histories there are.
use Rattle.std.proofs.Common.{◌≡◌, ℕ, Bool, true, false, ◌&&◌, eqb, ◌↔◌, List, [], ◌∷◌, Some, None, Option, sym, refl, ap, ◌∙◌, subst, inl, inr, ⊎_elim, arith}
use mathlib.Core.Bool.{false≢true}
use Rattle.port.specs.declared.Move.{Move}
use Rattle.plans.specs.Plans.{Can}
use Rattle.plans.specs.Flags.{task_at}
use Rattle.solver.specs.declared.Entry.TheVariants.{Work}
use Rattle.solver.specs.Policy.{World}
use Rattle.histories.specs.declared.Command.{Command}
use Rattle.histories.specs.declared.Command.TheVariants.{Quote, Ask, Step, Close}
use Rattle.histories.specs.Calls.{At, ExactAnswer, quoted, granted, worked, closed, refused, refusal, cost_at, rules, Passes, Took, Event, History, open_rules, Opens}
use Rattle.histories.specs.Errands.{request_of}
use Rattle.histories.specs.Promise.{Tells}
use Rattle.histories.proofs.Basics.{some_inj}
use Rattle.cases_plans.proofs.Tests.{both, equal, can_test, can_decided}
use Rattle.cases_histories.proofs.Tests.{same_numbers, numbers_tell, same_place, places_tell, same_entry, entries_tell, same_at, ats_tell}

-- ── what a command asks ──

-- it asks so of a request that passes
abbrev pub quoting : (ℕ → Bool) → Command → Bool
quoting p (Quote q) = p q
quoting p k = false

abbrev pub asking : (ℕ → Bool) → Command → Bool
asking p (Ask q) = p q
asking p k = false

abbrev pub stepping : (ℕ → Bool) → Command → Bool
stepping p (Step q) = p q
stepping p k = false

abbrev pub closing : (ℕ → Bool) → Command → Bool
closing p (Close q) = p q
closing p k = false

-- commands by their kinds
abbrev kind : Command → ℕ
kind (Quote q) = 0
kind (Ask q) = 1
kind (Step q) = 2
kind (Close q) = 3

other : {P : Type 0} (k l : Command) → k ≡ l → eqb (kind k) (kind l) ≡ false → P
other k l q f = absurd (false≢true (sym f ∙ (equal (kind k) (kind l)).1 (ap kind q)))

named : (p : ℕ → Bool) (k l : Command) → k ≡ l → p (request_of l) ≡ true → p (request_of k) ≡ true
named p k l q e = subst (λ (x : Command). p (request_of x) ≡ true) (sym q) e

pub quoting_iff : (p : ℕ → Bool) (k : Command) → (quoting p k ≡ true) ↔ ((q : ℕ) × ((k ≡ Quote q) × (p q ≡ true)))
quoting_iff p (Quote q) = (λ e. (q, (refl, e)), λ t. named p (Quote q) (Quote t.0) t.1.0 t.1.1)
quoting_iff p (Ask q) = (λ e. absurd (false≢true e), λ t. other (Ask q) (Quote t.0) t.1.0 refl)
quoting_iff p (Step q) = (λ e. absurd (false≢true e), λ t. other (Step q) (Quote t.0) t.1.0 refl)
quoting_iff p (Close q) = (λ e. absurd (false≢true e), λ t. other (Close q) (Quote t.0) t.1.0 refl)

pub asking_iff : (p : ℕ → Bool) (k : Command) → (asking p k ≡ true) ↔ ((q : ℕ) × ((k ≡ Ask q) × (p q ≡ true)))
asking_iff p (Quote q) = (λ e. absurd (false≢true e), λ t. other (Quote q) (Ask t.0) t.1.0 refl)
asking_iff p (Ask q) = (λ e. (q, (refl, e)), λ t. named p (Ask q) (Ask t.0) t.1.0 t.1.1)
asking_iff p (Step q) = (λ e. absurd (false≢true e), λ t. other (Step q) (Ask t.0) t.1.0 refl)
asking_iff p (Close q) = (λ e. absurd (false≢true e), λ t. other (Close q) (Ask t.0) t.1.0 refl)

pub stepping_iff : (p : ℕ → Bool) (k : Command) → (stepping p k ≡ true) ↔ ((q : ℕ) × ((k ≡ Step q) × (p q ≡ true)))
stepping_iff p (Quote q) = (λ e. absurd (false≢true e), λ t. other (Quote q) (Step t.0) t.1.0 refl)
stepping_iff p (Ask q) = (λ e. absurd (false≢true e), λ t. other (Ask q) (Step t.0) t.1.0 refl)
stepping_iff p (Step q) = (λ e. (q, (refl, e)), λ t. named p (Step q) (Step t.0) t.1.0 t.1.1)
stepping_iff p (Close q) = (λ e. absurd (false≢true e), λ t. other (Close q) (Step t.0) t.1.0 refl)

pub closing_iff : (p : ℕ → Bool) (k : Command) → (closing p k ≡ true) ↔ ((q : ℕ) × ((k ≡ Close q) × (p q ≡ true)))
closing_iff p (Quote q) = (λ e. absurd (false≢true e), λ t. other (Quote q) (Close t.0) t.1.0 refl)
closing_iff p (Ask q) = (λ e. absurd (false≢true e), λ t. other (Ask q) (Close t.0) t.1.0 refl)
closing_iff p (Step q) = (λ e. absurd (false≢true e), λ t. other (Step q) (Close t.0) t.1.0 refl)
closing_iff p (Close q) = (λ e. (q, (refl, e)), λ t. named p (Close q) (Close t.0) t.1.0 t.1.1)

-- ── calls ──

-- the first rule that refuses is this, or there is none
abbrev pub first_test : World → At → Command → Option ℕ → Bool
first_test w a k n = same_place (refusal (rules w a k)) n

pub first_decided : (w : World) (a : At) (k : Command) (n : Option ℕ) → (first_test w a k n ≡ true) ↔ (refusal (rules w a k) ≡ n)
first_decided w a k n = places_tell (refusal (rules w a k)) n

-- a lock that stands there makes the move, by the entry
abbrev makes_test : World → ℕ → Option ℕ → Move → Bool
makes_test w q None m = false
makes_test w q (Some c) m = same_entry (w.entry q c) (Work m.operation) && can_test w.domain.moves c m.operation m

makes_decided : (w : World) (q : ℕ) (p : Option ℕ) (m : Move) →
    (makes_test w q p m ≡ true) ↔ ((c o : ℕ) × ((p ≡ Some c) × (w.entry q c ≡ Work o) × Can w.domain.moves c o m))
makes_decided w q None m = (λ e. absurd (false≢true e), λ t. let z : ◌≡◌ {A = ℕ} 0 1 = ap stands t.2.0 in absurd (omega arith))
  where
    stands : Option ℕ → ℕ
    stands None = 0
    stands (Some c) = 1
makes_decided w q (Some c) m = (
  λ e. let h = parts.0 e in (c, m.operation, (refl, h.0, h.1)),
  λ t. parts.1 (made t.0 t.1 (some_inj t.2.0) t.2.1 t.2.2),
)
  where
    parts : ((same_entry (w.entry q c) (Work m.operation) && can_test w.domain.moves c m.operation m) ≡ true)
        ↔ ((w.entry q c ≡ Work m.operation) × Can w.domain.moves c m.operation m)
    parts =
        both (same_entry (w.entry q c) (Work m.operation)) (can_test w.domain.moves c m.operation m) (entries_tell (w.entry q c) (Work m.operation))
        (can_decided w.domain.moves c m.operation m)

    made : (d o : ℕ) → c ≡ d → w.entry q d ≡ Work o → Can w.domain.moves d o m → (w.entry q c ≡ Work m.operation) × Can w.domain.moves c m.operation m
    made d o e f can = (ap (w.entry q) e ∙ f ∙ ap Work (sym can.2), (can.0, can.1 ∙ sym e, refl))

abbrev pub took_test : World → At → Command → ExactAnswer → At → Bool
took_test w a k (refused n) b = first_test w a k (Some n) && same_at b a
took_test w a k (quoted f) b = quoting (λ q. first_test w a (Quote q) None && (same_numbers f (cost_at w q a.place) && same_at b a)) k
took_test w a k (granted f) b =
    asking (λ q. first_test w a (Ask q) None && (same_numbers f (cost_at w q a.place)
    && same_at b (record { stage = a.stage; out = Some q; place = a.place }))) k
took_test w a k (worked m) b =
    stepping (λ q. first_test w a (Step q) None && (makes_test w q a.place m
    && same_at b (record { stage = a.stage; out = a.out; place = Some m.outcome }))) k
took_test w a k (closed s) b =
    closing (λ q. first_test w a (Close q) None && (eqb s (task_at w.domain q).to
    && same_at b (record { stage = s; out = None; place = a.place }))) k

-- three tests in one
pub three : {P Q R : Type 0} (a b c : Bool) → (a ≡ true) ↔ P → (b ≡ true) ↔ Q → (c ≡ true) ↔ R → ((a && (b && c)) ≡ true) ↔ (P × (Q × R))
three a b c p q r = both a (b && c) p (both b c q r)

pub took_decided : (w : World) (a : At) (k : Command) (r : ExactAnswer) (b : At) → (took_test w a k r b ≡ true) ↔ Took w a k r b
took_decided w a k (refused n) b = both (first_test w a k (Some n)) (same_at b a) (first_decided w a k (Some n)) (ats_tell b a)
took_decided w a k (quoted f) b = (
  λ e. let t = (quoting_iff test k).0 e in let h = (parts t.0).0 t.1.1 in (t.0, (t.1.0, h.0, h.1.0, h.1.1)),
  λ t. (quoting_iff test k).1 (t.0, (t.1.0, (parts t.0).1 (t.1.1, (t.1.2, t.1.3)))),
)
  where
    test : ℕ → Bool
    test q = first_test w a (Quote q) None && (same_numbers f (cost_at w q a.place) && same_at b a)

    parts : (q : ℕ) → (test q ≡ true) ↔ (Passes w a (Quote q) × ((f ≡ cost_at w q a.place) × (b ≡ a)))
    parts q =
        three (first_test w a (Quote q) None) (same_numbers f (cost_at w q a.place)) (same_at b a)
        (first_decided w a (Quote q) None) (numbers_tell f (cost_at w q a.place)) (ats_tell b a)
took_decided w a k (granted f) b = (
  λ e. let t = (asking_iff test k).0 e in let h = (parts t.0).0 t.1.1 in (t.0, (t.1.0, h.0, h.1.0, h.1.1)),
  λ t. (asking_iff test k).1 (t.0, (t.1.0, (parts t.0).1 (t.1.1, (t.1.2, t.1.3)))),
)
  where
    after : ℕ → At
    after q = record { stage = a.stage; out = Some q; place = a.place }

    test : ℕ → Bool
    test q = first_test w a (Ask q) None && (same_numbers f (cost_at w q a.place) && same_at b (after q))

    parts : (q : ℕ) → (test q ≡ true) ↔ (Passes w a (Ask q) × ((f ≡ cost_at w q a.place) × (b ≡ after q)))
    parts q =
        three (first_test w a (Ask q) None) (same_numbers f (cost_at w q a.place)) (same_at b (after q))
        (first_decided w a (Ask q) None) (numbers_tell f (cost_at w q a.place)) (ats_tell b (after q))
took_decided w a k (worked m) b = (
  λ e.
      let t = (stepping_iff test k).0 e in
      let h = (parts t.0).0 t.1.1 in
      let made = h.1.0 in
      (t.0, made.0, made.1, (t.1.0, h.0, made.2.0, made.2.1, made.2.2, h.1.1)),
  λ t. (stepping_iff test k).1 (t.0, (t.3.0, (parts t.0).1 (t.3.1, ((t.1, t.2, (t.3.2, t.3.3, t.3.4)), t.3.5)))),
)
  where
    after : At
    after = record { stage = a.stage; out = a.out; place = Some m.outcome }

    test : ℕ → Bool
    test q = first_test w a (Step q) None && (makes_test w q a.place m && same_at b after)

    parts : (q : ℕ) → (test q ≡ true)
        ↔ (Passes w a (Step q) × (((c o : ℕ) × ((a.place ≡ Some c) × (w.entry q c ≡ Work o) × Can w.domain.moves c o m)) × (b ≡ after)))
    parts q =
        three (first_test w a (Step q) None) (makes_test w q a.place m) (same_at b after)
        (first_decided w a (Step q) None) (makes_decided w q a.place m) (ats_tell b after)
took_decided w a k (closed s) b = (
  λ e. let t = (closing_iff test k).0 e in let h = (parts t.0).0 t.1.1 in (t.0, (t.1.0, h.0, h.1.0, h.1.1)),
  λ t. (closing_iff test k).1 (t.0, (t.1.0, (parts t.0).1 (t.1.1, (t.1.2, t.1.3)))),
)
  where
    after : At
    after = record { stage = s; out = None; place = a.place }

    test : ℕ → Bool
    test q = first_test w a (Close q) None && (eqb s (task_at w.domain q).to && same_at b after)

    parts : (q : ℕ) → (test q ≡ true) ↔ (Passes w a (Close q) × ((s ≡ (task_at w.domain q).to) × (b ≡ after)))
    parts q =
        three (first_test w a (Close q) None) (eqb s (task_at w.domain q).to) (same_at b after)
        (first_decided w a (Close q) None) (equal s (task_at w.domain q).to) (ats_tell b after)

-- ── histories ──

abbrev pub history_test : World → At → List Event → At → Bool
history_test w a [] b = same_at b a
history_test w a (e ∷ h) b = same_at e.before a && (took_test w a e.command e.answer e.after && history_test w e.after h b)

chained : (w : World) (a : At) (e : Event) (h : List Event) (b : At) → (history_test w e.after h b ≡ true) ↔ History w e.after h b →
    ((same_at e.before a && (took_test w a e.command e.answer e.after && history_test w e.after h b)) ≡ true) ↔ History w a (e ∷ h) b
chained w a e h b rest =
    let parts =
    three {R = History w e.after h b} (same_at e.before a) (took_test w a e.command e.answer e.after) (history_test w e.after h b)
    (ats_tell e.before a) (took_decided w a e.command e.answer e.after) rest in
    (λ x. let t = parts.0 x in (t.0, t.1.0, t.1.1), λ t. parts.1 (t.0, (t.1, t.2)))

pub history_decided : (w : World) (a : At) (h : List Event) (b : At) → (history_test w a h b ≡ true) ↔ History w a h b
history_decided w a [] b = ats_tell b a
history_decided w a (e ∷ h) b = chained w a e h b (history_decided w e.after h b)

-- ── openings and quotes ──

abbrev pub opens_test : World → ℕ → Option ℕ → Bool
opens_test w s p = same_place (refusal (open_rules w s p)) None

pub opens_decided : (w : World) (s : ℕ) (p : Option ℕ) → (opens_test w s p ≡ true) ↔ Opens w s p
opens_decided w s p = places_tell (refusal (open_rules w s p)) None

abbrev pub tells_test : ExactAnswer → List ℕ → Bool
tells_test (quoted g) f = same_numbers g f
tells_test (granted g) f = same_numbers g f
tells_test r f = false

-- answers by their kinds, and by the cost that they tell
abbrev pub sort : ExactAnswer → ℕ
sort (quoted f) = 0
sort (granted f) = 1
sort (worked m) = 2
sort (closed s) = 3
sort (refused n) = 4

abbrev told : ExactAnswer → List ℕ
told (quoted f) = f
told (granted f) = f
told r = []

pub unlike : {P : Type 0} (r t : ExactAnswer) → r ≡ t → eqb (sort r) (sort t) ≡ false → P
unlike r t q f = absurd (false≢true (sym f ∙ (equal (sort r) (sort t)).1 (ap sort q)))

pub tells_decided : (r : ExactAnswer) (f : List ℕ) → (tells_test r f ≡ true) ↔ Tells r f
tells_decided (quoted g) f = (
  λ e. inl (ap quoted ((numbers_tell g f).0 e)),
  λ t. ⊎_elim (λ q. (numbers_tell g f).1 (ap told q)) (λ q. unlike (quoted g) (granted f) q refl) t,
)
tells_decided (granted g) f = (
  λ e. inr (ap granted ((numbers_tell g f).0 e)),
  λ t. ⊎_elim (λ q. unlike (granted g) (quoted f) q refl) (λ q. (numbers_tell g f).1 (ap told q)) t,
)
tells_decided (worked m) f = (λ e. absurd (false≢true e), λ t. ⊎_elim (λ q. unlike (worked m) (quoted f) q refl) (λ q. unlike (worked m) (granted f) q refl) t)
tells_decided (closed s) f = (λ e. absurd (false≢true e), λ t. ⊎_elim (λ q. unlike (closed s) (quoted f) q refl) (λ q. unlike (closed s) (granted f) q refl) t)
tells_decided (refused n) f = (λ e. absurd (false≢true e), λ t. ⊎_elim (λ q. unlike (refused n) (quoted f) q refl) (λ q. unlike (refused n) (granted f) q refl) t)
