-- The rows of what calls do with the lock itself.
use Rattle.std.proofs.Common.{◌≡◌, ℕ, ◌+◌, true, List, [], ◌∷◌, map, Some, None, sym, refl, ap, ◌∙◌, inl, inr, ⊎_elim, arith}
use Rattle.port.specs.Model.{first}
use Rattle.solver.specs.declared.Entry.{Entry}
use Rattle.solver.specs.declared.Entry.TheVariants.{None as NoEntry, There, Work}
use Rattle.solver.specs.Policy.{World}
use Rattle.histories.specs.declared.Command.{Command}
use Rattle.histories.specs.declared.Command.TheVariants.{Ask, Step}
use Rattle.histories.specs.Calls.{refusal, rules}
use Rattle.histories.proofs.Basics.{some_inj, some_none}
use Rattle.control.specs.Handlings.{HandlesAll}
use Rattle.control.specs.Outings.{Turn}
use Rattle.control.specs.Rulings.{Next}
use Rattle.control.specs.States.{State}
use Rattle.cases_histories.specs.Sluice.{w, port}
use Rattle.cases_histories.specs.Controls.{marks}
use Rattle.cases_histories.specs.Handlings.{operations, OperationsSay, Book, book, shows_marks, writes, Means, idle_at, low, high, lifts, rows, HandlingsSay}
use Rattle.cases_plans.proofs.Rows.{◌⨾◌, each_says}
use Rattle.cases_histories.proofs.Values as values
use Rattle.cases_histories.proofs.Outings.{course_decided, some_nothing, no_turns, no_tales}

all_told : values.told operations ≡ true
all_told = refl

pub operations_say : OperationsSay
operations_say = values.values_say operations all_told

-- ── the policy's operation in low ──

abbrev work_of : Entry → ℕ
work_of NoEntry = 0
work_of There = 0
work_of (Work o) = o

step_inj : {q r : ℕ} → ◌≡◌ {A = Command} (Step q) (Step r) → q ≡ r
step_inj e = cc

operation_is : (q o : ℕ) → ◌≡◌ {A = Command} (Step 0) (Step q) → Next w (Some 0) q o → 1 ≡ o
operation_is q o k n =
    ap work_of (ap (λ (x : ℕ). w.entry x 0) (step_inj k) ∙ ap (λ (y : ℕ). w.entry q y) (some_inj n.1.0) ∙ n.1.1)

ask_step : {q r : ℕ} → ◌≡◌ {A = Command} (Ask q) (Step r) → ⊥
ask_step e = let z : ◌≡◌ {A = ℕ} 0 1 = cc in omega arith

-- what is written is the same where the lock is
same_written : (m n x y : ℕ) → book m x ≡ book n y → x ≡ y
same_written m n x y e = ap (λ (s : Book). s.written) e

-- without commands nothing is done
untouched : (v : World) (cs : List ℕ) (ts : List (Turn (List ℕ))) (s t : Book) → map (λ (t : Turn (List ℕ)). t.command) ts ≡ [] →
    HandlesAll shows_marks writes v cs ts s t → t ≡ s
untouched v cs [] s t e h = h
untouched v cs (x ∷ ts) s t e h = some_nothing x.command (map (λ (t : Turn (List ℕ)). t.command) ts) e

pub handlings_say : HandlingsSay
handlings_say = each_says Means rows (
    (0, 1, (refl, refl, (0, (refl, refl)), refl, refl))
    ⨾ (λ h. let z : ◌≡◌ {A = ℕ} 1 (0 + (h.1 + 5)) = h.2.3 in omega (arith, z))
    ⨾ (λ h. let z : ◌≡◌ {A = ℕ} 0 (0 + (h.1 + 5)) = h.2.3 in omega (arith, z))
    ⨾ (λ h. let o : 1 ≡ h.1 = operation_is h.0 h.1 h.2.0 h.2.2 in let z : ◌≡◌ {A = ℕ} 66 (0 + (h.1 + 5)) = h.2.3 in omega (arith, o, z))
    ⨾ (λ h. let z : ◌≡◌ {A = ℕ} 26 29 = h.2.4 in omega arith)
    ⨾ (λ h. some_none (ap (λ (k : Command). refusal (rules w idle_at k)) h.2.0 ∙ h.2.1))
    ⨾ (λ h. ask_step h.2.0)
    ⨾ refl
    ⨾ (λ h. let z : ◌≡◌ {A = ℕ} 4 41 = h in omega arith)
    ⨾ (λ h. let z : ◌≡◌ {A = ℕ} 411 41 = h in omega arith)
    ⨾ (λ h. let z : ◌≡◌ {A = ℕ} 46 41 = h in omega arith)
    ⨾ inr (0, 1, (refl, refl, (0, (refl, refl)), refl, refl))
    ⨾ (λ h. ⊎_elim (λ l. some_none (sym l.0)) (λ r. let z : ◌≡◌ {A = ℕ} 0 (0 + (r.1 + 5)) = r.2.3 in omega (arith, z)) h)
    ⨾ inl (refl, refl)
    ⨾ refl
    ⨾ (λ h. ⊎_elim (λ l. let z : ◌≡◌ {A = ℕ} 46 4 = same_written 0 0 46 4 l.1 in omega arith) (λ r. let z : ◌≡◌ {A = ℕ} 28 29 = r.2.4 in omega arith) h)
    ⨾ (λ h. let z : ◌≡◌ {A = ℕ} 41 4 = same_written 0 0 41 4 h in omega arith)
    ⨾ (λ h. let z : ◌≡◌ {A = ℕ} 41 4 = same_written 0 0 41 4 h in omega arith)
    ⨾ (λ h. let z : ◌≡◌ {A = ℕ} 41 4 = same_written 0 0 41 4 h in omega arith)
    ⨾ (book 0 0, (refl, refl, (book 1 1, (refl, refl, refl))))
    ⨾ refl
    ⨾ (λ h. let z : ◌≡◌ {A = ℕ} 41 4 = same_written 0 0 41 4 h in omega arith)
    ⨾ (λ h. let z : ◌≡◌ {A = ℕ} 11 1 = ap (λ (s : Book). s.written) h.1.2 ∙ h.1.1 in omega arith)
    ⨾ (λ h. let z : ◌≡◌ {A = ℕ} 0 1 = h.1.0 in omega arith)
    ⨾ record {
      logged = record {
        turns = lifts ∷ [];
        asked = refl;
        answered = refl;
        chained = (course_decided w marks port low (lifts ∷ []) high).0 refl;
      };
      handled = (book 1 1, (refl, refl, refl));
    }
    ⨾ (λ t. let z : ◌≡◌ {A = ℕ} 1 0 = ap (λ (x : State). x.marks) (no_turns w marks port low high t.logged.turns t.logged.asked t.logged.chained) in omega arith)
    ⨾ (λ t. let z : ◌≡◌ {A = ℕ} 1 0 = same_written 0 0 1 0 (untouched w marks t.logged.turns (book 0 0) (book 0 1) t.logged.asked t.handled) in omega arith)
    ⨾ record { told = no_tales; handled = refl; steps = λ own. refl }
    ⨾ (λ c. let z : ◌≡◌ {A = ℕ} 41 4 = same_written 0 0 41 4 (untouched c.told.world first.conditions c.told.logged.turns (book 0 4) (book 0 41) c.told.logged.asked c.handled) in omega arith)
    ⨾ tt
    )
