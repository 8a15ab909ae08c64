-- The rows of ports in memory: what is said of one depends on what the port says, and is decided at the dock.
use Rattle.std.proofs.Common.{◌≡◌, ℕ, zero, suc, ◌<◌, ◌≤◌, Bool, true, false, not, ◌&&◌, eqb, ◌↔◌, List, [], ◌∷◌, length, Some, None, Ok, Err, Option, Result, sym, refl, ap, ◌∙◌, subst, inl, inr, arith}
use Rattle.std.specs.Prelude.{codes, vec_items}
use denote.RawPtr.{null_ptr}
use Rattle.std.specs.Global.{Global, Vec}
use Rattle.formula.specs.Grammar.{step, goes, verdict}
use Rattle.formula.specs.Truth.{is_formula}
use Rattle.port.specs.Limits.{Marked, Rise, MovesExist, MovesRise, Staged, KeepsWorded, ReachesWorded}
use Rattle.port.specs.Model.{Model, model_of}
use Rattle.port.specs.declared.Request.{Request}
use Rattle.port.specs.declared.Text.{Text}
use Rattle.port.specs.declared.held.Port.{Port}
use Rattle.plans.specs.Domains.{domain_of}
use Rattle.plans.specs.Reach.{each}
use Rattle.costs.specs.Models.{minutes_model}
use Rattle.solver.specs.Policy.{World, world_of}
use Rattle.solver.specs.Solving.{enough}
use Rattle.locks.specs.Places.{place_of}
use Rattle.histories.specs.Calls.{At, Rule, rule, refusal, open_rules, cost_at}
use Rattle.histories.specs.Calls as calls
use Rattle.control.specs.declared.refusal.Refusal.{Refusal}
use Rattle.control.specs.declared.terms.Terms.{Terms}
use Rattle.control.specs.Numbers.{refusal_number}
use Rattle.control.specs.Rulings.{Found, Priced, Next}
use Rattle.control.specs.States.{state, at_of, Does, Did}
use Rattle.cases_plans.specs.Rows.{Row, Says}
use Rattle.cases_plans.proofs.Rows.{alike, right, says}
use Rattle.cases_plans.proofs.Tests.{both, equal}
use Rattle.cases_histories.specs.Sluice.{as_given}
use Rattle.cases_histories.specs.Solving.{Buffers, buffers}
use Rattle.cases_histories.specs.Worlds.{dock, good, terms, Claim, tells_entry, tells_cost, tells_rank, placed, opening, stands, stands_in, finds_quote, finds_step, rules, does, did, Means, rows, OfDocks, WorldsSay}
use Rattle.cases_histories.proofs.Tests.{same_numbers, numbers_tell, same_place, places_tell, same_entry, entries_tell, same_at, ats_tell}
use Rattle.cases_histories.proofs.Takes.{three}
use Rattle.cases_histories.proofs.Solving.{same_entries, entries_same, same_costs, costs_same}
use Rattle.cases_histories.proofs.Decisions.{next_test, next_decided, ruled_test, ruled_decided, does_test, does_decided, did_test, did_decided, same_state, states_tell}
use Rattle.plans.proofs.Decide.{each_in}
use mathlib.Core.Bool.{and-eq-true_iff}

-- ── terms ──

abbrev same_tables : Buffers → Buffers → Bool
same_tables a b = same_entries a.entries b.entries && (same_costs a.costs b.costs && same_numbers a.ranks b.ranks)

terms_is : (p : Port) (a b : Buffers) → a.entries ≡ b.entries → a.costs ≡ b.costs → a.ranks ≡ b.ranks → terms p a ≡ terms p b
terms_is p a b e f g =
    ap (λ es. terms p (buffers es a.costs a.ranks)) e
    ∙ ap (λ fs. terms p (buffers b.entries fs a.ranks)) f
    ∙ ap (λ rs. terms p (buffers b.entries b.costs rs)) g

terms_tell : (p : Port) (a b : Buffers) → (same_tables a b ≡ true) ↔ (terms p a ≡ terms p b)
terms_tell p a b =
    let parts =
    three (same_entries a.entries b.entries) (same_costs a.costs b.costs) (same_numbers a.ranks b.ranks)
    (entries_same a.entries b.entries) (costs_same a.costs b.costs) (numbers_tell a.ranks b.ranks) in (
      λ e. let h = parts.0 e in terms_is p a b h.0 h.1.0 h.1.1,
      λ q. parts.1 (
        ap (λ (t : Terms ℕ (List ℕ)). t.policy.entries.now) q,
        (ap (λ (t : Terms ℕ (List ℕ)). t.policy.costs.now) q, ap (λ (t : Terms ℕ (List ℕ)). t.policy.ranks.now) q),
      ),
    )

-- ── findings ──

abbrev found_by : {X : Type 0} → List Rule → (X → Bool) → Result X Refusal → Bool
found_by rs p (Ok x) = same_place (refusal rs) None && p x
found_by rs p (Err e) = same_place (refusal rs) (Some (refusal_number e))

found_by_decided : {X : Type 0} (rs : List Rule) (p : X → Bool) (P : X → Type 0) → ((x : X) → (p x ≡ true) ↔ P x) → (r : Result X Refusal) →
    (found_by rs p r ≡ true) ↔ Found rs P r
found_by_decided rs p P h (Ok x) = both {Q = P x} (same_place (refusal rs) None) (p x) (places_tell (refusal rs) None) (h x)
found_by_decided rs p P h (Err e) = places_tell (refusal rs) (Some (refusal_number e))

-- ── over what a port says ──

module _ (M : Model) where
  abbrev told : Buffers → World
  told t = world_of (domain_of M) minutes_model as_given t.entries t.costs t.ranks

  abbrev there : ℕ → Option ℕ
  there m = place_of M.conditions m

  abbrev opens : Buffers → ℕ → List Rule
  opens t m = rule 12 (not (enough (domain_of M) t.entries t.costs t.ranks)) ∷ open_rules (told t) M.header.stage (there m)

  abbrev standing : ℕ → Option ℕ → ℕ → At
  standing s o m = at_of M.conditions (state s o m)

  abbrev pub test : Claim → Bool
  test (tells_entry t q c x) = same_entry ((told t).entry q c) x
  test (tells_cost t q c f) = same_numbers ((told t).cost q c) f
  test (tells_rank t s c r) = eqb ((told t).rank s c) r
  test (placed m x) = same_place (there m) x
  test (opening t m x) = same_place (refusal (opens t m)) x
  test (stands s o m a) = same_state (state s o m) a
  test (stands_in s o m a) = same_at (standing s o m) a
  test (finds_quote s q m r) = found_by (calls.quote_rules (told good) s (there m) q) (λ x. same_numbers x (cost_at (told good) q (there m))) r
  test (finds_step s q m r) = found_by (calls.step_rules (told good) s (there m) q) (λ o. next_test (told good) (there m) q o) r
  test (rules s o m k r) = ruled_test (told good) (standing s o m) k r
  test (does s o m k r t s' o' m') = same_tables t good && does_test (told good) M.conditions dock (state s o m) k r (state s' o' m')
  test (did s o m k r t s' o' m') = same_tables t good && did_test (told good) (standing s o m) k (standing s' o' m') r

decided : (p : Port) (x : Claim) → (test (model_of p) x ≡ true) ↔ Means p x
decided p (tells_entry t q c x) = entries_tell ((told (model_of p) t).entry q c) x
decided p (tells_cost t q c f) = numbers_tell ((told (model_of p) t).cost q c) f
decided p (tells_rank t s c r) = equal ((told (model_of p) t).rank s c) r
decided p (placed m x) = places_tell (there (model_of p) m) x
decided p (opening t m x) = places_tell (refusal (opens (model_of p) t m)) x
decided p (stands s o m a) = states_tell (state s o m) a
decided p (stands_in s o m a) = ats_tell (standing (model_of p) s o m) a
decided p (finds_quote s q m r) =
    found_by_decided (calls.quote_rules (told (model_of p) good) s (there (model_of p) m) q)
    (λ x. same_numbers x (cost_at (told (model_of p) good) q (there (model_of p) m)))
    (Priced as_given (told (model_of p) good) (there (model_of p) m) q)
    (λ x. numbers_tell x (cost_at (told (model_of p) good) q (there (model_of p) m))) r
decided p (finds_step s q m r) =
    found_by_decided (calls.step_rules (told (model_of p) good) s (there (model_of p) m) q)
    (λ o. next_test (told (model_of p) good) (there (model_of p) m) q o)
    (Next (told (model_of p) good) (there (model_of p) m) q)
    (λ o. next_decided (told (model_of p) good) (there (model_of p) m) q o) r
decided p (rules s o m k r) = ruled_decided (told (model_of p) good) (standing (model_of p) s o m) k r
decided p (does s o m k r t s' o' m') =
    both {Q = Does as_given (told (model_of p) good) (model_of p).conditions dock (state s o m) k r (state s' o' m')}
    (same_tables t good) (does_test (told (model_of p) good) (model_of p).conditions dock (state s o m) k r (state s' o' m'))
    (terms_tell p t good) (does_decided (told (model_of p) good) (model_of p).conditions dock (state s o m) k r (state s' o' m'))
decided p (did s o m k r t s' o' m') =
    both {Q = Did as_given (told (model_of p) good) (standing (model_of p) s o m) k r (standing (model_of p) s' o' m')}
    (same_tables t good) (did_test (told (model_of p) good) (standing (model_of p) s o m) k (standing (model_of p) s' o' m') r)
    (terms_tell p t good) (did_decided (told (model_of p) good) (standing (model_of p) s o m) k (standing (model_of p) s' o' m') r)

-- ── a dock in memory ──

vec_of : {A : Type 0} → Global → (xs : List A) → length xs ≤ 4096 → Vec A
vec_of heap xs l = record { ptr = null_ptr; len = length xs; cap = length xs; alloc = heap; items = xs; ok = (refl, omega arith); small = omega arith }

marked : Marked 1 (0 ∷ 1 ∷ [])
marked zero l = omega arith
marked (suc zero) l = omega arith
marked (suc (suc i)) l = absurd (omega (arith, l))

rising : Rise (0 ∷ 1 ∷ [])
rising zero zero l m = absurd (omega (arith, l))
rising zero (suc zero) l m = omega arith
rising (suc i) zero l m = absurd (omega (arith, l))
rising (suc i) (suc zero) l m = absurd (omega (arith, l))
rising i (suc (suc j)) l m = absurd (omega (arith, m))

there_are : MovesExist 2 1 dock.moves
there_are zero l = (omega arith, omega arith, omega arith)
there_are (suc i) l = absurd (omega (arith, l))

in_order : MovesRise dock.moves
in_order i j l m = let n : j < 1 = m in absurd (omega (arith, l, n))

module _ (heap : Global) where
  text : (bs : List ℕ) → 0 < length bs → length bs ≤ 63 → Text
  unfolding vec_of
  text bs l m = record { bytes = vec_of heap bs (omega (arith, m)); some = l; few = m }

  request : Request
  request = record { from = 0; to = 1; keep = text (codes "1") (omega arith) (omega arith); reach = text (codes "a") (omega arith) (omega arith) }

  staged : Staged 2 (request ∷ [])
  unfolding request text vec_of
  staged q (inl e) =
      let from : 0 < 2 = omega arith in
      let to : 1 < 2 = omega arith in
      subst (λ (x : Request). (x.from < 2) × (x.to < 2)) (sym e) (from, to)
  staged q (inr n) = absurd n

  kept : KeepsWorded 1 (request ∷ [])
  unfolding step goes verdict request text vec_of
  kept q (inl e) = subst (λ (x : Request). is_formula 1 (vec_items x.keep.bytes) ≡ true) (sym e) refl
  kept q (inr n) = absurd n

  reached : ReachesWorded 1 (request ∷ [])
  unfolding step goes verdict request text vec_of
  reached q (inl e) = subst (λ (x : Request). is_formula 1 (vec_items x.reach.bytes) ≡ true) (sym e) refl
  reached q (inr n) = absurd n

  port : Port
  unfolding vec_of
  port = record {
    header = dock.header;
    conditions = vec_of heap dock.conditions (omega arith);
    moves = vec_of heap dock.moves (omega arith);
    requests = vec_of heap (request ∷ []) (omega arith);
    marks_some = omega arith;
    marks_few = omega arith;
    operations_some = omega arith;
    operations_few = omega arith;
    stages_some = omega arith;
    stages_few = omega arith;
    start_stage = omega arith;
    start_condition = omega arith;
    conditions_few = omega arith;
    conditions_marked = marked;
    conditions_rise = rising;
    moves_few = omega arith;
    moves_exist = there_are;
    moves_rise = in_order;
    requests_few = omega arith;
    requests_staged = staged;
    keeps_worded = kept;
    reaches_worded = reached;
  }

  says_dock : model_of port ≡ dock
  unfolding port request text vec_of
  says_dock = refl

-- ── the rows ──

all_right : each (right (λ x. true) (test dock)) rows ≡ true
all_right = refl

of_docks : (r : Row Claim) → right (λ x. true) (test dock) r ≡ true → OfDocks r.stands r.claim
of_docks r e = go r.stands ((and-eq-true_iff true (alike (test dock r.claim) r.stands)).0 e).1
  where
    said : (b : Bool) → alike (test dock r.claim) b ≡ true → (p : Port) → model_of p ≡ dock → Says b (Means p r.claim)
    said b h p q =
        says (Means p r.claim) (test (model_of p) r.claim) b (decided p r.claim)
        (subst (λ (M : Model). alike (test M r.claim) b ≡ true) (sym q) h)

    go : (b : Bool) → alike (test dock r.claim) b ≡ true → OfDocks b r.claim
    go true h = said true h
    go false h = said false h

pub worlds_say : WorldsSay
worlds_say = (λ r i. of_docks r (each_in (right (λ x. true) (test dock)) rows all_right r i), λ heap. (port heap, says_dock heap))
