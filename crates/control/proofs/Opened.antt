-- What an opening settles.
use Rattle.std.proofs.Common.{◌≡◌, ℕ, ◌+◌, ◌*◌, Bool, true, false, not, eqb, List, length, get_or, Some, None, Option, Result, ok_or, subst, sym, refl, ap, ◌∙◌, inl, inr, eqb→eq}
use Rattle.port.specs.Model.{model_of}
use Rattle.port.specs.declared.held.Port.{Port}
use Rattle.plans.specs.Domains.{domain_of}
use Rattle.plans.proofs.Formed.{port_formed}
use Rattle.costs.specs.Costs.{Model, Laws}
use Rattle.solver.specs.Policy.{World, Solved}
use Rattle.solver.specs.Solving.{enough}
use Rattle.locks.proofs.Standing.{place_is}
use Rattle.histories.specs.Calls.{refusal, offered, placed, rank_of, open_rules, Opens, start_at}
use Rattle.histories.specs.Promise.{Promised, Opening}
use Rattle.histories.proofs.Basics.{was_true, eq_true, passes_clear, clear_passes}
use Rattle.histories.proofs.Rulings.{is_placed}
use Rattle.histories.proofs.Holds.{promise_holds, opening_holds}
use Rattle.control.specs.declared.policy.Policy.{Policy}
use Rattle.control.specs.declared.refusal.Refusal.{Refusal}
use Rattle.control.specs.declared.refusal.Refusal.TheVariants.{NoCondition}
use Rattle.control.specs.Rulings.{Spotted, spot_rules}
use Rattle.control.specs.Worlds.{world, place_in, opening_rules}
use Rattle.control.proofs.Ruled.{stops}

module _ {K : Type 0} (k : Model) (e : K → List ℕ) (p : Port) (t : Policy K) (m : ℕ) where
  abbrev w : World
  w = world k e p t

  abbrev s : ℕ
  s = (model_of p).header.stage

  abbrev room : Bool
  room = enough (domain_of (model_of p)) t.entries.now t.costs.now t.ranks.now

  module _ (m₀ : ℕ) (same : m₀ ≡ m) (fits : room ≡ true) where
    module _ (c : ℕ) (at : Some c ≡ place_in p m₀) (r : ℕ) (read : r ≡ get_or t.ranks.now (s * length (model_of p).conditions + c) 0) where
      here : place_in p m ≡ Some c
      here = ap (place_in p) (sym same) ∙ sym at

      inside : not (placed w (place_in p m)) ≡ false
      inside = ap not (is_placed w (place_in p m) c here (place_is (model_of p).conditions m c here).0)

      rank_is : rank_of w s (place_in p m) ≡ r
      rank_is = ap (rank_of w s) here ∙ sym read

      -- the rank there is not 0
      pub refused_dropped : (r ≡ 0 → ⊥) → refusal (opening_rules k e p t m) ≡ Some 24
      refused_dropped n = stops (opening_rules k e p t m) 24 (inr (ap not fits, inr (inside, inl (ap not (differs (rank_of w s (place_in p m)) 0 (λ z. n (sym rank_is ∙ z))), refl))))
        where
          differs : (x y : ℕ) → (x ≡ y → ⊥) → eqb x y ≡ false
          differs x y ne = go (eqb x y) refl
            where
              go : (b : Bool) → eqb x y ≡ b → b ≡ false
              go true is = absurd (ne (eqb→eq x y (was_true is)))
              go false is = refl

      -- no rule refuses
      pub accepted : r ≡ 0 → refusal (opening_rules k e p t m) ≡ None
      accepted z = clear_passes (opening_rules k e p t m) (ap not fits, (inside, (ap not (eq_true (rank_of w s (place_in p m)) 0 (rank_is ∙ z)), tt)))

  -- past the first rule an opening is one of the world
  pub opens_in : refusal (opening_rules k e p t m) ≡ None → Opens w s (place_in p m)
  opens_in o = let r = passes_clear (opening_rules k e p t m) o in clear_passes (open_rules w s (place_in p m)) r.1

  pub promises : Laws k → refusal (opening_rules k e p t m) ≡ None → Solved w → Promised w (start_at s (place_in p m))
  promises laws o sv = promise_holds w laws (port_formed p) sv s (place_in p m) p.start_stage (opens_in o)

  pub opening : Solved w → (c : ℕ) → place_in p m ≡ Some c → Opening w s c
  opening sv c at = opening_holds w sv s c p.start_stage (place_is (model_of p).conditions m c at).0

-- a look-up of the lock's marks settles where it stands, for a request of the stage
pub spotted : {K : Type 0} (k : Model) (e : K → List ℕ) (p : Port) (t : Policy K) (s m q : ℕ) → offered (world k e p t) s q ≡ true →
    (o : Option ℕ) → o ≡ place_in p m → (r : Result ℕ Refusal) → r ≡ ok_or o NoCondition → Spotted (world k e p t) s (place_in p m) q r
spotted k e p t s m q offer o at r is = subst (λ (x : Result ℕ Refusal). Spotted (world k e p t) s (place_in p m) q x) (sym is) (go o at)
  where
    go : (o : Option ℕ) → o ≡ place_in p m → Spotted (world k e p t) s (place_in p m) q (ok_or o NoCondition)
    go None at =
        stops (spot_rules (world k e p t) s (place_in p m) q) 23
        (inr (ap not offer, inl (ap (λ (x : Option ℕ). not (placed (world k e p t) x)) (sym at), refl)))
    go (Some c) at = record { offer = offer; at = sym at; inside = (place_is (model_of p).conditions m c (sym at)).0 }
