-- Each of the three answers stands exactly where it should.
use Rattle.std.proofs.Common.{◌≡◌, ℕ, Bool, true, false, List, sym, refl, ◌∙◌, true≢false}
use Rattle.port.specs.declared.Move.{Move}
use Rattle.plans.specs.Plans.{Plan, stop, work, Attains}
use Rattle.search.specs.Answers.{RightChoice}
use Rattle.costs.specs.Costs.{Model}
use Rattle.search.specs.declared.Choice.{Choice}
use Rattle.search.specs.declared.Choice.TheVariants.{None, There, Work}
use Rattle.search.proofs.Runs.{stop_attains}

module _ {A : Type 0} (k : Model) (e : A → List ℕ) (moves : List Move) (keep goal : ℕ → Bool) (c : ℕ) where
  -- where no plan attains the goal, the answer is None
  pub none_where : (x : Choice A) → RightChoice k e moves keep goal c x → ((p : Plan) → Attains moves keep goal p c → ⊥) → x ≡ None
  none_where None h no_plan = refl
  none_where There h no_plan = absurd (no_plan stop (stop_attains moves keep goal c h))
  none_where (Work o a) h no_plan = absurd (no_plan (work o h.1.next) h.1.prices.0)

  -- where the goal holds, it is There
  pub there_where : (x : Choice A) → RightChoice k e moves keep goal c x → goal c ≡ true → x ≡ There
  there_where None h holds = absurd (h stop (stop_attains moves keep goal c holds))
  there_where There h holds = refl
  there_where (Work o a) h holds = absurd (true≢false (sym holds ∙ h.0))

  -- elsewhere, where a plan attains the goal, it is an operation
  pub work_where : (x : Choice A) → RightChoice k e moves keep goal c x → goal c ≡ false → (p : Plan) → Attains moves keep goal p c → (o : ℕ) × ((a : A) × (x ≡ Work o a))
  work_where None h away p a = absurd (h p a)
  work_where There h away p a = absurd (true≢false (sym h ∙ away))
  work_where (Work o a) h away p b = (o, (a, refl))
