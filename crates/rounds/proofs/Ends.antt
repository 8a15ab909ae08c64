-- After the last round.
use Rattle.std.proofs.Common.{◌≡◌, ℕ, ◌+◌, ◌*◌, ◌<◌, Bool, true, false, ◌&&◌, ◌↔◌, List, length, get_or, vec_items, sym, refl, ap, ◌∙◌, subst, ap₂, arith}
use mathlib.Core.Bool.{and-eq-true_iff}
use Rattle.std.proofs.Math.Logic.{∥∥₁_elim, ∥∥₁_map}
use Rattle.std.proofs.Props.{props}
use Rattle.std.specs.List.{flat_map}
use Rattle.plans.specs.Simulation.{Domain, WellFormed, InRange, Kept, Rank}
use Rattle.plans.specs.Flags.{has, rank_at, task_at}
use Rattle.plans.proofs.Ranks.{kept_rank, left_serves, rank_of, rank_unique}
use Rattle.plans.proofs.Serve.{kept_row}
use Rattle.rounds.specs.Rounds.{Going}
use Rattle.rounds.specs.Stages.{left_in, rank_in, rank_row}
use Rattle.rounds.specs.Tasks.{Fresh}
use Rattle.rounds.specs.Verdicts.{Judges}
use Rattle.rounds.specs.declared.stages.Stage.{Stage}
use Rattle.rounds.specs.declared.tasks.Task.{Task}
use Rattle.rounds.proofs.Lists.{an_element, joined_at, joined_long}
use Rattle.rounds.proofs.Freshness.{task_staged}
use Rattle.rounds.proofs.Turns.{left_at, rank_at_stage}

module _ (D : Domain) (wf : WellFormed D) (tasks : List Task) (stages : List Stage) (k : ℕ) (changed : Bool) (g : Going D tasks stages k changed) (over : changed ≡ false) where
  -- a pair has one rank, so it is enough that there is a proof that this is it
  rank_shown : (s c n : ℕ) → InRange D s c → ∥ Rank D s c n ∥₁ → Rank D s c n
  rank_shown s c n r p =
      let t = rank_of D wf s c r in
      subst (Rank D s c) (∥∥₁_elim p (search props) (λ a. rank_unique D s c t.0 n t.2 a)) t.2

  rank_none : (s c : ℕ) → InRange D s c → left_in stages s c ≡ true → Rank D s c 0
  rank_none s c r up = rank_shown s c 0 r (∥∥₁_map (g.judged.lasts over s c r up) (kept_rank D s c))

  -- what is left is what is kept
  kept : (s c : ℕ) → InRange D s c → (left_in stages s c ≡ true) ↔ Kept D s c
  kept s c r = (λ up. (rank_none s c r up).0, λ h. g.judged.alike s c r ∙ (left_serves D wf k s c r).1 (kept_row D s c h k))

  ranked : (s c : ℕ) → InRange D s c → Rank D s c (rank_in stages s c)
  ranked s c r = go (left_in stages s c) refl
    where
      go : (b : Bool) → left_in stages s c ≡ b → Rank D s c (rank_in stages s c)
      go true up = subst (Rank D s c) (sym (g.judged.zeros s c r up)) (rank_none s c r up)
      go false f = rank_shown s c (rank_in stages s c) r (g.judged.ranked s c r f)

  wide : (s : ℕ) (d : Stage) → s < length stages → length (rank_row (get_or stages s d)) ≡ D.conditions
  wide s d l = (g.ready.wide s d (omega (arith, l, g.ready.high))).ranks

  fresh : (i : ℕ) (d : Task) (e : Stage) → i < length D.tasks → Fresh D (vec_items (get_or stages (task_at D i).to e).alive) (get_or tasks i d)
  fresh i d e l = g.ready.fresh i d e l (λ le. g.still over (task_at D i).to e (task_staged D wf i l).1)

  stage : (i : ℕ) → i < length D.tasks → Stage
  stage i l = an_element stages (task_at D i).to (subst (λ (n : ℕ). (task_at D i).to < n) (sym g.ready.high) (task_staged D wf i l).1)

  pub going_done : (ranks : List ℕ) → ranks ≡ flat_map rank_row stages → Judges D tasks ranks
  going_done ranks is = record {
    works = record {
      many = g.ready.told.many;
      long = λ i d l. (g.ready.told.each i d l).keep_long;
      each = λ i c d l h. (g.ready.told.each i d l).keep c h;
    };
    ends = record {
      many = g.ready.told.many;
      long = λ i d l. (fresh i d (stage i l) l).goal_long;
      each = λ i c d l h.
          let to : (task_at D i).to < D.stages = (task_staged D wf i l).1 in
          let e : Stage = stage i l in
          let here : has (vec_items (get_or tasks i d).goal) c ≡ ((task_at D i).reach c && left_in stages (task_at D i).to c) =
          (fresh i d e l).goal c h
          ∙ ap₂ ◌&&◌ ((g.ready.told.each i d l).reach c h) (sym (left_at stages (task_at D i).to c e (subst (λ (n : ℕ). (task_at D i).to < n) (sym g.ready.high) to))) in
          let two = and-eq-true_iff ((task_at D i).reach c) (left_in stages (task_at D i).to c) in
          let both = kept (task_at D i).to c (to, h) in (
            λ t. let p = two.0 (sym here ∙ t) in (p.0, both.0 p.1),
            λ p. here ∙ two.1 (p.0, both.1 p.1),
          );
    };
    ranked = record {
      long = ap length is ∙ joined_long rank_row D.conditions stages wide ∙ ap (λ (n : ℕ). n * D.conditions) g.ready.high;
      each = λ s c r.
          let l : s < length stages = omega (arith, r.0, g.ready.high) in
          let d : Stage = an_element stages s l in
          let at : rank_at D.conditions ranks s c ≡ rank_in stages s c =
          ap (λ (rs : List ℕ). get_or rs (s * D.conditions + c) 0) is ∙ joined_at rank_row D.conditions stages wide s c d 0 l r.1 ∙ sym (rank_at_stage stages s c d l) in
          subst (Rank D s c) (sym at) (ranked s c r);
    };
  }
