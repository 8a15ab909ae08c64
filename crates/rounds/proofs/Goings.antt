-- From round to round.
use Rattle.std.proofs.Common.{◌≡◌, ℕ, zero, suc, ◌+◌, ◌*◌, ◌<◌, ◌≤◌, Bool, true, false, cond, not, ◌&&◌, List, [], ◌∷◌, length, get_or, vec_items, sym, refl, ap, ◌∙◌, subst, ap₂, inl, inr, ◌⊎◌, true≢false, suc-mul, add-one, arith}
use mathlib.Core.Bool.{false≢true}
use native.Mathlib.Decide.{dec_lt}
use Rattle.std.proofs.lemmas.List.{length-replicate, get_or-replicate}
use Rattle.plans.specs.Simulation.{Domain, WellFormed, InRange, Rank}
use Rattle.plans.specs.Iterate.{Iterates, Stable}
use Rattle.plans.specs.Reach.{left_after}
use Rattle.plans.specs.Flags.{all_served, bit, has, raised, task_at}
use Rattle.plans.proofs.Decide.{left_iterates, serves_same}
use Rattle.plans.proofs.Flags.{bit_true, raised_most}
use Rattle.plans.proofs.Rounds.{served_rows}
use Rattle.plans.proofs.Shrink.{dropped_rank, shrinks, stable_kept}
use Rattle.rounds.specs.Rounds.{FreshFrom, Going, Judged, RoundReady, Turned, count_left, serving}
use Rattle.rounds.specs.Stages.{SettledAll, SettledBy, StagesNew, left_in, next_in, rank_in}
use Rattle.rounds.specs.Tasks.{DomainTasks, Fresh}
use Rattle.rounds.specs.declared.stages.Stage.{Stage}
use Rattle.rounds.specs.declared.tasks.Task.{Task}
use Rattle.rounds.proofs.Lists.{an_element}
use Rattle.rounds.proofs.Freshness.{task_staged}
use Rattle.rounds.proofs.Turns.{left_at, next_at, rank_at_stage}

-- ── flags that are taken down ──

-- of two rows, the second of which raises no flag, the second has fewer up, or they are the same
pub fewer_up : (a b : List Bool) → length b ≡ length a → ((c : ℕ) → has b c ≡ true → has a c ≡ true) → (b ≡ a) ⊎ (raised b < raised a)
fewer_up [] [] e down = inl refl
fewer_up [] (y ∷ b) e down = absurd (omega (arith, e))
fewer_up (x ∷ a) [] e down = absurd (omega (arith, e))
fewer_up (x ∷ a) (y ∷ b) e down = go x y (down 0) (fewer_up a b (omega (arith, e)) (λ c t. down (suc c) t))
  where
    go : (x y : Bool) → (y ≡ true → x ≡ true) → (b ≡ a) ⊎ (raised b < raised a) → (◌≡◌ {A = List Bool} (y ∷ b) (x ∷ a)) ⊎ (raised (y ∷ b) < raised (x ∷ a))
    go true true h (inl p) = inl (ap (λ (l : List Bool). true ∷ l) p)
    go true true h (inr l) = inr (omega (arith, l))
    go true false h (inl p) = inr (omega (arith, ap raised p))
    go true false h (inr l) = inr (omega (arith, l))
    go false true h r = absurd (false≢true (h refl))
    go false false h (inl p) = inl (ap (λ (l : List Bool). false ∷ l) p)
    go false false h (inr l) = inr (omega (arith, l))

-- ── how many pairs are left ──

pub count_fewer : (xs ys : List Stage) → length ys ≡ length xs →
    ((s : ℕ) (d : Stage) → s < length xs → raised (vec_items (get_or ys s d).alive) ≤ raised (vec_items (get_or xs s d).alive)) → count_left ys ≤ count_left xs
count_fewer [] [] e h = omega arith
count_fewer [] (y ∷ ys) e h = absurd (omega (arith, e))
count_fewer (x ∷ xs) [] e h = absurd (omega (arith, e))
count_fewer (x ∷ xs) (y ∷ ys) e h =
    omega (arith, h 0 x (omega arith), count_fewer xs ys (omega (arith, e)) (λ s d l. h (suc s) d (omega arith)))

pub count_less : (xs ys : List Stage) → length ys ≡ length xs →
    ((s : ℕ) (d : Stage) → s < length xs → raised (vec_items (get_or ys s d).alive) ≤ raised (vec_items (get_or xs s d).alive)) →
    (k : ℕ) → k < length xs → ((d : Stage) → raised (vec_items (get_or ys k d).alive) < raised (vec_items (get_or xs k d).alive)) → count_left ys < count_left xs
count_less [] ys e h k l m = absurd (omega arith)
count_less (x ∷ xs) [] e h k l m = absurd (omega (arith, e))
count_less (x ∷ xs) (y ∷ ys) e h zero l m =
    omega (arith, m x, count_fewer xs ys (omega (arith, e)) (λ s d b. h (suc s) d (omega arith)))
count_less (x ∷ xs) (y ∷ ys) e h (suc k) l m =
    omega (arith, h 0 x (omega arith), count_less xs ys (omega (arith, e)) (λ s d b. h (suc s) d (omega arith)) k (omega arith) m)

pub count_most : (n : ℕ) (xs : List Stage) → ((s : ℕ) (d : Stage) → s < length xs → length (vec_items (get_or xs s d).alive) ≡ n) → count_left xs ≤ length xs * n
count_most n [] h = omega arith
count_most n (x ∷ xs) h =
    omega (arith, raised_most (vec_items x.alive), h 0 x (omega arith), count_most n xs (λ s d l. h (suc s) d (omega arith)), suc-mul (length xs) n)

-- ── what a round decides ──

and_sub : (a b : Bool) → (b ≡ true → a ≡ true) → (a && b) ≡ b
and_sub true b h = refl
and_sub false true h = h refl
and_sub false false h = refl

-- a synchronous round: of the pairs left after k rounds, those that each task of their stage serves are those left after k + 1
pub round_left : (D : Domain) → WellFormed D → (k : ℕ) (R S : ℕ → ℕ → Bool) → ((s c : ℕ) → InRange D s c → R s c ≡ left_after D k s c) →
    ((s c : ℕ) → InRange D s c → S s c ≡ (R s c && all_served D (serving D R) (length D.tasks) s c)) →
    (s c : ℕ) → InRange D s c → S s c ≡ left_after D (suc k) s c
round_left D wf k R S before round s c r =
    round s c r
    ∙ ap₂ ◌&&◌ (before s c r)
    (served_rows D R (serving D R) (λ i x l h. refl) s c r.1 ∙ serves_same D wf R (left_after D k) before s c r.1)
    ∙ and_sub (left_after D k s c) (left_after D (suc k) s c) (shrinks D wf (left_after D) (left_iterates D wf) k s c r)

-- what is out after the round, with the round's number noted where it was not before
pub judged_turn : (D : Domain) → WellFormed D → (R S : ℕ → ℕ → Bool) (old new : ℕ → ℕ → ℕ) (k : ℕ) (was changed : Bool) → Judged D R old k was →
    ((s c : ℕ) → InRange D s c → S s c ≡ left_after D (suc k) s c) → ((s c : ℕ) → InRange D s c → S s c ≡ true → R s c ≡ true) →
    ((s c : ℕ) → InRange D s c → new s c ≡ cond (R s c && not (S s c)) (suc k) (old s c)) →
    (changed ≡ false → (s c : ℕ) → InRange D s c → S s c ≡ R s c) → Judged D S new (suc k) changed
judged_turn D wf R S old new k was changed j next down noted same = record {
  alike = next;
  ranked = λ s c r f. out s c r f (R s c) refl;
  zeros = λ s c r t. noted s c r ∙ ap₂ (λ (a b : Bool). cond (a && not b) (suc k) (old s c)) (down s c r t) t ∙ j.zeros s c r (down s c r t);
  lasts = λ e s c r t. ∣ (stable_kept D wf (left_after D) it k (stable e) s c r).0 (sym (j.alike s c r) ∙ down s c r t) ∣₁;
}
  where
    it : Iterates D (left_after D)
    it = left_iterates D wf

    stable : changed ≡ false → Stable D (left_after D) k
    stable e s c r = sym (next s c r) ∙ same e s c r ∙ j.alike s c r

    out : (s c : ℕ) → InRange D s c → S s c ≡ false → (b : Bool) → R s c ≡ b → ∥ Rank D s c (new s c) ∥₁
    out s c r f true b =
        subst (λ (n : ℕ). ∥ Rank D s c n ∥₁) (sym (noted s c r ∙ ap₂ (λ (a x : Bool). cond (a && not x) (suc k) (old s c)) b f))
        ∣ dropped_rank D wf (left_after D) it k s c r (sym (j.alike s c r) ∙ b) (sym (next s c r) ∙ f) ∣₁
    out s c r f false b =
        subst (λ (n : ℕ). ∥ Rank D s c n ∥₁) (sym (noted s c r ∙ ap (λ (a : Bool). cond (a && not (S s c)) (suc k) (old s c)) b)) (j.ranked s c r b)

-- ── one round more ──

and_left : (a b : Bool) → (a && b) ≡ true → a ≡ true
and_left true b h = refl
and_left false b h = h

-- a flag that is up is one of the list's, and past its end none is
past_off : (fs : List Bool) (c : ℕ) → length fs ≤ c → has fs c ≡ false
past_off [] c l = refl
past_off (f ∷ fs) zero l = absurd (omega arith)
past_off (f ∷ fs) (suc c) l = past_off fs c (omega arith)

module _ (D : Domain) (wf : WellFormed D) (tasks tasks' : List Task) (before turned after : List Stage) (k : ℕ) (old changed : Bool) (g : Going D tasks before k old) (on : old ≡ true) (t : Turned D before tasks' turned (length D.tasks)) (s : SettledAll (k + 1) turned after changed) where
  high : length after ≡ D.stages
  high = s.many ∙ t.high

  settled : (x : ℕ) (d : Stage) → x < D.stages → SettledBy (k + 1) (get_or turned x d) (get_or after x d)
  settled x d l = s.each x d (omega (arith, l, t.high))

  -- what is left at a stage is what the round left of it
  now : (x c : ℕ) → x < D.stages → left_in after x c ≡ next_in turned x c
  now x c l =
      let d : Stage = an_element after x (omega (arith, l, high)) in
      left_at after x c d (omega (arith, l, high)) ∙ ap (λ fs. has fs c) (settled x d l).alive ∙ sym (next_at turned x c d (omega (arith, l, t.high)))

  was : (x c : ℕ) → x < D.stages → left_in turned x c ≡ left_in before x c
  was x c l =
      let d : Stage = an_element turned x (omega (arith, l, t.high)) in
      left_at turned x c d (omega (arith, l, t.high)) ∙ ap (λ v. has (vec_items v) c) (t.same x d l).alive ∙ sym (left_at before x c d (omega (arith, l, g.ready.high)))

  round : (x c : ℕ) → InRange D x c → left_in after x c ≡ (left_in before x c && all_served D (serving D (left_in before)) (length D.tasks) x c)
  round x c r = now x c r.0 ∙ t.left x c r

  down : (x c : ℕ) → InRange D x c → left_in after x c ≡ true → left_in before x c ≡ true
  down x c r up = and_left (left_in before x c) (all_served D (serving D (left_in before)) (length D.tasks) x c) (sym (round x c r) ∙ up)

  noted : (x c : ℕ) → InRange D x c → rank_in after x c ≡ cond (left_in before x c && not (left_in after x c)) (k + 1) (rank_in before x c)
  noted x c r =
      let d : Stage = an_element after x (omega (arith, r.0, high)) in
      let la : x < length after = omega (arith, r.0, high) in
      let lt : x < length turned = omega (arith, r.0, t.high) in
      let lb : x < length before = omega (arith, r.0, g.ready.high) in
      let e = settled x d r.0 in
      let long : c < length (vec_items (get_or turned x d).ranks) = omega (arith, (t.wide x d r.0).ranks, r.1) in
      rank_at_stage after x c d la ∙ e.ranks c long
      ∙ ap (λ (b : Bool). cond (b && not (has (vec_items (get_or turned x d).next) c)) (k + 1) (get_or (vec_items (get_or turned x d).ranks) c 0))
      (sym (left_at turned x c d lt) ∙ was x c r.0)
      ∙ ap (λ (b : Bool). cond (left_in before x c && not b) (k + 1) (get_or (vec_items (get_or turned x d).ranks) c 0))
      (sym (next_at turned x c d lt) ∙ sym (now x c r.0))
      ∙ ap (λ (m : ℕ). cond (left_in before x c && not (left_in after x c)) (k + 1) m)
      (ap (λ v. get_or (vec_items v) c 0) (t.same x d r.0).ranks ∙ sym (rank_at_stage before x c d lb))

  -- the stages that lost nothing are as they were
  quiet : (x : ℕ) (d : Stage) → x < D.stages → (get_or after x d).lost ≡ false → vec_items (get_or after x d).alive ≡ vec_items (get_or before x d).alive
  quiet x d l e = (settled x d l).alive ∙ (settled x d l).kept e ∙ ap vec_items (t.same x d l).alive

  fresh : FreshFrom D tasks' after 0
  fresh j d e l lost =
      let to : (task_at D j).to < D.stages = (task_staged D wf j l).1 in
      subst (λ (fs : List Bool). Fresh D fs (get_or tasks' j d)) (sym (quiet (task_at D j).to e to (lost (omega arith))))
      (t.fresh j d e l (λ le. absurd (omega (arith, l, le))))

  ready : RoundReady D tasks' after
  ready = record {
    told = t.told;
    high = high;
    wide = λ x d l. record {
      alive = ap length (settled x d l).alive ∙ (t.wide x d l).next;
      next = ap (λ v. length (vec_items v)) (settled x d l).next ∙ (t.wide x d l).next;
      ranks = (settled x d l).ranks_long ∙ (t.wide x d l).ranks;
    };
    level = λ x d l. ap vec_items (settled x d l).next ∙ sym (settled x d l).alive;
    fresh = fresh;
  }

  -- a stage has no more pairs than before, and fewer where it lost one
  rows_down : (x : ℕ) (d : Stage) → x < D.stages → (c : ℕ) → has (vec_items (get_or after x d).alive) c ≡ true → has (vec_items (get_or before x d).alive) c ≡ true
  rows_down x d l c up =
      sym (left_at before x c d (omega (arith, l, g.ready.high)))
      ∙ down x c (l, inside) (left_at after x c d (omega (arith, l, high)) ∙ up)
    where
      inside : c < D.conditions
      inside = elim (dec_lt c D.conditions) [
        | yes h ↦ h
        | no h ↦ absurd (false≢true (sym (past_off (vec_items (get_or after x d).alive) c (omega (arith, h, (ready.wide x d l).alive))) ∙ up))
      ]

  row_fewer : (x : ℕ) (d : Stage) → x < D.stages →
      (vec_items (get_or after x d).alive ≡ vec_items (get_or before x d).alive) ⊎ (raised (vec_items (get_or after x d).alive) < raised (vec_items (get_or before x d).alive))
  row_fewer x d l =
      fewer_up (vec_items (get_or before x d).alive) (vec_items (get_or after x d).alive) ((ready.wide x d l).alive ∙ sym (g.ready.wide x d l).alive) (rows_down x d l)

  no_more : (x : ℕ) (d : Stage) → x < length before → raised (vec_items (get_or after x d).alive) ≤ raised (vec_items (get_or before x d).alive)
  no_more x d l = go (row_fewer x d (omega (arith, l, g.ready.high)))
    where
      go : (vec_items (get_or after x d).alive ≡ vec_items (get_or before x d).alive) ⊎ (raised (vec_items (get_or after x d).alive) < raised (vec_items (get_or before x d).alive)) →
          raised (vec_items (get_or after x d).alive) ≤ raised (vec_items (get_or before x d).alive)
      go (inl p) = omega (arith, ap raised p)
      go (inr h) = omega (arith, h)

  less : (x : ℕ) (d : Stage) → x < D.stages → (get_or after x d).lost ≡ true → raised (vec_items (get_or after x d).alive) < raised (vec_items (get_or before x d).alive)
  less x d l lost = go (row_fewer x d l)
    where
      go : (vec_items (get_or after x d).alive ≡ vec_items (get_or before x d).alive) ⊎ (raised (vec_items (get_or after x d).alive) < raised (vec_items (get_or before x d).alive)) →
          raised (vec_items (get_or after x d).alive) < raised (vec_items (get_or before x d).alive)
      go (inl p) = absurd ((settled x d l).lost lost (sym (settled x d l).alive ∙ p ∙ ap vec_items (sym (t.same x d l).alive)))
      go (inr h) = h

  -- no more pairs are left than before, and fewer where the round took one out
  going_fewer : count_left after + bit changed ≤ count_left before
  going_fewer = go changed refl
    where
      even : length after ≡ length before
      even = high ∙ sym g.ready.high

      go : (b : Bool) → changed ≡ b → count_left after + bit b ≤ count_left before
      go false e = omega (arith, count_fewer before after even no_more)
      go true e =
          let some = s.some e in
          let at : some.0 < D.stages = omega (arith, some.1, t.high) in
          omega (arith, count_less before after even no_more some.0 (omega (arith, at, g.ready.high)) (λ d. less some.0 d at (some.2 d)))

  pub going_on : Going D tasks' after (k + 1) changed
  going_on = record {
    ready = ready;
    judged = subst (λ (n : ℕ). Judged D (left_in after) (rank_in after) n changed) (sym (add-one k)) (judged_turn D wf (left_in before) (left_in after) (rank_in before) (rank_in after) k old changed g.judged
        (round_left D wf k (left_in before) (left_in after) g.judged.alike round) down
        (λ x c r. noted x c r ∙ ap (λ (n : ℕ). cond (left_in before x c && not (left_in after x c)) n (rank_in before x c)) (add-one k))
        (λ e x c r.
        let d : Stage = an_element after x (omega (arith, r.0, high)) in
        left_at after x c d (omega (arith, r.0, high)) ∙ ap (λ fs. has fs c) (quiet x d r.0 (s.still e x d (omega (arith, r.0, t.high))))
        ∙ sym (left_at before x c d (omega (arith, r.0, g.ready.high)))));
    few = omega (arith, going_fewer, g.few, bit_true old on);
    still = λ e x d l. s.still e x d (omega (arith, l, t.high));
  }

-- ── before the first round ──

pub going_start : (D : Domain) → WellFormed D → (tasks : List Task) (stages : List Stage) → DomainTasks D tasks → StagesNew D.stages D.conditions stages → Going D tasks stages 0 true
going_start D wf tasks stages told new = record {
  ready = record {
    told = told;
    high = new.many;
    wide = λ s d l. record {
      alive = ap length (new.each s d l).alive ∙ length-replicate D.conditions true;
      next = ap length (new.each s d l).next ∙ length-replicate D.conditions true;
      ranks = ap length (new.each s d l).ranks ∙ length-replicate D.conditions 0;
    };
    level = λ s d l. (new.each s d l).next ∙ sym (new.each s d l).alive;
    fresh = λ j d e l lost. absurd (true≢false (sym (new.each (task_at D j).to e (task_staged D wf j l).1).lost ∙ lost (omega arith)));
  };
  judged = record {
    alike = up;
    ranked = λ s c r f. absurd (true≢false (sym (up s c r) ∙ f));
    zeros = λ s c r t.
        let d : Stage = an_element stages s (omega (arith, r.0, new.many)) in
        rank_at_stage stages s c d (omega (arith, r.0, new.many)) ∙ ap (λ (rs : List ℕ). get_or rs c 0) (new.each s d r.0).ranks
        ∙ get_or-replicate D.conditions c 0 0 r.1;
    lasts = λ e. absurd (true≢false e);
  };
  few = omega (
    arith,
    count_most D.conditions stages (λ s d l. ap length (new.each s d (omega (arith, l, new.many))).alive ∙ length-replicate D.conditions true),
    ap (λ (k : ℕ). k * D.conditions) new.many,
    bit_true true refl,
  );
  still = λ e. absurd (true≢false e);
}
  where
    up : (s c : ℕ) → InRange D s c → left_in stages s c ≡ true
    up s c r =
        let d : Stage = an_element stages s (omega (arith, r.0, new.many)) in
        left_at stages s c d (omega (arith, r.0, new.many)) ∙ ap (λ fs. has fs c) (new.each s d r.0).alive ∙ get_or-replicate D.conditions c true false r.1
