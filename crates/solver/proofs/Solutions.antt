-- Choices and ranks that are written to the front of buffers are a policy with its ranks.
use Rattle.std.proofs.Common.{◌≡◌, ℕ, ◌+◌, ◌*◌, ◌<◌, true, List, ◌++◌, map, length, get_or, take, drop, vec_len, sym, refl, ap, ◌∙◌, subst, arith}
use Rattle.std.proofs.Math.Seq.{drop-append_seam, take-append_seam}
use lib.ListN.{length-map}
use Rattle.std.proofs.lemmas.List.{get_or-map, get_or-take, take_all, take-map}
use Rattle.plans.specs.Simulation.{Domain, WellFormed, InRange, Rank}
use Rattle.plans.specs.Flags.{rank_at}
use Rattle.plans.proofs.Flags.{row_within}
use Rattle.costs.specs.Costs.{Model}
use Rattle.search.specs.declared.Choice.{Choice}
use Rattle.search.specs.declared.Choice.TheVariants.{None}
use Rattle.solver.specs.Choices.{choice_entry, exact_of}
use Rattle.solver.specs.Policy.{World, Solved, Right, world_of}
use Rattle.solver.specs.Solving.{Filled, RightSolution, Tabled, enough, largest_of, pairs_of, start_of, zeros}
use Rattle.solver.specs.declared.Summary.{Summary}
use Rattle.port.specs.Model.{model_of}
use Rattle.port.specs.declared.held.Port.{Port}
use Rattle.plans.specs.Domains.{domain_of}
use Rattle.solver.specs.declared.Entry.{Entry}
use Rattle.solver.specs.declared.Entry.TheVariants.{None as NoEntry, There as ThereEntry, Work as WorkEntry}
use Rattle.solver.proofs.KeptSets.{kept_largest, kept_simulates}
use Rattle.solver.proofs.Policies.{answer_right}

-- what is read from the front of a list that is a copy
front : {A B : Type 0} (f : A → B) (src : List A) (out : List B) (d : A) (e : B) (i : ℕ) → take (length src) out ≡ map f src → i < length src →
    get_or out i e ≡ f (get_or src i d)
front f src out d e i h l = sym (get_or-take (length src) out i e l) ∙ ap (λ xs. get_or xs i e) h ∙ get_or-map f src i d e l

module _ {K : Type 0} (k : Model) (e : K → List ℕ) (D : Domain) (wf : WellFormed D) (choices : List (Choice K)) (from : List ℕ) (w : RightSolution k e D choices from)
    (entries : List Entry) (costs : List K) (ranks : List ℕ)
    (entries-here : take (length choices) entries ≡ map choice_entry choices)
    (costs-here : take (length choices) (map e costs) ≡ map (exact_of k e) choices)
    (ranks-here : take (length from) ranks ≡ from) where
  place : (q c : ℕ) → q < length D.tasks → c < D.conditions → q * D.conditions + c < length choices
  place q c l h = omega (arith, row_within q (length D.tasks) D.conditions (length choices) l w.chosen.long)

  ranks_right : (s c : ℕ) → InRange D s c → Rank D s c (rank_at D.conditions ranks s c)
  ranks_right s c r =
      let l : s * D.conditions + c < length from = omega (arith, r.1, row_within s D.stages D.conditions (length from) r.0 w.ranked.long) in
      let same : get_or from (s * D.conditions + c) 0 ≡ get_or ranks (s * D.conditions + c) 0 =
      sym (ap (λ xs. get_or xs (s * D.conditions + c) 0) ranks-here) ∙ get_or-take (length from) ranks (s * D.conditions + c) 0 l in
      subst (λ (n : ℕ). Rank D s c n) same (w.ranked.each s c r)

  pub worked_solved : Solved (world_of D k e entries costs ranks)
  worked_solved = record {
    ranked = ranks_right;
    simulates = kept_simulates (world_of D k e entries costs ranks) ranks_right;
    largest = kept_largest (world_of D k e entries costs ranks) ranks_right;
    entered = λ q c l h.
        let row = w.chosen.rows q l in
        let i : ℕ = q * D.conditions + c in
        let W : World = world_of D k e entries costs ranks in
        let right : Right W q c (choice_entry (get_or choices i None)) (exact_of k e (get_or choices i None)) =
        answer_right W wf q row.0 row.1 row.2 row.3 e c h (get_or choices i None) (row.4 c h) in
        subst (λ (x : Entry). Right W q c x (W.cost q c)) (sym (front choice_entry choices entries None NoEntry i entries-here (place q c l h)))
        (subst (λ (f : List ℕ). Right W q c (choice_entry (get_or choices i None)) f) (sym (front (exact_of k e) choices (map e costs) None k.zero i costs-here (place q c l h))) right);
  }

-- The same of tables of the port's own size.
pub worked_tabled : {K : Type 0} (k : Model) (e : K → List ℕ) (D : Domain) → WellFormed D → (choices : List (Choice K)) (ranks : List ℕ) → RightSolution k e D choices ranks →
    (entries : List Entry) (costs : List K) → entries ≡ map choice_entry choices → map e costs ≡ map (exact_of k e) choices → (start_at : ℕ) (summary : Summary) →
    summary.kept ≡ zeros ranks → summary.rounds ≡ largest_of ranks → summary.start ≡ get_or ranks start_at 0 →
    Tabled D k e start_at entries costs ranks summary
worked_tabled k e D wf choices ranks w entries costs entries-made costs-made start_at summary kept rounds start =
    let many : length entries ≡ length choices = ap length entries-made ∙ length-map choices choice_entry in
    let costed : length (map e costs) ≡ length choices = ap length costs-made ∙ length-map choices (exact_of k e) in
    let entries-here = take_all (length choices) entries (omega (arith, many)) ∙ entries-made in
    let costs-here = take_all (length choices) (map e costs) (omega (arith, costed)) ∙ costs-made in
    record {
      entries_long = many ∙ w.chosen.long;
      costs_long = sym (length-map costs e) ∙ costed ∙ w.chosen.long;
      ranks_long = w.ranked.long;
      solved = worked_solved k e D wf choices ranks w entries costs ranks entries-here costs-here (take_all (length ranks) ranks (omega arith));
      kept = kept;
      rounds = rounds;
      start = start;
    }

-- A list that begins as a source does, and goes on as an old list.
pub record Copied {A : Type 0} (from old to : List A) : Type 0 where
  pub here : take (length from) to ≡ from
  pub rest : drop (length from) to ≡ drop (length from) old

-- What a copy to the front leaves.
pub copied_front : {A : Type 0} (from old part : List A) (n : ℕ) → part ≡ from → n ≡ length from → Copied from old (part ++ drop n old)
copied_front {A} from old part n same long =
    let whole : Copied from old (from ++ drop (length from) old) = record { here = take-append_seam from (drop (length from) old); rest = drop-append_seam from (drop (length from) old) } in
    subst (λ (xs : List A). Copied from old (xs ++ drop n old)) (sym same) (subst (λ (i : ℕ). Copied from old (from ++ drop i old)) (sym long) whole)

-- what is read of it in the front
copied_item : {A : Type 0} (from to : List A) (other : A) (i : ℕ) → take (length from) to ≡ from → i < length from → get_or from i other ≡ get_or to i other
copied_item from to other i here l = sym (ap (λ xs. get_or xs i other) here) ∙ get_or-take (length from) to i other l

-- Buffers to whose front a port's tables are copied.
module _ {K : Type 0} (k : Model) (e : K → List ℕ) (D : Domain) (start_at : ℕ) (entries : List Entry) (costs : List K) (ranks : List ℕ) (summary : Summary)
    (t : Tabled D k e start_at entries costs ranks summary) (entries₀ entries' : List Entry) (costs₀ costs' : List K) (ranks₀ ranks' : List ℕ)
    (a : Copied entries entries₀ entries') (b : Copied costs costs₀ costs') (r : Copied ranks ranks₀ ranks') where
  abbrev copy : World
  copy = world_of D k e entries' costs' ranks'

  ranks_same : (s c : ℕ) → InRange D s c → Rank D s c (rank_at D.conditions ranks' s c)
  ranks_same s c h =
      let l : s * D.conditions + c < length ranks = omega (arith, h.1, row_within s D.stages D.conditions (length ranks) h.0 t.ranks_long) in
      subst (λ (n : ℕ). Rank D s c n) (copied_item ranks ranks' 0 (s * D.conditions + c) r.here l) (t.solved.ranked s c h)

  right_same : (q c : ℕ) (x : Entry) (f : List ℕ) → Right (world_of D k e entries costs ranks) q c x f → Right copy q c x f
  right_same q c NoEntry f h = h
  right_same q c ThereEntry f h = h
  right_same q c (WorkEntry o) f h = (h.0, record { begins = h.1.begins; least = h.1.least; lowest = h.1.lowest })

  costs_same : take (length (map e costs)) (map e costs') ≡ map e costs
  costs_same = ap (λ n. take n (map e costs')) (length-map costs e) ∙ take-map e (length costs) costs' ∙ ap (λ xs. map e xs) b.here

  copied_solved : Solved copy
  copied_solved = record {
    ranked = ranks_same;
    simulates = kept_simulates copy ranks_same;
    largest = kept_largest copy ranks_same;
    entered = λ q c l h.
        let i : ℕ = q * D.conditions + c in
        let there : i < length entries = omega (arith, row_within q (length D.tasks) D.conditions (length entries) l t.entries_long, h) in
        let paid : i < length (map e costs) = omega (arith, there, t.entries_long, t.costs_long, length-map costs e) in
        subst (λ (x : Entry). Right copy q c x (copy.cost q c)) (copied_item entries entries' NoEntry i a.here there)
        (subst (λ (f : List ℕ). Right copy q c (get_or entries i NoEntry) f) (copied_item (map e costs) (map e costs') k.zero i costs_same paid)
        (right_same q c _ _ (t.solved.entered q c l h)));
  }

  pub copied_filled : enough D entries₀ costs₀ ranks₀ ≡ true → start_at < pairs_of D → Filled D k e start_at entries₀ entries' costs₀ costs' ranks₀ ranks' summary
  copied_filled fits within =
      let front : ranks ≡ take (pairs_of D) ranks' = sym r.here ∙ ap (λ (n : ℕ). take n ranks') t.ranks_long in
      let inside : start_at < length ranks = omega (arith, within, t.ranks_long) in
      record {
        fits = fits;
        solved = copied_solved;
        entries_rest = subst (λ (n : ℕ). drop n entries' ≡ drop n entries₀) t.entries_long a.rest;
        costs_rest = subst (λ (n : ℕ). drop n costs' ≡ drop n costs₀) t.costs_long b.rest;
        ranks_rest = subst (λ (n : ℕ). drop n ranks' ≡ drop n ranks₀) t.ranks_long r.rest;
        kept = t.kept ∙ ap zeros front;
        rounds = t.rounds ∙ ap largest_of front;
        start = t.start ∙ copied_item ranks ranks' 0 start_at r.here inside;
      }

-- ── a port's counts ──

module _ (p : Port) where
  pub port_pairs : p.header.stages * vec_len p.conditions ≡ pairs_of (domain_of (model_of p))
  port_pairs = ap (λ (n : ℕ). p.header.stages * n) p.conditions.ok.0

  -- the start pair is one of the port's
  pub start_within : p.header.stage * vec_len p.conditions + p.header.condition < pairs_of (domain_of (model_of p))
  start_within =
      omega (arith, row_within p.header.stage p.header.stages (vec_len p.conditions) (p.header.stages * vec_len p.conditions) p.start_stage refl, p.start_condition, port_pairs)

  pub start_is : p.header.stage * vec_len p.conditions + p.header.condition ≡ start_of (model_of p)
  start_is = ap (λ (n : ℕ). p.header.stage * n + p.header.condition) p.conditions.ok.0
