-- Onto which costs a move more may be joined.
use Rattle.std.proofs.Common.{◌≡◌, ℕ, ◌-◌, ◌<◌, ◌≤◌, true, List, length, get_or, Some, None, Option, ap, subst, arith}
use Rattle.port.specs.Limits.{In}
use Rattle.port.specs.declared.Move.{Move}
use Rattle.plans.specs.Plans.{Within}
use Rattle.costs.specs.Compare.{shown, under_of}
use Rattle.costs.specs.Costs.{Model, most_joined}
use Rattle.index.specs.Indexes.{From}
use Rattle.tables.specs.Tables.{looked, AllBelow}
use Rattle.search.specs.Labels.{Few, FewBelow, FewAfter, done}
use Rattle.search.specs.Steps.{Early, Spare}
use Rattle.costs.proofs.Order.{not_true}
use Rattle.search.proofs.Settle.{widen}
use Rattle.search.proofs.Tables.{done_most, done_open, unshown_none}

module _ {A : Type 0} (k : Model) (e : A → List ℕ) (t : List (Option A)) where
  -- where each outcome of the moves is below f
  pub after_below : (ms : List Move) (f : List ℕ) → AllBelow k (looked e t) ms f → FewBelow k e (most_joined - 1) t f → FewAfter k e t ms
  after_below ms f below few m a i q = few m.outcome a q (not_true _ (subst (λ v. under_of k v (Some f) ≡ true) (ap (shown e) q) (below m i)))

  -- where the moves are among others
  pub after_among : (ms ns : List Move) → ((m : Move) → In m ns → In m ms) → FewAfter k e t ms → FewAfter k e t ns
  after_among ms ns among few m a i q = few m a (among m i) q

  -- where they lead from a condition without a cost
  pub after_open : (n : ℕ) (moves : List Move) (within : Within n moves) (c : ℕ) (ms : List Move) → From moves c ms → Spare k e n (most_joined - 1) t → looked e t c ≡ None → FewAfter k e t ms
  after_open n moves within c ms from spare none m a i q =
      let r = from.are m i in
      spare c (subst (λ d. d < n) r.1 (within m r.0).0) none m.outcome a q

  -- while a table has room for one cost more, and when it is full
  pub spare_all : (n : ℕ) → n ≤ 256 → length t ≡ n → Few k e (done t - 1) t → Spare k e n (most_joined - 1) t
  spare_all n small l few c m none d a q =
      let h = done_open t c (omega arith) (unshown_none e (get_or t c None) none) in
      widen (done t - 1) (most_joined - 1) (omega arith) (few d a q)

  pub early_all : (n : ℕ) → n ≤ 256 → length t ≡ n → Early k e (done t - 2) t → Early k e (most_joined - 1) t
  early_all n small l early d f p c a q w = let m = done_most t in widen (done t - 2) (most_joined - 1) (omega arith) (early d f p c a q w)
