-- The greatest of a group of moves, and the least over the groups.
use Rattle.std.proofs.Common.{◌≡◌, ℕ, ◌+◌, ◌<◌, Bool, true, false, cond, not, T, ◌⊎◌, List, length, take, Some, None, Decides, Option, sym, refl, ap, ◌∙◌, subst, inl, inr, ⊎_elim, arith}
use Rattle.std.proofs.lemmas.Bool.{cases_lt}
use Rattle.port.specs.Limits.{In, no_move, at}
use Rattle.port.specs.declared.Move.{Move}
use Rattle.costs.specs.Costs.{Model, Laws, WeakLaws, Sized, Le}
use Rattle.search.specs.Labels.{After, Worst, Greatest, Cheapest, By}
use Rattle.costs.specs.Compare.{topped, either, under_of}
use Rattle.tables.specs.Tables.{AllBelow}
use Rattle.search.specs.Groups.{Splits, Topped, Below, Left, Lowered, Unmet, Lowest}
use Rattle.costs.proofs.Order.{was_true, weaken}
use Rattle.index.proofs.Lists.{in_get_d, in_at, front_in, front_last, front_split}
use Rattle.search.proofs.Runs.{worst_map, worst_one, worst_old, worst_new, worst_sized}
use Rattle.tables.proofs.Options.{some_inj, none_some, AllSized}

module _ {k : Model} (laws : WeakLaws k) (V : ℕ → Option (List ℕ)) (good : AllSized k V) where
  sized : (m : Move) (a : List ℕ) → After V m a → Sized k a
  sized m a e = good m.outcome a e

  not_within : (a b : List ℕ) → Sized k a → Sized k b → k.within b a ≡ false → Le k a b
  not_within a b s t e = ⊎_elim (λ h. h) (λ h. absurd (subst T e h)) (laws.total a b s t)

  -- ── the greatest ──

  pub topped_more : (ms : List Move) (i : ℕ) (a : List ℕ) → i < length ms → After V (at ms i) a → (x : Option (List ℕ)) → Topped k V ms i x → Topped k V ms (i + 1) (Some (topped k (k.join (at ms i) a) x))
  topped_more ms i a l e None z =
      let none : (x : Move) → In x (take i ms) → ⊥ = λ x h. subst (λ j. In x (take j ms)) z h in
      worst_one laws (After V) (at ms i) a (front_last no_move ms i l) (λ x h. ⊎_elim (λ q. q) (λ j. absurd (none x j)) (front_split no_move ms i l x h)) e (good _ a e)
  topped_more ms i a l e (Some g) w = go (k.within g (k.join (at ms i) a)) refl
    where
      go : (b : Bool) → k.within g (k.join (at ms i) a) ≡ b → Worst k (After V) (λ m. In m (take (i + 1) ms)) (cond b (k.join (at ms i) a) g)
      go true q = worst_new laws (After V) sized (at ms i) a g (front_last no_move ms i l) (front_split no_move ms i l) e w (was_true q)
      go false q =
          worst_old laws (After V) sized (at ms i) a g (front_in no_move ms i l) (front_split no_move ms i l) e w
          (not_within _ g (laws.join_sized (at ms i) a (good _ a e)) (worst_sized laws (After V) sized g w) q)

  pub missing : (ms : List Move) (i : ℕ) → i < length ms → V (at ms i).outcome ≡ None → Greatest k V ms None
  missing ms i l e f w = none_some (sym e ∙ (w.each (at ms i) (in_get_d no_move ms i l)).1)

  same_cost : {P : Move → Type 0} (f g : List ℕ) → Worst k (After V) P f → Worst k (After V) P g → Le k f g
  same_cost f g v w =
      let t = v.top in
      let x = w.each t.0 t.1 in
      let e : x.0 ≡ t.2.0 = some_inj (sym x.1 ∙ t.2.1) in
      subst (λ y. Le k y g) (ap (k.join t.0) e ∙ t.2.2) x.2

  -- to ask what the greatest is, is to ask whether it is f
  pub greatest_is : (ms : List Move) (f : List ℕ) (x : Option (List ℕ)) (r : Bool) → Greatest k V ms x → Decides r (x ≡ Some f) → Decides r (Worst k (After V) (λ m. In m ms) f)
  greatest_is ms f x r h is = ((λ t. subst (Greatest k V ms) (is.0 t) h), λ w. is.1 (found x h w))
    where
      found : (y : Option (List ℕ)) → Greatest k V ms y → Worst k (After V) (λ m. In m ms) f → y ≡ Some f
      found None h w = absurd (h f w)
      found (Some g) h w = ap Some (laws.tie g f (worst_sized laws (After V) sized g h) (worst_sized laws (After V) sized f w) (same_cost g f h w) (same_cost f g w h))

  -- ── groups ──

  module _ (ms rest group after : List Move) (left : Left ms rest) (splits : Splits rest group after) where
    -- the first of the group is among what was left
    lead : By rest (at group 0).operation (at group 0)
    lead = splits.mine (at group 0) (in_get_d no_move group 0 splits.some)

    -- an operation below what was left is below what is left now
    lower_still : (o : ℕ) → Below rest o → Below after o
    lower_still o below m h = below m (splits.others m h).0

    pub left_next : Left ms after
    left_next = record {
      among = λ m h. left.among m (splits.others m h).0;
      gone = λ m h. ⊎_elim
          (λ i. ⊎_elim
          (λ j. inr (λ n g. subst (λ o. o < n.operation) (sym (splits.mine m j).1) (splits.others n g).1))
          (λ j. inl j)
          (splits.left m i))
          (λ below. inr (lower_still m.operation below))
          (left.gone m h);
    }

    -- the group has the moves by its operation
    group_in : (m : Move) → In m group → By ms (at group 0).operation m
    group_in m h = let r = splits.mine m h in (left.among m r.0, r.1)

    group_out : (m : Move) → By ms (at group 0).operation m → In m group
    group_out m h =
        ⊎_elim
        (λ i. splits.all m (i, h.1))
        (λ below. let x = below (at group 0) lead.0 in let y = h.1 in absurd (omega arith))
        (left.gone m h.0)

    pub group_worst : (f : List ℕ) → Worst k (After V) (λ m. In m group) f → Worst k (After V) (By ms (at group 0).operation) f
    group_worst f = worst_map group_in group_out

    group_back : (f : List ℕ) → Worst k (After V) (By ms (at group 0).operation) f → Worst k (After V) (λ m. In m group) f
    group_back f = worst_map group_out group_in

    -- an operation of the list that is below what is left was below what was left, or it is the group's
    cases_below : (o : ℕ) (g : List ℕ) → Below after o → Worst k (After V) (By ms o) g → Below rest o ⊎ (o ≡ (at group 0).operation)
    cases_below o g below w =
        let t = w.top in
        let same : t.0.operation ≡ o = t.1.1 in
        ⊎_elim
        (λ i. ⊎_elim
        (λ j. inr (sym same ∙ (splits.mine t.0 j).1))
        (λ j. let x = below t.0 j in absurd (omega arith))
        (splits.left t.0 i))
        (λ b. inl (subst (Below rest) same b))
        (left.gone t.0 t.1.0)

    pub lowered_more : (x y : Option (List ℕ)) → Greatest k V group x → Lowered k V ms rest y → Lowered k V ms after (either k x y)
    lowered_more None None h low = λ o g below w. ⊎_elim (λ q. low o g q w) (λ q. h g (group_back g (subst (λ n. Worst k (After V) (By ms n) g) q w))) (cases_below o g below w)
    lowered_more None (Some f) h low = (low.0, λ o g below w. ⊎_elim (λ q. low.1 o g q w) (λ q. absurd (h g (group_back g (subst (λ n. Worst k (After V) (By ms n) g) q w)))) (cases_below o g below w))
    lowered_more (Some f) None h low = (((at group 0).operation, group_worst f h), λ o g below w. ⊎_elim (λ q. absurd (low o g q w)) (λ q. same_cost f g (group_worst f h) (subst (λ n. Worst k (After V) (By ms n) g) q w)) (cases_below o g below w))
    lowered_more (Some f) (Some y) h low = go (k.within f y) refl
      where
        fs : Sized k f
        fs = worst_sized laws (After V) sized f h

        ys : Sized k y
        ys = worst_sized laws (After V) sized y low.0.1

        at_group : (o : ℕ) (g : List ℕ) → o ≡ (at group 0).operation → Worst k (After V) (By ms o) g → Le k f g
        at_group o g q w = same_cost f g (group_worst f h) (subst (λ n. Worst k (After V) (By ms n) g) q w)

        go : (t : Bool) → k.within f y ≡ t → Lowered k V ms after (Some (cond t f y))
        go true e = (((at group 0).operation, group_worst f h), λ o g below w. ⊎_elim (λ q. laws.chain f y g fs ys (worst_sized laws (After V) sized g w) (was_true e) (low.1 o g q w)) (λ q. at_group o g q w) (cases_below o g below w))
        go false e = (low.0, λ o g below w. ⊎_elim (λ q. low.1 o g q w) (λ q. laws.chain y f g ys fs (worst_sized laws (After V) sized g w) (not_within y f ys fs e) (at_group o g q w)) (cases_below o g below w))

    pub unmet_more : (f : List ℕ) → (Worst k (After V) (λ m. In m group) f → ⊥) → Unmet k V ms rest f → Unmet k V ms after f
    unmet_more f differs un o below w = ⊎_elim (λ q. un o q w) (λ q. differs (group_back f (subst (λ n. Worst k (After V) (By ms n) f) q w))) (cases_below o f below w)

    pub met : (f : List ℕ) → Worst k (After V) (λ m. In m group) f → Unmet k V ms rest f → Lowest k V ms f (Some (at group 0).operation)
    met f h un = (group_worst f h, λ p w. ⊎_elim (λ q. absurd (un p (λ m i. lowest p q m i) w)) (λ q. q) (cases_lt p (at group 0).operation))
      where
        lowest : (p : ℕ) → p < (at group 0).operation → Below rest p
        lowest p q m i = ⊎_elim (λ j. let x = (splits.mine m j).1 in omega arith) (λ j. let x = (splits.others m j).1 in omega arith) (splits.left m i)

  -- at the start and at the end
  module _ (ms : List Move) where
    pub left_all : Left ms ms
    left_all = record { among = λ m h. h; gone = λ m h. inl h }

    no_below : (o : ℕ) (g : List ℕ) → Below ms o → Worst k (After V) (By ms o) g → ⊥
    no_below o g below w = let t = w.top in let x = below t.0 t.1.0 in let y = t.1.1 in omega arith

    pub lowered_none : Lowered k V ms ms None
    lowered_none o g below w = no_below o g below w

    pub unmet_none : (f : List ℕ) → Unmet k V ms ms f
    unmet_none f o below w = no_below o f below w

    none_left : (rest : List Move) → length rest ≡ 0 → (o : ℕ) → Below rest o
    none_left rest l o m i = let p = in_at no_move rest m i in let q = p.1 in absurd (omega arith)

    pub lowered_all : (rest : List Move) → length rest ≡ 0 → (x : Option (List ℕ)) → Lowered k V ms rest x → Cheapest k V (By ms) x
    lowered_all rest l None low = λ o g w. low o g (none_left rest l o) w
    lowered_all rest l (Some f) low = (low.0, λ o g w. low.1 o g (none_left rest l o) w)

    pub unmet_all : (rest : List Move) → length rest ≡ 0 → (f : List ℕ) → Unmet k V ms rest f → Lowest k V ms f None
    unmet_all rest l f un p w = un p (none_left rest l p) w

-- where the greatest is f, each outcome is below it: a move makes a cost more
pub worst_below : {k : Model} (laws : Laws k) (V : ℕ → Option (List ℕ)) (good : AllSized k V) (ms : List Move) (f : List ℕ) → Worst k (After V) (λ m. In m ms) f → AllBelow k V ms f
worst_below {k} laws V good ms f w m i =
    let x = w.each m i in
    subst (λ v. under_of k v (Some f) ≡ true) (sym x.1) (go x.0 x.1 x.2 (k.within f x.0) refl)
  where
    fs : Sized k f
    fs = worst_sized (weaken laws) (After V) (λ m a e. good m.outcome a e) f w

    go : (a : List ℕ) → After V m a → Le k (k.join m a) f → (b : Bool) → k.within f a ≡ b → not b ≡ true
    go a e le true q = let s = good _ a e in absurd (laws.grows m a s (laws.chain _ f a (laws.join_sized m a s) fs s le (was_true q)))
    go a e le false q = refl
