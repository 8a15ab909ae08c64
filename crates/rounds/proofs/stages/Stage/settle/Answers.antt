use Rattle.std.proofs.Common.{◌≡◌, ℕ, Bool, true, false, not, List, length, get_or, vec_items, sym, refl, ap, ◌∙◌, true≢false}
use Rattle.std.specs.Cmp.{booleans_Decides}
use Rattle.std.proofs.lemmas.List.{take_at}
use Rattle.std.proofs.lemmas.Slice.Eq.{slice_eq-Decides}
use Rattle.rounds.proofs.stages.Stage.settle.Goals as goal

up : (x r : Bool) → r ≡ not x → r ≡ false → x ≡ true
up true r e f = refl
up false r e f = absurd (true≢false (sym e ∙ f))

down : (x r : Bool) → r ≡ not x → r ≡ true → x ≡ true → ⊥
down true r e f t = absurd (true≢false (sym f ∙ e))
down false r e f t = true≢false (sym t)

pub returns : goal.returns
returns c =
    let same = take_at c.note.new.ranks _ _ (c.note.auto.ranks ∙ c.deref_mut.ensures.len) in
    let noted = rw (c.deref.ensures.value, c.deref-2.ensures.value, c.deref_mut.ensures.value) at c.note.ensures in
    let decides = slice_eq-Decides booleans_Decides (vec_items c.args.self.now.alive) (vec_items c.args.self.now.next) _ refl in
    record {
      alive = c.copy_from_slice.ensures.items ∙ c.deref-3.ensures.value;
      next = refl;
      ranks_long = ap length same ∙ c.note.auto.ranks ∙ ap length c.deref_mut.ensures.value;
      ranks = λ k l. ap (λ (rs : List ℕ). get_or rs k 0) same ∙ noted k l;
      kept = λ e. sym (decides.0 (up _ c.ne-self.result c.ne-self.ensures e));
      lost = λ e p. down _ c.ne-self.result c.ne-self.ensures e (decides.1 (sym p));
    }
