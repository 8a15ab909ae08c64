-- What a stage of the rounds holds.
use Rattle.std.specs.Prelude.{◌≡◌, ℕ, ◌<◌, Bool, true, false, cond, not, ◌&&◌, List, [], length, map, replicate, vec_items, vec_len, slice_index, slice_index_or}
use Rattle.plans.specs.Flags.{has}
use Rattle.rounds.specs.Rows.{both_rows}
use Rattle.rounds.specs.declared.stages.Stage.{Stage}

-- A stage with every pair left, which counts as one that lost a pair.
pub record IsNew (width : ℕ) (s : Stage) : Type 0 where
  pub alive : vec_items s.alive ≡ replicate width true
  pub next : vec_items s.next ≡ replicate width true
  pub ranks : vec_items s.ranks ≡ replicate width 0
  pub lost : s.lost ≡ true

-- So many of them.
pub record StagesNew (count width : ℕ) (stages : List Stage) : Type 0 where
  pub many : length stages ≡ count
  pub each : (s : ℕ) (d : Stage) → s < count → IsNew width (slice_index_or stages s d)

-- The rows are of one length.
pub record Even (s : Stage) : Type 0 where
  pub next : vec_len s.next ≡ vec_len s.alive
  pub ranks : vec_len s.ranks ≡ vec_len s.alive

-- Of what a round leaves, only the pairs stay that the row has too.
pub record NarrowedBy (row : List Bool) (before after : Stage) : Type 0 where
  pub next : vec_items after.next ≡ both_rows (vec_items before.next) row
  pub alive : after.alive ≡ before.alive
  pub ranks : after.ranks ≡ before.ranks
  pub lost : after.lost ≡ before.lost

-- A round of this number has ended: the pairs are left that it left, and it is the rank of those that it took out.
pub record SettledBy (round : ℕ) (before after : Stage) : Type 0 where
  pub alive : vec_items after.alive ≡ vec_items before.next
  pub next : after.next ≡ before.next
  pub ranks_long : length (vec_items after.ranks) ≡ length (vec_items before.ranks)
  pub ranks : (c : ℕ) → c < length (vec_items before.ranks) →
      slice_index (vec_items after.ranks) c ≡ cond (has (vec_items before.alive) c && not (has (vec_items before.next) c)) round (slice_index (vec_items before.ranks) c)
  -- whether it took one out
  pub kept : after.lost ≡ false → vec_items before.next ≡ vec_items before.alive
  pub lost : after.lost ≡ true → vec_items before.next ≡ vec_items before.alive → ⊥

-- ── the sets and numbers that the stages' rows stand for ──

-- The pair is left.
abbrev pub left_in : List Stage → ℕ → ℕ → Bool
left_in stages s c = has (slice_index_or (map (λ (x : Stage). vec_items x.alive) stages) s []) c

-- The round leaves the pair, as far as it has come.
abbrev pub next_in : List Stage → ℕ → ℕ → Bool
next_in stages s c = has (slice_index_or (map (λ (x : Stage). vec_items x.next) stages) s []) c

-- The number noted for the pair.
abbrev pub rank_in : List Stage → ℕ → ℕ → ℕ
rank_in stages s c = slice_index (slice_index_or (map (λ (x : Stage). vec_items x.ranks) stages) s []) c

-- The ranks of a stage's pairs.
abbrev pub rank_row : Stage → List ℕ
rank_row s = vec_items s.ranks

-- A round of this number has ended at every stage; whether it took a pair out of one.
pub record SettledAll (round : ℕ) (before after : List Stage) (changed : Bool) : Type 0 where
  pub many : length after ≡ length before
  pub each : (s : ℕ) (d : Stage) → s < length before → SettledBy round (slice_index_or before s d) (slice_index_or after s d)
  pub still : changed ≡ false → (s : ℕ) (d : Stage) → s < length before → (slice_index_or after s d).lost ≡ false
  pub some : changed ≡ true → (s : ℕ) × (s < length before) × ((d : Stage) → (slice_index_or after s d).lost ≡ true)
