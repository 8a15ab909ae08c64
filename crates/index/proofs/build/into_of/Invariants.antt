use Rattle.std.proofs.Common.{◌≡◌, vec_items, vec_len}
use Rattle.index.specs.Indexes.{Flags, Bare}
use Rattle.index.proofs.build.into_of.Given as goal

abbrev pub invariant-loop-m : goal.invariant-loop-m
invariant-loop-m l = (vec_len l.into ≡ vec_len l.port.conditions) × Flags (vec_items l.port.moves) l.m-index (vec_items l.into) × Bare (vec_items l.port.moves) l.m-index (vec_items l.into)
