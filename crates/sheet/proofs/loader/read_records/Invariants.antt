use Rattle.std.proofs.Common.{◌≡◌, ℕ, ◌+◌, ◌≤◌, length}
use Rattle.records.specs.Drafts.{draft_model}
use Rattle.reading.specs.Reading.{records}
use Rattle.sheet.proofs.loader.read_records.Given as goal

abbrev pub invariant-loop-heap : goal.invariant-loop-heap
invariant-loop-heap l =
    (l.count + length l.reader.rest.now ≤ length l.initial.reader.rest.now)
    × ((fuel : ℕ) → length l.initial.reader.rest.now ≤ fuel → (more : ℕ) × (length l.reader.rest.now ≤ more) × (records fuel 0 (draft_model l.initial.draft) l.initial.reader.place l.initial.reader.rest.now ≡ records more l.count (draft_model l.draft) l.reader.place l.reader.rest.now))

abbrev pub decreases-loop-heap : goal.decreases-loop-heap
decreases-loop-heap l = length l.reader.rest.now
