-- A test that decides whether a port is valid, and the rows of ports.
use Rattle.std.proofs.Common.{ℕ, ◌<◌, ◌≤◌, Bool, ◌&&◌, ltb, leb, length, refl}
use Rattle.std.specs.Bool.{Decides}
use Rattle.std.proofs.lemmas.Bool.Decides.{Decides-and, Decides-like, Decides-ltb}
use Rattle.formula.specs.Grammar.{step, goes, verdict}
use Rattle.port.specs.declared.Header.{Header}
use Rattle.port.specs.Limits.{In, no_move, key, Marked, Rise, MovesExist, MovesRise, TextOk}
use Rattle.port.specs.Model.{Model, RequestModel}
use Rattle.port.specs.Valid.{Valid}
use Rattle.cases_words.specs.Ports.{PortRow, ports, PortsHold, large, LargeHold}
use Rattle.cases_words.proofs.Rows.{all_said}
use Rattle.cases_words.proofs.Limits.{leb_decides, each, each_member, climbs, all_marked, marked_decides, rise_decides, exists, moves_exist_decides, moves_rise_decides, is_text, text_decides}

-- a number from 1 to a most
abbrev counted : ℕ → ℕ → Bool
counted n most = ltb 0 n && leb n most

counted_decides : (n most : ℕ) → Decides (counted n most) ((0 < n) × (n ≤ most))
counted_decides n most = Decides-and (ltb 0 n) (leb n most) (Decides-ltb 0 n) (leb_decides n most)

-- the counts of a header
abbrev Counts : Header → Type 0
Counts h = ((0 < h.marks) × (h.marks ≤ 16)) × (((0 < h.operations) × (h.operations ≤ 32)) × ((0 < h.stages) × (h.stages ≤ 16)))

abbrev counts : Header → Bool
counts h = counted h.marks 16 && (counted h.operations 32 && counted h.stages 16)

counts_decides : (h : Header) → Decides (counts h) (Counts h)
counts_decides h =
    Decides-and (counted h.marks 16) (counted h.operations 32 && counted h.stages 16) (counted_decides h.marks 16)
    (Decides-and (counted h.operations 32) (counted h.stages 16) (counted_decides h.operations 32) (counted_decides h.stages 16))

abbrev Starts : Model → Type 0
Starts m = (m.header.stage < m.header.stages) × (m.header.condition < length m.conditions)

abbrev starts : Model → Bool
starts m = ltb m.header.stage m.header.stages && ltb m.header.condition (length m.conditions)

starts_decides : (m : Model) → Decides (starts m) (Starts m)
starts_decides m =
    Decides-and (ltb m.header.stage m.header.stages) (ltb m.header.condition (length m.conditions))
    (Decides-ltb m.header.stage m.header.stages) (Decides-ltb m.header.condition (length m.conditions))

abbrev Conditions : Model → Type 0
Conditions m = (length m.conditions ≤ 256) × (Marked m.header.marks m.conditions × Rise m.conditions)

abbrev conditions : Model → Bool
conditions m = leb (length m.conditions) 256 && (all_marked m.header.marks m.conditions && climbs (λ (c : ℕ). c) 0 m.conditions)

conditions_decides : (m : Model) → Decides (conditions m) (Conditions m)
conditions_decides m =
    Decides-and (leb (length m.conditions) 256) (all_marked m.header.marks m.conditions && climbs (λ (c : ℕ). c) 0 m.conditions)
    (leb_decides (length m.conditions) 256)
    (Decides-and (all_marked m.header.marks m.conditions) (climbs (λ (c : ℕ). c) 0 m.conditions)
    (marked_decides m.header.marks m.conditions) (rise_decides m.conditions))

abbrev Moves : Model → Type 0
Moves m = (length m.moves ≤ 4096) × (MovesExist (length m.conditions) m.header.operations m.moves × MovesRise m.moves)

abbrev moves : Model → Bool
moves m = leb (length m.moves) 4096 && (each (exists (length m.conditions) m.header.operations) m.moves && climbs key no_move m.moves)

moves_decides : (m : Model) → Decides (moves m) (Moves m)
moves_decides m =
    Decides-and (leb (length m.moves) 4096) (each (exists (length m.conditions) m.header.operations) m.moves && climbs key no_move m.moves)
    (leb_decides (length m.moves) 4096)
    (Decides-and (each (exists (length m.conditions) m.header.operations) m.moves) (climbs key no_move m.moves)
    (moves_exist_decides (length m.conditions) m.header.operations m.moves) (moves_rise_decides m.moves))

abbrev pub staged : ℕ → RequestModel → Bool
staged stages q = ltb q.from stages && ltb q.to stages

pub staged_decides : (stages : ℕ) (q : RequestModel) → Decides (staged stages q) ((q.from < stages) × (q.to < stages))
staged_decides stages q = Decides-and (ltb q.from stages) (ltb q.to stages) (Decides-ltb q.from stages) (Decides-ltb q.to stages)

abbrev pub worded : ℕ → RequestModel → Bool
worded marks q = is_text marks q.keep && is_text marks q.reach

pub worded_decides : (marks : ℕ) (q : RequestModel) → Decides (worded marks q) (TextOk marks q.keep × TextOk marks q.reach)
worded_decides marks q = Decides-and (is_text marks q.keep) (is_text marks q.reach) (text_decides marks q.keep) (text_decides marks q.reach)

abbrev Requests : Model → Type 0
Requests m =
    (length m.requests ≤ 32)
    × (((q : RequestModel) → In q m.requests → (q.from < m.header.stages) × (q.to < m.header.stages))
    × ((q : RequestModel) → In q m.requests → TextOk m.header.marks q.keep × TextOk m.header.marks q.reach))

abbrev requests : Model → Bool
requests m = leb (length m.requests) 32 && (each (staged m.header.stages) m.requests && each (worded m.header.marks) m.requests)

requests_decides : (m : Model) → Decides (requests m) (Requests m)
requests_decides m =
    Decides-and (leb (length m.requests) 32) (each (staged m.header.stages) m.requests && each (worded m.header.marks) m.requests)
    (leb_decides (length m.requests) 32)
    (Decides-and (each (staged m.header.stages) m.requests) (each (worded m.header.marks) m.requests)
    (each_member (staged m.header.stages) (λ q. (q.from < m.header.stages) × (q.to < m.header.stages)) (staged_decides m.header.stages) m.requests)
    (each_member (worded m.header.marks) (λ q. TextOk m.header.marks q.keep × TextOk m.header.marks q.reach) (worded_decides m.header.marks) m.requests))

-- all of them
abbrev Parts : Model → Type 0
Parts m = (Counts m.header × Starts m) × (Conditions m × (Moves m × Requests m))

abbrev pub valid : Model → Bool
valid m = (counts m.header && starts m) && (conditions m && (moves m && requests m))

parts_decide : (m : Model) → Decides (valid m) (Parts m)
parts_decide m =
    Decides-and (counts m.header && starts m) (conditions m && (moves m && requests m))
    (Decides-and (counts m.header) (starts m) (counts_decides m.header) (starts_decides m))
    (Decides-and (conditions m) (moves m && requests m) (conditions_decides m) (Decides-and (moves m) (requests m) (moves_decides m) (requests_decides m)))

made : (m : Model) → Parts m → Valid m
made m h =
    let counts = h.0.0 in
    let starts = h.0.1 in
    let conditions = h.1.0 in
    let moves = h.1.1.0 in
    let requests = h.1.1.1 in
    record {
      marks_some = counts.0.0;
      marks_few = counts.0.1;
      operations_some = counts.1.0.0;
      operations_few = counts.1.0.1;
      stages_some = counts.1.1.0;
      stages_few = counts.1.1.1;
      stage = starts.0;
      start = starts.1;
      conditions_few = conditions.0;
      conditions_marked = conditions.1.0;
      conditions_rise = conditions.1.1;
      moves_few = moves.0;
      moves_exist = moves.1.0;
      moves_rise = moves.1.1;
      requests_few = requests.0;
      requests_staged = requests.1.0;
      requests_worded = requests.1.1;
    }

taken : (m : Model) → Valid m → Parts m
taken m v = (
  (
    ((v.marks_some, v.marks_few), ((v.operations_some, v.operations_few), (v.stages_some, v.stages_few))),
    (v.stage, v.start),
  ),
  (
    (v.conditions_few, (v.conditions_marked, v.conditions_rise)),
    ((v.moves_few, (v.moves_exist, v.moves_rise)), (v.requests_few, (v.requests_staged, v.requests_worded))),
  ),
)

pub valid_decides : (m : Model) → Decides (valid m) (Valid m)
valid_decides m = Decides-like (valid m) (made m) (taken m) (parts_decide m)

pub ports_hold : PortsHold
unfolding verdict goes step
ports_hold = all_said _ (λ (r : PortRow). valid r.port) (λ (r : PortRow). r.holds) (λ r. valid_decides r.port) ports refl

pub large_hold : LargeHold
unfolding verdict goes step
large_hold = all_said _ (λ (r : PortRow). valid r.port) (λ (r : PortRow). r.holds) (λ r. valid_decides r.port) large refl
