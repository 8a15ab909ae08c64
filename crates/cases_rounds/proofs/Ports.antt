-- The rows of an index in memory: what is said of it depends on what its port says, and is decided at the quay. And there is such an index.
use Rattle.std.proofs.Common.{◌≡◌, ℕ, zero, suc, ◌+◌, ◌<◌, ◌≤◌, Bool, true, false, ◌&&◌, eqb, ltb, ◌↔◌, List, [], ◌∷◌, length, map, Bor, vec_items, vec_len, get_or, sym, refl, ap, ◌∙◌, subst, inl, inr, arith}
use denote.RawPtr.{null_ptr}
use mathlib.Core.Bool.{false≢true}
use Rattle.std.specs.Global.{Global, Vec}
use Rattle.std.specs.List.{AllZip}
use Rattle.std.proofs.Math.Decide.{dec_lt}
use Rattle.formula.specs.Truth.{read, truth}
use Rattle.port.specs.Limits.{at}
use Rattle.port.specs.Model.{Model, RequestModel, request_model, model_of}
use Rattle.port.specs.Valid.{Valid}
use Rattle.port.specs.declared.Move.{Move}
use Rattle.port.specs.declared.Request.{Request}
use Rattle.port.specs.declared.held.Port.{Port}
use Rattle.plans.specs.Domains.{domain_of}
use Rattle.plans.specs.Flags.{task_at}
use Rattle.plans.specs.Reach.{each}
use Rattle.plans.specs.Simulation.{Domain}
use Rattle.plans.proofs.Index.{is_false}
use Rattle.index.specs.Indexed.{port_of}
use Rattle.index.specs.Indexes.{Timed, Flags, Bare, flagged, row}
use Rattle.index.specs.declared.MoveIndex.{MoveIndex}
use Rattle.rounds.specs.Tasks.{IsTask}
use Rattle.rounds.specs.declared.tasks.Task.{Task}
use Rattle.cases_plans.proofs.Rows.{alike, right, all_say}
use Rattle.cases_plans.proofs.Tests.{both, equal, below, same_move, same_moves}
use Rattle.cases_plans.proofs.Values.{alike_iff, same_list, list_tells}
use Rattle.cases_search.specs.Held.{TaskRows, task_of}
use Rattle.cases_search.proofs.Combine.{every_iff, somewhere, somewhere_iff}
use Rattle.cases_search.proofs.Tasks.{is_task_test, is_task_decided}
use Rattle.cases_words.specs.Ports.{quay, yes_is}
use Rattle.cases_words.proofs.Held.{same_limits}
use Rattle.cases_words.proofs.Ports.{ports_hold}
use Rattle.cases_rounds.specs.Ports.{Claim, stages, conditions, transitions, count, wide, high, moving, leads, keeps, reaches, tasks, Means, rows, PortsSay}

-- ── what a port says ──

module _ (heap : Global) (M : Model) where
  abbrev tasks_test : List RequestModel → List TaskRows → Bool
  tasks_test [] [] = true
  tasks_test [] (t ∷ ts) = false
  tasks_test (q ∷ qs) [] = false
  tasks_test (q ∷ qs) (t ∷ ts) = is_task_test M.header.marks M.conditions q (task_of heap t) && tasks_test qs ts

  abbrev D : Domain
  D = domain_of M

  abbrev test : Claim → Bool
  test (stages n) = eqb M.header.stages n
  test (conditions cs) = same_list eqb M.conditions cs
  test (transitions ms) = same_list same_move M.moves ms
  test (count n) = eqb (length M.conditions) n
  test (wide n) = eqb D.conditions n
  test (high n) = eqb D.stages n
  test (moving ms) = same_list same_move D.moves ms
  test (leads i s t) = eqb (task_at D i).from s && eqb (task_at D i).to t
  test (keeps i c b) = alike ((task_at D i).keep c) b
  test (reaches i c b) = alike ((task_at D i).reach c) b
  test (tasks ts) = tasks_test M.requests ts

tasks_decided : (heap : Global) (p : Port) (qs : List Request) (ts : List TaskRows) →
    (tasks_test heap (model_of p) (map request_model qs) ts ≡ true)
    ↔ AllZip (λ (q : Request) (t : Task). IsTask p.header.marks (vec_items p.conditions) (request_model q) t) qs (map (task_of heap) ts)
tasks_decided heap p [] [] = (λ e. tt, λ h. refl)
tasks_decided heap p [] (t ∷ ts) = (λ e. absurd (false≢true e), λ h. absurd h)
tasks_decided heap p (q ∷ qs) [] = (λ e. absurd (false≢true e), λ h. absurd h)
tasks_decided heap p (q ∷ qs) (t ∷ ts) =
    both (is_task_test p.header.marks (vec_items p.conditions) (request_model q) (task_of heap t)) (tasks_test heap (model_of p) (map request_model qs) ts)
    (is_task_decided p.header.marks (vec_items p.conditions) (request_model q) (task_of heap t)) (tasks_decided heap p qs ts)

decided : (heap : Global) (index : MoveIndex) (x : Claim) → (test heap (model_of (port_of index)) x ≡ true) ↔ Means heap index x
decided heap index (stages n) = equal (port_of index).header.stages n
decided heap index (conditions cs) = list_tells eqb equal (vec_items (port_of index).conditions) cs
decided heap index (transitions ms) = list_tells same_move same_moves (vec_items (port_of index).moves) ms
decided heap index (count n) =
    let many : vec_len (port_of index).conditions ≡ length (vec_items (port_of index).conditions) = (port_of index).conditions.ok.0 in
    let same = equal (length (vec_items (port_of index).conditions)) n in
    (λ e. many ∙ same.0 e, λ q. same.1 (sym many ∙ q))
decided heap index (wide n) = equal (domain_of (model_of (port_of index))).conditions n
decided heap index (high n) = equal (domain_of (model_of (port_of index))).stages n
decided heap index (moving ms) = list_tells same_move same_moves (domain_of (model_of (port_of index))).moves ms
decided heap index (leads i s t) =
    let q = task_at (domain_of (model_of (port_of index))) i in
    both (eqb q.from s) (eqb q.to t) (equal q.from s) (equal q.to t)
decided heap index (keeps i c b) = alike_iff ((task_at (domain_of (model_of (port_of index))) i).keep c) b
decided heap index (reaches i c b) = alike_iff ((task_at (domain_of (model_of (port_of index))) i).reach c) b
decided heap index (tasks ts) = tasks_decided heap (port_of index) (vec_items (port_of index).requests) ts

-- ── an index in memory ──

vec_of : {A : Type 0} → Global → (xs : List A) → length xs ≤ 4096 → Vec A
vec_of heap xs l = record { ptr = null_ptr; len = length xs; cap = length xs; alloc = heap; items = xs; ok = (refl, omega arith); small = omega arith }

-- a reference, wherever it points
abbrev shared : {X : Type 0} → X → Bor X
shared x = record { ref_ptr = (0, 0); now = x }

-- what a function gives for n numbers, from the i-th
abbrev made : {A : Type 0} → (ℕ → A) → ℕ → ℕ → List A
made f i zero = []
made f i (suc n) = f i ∷ made f (suc i) n

made_many : {A : Type 0} (f : ℕ → A) (i n : ℕ) → length (made f i n) ≡ n
made_many f i zero = refl
made_many f i (suc n) = let h = made_many f (suc i) n in omega arith

made_at : {A : Type 0} (f : ℕ → A) (i n c : ℕ) (d : A) → c < n → get_or (made f i n) c d ≡ f (i + c)
made_at f i zero c d l = absurd (omega (arith, l))
made_at f i (suc n) zero d l = let e : i ≡ i + 0 = omega arith in ap f e
made_at f i (suc n) (suc c) d l = let e : suc i + c ≡ i + suc c = omega arith in made_at f (suc i) n c d (omega (arith, l)) ∙ ap f e

made_past : {A : Type 0} (f : ℕ → A) (i n c : ℕ) (d : A) → n ≤ c → get_or (made f i n) c d ≡ d
made_past f i zero c d g = refl
made_past f i (suc n) zero d g = absurd (omega (arith, g))
made_past f i (suc n) (suc c) d g = made_past f (suc i) n c d (omega (arith, g))

made_first : {A : Type 0} (f : ℕ → A) (n c : ℕ) (d : A) → c < n → get_or (made f 0 n) c d ≡ f c
made_first f n c d l = let e : 0 + c ≡ c = omega arith in made_at f 0 n c d l ∙ ap f e

-- a row for each of n outcomes, with a flag for each condition from which one of the first k moves leads to it
module _ (ms : List Move) (k n : ℕ) where
  abbrev goes : ℕ → ℕ → ℕ → Bool
  goes c d j = eqb (at ms j).condition c && eqb (at ms j).outcome d

  abbrev flag : ℕ → ℕ → Bool
  flag d c = somewhere (goes c d) k

  abbrev flags_row : ℕ → List Bool
  flags_row d = made (flag d) 0 256

  abbrev flag_rows : List (List Bool)
  flag_rows = made flags_row 0 n

  flag_iff : (c d : ℕ) → (flag d c ≡ true) ↔ ((j : ℕ) × (j < k) × (((at ms j).condition ≡ c) × ((at ms j).outcome ≡ d)))
  flag_iff c d =
      somewhere_iff (goes c d) k (λ j l. both (eqb (at ms j).condition c) (eqb (at ms j).outcome d) (equal (at ms j).condition c) (equal (at ms j).outcome d))

  flag_at : (c d : ℕ) → c < 256 → d < n → flagged flag_rows c d ≡ flag d c
  flag_at c d l m = ap (λ (xs : List Bool). get_or xs c false) (made_first flags_row n d [] m) ∙ made_first (flag d) 256 c false l

  raised : ((j : ℕ) → j < k → ((at ms j).condition < 256) × ((at ms j).outcome < n)) → Flags ms k flag_rows
  raised inside j l =
      let h = inside j l in
      flag_at (at ms j).condition (at ms j).outcome h.0 h.1 ∙ (flag_iff (at ms j).condition (at ms j).outcome).1 (j, l, (refl, refl))

  no_other : Bare ms k flag_rows
  no_other c d none =
      elim (dec_lt d n) [
        | yes m ↦ elim (dec_lt c 256) [
          | yes l ↦ flag_at c d l m ∙ is_false (flag d c) (λ e. let t = (flag_iff c d).0 e in none t.0 t.1 t.2.0 t.2.1)
          | no g ↦ ap (λ (xs : List Bool). get_or xs c false) (made_first flags_row n d [] m) ∙ made_past (flag d) 0 256 c false (omega arith)
        ]
        | no g ↦ ap (λ (xs : List Bool). get_or xs c false) (made_past flags_row 0 n d [] (omega arith))
      ]

module _ (heap : Global) (p : Port) (quick : Timed (vec_items p.moves)) where
  abbrev found : ℕ → Bor (List Move)
  found c = shared (row c (vec_items p.moves))

  few : length (made found 0 (vec_len p.conditions)) ≤ 4096
  few = omega (arith, made_many found 0 (vec_len p.conditions), p.conditions_few)

  short : length (flag_rows (vec_items p.moves) (vec_len p.moves) (vec_len p.conditions)) ≤ 4096
  short = omega (arith, made_many (flags_row (vec_items p.moves) (vec_len p.moves) (vec_len p.conditions)) 0 (vec_len p.conditions), p.conditions_few)

  inside : (j : ℕ) → j < vec_len p.moves → ((at (vec_items p.moves) j).condition < 256) × ((at (vec_items p.moves) j).outcome < vec_len p.conditions)
  inside j l =
      let e = p.moves_exist j (let m = p.moves.ok.0 in omega (arith, l, m)) in
      (let a = e.0 in omega (arith, a, p.conditions_few), e.2)

  indexed : MoveIndex
  unfolding vec_of
  indexed = record {
    port = shared p;
    rows = vec_of heap (made found 0 (vec_len p.conditions)) few;
    into = vec_of heap (flag_rows (vec_items p.moves) (vec_len p.moves) (vec_len p.conditions)) short;
    timed = quick;
    counted = made_many found 0 (vec_len p.conditions);
    parted = λ c r l. ap (λ (b : Bor (List Move)). b.now) (made_first found (vec_len p.conditions) c r l);
    wide = made_many (flags_row (vec_items p.moves) (vec_len p.moves) (vec_len p.conditions)) 0 (vec_len p.conditions);
    flags = raised (vec_items p.moves) (vec_len p.moves) (vec_len p.conditions) inside;
    bare = no_other (vec_items p.moves) (vec_len p.moves) (vec_len p.conditions);
  }

  its_port : port_of indexed ≡ p
  unfolding indexed
  its_port = refl

quay_timed : Timed quay.moves
quay_timed = (every_iff (λ i. ltb (at quay.moves i).minutes 65536) (length quay.moves) (λ i l. below (at quay.moves i).minutes 65536)).0 refl

quay_valid : Valid quay
quay_valid = ports_hold (yes_is quay) (inr (inl refl))

is_index : (heap : Global) (p : Port) → model_of p ≡ quay → (index : MoveIndex) × (model_of (port_of index) ≡ quay)
is_index heap p q =
    let quick = subst (λ (m : Model). Timed m.moves) (sym q) quay_timed in
    (indexed heap p quick, ap model_of (its_port heap p quick) ∙ q)

-- ── the rows ──

module _ (heap : Global) where
  all_right : each (right (λ x. true) (test heap quay)) rows ≡ true
  unfolding read truth
  all_right = refl

pub ports_say : PortsSay
ports_say = (
  λ heap index q.
      all_say (Means heap index) (λ x. true) (test heap (model_of (port_of index))) (λ x e. decided heap index x) rows
      (subst (λ (m : Model). each (right (λ x. true) (test heap m)) rows ≡ true) (sym q) (all_right heap)),
  λ heap. let p = same_limits.held heap quay quay_valid in is_index heap p.0 p.1,
)
