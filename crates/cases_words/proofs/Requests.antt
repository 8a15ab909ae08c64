-- Requests as they are held in memory: those that a model tells, and what they keep to.
use Rattle.std.proofs.Common.{◌≡◌, ℕ, ◌<◌, ◌≤◌, Bool, true, ◌&&◌, ltb, leb, List, [], ◌∷◌, length, map, refl, ap, ◌∙◌, arith, ltb-true, leb-true}
use mathlib.Core.Bool.{and-eq-true_iff}
use denote.RawPtr.{null_ptr}
use Rattle.std.specs.Global.{Global, Vec}
use Rattle.std.specs.Vec.{vec_items}
use Rattle.std.specs.Bool.{Decides}
use Rattle.std.proofs.lemmas.Bool.Decides.{Decides-and, Decides-ltb}
use Rattle.formula.specs.Grammar.{step, goes, verdict}
use Rattle.formula.specs.Truth.{is_formula}
use Rattle.port.specs.declared.Text.{Text}
use Rattle.port.specs.declared.Request.{Request}
use Rattle.port.specs.Limits.{In}
use Rattle.port.specs.Model.{RequestModel, request_model}
use Rattle.cases_words.specs.Rows.{Said}
use Rattle.cases_words.specs.Requests.{RequestsRow, requests, RequestsHold}
use Rattle.cases_words.proofs.Rows.{said, same_answers}
use Rattle.cases_words.proofs.Limits.{each, each_member, leb_decides, true_decides}
use Rattle.cases_words.proofs.Ports.{staged, staged_decides}

-- ── requests in memory ──

module _ (heap : Global) where
  text_of : (xs : List ℕ) → (0 < length xs) × (length xs ≤ 63) → Text
  text_of xs h =
      let bytes : Vec ℕ = record { ptr = null_ptr; len = length xs; cap = length xs; alloc = heap; items = xs; ok = (refl, omega arith); small = omega arith } in
      record { bytes = bytes; some = h.0; few = h.1 }

abbrev fits : List ℕ → Bool
fits t = ltb 0 (length t) && leb (length t) 63

fitting : (t : List ℕ) → fits t ≡ true → (0 < length t) × (length t ≤ 63)
fitting t e = let h = (and-eq-true_iff (ltb 0 (length t)) (leb (length t) 63)).0 e in (ltb-true 0 (length t) h.0, leb-true (length t) 63 h.1)

abbrev sized : RequestModel → Bool
sized w = fits w.keep && fits w.reach

abbrev each_sized : List RequestModel → Bool
each_sized ws = each sized ws

pub record Held (ws : List RequestModel) : Type 0 where
  pub requests : List Request
  pub such : map request_model requests ≡ ws

held : (heap : Global) (ws : List RequestModel) → each_sized ws ≡ true → Held ws
unfolding text_of
held heap [] e = record { requests = []; such = refl }
held heap (w ∷ ws) e =
    let h = (and-eq-true_iff (sized w) (each_sized ws)).0 e in
    let s = (and-eq-true_iff (fits w.keep) (fits w.reach)).0 h.0 in
    let rest = held heap ws h.1 in
    let q : Request = record { from = w.from; to = w.to; keep = text_of heap w.keep (fitting w.keep s.0); reach = text_of heap w.reach (fitting w.reach s.1) } in
    record { requests = q ∷ rest.requests; such = ap (λ (xs : List RequestModel). w ∷ xs) rest.such }

fits_decides : (t : List ℕ) → Decides (fits t) ((0 < length t) × (length t ≤ 63))
fits_decides t = Decides-and (ltb 0 (length t)) (leb (length t) 63) (Decides-ltb 0 (length t)) (leb_decides (length t) 63)

abbrev Sized : RequestModel → Type 0
Sized w = ((0 < length w.keep) × (length w.keep ≤ 63)) × ((0 < length w.reach) × (length w.reach ≤ 63))

pub held_as : (heap : Global) (ws : List RequestModel) → ((w : RequestModel) → In w ws → Sized w) → Held ws
held_as heap ws h =
    held heap ws ((each_member sized Sized (λ w. Decides-and (fits w.keep) (fits w.reach) (fits_decides w.keep) (fits_decides w.reach)) ws).1 h)

-- ── what they keep to ──

each_map : (test : RequestModel → Bool) (qs : List Request) → each (λ q. test (request_model q)) qs ≡ each test (map request_model qs)
each_map test [] = refl
each_map test (q ∷ qs) = ap (λ b. test (request_model q) && b) (each_map test qs)

-- a test of models that decides what is said of requests
module _ (test : RequestModel → Bool) (P : Request → Type 0) (decides : (q : Request) → Decides (test (request_model q)) (P q)) where
  held_said : (ws : List RequestModel) (holds : Bool) → each test ws ≡ holds →
      (qs : List Request) → map request_model qs ≡ ws → Said holds ((q : Request) → In q qs → P q)
  held_said ws holds e qs m =
      said (each (λ q. test (request_model q)) qs) holds (each_map test qs ∙ ap (each test) m ∙ e)
      (each_member (λ q. test (request_model q)) P decides qs)

abbrev keep_test : RequestModel → Bool
keep_test w = is_formula 2 w.keep

abbrev reach_test : RequestModel → Bool
reach_test w = is_formula 2 w.reach

all_sized : map (λ (r : RequestsRow). each_sized r.requests) requests ≡ map (λ (r : RequestsRow). true) requests
all_sized = refl

all_staged : map (λ (r : RequestsRow). each (staged 2) r.requests) requests ≡ map (λ (r : RequestsRow). r.staged) requests
all_staged = refl

all_keeps : map (λ (r : RequestsRow). each keep_test r.requests) requests ≡ map (λ (r : RequestsRow). r.keeps) requests
unfolding verdict goes step
all_keeps = refl

all_reaches : map (λ (r : RequestsRow). each reach_test r.requests) requests ≡ map (λ (r : RequestsRow). r.reaches) requests
unfolding verdict goes step
all_reaches = refl

pub requests_hold : RequestsHold
requests_hold r i =
    let s = same_answers (λ (r : RequestsRow). each_sized r.requests) (λ (r : RequestsRow). true) requests all_sized r i in
    record {
      held = λ heap. (held heap r.requests s).requests;
      such = λ heap. (held heap r.requests s).such;
      staged =
          held_said (staged 2) (λ q. (q.from < 2) × (q.to < 2)) (λ q. staged_decides 2 (request_model q)) r.requests r.staged
          (same_answers (λ (r : RequestsRow). each (staged 2) r.requests) (λ (r : RequestsRow). r.staged) requests all_staged r i);
      keeps =
          held_said keep_test (λ q. is_formula 2 (vec_items q.keep.bytes) ≡ true) (λ q. true_decides (is_formula 2 (vec_items q.keep.bytes))) r.requests r.keeps
          (same_answers (λ (r : RequestsRow). each keep_test r.requests) (λ (r : RequestsRow). r.keeps) requests all_keeps r i);
      reaches =
          held_said reach_test (λ q. is_formula 2 (vec_items q.reach.bytes) ≡ true) (λ q. true_decides (is_formula 2 (vec_items q.reach.bytes))) r.requests r.reaches
          (same_answers (λ (r : RequestsRow). each reach_test r.requests) (λ (r : RequestsRow). r.reaches) requests all_reaches r i);
    }
