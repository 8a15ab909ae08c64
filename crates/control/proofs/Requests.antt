-- Reading a port's requests.
use Rattle.std.proofs.Common.{◌≡◌, ℕ, ◌<◌, ◌≤◌, Bool, true, false, ◌&&◌, eqb, ltb, map, length, get_or, None, Some, Option, MatchOption, Bor, vec_items, sym, refl, ap, ◌∙◌, arith, ltb→lt, lt→ltb}
use Rattle.std.proofs.lemmas.List.{get_or-map, length-map, get_or_past}
use Rattle.std.specs.List.{ItemBy}
use Rattle.port.specs.Model.{model_of, request_model}
use Rattle.port.specs.declared.Request.{Request}
use Rattle.port.specs.declared.held.Port.{Port}
use Rattle.plans.specs.Domains.{domain_of, task_of}
use Rattle.plans.specs.Flags.{task_at, no_task}
use Rattle.histories.proofs.Basics.{is_true, was_true}

pub lt_true : (i n : ℕ) → i < n → ltb i n ≡ true
lt_true i n h = is_true _ (lt→ltb i n h)

pub lt_false : (i n : ℕ) → n ≤ i → ltb i n ≡ false
lt_false i n h = go (ltb i n) refl
  where
    go : (b : Bool) → ltb i n ≡ b → b ≡ false
    go true e = let l : i < n = ltb→lt i n (was_true e) in absurd (omega arith)
    go false e = refl

module _ (p : Port) where
  -- a port has as many tasks as requests
  pub count_tasks : length (domain_of (model_of p)).tasks ≡ length (vec_items p.requests)
  count_tasks = length-map (map request_model (vec_items p.requests)) (task_of (model_of p)) ∙ length-map (vec_items p.requests) request_model

  -- the task of a request
  pub task_here : (i : ℕ) (r : Request) → i < length (vec_items p.requests) → r ≡ get_or (vec_items p.requests) i r →
      task_at (domain_of (model_of p)) i ≡ task_of (model_of p) (request_model r)
  task_here i r h e =
      let m = model_of p in
      let many : i < length (map request_model (vec_items p.requests)) = omega (arith, h, length-map (vec_items p.requests) request_model) in
      get_or-map (task_of m) m.requests i (request_model r) no_task many
      ∙ ap (task_of m) (get_or-map request_model (vec_items p.requests) i r (request_model r) h ∙ ap request_model (sym e))

  -- what a look-up among the requests says of the one that it finds
  pub offer_of : (i s : ℕ) (o : Option (Bor Request)) (b : Bool) (P : Bor Request → Type 0) →
      ItemBy (λ (x : Bor Request). x.now) (vec_items p.requests) i i o → ((x : Bor Request) → P x → b ≡ eqb x.now.from s) → MatchOption o (b ≡ false) P →
      b ≡ (ltb i (length (domain_of (model_of p)).tasks) && eqb (task_at (domain_of (model_of p)) i).from s)
  offer_of i s None b P l h m =
      let past : length (domain_of (model_of p)).tasks ≤ i = omega (arith, count_tasks, l.3) in
      m ∙ sym (ap (λ b. b && eqb (task_at (domain_of (model_of p)) i).from s) (lt_false i (length (domain_of (model_of p)).tasks) past))
  offer_of i s (Some x) b P l h m =
      let known : i < length (domain_of (model_of p)).tasks = omega (arith, count_tasks, l.3.0) in
      h x m
      ∙ sym
      (ap (λ b. b && eqb (task_at (domain_of (model_of p)) i).from s) (lt_true i (length (domain_of (model_of p)).tasks) known)
      ∙ ap (λ t. eqb t.from s) (task_here i x.now l.3.0 l.1))

  pub target_of : (i t : ℕ) (o : Option (Bor Request)) (P : Bor Request → Type 0) →
      ItemBy (λ (x : Bor Request). x.now) (vec_items p.requests) i i o → ((x : Bor Request) → P x → t ≡ x.now.to) → MatchOption o (t ≡ 0) P →
      t ≡ (task_at (domain_of (model_of p)) i).to
  target_of i t None P l h m = m ∙ ap (λ t. t.to) (sym (get_or_past (domain_of (model_of p)).tasks i no_task (omega (arith, count_tasks, l.3))))
  target_of i t (Some x) P l h m = h x m ∙ sym (ap (λ t. t.to) (task_here i x.now l.3.0 l.1))
