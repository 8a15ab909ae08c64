use Rattle.std.proofs.Common.{◌∙◌, arith}
use Rattle.formula.proofs.Exits.{exit}
use Rattle.formula.proofs.Steps.{atom_nought, atom_one, atom_mark, atom_not, atom_group, refused_not, refused_group, refused_end, refused_high, refused_low, refused_close, product_single, product_and, refused_and, sum_only, sum_or, refused_or}
use Rattle.formula.proofs.Marked.+read_atom_read_product_read_sum.Goals as goal

pub read_atom-returns-in_default : goal.read_atom-returns-in_default
read_atom-returns-in_default t c =
    refused_end _ c.args.self.now.marks _ _ c.in_default.ensures c.requires

pub read_atom-returns-in-48 : goal.read_atom-returns-in-48
read_atom-returns-in-48 t c = let s = c.in-Some.ensures in atom_nought _ _ _ _ s.0 (s.1 ∙ c.in-48.is)

pub read_atom-returns-in-49 : goal.read_atom-returns-in-49
read_atom-returns-in-49 t c = let s = c.in-Some.ensures in atom_one _ _ _ _ s.0 (s.1 ∙ c.in-49.is)

pub read_atom-returns-in_err-value-in-33 : goal.read_atom-returns-in_err-value-in-33
read_atom-returns-in_err-value-in-33 t c =
    let s = c.in-Some.ensures in
    let r = c.in_err-value-in-33.ensures in
    rw (exit _ c.from_residual.ensures.1) (refused_not _ c.args.self.now.marks _ _ s.0 (s.1 ∙ c.in-33.is) r)

pub read_atom-returns-in_ok-value-in-33 : goal.read_atom-returns-in_ok-value-in-33
read_atom-returns-in_ok-value-in-33 t c =
    let s = c.in-Some.ensures in
    let r = c.in_ok-value-in-33.ensures in
    atom_not _ _ _ _ s.0 (s.1 ∙ c.in-33.is) r

pub read_atom-returns-in_err-value-in-40 : goal.read_atom-returns-in_err-value-in-40
read_atom-returns-in_err-value-in-40 t c =
    let s = c.in-Some.ensures in
    let r = c.in_err-value-in-40.ensures in
    rw (exit _ c.from_residual-in_err-value-in-40.ensures.1) (refused_group _ c.args.self.now.marks _ _ s.0 (s.1 ∙ c.in-40.is) r)

pub read_atom-returns-then-has : goal.read_atom-returns-then-has
read_atom-returns-then-has t c =
    let s = c.in-Some.ensures in
    let r = c.in_ok-value-in-40.ensures in
    atom_group _ _ _ _ s.0 (s.1 ∙ c.in-40.is) r c.if-has.ensures.0 c.if-has.ensures.1

pub read_atom-returns-else-has : goal.read_atom-returns-else-has
read_atom-returns-else-has t c =
    let s = c.in-Some.ensures in
    let r = c.in_ok-value-in-40.ensures in
    refused_close _ _ _ _ s.0 (s.1 ∙ c.in-40.is) r (λ k e. c.if-has.ensures (k, e))

pub read_atom-returns-then-mark-self : goal.read_atom-returns-then-mark-self
read_atom-returns-then-mark-self t c =
    let s = c.in-Some.ensures in
    rw c.stands_in.ensures (atom_mark _ _ _ _ _ s.0 (omega (arith, s.1)) c.if-mark-self.true)

pub read_atom-returns-else-mark-self : goal.read_atom-returns-else-mark-self
read_atom-returns-else-mark-self t c =
    let s = c.in-Some.ensures in
    refused_high _ c.args.self.now.marks _ _ s.0 (omega (arith, s.1)) (omega (arith, s.1))

pub read_atom-returns-in_default-byte : goal.read_atom-returns-in_default-byte
read_atom-returns-in_default-byte t c =
    let s = c.in-Some.ensures in
    refused_low _ c.args.self.now.marks _ _ s.0 (omega (arith, s.1)) (λ e. omega (arith, s.1)) (λ e. omega (arith, s.1)) (λ e. omega (arith, s.1)) (λ e. omega (arith, s.1))

pub read_product-returns-in_err-more : goal.read_product-returns-in_err-more
read_product-returns-in_err-more t c =
    let r = c.in_err-more.ensures in
    rw (exit _ c.from_residual-in_err-more.ensures.1) (refused_and _ _ _ _ c.in_ok-value.ensures c.if-has.ensures.0 c.if-has.ensures.1 r)

pub read_product-returns-then-value : goal.read_product-returns-then-value
read_product-returns-then-value t c =
    let r = c.in_ok-more.ensures in
    let all = product_and _ _ _ _ c.in_ok-value.ensures c.if-has.ensures.0 c.if-has.ensures.1 r in
    rw c.if-value.true at all

pub read_product-returns-else-value : goal.read_product-returns-else-value
read_product-returns-else-value t c =
    let r = c.in_ok-more.ensures in
    let all = product_and _ _ _ _ c.in_ok-value.ensures c.if-has.ensures.0 c.if-has.ensures.1 r in
    rw c.if-value.false (rw c.if-value.false at all)

pub read_product-returns : goal.read_product-returns
read_product-returns t c = product_single _ _ _ _ c.in_ok-value.ensures (λ k e. c.if-has.ensures (k, e))

pub read_sum-returns-in_err-more : goal.read_sum-returns-in_err-more
read_sum-returns-in_err-more t c =
    let r = c.in_err-more.ensures in
    rw (exit _ c.from_residual-in_err-more.ensures.1) (refused_or _ _ _ _ c.in_ok-value.ensures c.if-has.ensures.0 c.if-has.ensures.1 r)

pub read_sum-returns-then-value : goal.read_sum-returns-then-value
read_sum-returns-then-value t c =
    let r = c.in_ok-more.ensures in
    let all = sum_or _ _ _ _ c.in_ok-value.ensures c.if-has.ensures.0 c.if-has.ensures.1 r in
    rw c.if-value.true (rw c.if-value.true at all)

pub read_sum-returns-else-value : goal.read_sum-returns-else-value
read_sum-returns-else-value t c =
    let r = c.in_ok-more.ensures in
    let all = sum_or _ _ _ _ c.in_ok-value.ensures c.if-has.ensures.0 c.if-has.ensures.1 r in
    rw c.if-value.false at all

pub read_sum-returns : goal.read_sum-returns
read_sum-returns t c = sum_only _ _ _ _ c.in_ok-value.ensures (λ k e. c.if-has.ensures (k, e))
