-- The rows of the two models, and of how costs are compared.
use Rattle.std.proofs.Common.{◌≡◌, Bool, true, ◌↔◌, refl}
use Rattle.plans.specs.Reach.{each}
use Rattle.costs.specs.Models.{lexb, lex→, →lex}
use Rattle.costs.proofs.Order.{was_true}
use Rattle.cases_plans.specs.Models.{rows, ModelsSay, Two, Ordered, orders, OrdersSay}
use Rattle.cases_plans.specs.Compare as compare
use Rattle.cases_plans.specs.Compare.{CompareSay}
use Rattle.cases_plans.proofs.Rows.{right, all_say}
use Rattle.cases_plans.proofs.Costs.{was_so}
use Rattle.cases_plans.proofs.Values.{told, values_say}

models_told : told rows ≡ true
models_told = refl

pub models_say : ModelsSay
models_say = values_say rows models_told

compare_told : told compare.rows ≡ true
compare_told = refl

pub compare_say : CompareSay
compare_say = values_say compare.rows compare_told

abbrev test : Two → Bool
test t = lexb t.minutes t.moves t.minutes' t.moves'

decided : (t : Two) → (test t ≡ true) ↔ Ordered t
decided t = (
  λ e. lex→ t.minutes t.moves t.minutes' t.moves' (was_true e),
  λ h. was_so (test t) (→lex t.minutes t.moves t.minutes' t.moves' h),
)

all_right : each (right (λ x. true) test) orders ≡ true
all_right = refl

pub orders_say : OrdersSay
orders_say = all_say Ordered (λ x. true) test (λ x e. decided x) orders all_right
