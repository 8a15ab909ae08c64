use Rattle.rounds.proofs.Lists.{all_zip_push, item_in}
use Rattle.rounds.proofs.tasks.tasks_of.Goals as goal

pub new-requires : goal.new-requires
new-requires c = item_in _ _ _ _ c.deref-request-items.ensures.value c.loop-request-test.true c.request-item.is

pub loop-request-preserved : goal.loop-request-preserved
loop-request-preserved c =
    all_zip_push _ _ _ _ _ _ c.request-item.result c.in_ok-new.field-0 c.deref-request-items.ensures.value c.loop-request-test.true c.request-item.is
    c.loop-request.invariant c.in_ok-new.ensures c.in_ok-push.ensures.items
