use Rattle.std.proofs.Common.{refl, ap}
use Rattle.records.specs.Drafts.{draft_model}
use Rattle.records.specs.Entries.{entry_of}
use Rattle.sheet.proofs.Added.{pushed, added_condition, added_move, added_request}
use Rattle.sheet.proofs.build.add_record.Goals as goal

pub returns-in_ok-push-in-Condition : goal.returns-in_ok-push-in-Condition
returns-in_ok-push-in-Condition c =
    record { header = refl; added = added_condition (draft_model c.args.draft.now) (entry_of c.args.entry) _ _ (ap entry_of c.in-Condition.is) (pushed _ _ _ _ _ c.push.ensures.items c.in_ok-push-in-Condition.was) }

pub returns-in_ok-push-in-Move : goal.returns-in_ok-push-in-Move
returns-in_ok-push-in-Move c =
    record { header = refl; added = added_move (draft_model c.args.draft.now) (entry_of c.args.entry) _ _ (ap entry_of c.in-Move.is) (pushed _ _ _ _ _ c.push-in-Move.ensures.items c.in_ok-push-in-Move.was) }

pub returns-in_ok-push-in-Request : goal.returns-in_ok-push-in-Request
returns-in_ok-push-in-Request c =
    record { header = refl; added = added_request (draft_model c.args.draft.now) (entry_of c.args.entry) _ _ _ _ (ap entry_of c.in-Request.is) refl (pushed _ _ _ _ _ c.push-in-Request.ensures.items c.in_ok-push-in-Request.was) c.in_ok-request-in-Request.ensures }
