use Rattle.std.proofs.Common.{◌<◌, ◌≤◌, vec_items, sym, ◌∙◌, subst}
use Rattle.std.proofs.lemmas.List.{length-map}
use Rattle.port.specs.Limits.{MovesExist}
use Rattle.port.specs.Model.{request_model}
use Rattle.reading.proofs.Limited.{in_map}
use Rattle.sheet.proofs.build.seal.Goals as goal

pub invariant_of-result : goal.invariant_of-result
invariant_of-result c =
    let d = c.args.draft in
    let ok = c.requires in
    let conditions = d.conditions.ok.0 in
    let moves = d.moves.ok.0 in
    let requests = d.requests.ok.0 ∙ sym (length-map (vec_items d.requests) request_model) in
    record {
      marks_some = ok.marks_some;
      marks_few = ok.marks_few;
      operations_some = ok.operations_some;
      operations_few = ok.operations_few;
      stages_some = ok.stages_some;
      stages_few = ok.stages_few;
      start_stage = ok.stage;
      start_condition = subst (λ n. d.header.condition < n) (sym conditions) ok.start;
      conditions_few = subst (λ n. n ≤ 256) (sym conditions) ok.conditions_few;
      conditions_marked = ok.conditions_marked;
      conditions_rise = ok.conditions_rise;
      moves_few = subst (λ n. n ≤ 4096) (sym moves) ok.moves_few;
      moves_exist = subst (λ n. MovesExist n d.header.operations (vec_items d.moves)) (sym conditions) ok.moves_exist;
      moves_rise = ok.moves_rise;
      requests_few = subst (λ n. n ≤ 32) (sym requests) ok.requests_few;
      requests_staged = λ q i. ok.requests_staged (request_model q) (in_map request_model (vec_items d.requests) q i);
      keeps_worded = λ q i. (ok.requests_worded (request_model q) (in_map request_model (vec_items d.requests) q i)).0.2;
      reaches_worded = λ q i. (ok.requests_worded (request_model q) (in_map request_model (vec_items d.requests) q i)).1.2;
    }
