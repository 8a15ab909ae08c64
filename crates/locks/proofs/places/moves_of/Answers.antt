use Rattle.std.proofs.Common.{◌<◌, ◌-◌, List, map, take, drop, ap, ◌∙◌, arith, rules}
use Rattle.std.proofs.lemmas.List.Sorted.{IsPartitionPoint-from_clause}
use Rattle.port.specs.declared.Move.{Move}
use Rattle.locks.proofs.Outcomes.{lower, span_of, upto}
use Rattle.locks.proofs.places.moves_of.Goals as goal

pub slice_bounds-result-count : goal.slice_bounds-result-count
slice_bounds-result-count c =
    let few : c.args.operation < 256 = omega arith in
    let s =
    span_of c.args.port.now c.args.condition c.args.operation c.partition_point-start.result c.partition_point-end.result c.deref.result.now c.deref-2.result.now few
    c.deref.ensures.value c.deref-2.ensures.value c.partition_point-start.ensures.bound c.partition_point-end.ensures.bound
    (λ h. IsPartitionPoint-from_clause (lower c.args.condition c.args.operation) c.deref.result.now c.partition_point-start.result c.partition_point-start.ensures.partitioned h (λ a r f' k. search rules))
    (λ h. IsPartitionPoint-from_clause (upto c.args.condition c.args.operation) c.deref-2.result.now c.partition_point-end.result c.partition_point-end.ensures.partitioned h (λ a r f' k. search rules)) in
    s.rise

pub slice_bounds-result-start : goal.slice_bounds-result-start
slice_bounds-result-start c =
    let few : c.args.operation < 256 = omega arith in
    let s =
    span_of c.args.port.now c.args.condition c.args.operation c.partition_point-start.result c.partition_point-end.result c.deref.result.now c.deref-2.result.now few
    c.deref.ensures.value c.deref-2.ensures.value c.partition_point-start.ensures.bound c.partition_point-end.ensures.bound
    (λ h. IsPartitionPoint-from_clause (lower c.args.condition c.args.operation) c.deref.result.now c.partition_point-start.result c.partition_point-start.ensures.partitioned h (λ a r f' k. search rules))
    (λ h. IsPartitionPoint-from_clause (upto c.args.condition c.args.operation) c.deref-2.result.now c.partition_point-end.result c.partition_point-end.ensures.partitioned h (λ a r f' k. search rules)) in
    let r = s.rise in
    search rules

pub returns : goal.returns
returns c =
    let few : c.args.operation < 256 = omega arith in
    let s =
    span_of c.args.port.now c.args.condition c.args.operation c.partition_point-start.result c.partition_point-end.result c.deref.result.now c.deref-2.result.now few
    c.deref.ensures.value c.deref-2.ensures.value c.partition_point-start.ensures.bound c.partition_point-end.ensures.bound
    (λ h. IsPartitionPoint-from_clause (lower c.args.condition c.args.operation) c.deref.result.now c.partition_point-start.result c.partition_point-start.ensures.partitioned h (λ a r f' k. search rules))
    (λ h. IsPartitionPoint-from_clause (upto c.args.condition c.args.operation) c.deref-2.result.now c.partition_point-end.result c.partition_point-end.ensures.partitioned h (λ a r f' k. search rules)) in
    ap (λ (xs : List Move). map (λ (m : Move). m.outcome) (take (c.partition_point-end.result - c.partition_point-start.result) (drop c.partition_point-start.result xs))) c.deref-3.ensures.value
    ∙ s.all
