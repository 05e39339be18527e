use Rattle.std.proofs.Common.{◌≡◌, ◌≤◌, ◌<◌, length, leb, rules, arith}
use Rattle.std.proofs.lemmas.List.Sorted.{IsPartitionPoint-from_clause}
use Rattle.mapping_growth.proofs.Generations.{first_relations}
use Rattle.mapping_growth.proofs.bodies.Bodies.relations_in.Goals as goal

pub overflow_cast-result : goal.overflow_cast-result
overflow_cast-result c = omega (arith, c.partition_point.ensures.bound, c.relations.ensures.short)

pub returns : goal.returns
returns c =
    first_relations c.args.generation c.partition_point.result c.args.self.now c.relations.result.now c.relations.ensures.relations
    (λ parted. IsPartitionPoint-from_clause (λ r. leb r.since c.args.generation) _ _ c.partition_point.ensures.partitioned parted (λ a r q k. search rules)) c.partition_point.ensures.bound
