use Rattle.std.proofs.Common.{◌≡◌, ◌+◌, ◌≤◌, ◌∙◌, List, ap, drop, take, length, leb, rules, arith}
use Rattle.std.proofs.lemmas.List.{length-map}
use Rattle.std.proofs.lemmas.List.Sorted.{IsPartitionPoint-from_clause}
use Rattle.mapping_growth.specs.Fields.{drafts_of}
use Rattle.mapping.specs.declared.scope.Scope.{Scope as Part}
use Rattle.mapping.specs.Mapping.{Mapping, mapping_at, mapping_of, nested_among, scope_by, scope_paths}
use Rattle.mapping.proofs.Generations.{first_scopes}
use Rattle.mapping.proofs.mapping.Mapping.scopes.Goals as goal

pub returns : goal.returns
returns c =
    let back : c.split_at.result.1.now ≡ drop 1 c.self.inside.scopes.items = c.split_at.ensures.back ∙ ap (λ (ss : List Part). drop 1 ss) c.as_slice.ensures.value in
    let many = first_scopes c.args.generation c.partition_point.result c.self.inside.bodies c.self.inside.scopes.items c.self.invariant.scopes
    (λ parted. IsPartitionPoint-from_clause (λ s. leb s.since c.args.generation) _ _ (rw back at c.partition_point.ensures.partitioned) parted (λ a r q k. search rules))
    (rw back at c.partition_point.ensures.bound) in
    let long = length-map (nested_among (drafts_of (take c.args.generation c.self.inside.bodies))) (scope_by (scope_paths (drafts_of (take c.args.generation c.self.inside.bodies)))) in
    let all : c.partition_point.result + 1 ≡ length (mapping_at (mapping_of c.self.inside.bodies c.self.inside.dynamic) c.args.generation).scopes = omega (arith, many, long) in
    all ∙ ap (λ (m : Mapping). length (mapping_at m c.args.generation).scopes) c.self.view_is
