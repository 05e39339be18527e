use Rattle.std.proofs.Common.{◌≡◌, ◌<◌, ◌∙◌, length, true, nat_lt, sym, ap, arith, map}
use Rattle.std.proofs.lemmas.Bool.Decides.{nat_tests}
use Rattle.std.proofs.lemmas.List.{length-map}
use Rattle.mapping.specs.Mapping.{mapping_of}
use Rattle.mapping.proofs.LookUps.{path_kept, length_kept}
use Rattle.mapping.proofs.mapping.Mapping.is_above.Goals as goal

pub returns-then-below-paths : goal.returns-then-below-paths
returns-then-below-paths c =
    let long : length (mapping_of c.self.inside.bodies c.self.inside.dynamic).scopes ≡ length c.self.inside.paths.items =
    sym (length-map (mapping_of c.self.inside.bodies c.self.inside.dynamic).scopes (λ s. s.path)) ∙ length_kept (λ p. p.bytes.items) c.self.inside.paths.items (map (λ s. s.path) (mapping_of c.self.inside.bodies c.self.inside.dynamic).scopes) c.self.invariant.paths in
    let items = ap length c.as_slice-paths.ensures.value in
    let in_above : c.args.above < length (mapping_of c.self.inside.bodies c.self.inside.dynamic).scopes = omega (arith, long, items, c.if-above-paths.true) in
    let in_below : c.args.below < length (mapping_of c.self.inside.bodies c.self.inside.dynamic).scopes = omega (arith, long, items, c.if-below-paths.true) in
    let above = path_kept c.self.inside.paths.items (mapping_of c.self.inside.bodies c.self.inside.dynamic).scopes c.args.above c.index-paths-above.result c.self.invariant.paths in_above (rw c.as_slice-paths.ensures.value at c.index-paths-above.is) in
    let below = path_kept c.self.inside.paths.items (mapping_of c.self.inside.bodies c.self.inside.dynamic).scopes c.args.below c.index-paths-below.result c.self.invariant.paths in_below (rw c.as_slice-paths.ensures.value at c.index-paths-below.is) in
    let there : nat_lt c.args.above (length (mapping_of c.self.inside.bodies c.self.inside.dynamic).scopes) ≡ true = grind (arith, nat_tests) in
    rw (← c.self.view_is, there, above, below) (rw (c.as_slice.ensures.value, ← c.index-paths-above.is, c.as_slice-then-below-paths.ensures.value, ← c.index-paths-below.is) at c.lies_above.ensures)
