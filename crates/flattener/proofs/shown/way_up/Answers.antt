use Rattle.std.proofs.Common.{◌≡◌, ◌∙◌, ◌==◌, reverse, refl, sym, true, arith}
use Rattle.std.proofs.lemmas.Bool.Decides.{nat_tests}
use Rattle.tree_objects.specs.Object.{climb, way}
use Rattle.flattener.proofs.Ways.{climb_there}
use Rattle.flattener.proofs.shown.way_up.Goals.{then-way-test+else-at-scope, else-way-test}
use Rattle.flattener.proofs.shown.way_up.Goals as goal

pub returns-clause-way : goal.returns-clause-way
unfolding way
returns-clause-way c = elim c.way-test.branch [
  | then-way-test+else-at-scope w ↦
      let there : (c.way.at == c.args.scope) ≡ true = grind (arith, nat_tests) in
      sym (climb_there c.args.mapping.now c.way.left c.args.scope c.way.at (reverse c.way.way.items) there) ∙ c.way.invariant.0
  | else-way-test w ↦
      let over : c.way.left ≡ 0 = grind (arith, nat_tests) in
      let done : climb c.args.mapping.now c.way.left c.args.scope c.way.at (reverse c.way.way.items) ≡ reverse c.way.way.items = rw over refl in
      sym done ∙ c.way.invariant.0
]
