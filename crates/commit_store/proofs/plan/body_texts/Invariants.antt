use Rattle.std.proofs.Common.{◌≡◌, ◌++◌, map, drop}
use Rattle.tree_json.specs.Text.{compact}
use Rattle.commit_store.proofs.plan.body_texts.Given as goal

abbrev pub invariant-bodies : goal.invariant-bodies
invariant-bodies l = l.texts.items ++ map compact (drop l.generation l.mapping.bodies) ≡ map compact l.mapping.bodies
