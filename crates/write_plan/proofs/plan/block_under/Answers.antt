use Rattle.std.proofs.Common.{ℕ, ap, ◌∙◌}
use Rattle.flattener.specs.Block.{block_of, tree_given}
use Rattle.tree_json.specs.View.{view}
use Rattle.write_plan.proofs.Planning.{block_text}
use Rattle.write_plan.proofs.plan.block_under.Goals as goal

pub returns-in-Ok-clause-text : goal.returns-in-Ok-clause-text
returns-in-Ok-clause-text c =
    block_text c.args.mapping.now c.args.id.now (view c.args.source.now) c.args.number c.in-Ok.block (c.in-Ok.ensures.block ∙ ap (λ (g : ℕ). block_of c.args.mapping.now (tree_given c.args.id.now c.args.number (view c.args.source.now) g)) c.generation.ensures.generation)
    (c.in-Ok.ensures.reads_back c.requires.levels)
