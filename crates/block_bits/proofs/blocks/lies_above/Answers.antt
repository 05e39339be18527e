use Rattle.std.proofs.Common.{◌||◌, arith, ap, ◌∙◌}
use Rattle.std.proofs.lemmas.Bool.{ne_eqb}
use Rattle.block_bits.specs.Scopes.{is_above}
use Rattle.block_bits.proofs.Above.{falls, is_above-step}
use Rattle.block_bits.proofs.blocks.lies_above.Goals as goal

pub scopes-preserved : goal.scopes-preserved
scopes-preserved c =
    let fall = falls c.args.parents.now c.scopes.inner c.in-Some.outer c.requires.tree c.in-Some.is in
    record {
      within = omega (arith, fall.0, fall.1);
      same =
          c.scopes.invariant.same
          ∙ is_above-step c.args.parents.now c.args.upper c.scopes.inner c.in-Some.outer c.requires.tree c.in-Some.is
          ∙ ap (λ here. here || is_above c.args.parents.now c.args.upper c.in-Some.outer) (ne_eqb _ _ c.if-outer-upper.false);
    }
