use Rattle.std.proofs.Common.{arith}
use Rattle.flattener.specs.Seen.{block_seen}
use Rattle.std.proofs.Common.{map, subst, sym}
use Rattle.mapping.specs.Reached.{AreReached}
use Rattle.segment_builder.proofs.Suited.{are_given}
use Rattle.segment_builder.proofs.Cut.{blocks_again}
use Rattle.segment_builder.proofs.Fitted.{all_roots, fitted}
use Rattle.segment_builder.proofs.assemble.built.Goals as goal

pub made_of-requires : goal.made_of-requires
made_of-requires c =
    let reached : AreReached c.args.mapping.now = subst AreReached (sym c.generation-generations.ensures.mapping) (c.names_lead_to_fields.ensures c.args.mapping.now.bodies c.args.mapping.now.dynamic c.generation-generations.ensures.bodies) in (
      c.args.mapping.now,
      are_given c.args.mapping.now c.args.blocks.now
          (λ block fits. c.blocks_are_of_their_mapping.ensures c.args.mapping.now block c.scope_count-scopes.ensures.is_mapping fits)
          (λ block fits. c.blocks_are_small.ensures c.args.mapping.now block c.scope_count-scopes.ensures.is_mapping reached fits)
          (record {
            fields = omega (arith, c.field_count-fields.ensures);
            scopes = omega (arith, c.scope_count-scopes.ensures.count);
            bodies = omega (arith, c.generation-generations.ensures.generation);
            relations = omega (arith, c.relation_count-relations.ensures);
          })
          c.requires.fit c.requires.some c.requires.few c.blocks_fit.ensures,
    )

pub returns-clause-fits : goal.returns-clause-fits
returns-clause-fits c =
    fitted c.args.mapping.now c.in_ok-segment.segment (map block_seen c.args.blocks.now)
    (λ block fits. c.blocks_are_of_their_mapping.ensures c.args.mapping.now block c.scope_count-scopes.ensures.is_mapping fits) c.requires.fit c.in_ok-segment.ensures.flats c.in_ok-segment.ensures.roots

pub returns-clause-blocks : goal.returns-clause-blocks
returns-clause-blocks c =
    blocks_again c.args.mapping.now c.in_ok-segment.segment (map block_seen c.args.blocks.now)
    (all_roots c.args.mapping.now (map block_seen c.args.blocks.now) (λ block fits. c.blocks_are_of_their_mapping.ensures c.args.mapping.now block c.scope_count-scopes.ensures.is_mapping fits) c.requires.fit)
    c.in_ok-segment.ensures.flats c.in_ok-segment.ensures.roots
