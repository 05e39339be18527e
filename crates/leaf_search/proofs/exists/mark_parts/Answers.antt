use Rattle.leaf_search.specs.Values.{shows_inner}
use Rattle.leaf_search.proofs.Gaining.{gains_next}
use Rattle.leaf_search.proofs.exists.mark_parts.Goals as goal

pub fields-preserved : goal.fields-preserved
fields-preserved c = gains_next c.args.segment.now (λ d. shows_inner c.args.mapping.now c.args.field d) c.fields.inner c.args.set.now c.fields.set c.mark_part.new.set c.fields.invariant c.mark_part.ensures
