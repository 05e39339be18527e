use Rattle.std.proofs.Common.{sym, ◌∙◌}
use Rattle.index_core.proofs.Jobs.{ids_at}
use Rattle.index_core.proofs.ready.have_same_ids.Goals as goal

pub returns-then-id : goal.returns-then-id
returns-then-id c =
    (λ no. absurd (cc (no)), λ same. absurd (c.if-id.true (c.id.ensures ∙ ids_at c.args.entries.now c.args.others.now c.entries.index c.index-entries-index.result c.index-others-index.result same c.entries-test.true c.index-entries-index.is c.index-others-index.is ∙ sym c.id-in-entries.ensures)))
