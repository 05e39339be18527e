use Rattle.std.proofs.Common.{◌∙◌}
use Rattle.segment_builder.proofs.rows.sort_entries.Goals as goal

pub returns-clause-same : goal.returns-clause-same
returns-clause-same g c = λ bytes. c.in_ok-sort_by_bytes.ensures.same bytes ∙ c.in_ok-sort_by_rank.ensures bytes

pub returns-clause-rising : goal.returns-clause-rising
returns-clause-rising g c = c.in_ok-sort_by_bytes.ensures.rising
