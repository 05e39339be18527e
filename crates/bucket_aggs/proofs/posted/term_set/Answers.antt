use Rattle.std.proofs.Common.{false, replicate, ap, ◌∙◌}
use Rattle.bucket_aggs.proofs.posted.term_set.Goals as goal

pub mark_term-requires-clause-none : goal.mark_term-requires-clause-none
mark_term-requires-clause-none c = c.in_ok-own.ensures ∙ ap (λ n. replicate n false) c.len.ensures
