use Rattle.std.specs.List.{list_any, range_with_len}
use Rattle.leaf_search.specs.Sets.{Gains}
use Rattle.leaf_search.specs.Values.{shows_inner}
use Rattle.leaf_search.proofs.exists.mark_parts.Given as goal

abbrev pub invariant-fields : goal.invariant-fields
invariant-fields l = Gains l.segment (λ d. list_any (shows_inner l.mapping l.field d) (range_with_len 0 l.inner)) l.fn.set l.set
