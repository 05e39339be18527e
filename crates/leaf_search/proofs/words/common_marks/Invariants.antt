use Rattle.std.proofs.Common.{take}
use Rattle.segment.specs.Lists.{postings_of}
use Rattle.leaf_search.specs.Sets.{Marks}
use Rattle.leaf_search.specs.Words.{all_posted, lists_at}
use Rattle.leaf_search.proofs.words.common_marks.Given as goal

abbrev pub invariant-ordinals : goal.invariant-ordinals
invariant-ordinals l = Marks l.segment.documents (all_posted (take l.at (lists_at (postings_of l.segment) l.ordinals))) l.set
