use Rattle.std.proofs.Common.{◌≡◌, ◌++◌, drop}
use Rattle.segment_merge.specs.Lists.{items_of}
use Rattle.segment_merge.specs.TermRefs.{blank_ordinals}
use Rattle.segment_merge.proofs.new_ordinals.NewOrdinals.blank.Given as goal

abbrev pub invariant-parts : goal.invariant-parts
invariant-parts l = items_of l.news.items ++ blank_ordinals (drop l.part-index l.parts) ≡ blank_ordinals l.parts
