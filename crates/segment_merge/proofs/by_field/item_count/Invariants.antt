use Rattle.std.proofs.Common.{◌≡◌, ◌+◌, drop}
use Rattle.segment_merge.specs.ByField.{total}
use Rattle.segment_merge.proofs.by_field.item_count.Given as goal

abbrev pub invariant-parts : goal.invariant-parts
invariant-parts g l = l.count + total g.P.PartItems.count (drop l.part-index l.parts) ≡ total g.P.PartItems.count l.parts
