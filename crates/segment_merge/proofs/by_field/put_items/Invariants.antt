use Rattle.std.proofs.Common.{◌≡◌, ◌++◌, drop}
use Rattle.std.specs.List.{flat_map}
use Rattle.segment_merge.proofs.by_field.put_items.Given as goal

abbrev pub invariant-parts : goal.invariant-parts
invariant-parts g l =
    l.into.items ++ flat_map g.P.PartItems.text (drop l.part-index l.parts) ≡ l.fn.into.items ++ flat_map g.P.PartItems.text l.parts
