use Rattle.std.proofs.Common.{◌≡◌, ◌++◌, length, take}
use Rattle.std.specs.List.{flat_map}
use Rattle.part_text.specs.Text.{u32_text, string_text}
use Rattle.store_text.proofs.written.put_bodies.Given as goal

abbrev pub invariant-bodies : goal.invariant-bodies
invariant-bodies l = l.into.items ≡ (l.fn.into.items ++ u32_text (length l.bodies)) ++ flat_map string_text (take l.body-index l.bodies)
