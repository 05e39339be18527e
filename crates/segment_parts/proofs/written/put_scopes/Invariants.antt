use Rattle.std.proofs.Common.{◌≡◌, ◌++◌, length, take}
use Rattle.std.specs.List.{flat_map}
use Rattle.part_text.specs.Text.{u32_text}
use Rattle.segment_parts.specs.Text.{scope_text}
use Rattle.segment_parts.proofs.written.put_scopes.Given as goal

abbrev pub invariant-scopes : goal.invariant-scopes
invariant-scopes l = l.into.items ≡ (l.fn.into.items ++ u32_text (length l.scopes)) ++ flat_map scope_text (take l.scope-index l.scopes)
