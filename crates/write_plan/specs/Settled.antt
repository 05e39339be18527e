-- A mapping after a further mapping line.
use Rattle.std.specs.Prelude.{unwrap_or}
use Rattle.mapping.specs.Mapping.{Mapping, mapping_of}
use Rattle.write_plan.specs.declared.mapping_line.Further as declared

-- the mapping that was added, or else the one before, with the flag
abbrev pub settled : Mapping → declared.Further → Mapping
settled m further = mapping_of (unwrap_or further.added m).bodies further.dynamic
