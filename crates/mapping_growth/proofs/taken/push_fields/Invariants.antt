use Rattle.std.proofs.Common.{◌≡◌, ◌++◌, map, drop}
use Rattle.mapping_growth.specs.Kept.{made_of}
use Rattle.mapping_growth.proofs.taken.push_fields.Given as goal

abbrev pub invariant-fields : goal.invariant-fields
invariant-fields l =
    map made_of l.whole.items ++ map made_of (drop l.field-index l.fields) ≡ map made_of l.fn.whole.items ++ map made_of l.fields
