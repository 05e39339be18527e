use Rattle.std.proofs.Common.{◌≡◌, map, take}
use Rattle.index_core.specs.Found.{entry_id}
use Rattle.index_core.proofs.ready.have_same_ids.Given as goal

abbrev pub invariant-entries : goal.invariant-entries
invariant-entries l = map entry_id (take l.index l.entries) ≡ map entry_id (take l.index l.others)
