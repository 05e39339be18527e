use Rattle.std.proofs.Common.{◌≡◌, pos, drop}
use Rattle.tree_json.specs.Value.{elements_of}
use Rattle.tree_json.specs.View.{values}
use Rattle.query_parser.specs.Search.{last_number}
use Rattle.query_parser.proofs.resolve.last_number.Given as goal

abbrev pub invariant-keys : goal.invariant-keys
invariant-keys l = last_number l.number (elements_of (values (drop l.key-index l.keys))) ≡ last_number (pos 0) (elements_of (values l.keys))
