use Rattle.std.proofs.Common.{◌≡◌, ◌++◌, drop}
use Rattle.tree_json.specs.Value.{elements_of}
use Rattle.tree_json.specs.View.{values}
use Rattle.query_parser.specs.Search.{keys_in}
use Rattle.query_parser.proofs.resolve.keys_in.Given as goal

abbrev pub invariant-keys : goal.invariant-keys
invariant-keys l = l.found.items ++ keys_in (elements_of (values (drop l.key-index l.keys))) ≡ keys_in (elements_of (values l.keys))
