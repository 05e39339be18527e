use Rattle.std.proofs.Common.{◌≡◌, length}
use Rattle.bucket_aggs.proofs.at_once.term_places.Given as goal

abbrev pub invariant-entries : goal.invariant-entries
invariant-entries l = length l.places.items ≡ l.at
