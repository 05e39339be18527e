use Rattle.std.proofs.Common.{ℕ, ◌+◌, ◌-◌, ◌<◌, ◌≤◌, length, get_or}
use Rattle.doc_values.specs.Kept.{documents_in}
use Rattle.doc_values.proofs.search.index_of.Given as goal

abbrev pub invariant-probes : goal.invariant-probes
invariant-probes l = record {
  order : l.low ≤ l.high;
  within : l.high + 1 ≤ length l.places;
  before : (k : ℕ) → k < l.low → get_or (documents_in l.places l.bytes) k 0 < l.doc;
  after : (k : ℕ) → l.high ≤ k → k < length (documents_in l.places l.bytes) → l.doc < get_or (documents_in l.places l.bytes) k 0;
}

abbrev pub decreases-probes : goal.decreases-probes
decreases-probes l = l.high - l.low
