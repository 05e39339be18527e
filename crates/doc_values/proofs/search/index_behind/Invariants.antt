use Rattle.std.proofs.Common.{ℕ, ◌+◌, ◌-◌, ◌<◌, ◌≤◌, length, get_or}
use Rattle.doc_values.specs.Kept.{documents_in}
use Rattle.doc_values.proofs.search.index_behind.Given as goal

abbrev pub invariant-steps : goal.invariant-steps
invariant-steps l = record {
  some : 1 ≤ l.step;
  below : l.low + 1 < length l.places;
  before : get_or (documents_in l.places l.bytes) l.low 0 ≤ l.doc;
}

abbrev pub decreases-steps : goal.decreases-steps
decreases-steps l = length l.places - l.low

abbrev pub invariant-halves : goal.invariant-halves
invariant-halves l = record {
  order : l.low < l.high;
  within : l.high + 1 ≤ length l.places;
  before : get_or (documents_in l.places l.bytes) l.low 0 ≤ l.doc;
  after : (k : ℕ) → l.high ≤ k → k < length (documents_in l.places l.bytes) → l.doc < get_or (documents_in l.places l.bytes) k 0;
}

abbrev pub decreases-halves : goal.decreases-halves
decreases-halves l = l.high - l.low
