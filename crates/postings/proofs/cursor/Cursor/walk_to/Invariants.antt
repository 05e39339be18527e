use Rattle.std.proofs.Common.{◌≡◌, ◌-◌, length}
use Rattle.postings.specs.Postings.{present_document, place_from}
use Rattle.postings.proofs.cursor.Cursor.walk_to.Given as goal

abbrev pub invariant-postings : goal.invariant-postings
invariant-postings l = (l.self.postings ≡ l.fn.self.postings) × (place_from l.to l.self ≡ place_from l.to l.fn.self) × (l.document ≡ present_document l.self)

abbrev pub decreases-postings : goal.decreases-postings
decreases-postings l = length l.self.postings - l.self.at
