use Rattle.std.proofs.Common.{length, ◌-◌}
use Rattle.segment.specs.Kinds.{IsPosting}
use Rattle.segment.proofs.Tested.{IsTested}
use Rattle.segment.proofs.agree_terms.are_postings.Given as goal

abbrev pub invariant-postings : goal.invariant-postings
invariant-postings l = IsTested (IsPosting l.kind) l.initial.cursor.postings l.cursor l.present

abbrev pub decreases-postings : goal.decreases-postings
decreases-postings l = length l.initial.cursor.postings - l.cursor.at
