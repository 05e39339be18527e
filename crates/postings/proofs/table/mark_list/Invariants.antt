use Rattle.postings.specs.Kept.{postings_of}
use Rattle.postings.proofs.Marked.{IsMarking}
use Rattle.postings.proofs.table.mark_list.Given as goal

abbrev pub invariant-postings : goal.invariant-postings
invariant-postings l = IsMarking (postings_of l.text) l.fn.set l.set l.count l.counter l.rest l.plain
