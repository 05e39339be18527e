use Rattle.std.proofs.Common.{IfSome, subst, sym}
use Rattle.nested_sort.specs.Documents.{question_of}
use Rattle.nested_sort.specs.Near.{IsCutAt}
use Rattle.nested_sort.specs.Reached.{IsAsked}
use Rattle.nested_sort.specs.declared.reached.NumberClause.{NumberClause}
use Rattle.nested_sort.specs.declared.reached.NumberClause.TheVariants.{Field}
use Rattle.nested_sort.proofs.Nearby.{cut_there, some_more}
use Rattle.nested_sort.proofs.Reaches.{asked_at}
use Rattle.nested_sort.proofs.reached.near_hits.Goals as goal

pub within_reach-requires-clause-found : goal.within_reach-requires-clause-found
within_reach-requires-clause-found c =
    (asked_at c.args.entries.now c.args.place c.args.found.now c.index-entries-place.result c.segment-segment.result.now c.requires.long c.index-entries-place.is c.segment-segment.ensures
    (Field c.in-Field.asked) (subst (IsAsked c.args.entries.now) c.in-Field.is c.requires.asked)).0

pub returns-in_ok-within_reach-in-Field : goal.returns-in_ok-within_reach-in-Field
returns-in_ok-within_reach-in-Field c =
    subst (λ (clause : NumberClause). IfSome c.in_ok-within_reach-in-Field.field-0 (λ near. IsCutAt c.args.entries.now c.args.place clause c.args.reach c.args.found.now near)) (sym c.in-Field.is)
    (some_more (λ near cut.
    cut_there c.args.entries.now c.args.place c.args.found.now near c.index-entries-place.result c.segment-segment.result.now (question_of c.in-Field.asked) c.args.reach c.requires.long c.index-entries-place.is c.segment-segment.ensures cut)
    c.in_ok-within_reach-in-Field.field-0 c.in_ok-within_reach-in-Field.ensures)
