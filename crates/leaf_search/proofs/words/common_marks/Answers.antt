use Rattle.std.proofs.Common.{ℕ, [], get_or, arith, sym, ◌∙◌}
use Rattle.std.proofs.lemmas.List.{length-map}
use Rattle.segment.specs.Lists.{postings_of}
use Rattle.leaf_search.specs.Words.{lists_at}
use Rattle.leaf_search.proofs.Selecting.{marks_all, marks_first, marks_list, marks_more}
use Rattle.leaf_search.proofs.words.common_marks.Goals as goal

pub ordinals-init : goal.ordinals-init
ordinals-init c =
    let listed = lists_at (postings_of c.args.segment.now) c.args.ordinals.now in
    marks_first c.args.segment.now.documents listed c.mark.new.set (omega (arith, c.requires.some, length-map c.args.ordinals.now (λ (ordinal : ℕ). get_or (postings_of c.args.segment.now) ordinal [])))
    (marks_list c.args.segment.now.documents (postings_of c.args.segment.now) c.postings-postings.result c.args.ordinals.now 0 c.docs.result c.in_ok-set.set c.mark.new.set c.postings-postings.ensures.postings c.requires.some c.docs.ensures.documents c.in_ok-set.ensures c.mark.ensures.long c.mark.ensures.marked)

pub ordinals-preserved : goal.ordinals-preserved
ordinals-preserved c =
    let listed = lists_at (postings_of c.args.segment.now) c.args.ordinals.now in
    let own = marks_list c.args.segment.now.documents (postings_of c.args.segment.now) c.postings-postings.result c.args.ordinals.now c.ordinals.at c.docs-in-ordinals.result c.in_ok-own.own c.mark-in-ordinals.new.set c.postings-postings.ensures.postings c.ordinals-test.true c.docs-in-ordinals.ensures.documents c.in_ok-own.ensures c.mark-in-ordinals.ensures.long c.mark-in-ordinals.ensures.marked in
    marks_more c.args.segment.now.documents listed c.ordinals.at c.ordinals.set c.mark-in-ordinals.new.set c.and.new.self (omega (arith, c.ordinals-test.true, length-map c.args.ordinals.now (λ (ordinal : ℕ). get_or (postings_of c.args.segment.now) ordinal []))) c.ordinals.invariant own c.and.ensures

pub and-requires : goal.and-requires
and-requires c =
    let own = marks_list c.args.segment.now.documents (postings_of c.args.segment.now) c.postings-postings.result c.args.ordinals.now c.ordinals.at c.docs-in-ordinals.result c.in_ok-own.own c.mark-in-ordinals.new.set c.postings-postings.ensures.postings c.ordinals-test.true c.docs-in-ordinals.ensures.documents c.in_ok-own.ensures c.mark-in-ordinals.ensures.long c.mark-in-ordinals.ensures.marked in
    c.ordinals.invariant.long ∙ sym own.long

pub returns : goal.returns
returns c =
    marks_all c.args.segment.now.documents (lists_at (postings_of c.args.segment.now) c.args.ordinals.now) c.ordinals.at c.ordinals.set
    (omega (arith, c.ordinals-test.false, length-map c.args.ordinals.now (λ (ordinal : ℕ). get_or (postings_of c.args.segment.now) ordinal []))) c.ordinals.invariant
