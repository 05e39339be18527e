use Rattle.std.proofs.Common.{ℕ, List, length, drop, false, replicate, sym, ap, ◌∙◌, arith}
use Rattle.segment.specs.Lists.{postings_of}
use Rattle.leaf_search.specs.Words.{lists_at}
use Rattle.leaf_search.proofs.Conjoining.{numbered_below, selecting_all, selecting_first, selecting_more}
use Rattle.leaf_search.proofs.Going.{own_on, present_at}
use Rattle.leaf_search.proofs.conjunction.select.Goals as goal

pub takes-found-requires-clause-live : goal.takes-found-requires-clause-live
takes-found-requires-clause-live c = omega (arith, c.requires.live, numbered_below c.args.segment.now.documents c.documents.own c.in-Some.doc c.documents.invariant.numbered c.in-Some.ensures.document)

pub takes-found-requires-clause-scope : goal.takes-found-requires-clause-scope
takes-found-requires-clause-scope c = omega (arith, c.requires.scope, numbered_below c.args.segment.now.documents c.documents.own c.in-Some.doc c.documents.invariant.numbered c.in-Some.ensures.document)

pub takes-found-requires-clause-before : goal.takes-found-requires-clause-before
takes-found-requires-clause-before c = c.documents.invariant.before_ready c.in-Some.doc c.in-Some.ensures.document

pub takes-found-requires-clause-own : goal.takes-found-requires-clause-own
takes-found-requires-clause-own c = own_on c.in-Some.doc c.documents.own c.documents.invariant.are c.in-Some.ensures.document

pub takes-found-requires-clause-behind : goal.takes-found-requires-clause-behind
takes-found-requires-clause-behind c = c.documents.invariant.behind_ready c.in-Some.doc c.in-Some.ensures.document

pub put_if-requires : goal.put_if-requires
put_if-requires c = omega (arith, c.documents.invariant.taken.long, numbered_below c.args.segment.now.documents c.documents.own c.in-Some.doc c.documents.invariant.numbered c.in-Some.ensures.document)

pub documents-smaller : goal.documents-smaller
documents-smaller c = omega (arith, ap length c.next-next.ensures.postings, c.next-next.ensures.place, (present_at c.documents.own c.in-Some.doc c.in-Some.ensures.document).inside)

pub documents-init : goal.documents-init
documents-init c =
    selecting_first c.args.segment.now c.args.live.now c.args.scope.now c.args.in_order c.args.ordinals.now c.args.lead c.in_ok-before.before.items c.first_of-own.result c.in_ok-behind.behind.items c.in_ok-set.set c.requires.lead
    (c.in_ok-before.ensures.lists ∙ ap (lists_at (postings_of c.args.segment.now)) c.split_at.ensures.front)
    (c.in_ok-behind.ensures.lists ∙ ap (lists_at (postings_of c.args.segment.now)) (c.split_at-2.ensures.back ∙ ap (λ (l : List ℕ). drop 1 l) c.split_at.ensures.back))
    c.first_of-own.ensures.list c.first_of-own.ensures.at c.in_ok-before.ensures.first c.first_of-own.ensures.first c.in_ok-behind.ensures.first
    (λ ordinal. c.terms_are_of_documents.ensures.within ordinal) (c.in_ok-set.ensures ∙ ap (λ (k : ℕ). replicate k false) c.docs.ensures.documents)

pub documents-preserved : goal.documents-preserved
documents-preserved c =
    selecting_more c.args.segment.now.documents c.args.live.now c.args.scope.now c.args.in_order (lists_at (postings_of c.args.segment.now) c.args.ordinals.now)
    c.documents.before.items c.takes-found.new.before.items c.documents.own c.next-next.new.self c.documents.behind.items c.takes-found.new.behind.items c.documents.set c.put_if.new.set c.in-Some.doc c.takes-found.result
    c.documents.invariant c.in-Some.ensures.document c.takes-found.ensures.before_lists c.takes-found.ensures.behind_lists c.takes-found.ensures.before_passed c.takes-found.ensures.behind_passed c.takes-found.ensures.says c.put_if.ensures
    c.next-next.ensures.postings c.next-next.ensures.place

pub returns : goal.returns
returns c =
    selecting_all c.args.segment.now.documents c.args.live.now c.args.scope.now c.args.in_order (lists_at (postings_of c.args.segment.now) c.args.ordinals.now)
    c.documents.before.items c.documents.own c.documents.behind.items c.documents.set c.documents.invariant c.requires.live (sym c.in_default.is ∙ c.doc.ensures.document)
