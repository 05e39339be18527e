use Rattle.std.proofs.Common.{sym, ◌∙◌, arith}
use Rattle.leaf_search.proofs.Going.{goes_on, stops_none, stops_past}
use Rattle.leaf_search.proofs.conjunction.go_to.Goals as goal

pub returns-in_default-clause-lists : goal.returns-in_default-clause-lists
returns-in_default-clause-lists c =
    let stopped = stops_none c.args.doc c.args.cursors.now.items c.cursors.cursors.items c.cursors.at c.index_mut.result.now c.advance-place.new.self
    c.cursors.invariant (omega (arith, c.cursors-test.true, c.len-at-end.ensures, c.cursors.invariant.long)) c.index_mut.ensures.value c.advance-place.ensures.postings c.advance-place.ensures.place (sym c.in_default.is ∙ c.advance-place.ensures.document) in
    stopped.lists

pub returns-in_default-clause-passed : goal.returns-in_default-clause-passed
returns-in_default-clause-passed c =
    let stopped = stops_none c.args.doc c.args.cursors.now.items c.cursors.cursors.items c.cursors.at c.index_mut.result.now c.advance-place.new.self
    c.cursors.invariant (omega (arith, c.cursors-test.true, c.len-at-end.ensures, c.cursors.invariant.long)) c.index_mut.ensures.value c.advance-place.ensures.postings c.advance-place.ensures.place (sym c.in_default.is ∙ c.advance-place.ensures.document) in
    stopped.passed

pub returns-in_default-clause-says : goal.returns-in_default-clause-says
returns-in_default-clause-says c =
    let stopped = stops_none c.args.doc c.args.cursors.now.items c.cursors.cursors.items c.cursors.at c.index_mut.result.now c.advance-place.new.self
    c.cursors.invariant (omega (arith, c.cursors-test.true, c.len-at-end.ensures, c.cursors.invariant.long)) c.index_mut.ensures.value c.advance-place.ensures.postings c.advance-place.ensures.place (sym c.in_default.is ∙ c.advance-place.ensures.document) in
    sym stopped.says

pub returns-then-own-doc-clause-lists : goal.returns-then-own-doc-clause-lists
returns-then-own-doc-clause-lists c =
    let stopped = stops_past c.args.doc c.args.cursors.now.items c.cursors.cursors.items c.cursors.at c.index_mut.result.now c.advance-place.new.self c.in-Some.own
    c.cursors.invariant (omega (arith, c.cursors-test.true, c.len-at-end.ensures, c.cursors.invariant.long)) c.index_mut.ensures.value c.advance-place.ensures.postings c.advance-place.ensures.place (sym c.in-Some.is ∙ c.advance-place.ensures.document) c.if-own-doc.true in
    stopped.lists

pub returns-then-own-doc-clause-passed : goal.returns-then-own-doc-clause-passed
returns-then-own-doc-clause-passed c =
    let stopped = stops_past c.args.doc c.args.cursors.now.items c.cursors.cursors.items c.cursors.at c.index_mut.result.now c.advance-place.new.self c.in-Some.own
    c.cursors.invariant (omega (arith, c.cursors-test.true, c.len-at-end.ensures, c.cursors.invariant.long)) c.index_mut.ensures.value c.advance-place.ensures.postings c.advance-place.ensures.place (sym c.in-Some.is ∙ c.advance-place.ensures.document) c.if-own-doc.true in
    stopped.passed

pub returns-then-own-doc-clause-says : goal.returns-then-own-doc-clause-says
returns-then-own-doc-clause-says c =
    let stopped = stops_past c.args.doc c.args.cursors.now.items c.cursors.cursors.items c.cursors.at c.index_mut.result.now c.advance-place.new.self c.in-Some.own
    c.cursors.invariant (omega (arith, c.cursors-test.true, c.len-at-end.ensures, c.cursors.invariant.long)) c.index_mut.ensures.value c.advance-place.ensures.postings c.advance-place.ensures.place (sym c.in-Some.is ∙ c.advance-place.ensures.document) c.if-own-doc.true in
    sym stopped.says

pub cursors-preserved : goal.cursors-preserved
cursors-preserved c =
    goes_on c.args.doc c.args.cursors.now.items c.cursors.cursors.items c.cursors.at c.index_mut.result.now c.advance-place.new.self c.in-Some.own
    c.cursors.invariant (omega (arith, c.cursors-test.true, c.len-at-end.ensures, c.cursors.invariant.long)) c.index_mut.ensures.value c.advance-place.ensures.postings c.advance-place.ensures.place (sym c.in-Some.is ∙ c.advance-place.ensures.document) c.if-own-doc.false
