use Rattle.std.proofs.Common.{◌≡◌, ℕ, List, [], get_or, arith}
use Rattle.postings.specs.Postings.{present_positions}
use Rattle.leaf_search.specs.Patterns.{positions_in}
use Rattle.leaf_search.proofs.Halving.{positions_ascend}
use Rattle.leaf_search.proofs.Running.{all_within, places_of, searched_more, searched_none, searched_past}
use Rattle.leaf_search.proofs.run_search.has_run.Goals as goal
use Rattle.leaf_search.proofs.run_search.has_run.Goals.{then-position-start+else-found-words, else-position-start}

pub positions-preserved : goal.positions-preserved
positions-preserved c =
    let places : List (List ℕ) = positions_in c.args.cursors.now in
    let ps : List ℕ = present_positions c.index-cursors-words.result in
    let own : get_or places (get_or c.args.words.now 0 0) [] ≡ ps = places_of c.args.cursors.now (get_or c.args.words.now 0 0) c.index-cursors-words.result (c.requires.words 0 0 c.requires.some) c.index-cursors-words.is in
    elim c.if-position-start.branch [
      | then-position-start+else-found-words w ↦
          rw (w.start-is, w.count-is)
          (searched_more places c.args.words.now ps (positions_ascend c.index-cursors-words.result c.doc-document.ensures.postings) own c.args.shifts.now c.requires.shifts c.requires.long
          (all_within c.args.cursors.now c.args.words.now c.requires.words) c.args.apart c.positions.start c.positions.count c.positions.i c.position-position.result w.run_length-found.result w.moved-further.result.0 w.moved-further.result.1
          c.requires.apart c.positions.invariant (omega (arith, c.positions-test.true, c.positions-i-end.ensures)) c.position-position.ensures w.if-position-start.true
          w.run_length-found.ensures.run (omega (arith, w.if-found-words.false, w.run_length-found.ensures.within)) (w.run_length-found.ensures.stops (omega (arith, w.if-found-words.false, w.run_length-found.ensures.within)))
          w.moved-further.ensures.further w.moved-further.ensures.left)
      | else-position-start w ↦
          rw (w.start-is, w.count-is)
          (searched_past places c.args.words.now ps c.positions.start c.positions.count c.positions.i c.position-position.result c.positions.invariant c.position-position.ensures (omega (arith, w.if-position-start.false)))
    ]

pub returns-clause-none : goal.returns-clause-none
returns-clause-none c = λ _.
    let ps : List ℕ = present_positions c.index-cursors-words.result in
    searched_none (positions_in c.args.cursors.now) c.args.words.now ps (positions_ascend c.index-cursors-words.result c.doc-document.ensures.postings)
    (places_of c.args.cursors.now (get_or c.args.words.now 0 0) c.index-cursors-words.result (c.requires.words 0 0 c.requires.some) c.index-cursors-words.is)
    c.positions.start c.positions.count c.positions.i c.positions.invariant (omega (arith, c.positions-test.false, c.positions-i-end.ensures))
