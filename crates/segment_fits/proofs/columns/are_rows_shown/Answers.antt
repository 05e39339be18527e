use Rattle.std.proofs.Common.{◌<◌, length, arith}
use Rattle.segment_fits.specs.declared.standing.Standing.{Standing}
use Rattle.segment_fits.proofs.Loops.{doc_within}
use Rattle.segment_fits.proofs.columns.are_rows_shown.Goals as goal

pub bounds-standings-doc : goal.bounds-standings-doc
bounds-standings-doc g c =
    omega (arith, c.doc.ensures, doc_within c.args.column.now (length c.args.standings.now) c.rows.row c.requires.within (omega (arith, c.rows-test.true, c.rows-row-end.ensures.count)))

pub is_shown-requires-clause-scope : goal.is_shown-requires-clause-scope
is_shown-requires-clause-scope g c =
    let d : Standing = record { scope = 0; generation = 0 } in
    let inside : c.doc.result < length c.args.standings.now =
    omega (arith, c.doc.ensures, doc_within c.args.column.now (length c.args.standings.now) c.rows.row c.requires.within (omega (arith, c.rows-test.true, c.rows-row-end.ensures.count))) in
    c.requires.scopes c.doc.result d inside
