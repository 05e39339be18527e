use Rattle.std.proofs.Common.{arith}
use Rattle.segment_builder.proofs.Lent.{positions_fit, run_long}
use Rattle.segment_builder.proofs.rows.put_row.Goals as goal

pub put_string-requires : goal.put_string-requires
put_string-requires g c = c.requires.short

pub overflow_cast-run : goal.overflow_cast-run
overflow_cast-run g c = omega (arith, run_long g.T.Term.bytes g.T.Term.positions c.args.run.now c.requires.postings_are.documents_are)

pub put_postings-requires : goal.put_postings-requires
put_postings-requires g c = positions_fit g.T.Term.bytes g.T.Term.positions c.args.run.now c.requires.postings_are.positions_are
