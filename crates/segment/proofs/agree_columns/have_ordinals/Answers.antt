use Rattle.std.proofs.Common.{arith}
use Rattle.segment_parts.specs.Agree.{HaveOrdinals}
use Rattle.segment_parts.specs.Lists.{terms_of, postings_of}
use Rattle.segment_parts.specs.Passes.{pass_more, answer_all, answer_not}
use Rattle.segment.proofs.agree_columns.have_ordinals.Goals as goal

pub returns-then-not-are_ordinal_rows : goal.returns-then-not-are_ordinal_rows
returns-then-not-are_ordinal_rows c = answer_not (HaveOrdinals (terms_of c.args.parts.now) (postings_of c.args.parts.now)) c.args.parts.now.ordinals c.columns.at c.ordinal_column-field.result c.are_ordinal_rows.result c.ordinal_column-field.ensures c.are_ordinal_rows.ensures c.if-not-are_ordinal_rows.true

pub columns-preserved : goal.columns-preserved
columns-preserved c = pass_more (HaveOrdinals (terms_of c.args.parts.now) (postings_of c.args.parts.now)) c.args.parts.now.ordinals c.columns.at c.ordinal_column-field.result c.columns.invariant c.ordinal_column-field.ensures (c.are_ordinal_rows.ensures.0 c.if-not-are_ordinal_rows.false)

pub returns : goal.returns
returns c = answer_all (HaveOrdinals (terms_of c.args.parts.now) (postings_of c.args.parts.now)) c.args.parts.now.ordinals c.columns.at c.columns.invariant (omega (arith, c.columns-test.false, c.ordinal_columns-at-end.ensures))
