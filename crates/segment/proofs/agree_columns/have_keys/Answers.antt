use Rattle.std.proofs.Common.{arith}
use Rattle.segment_parts.specs.Agree.{HaveKeys}
use Rattle.segment_parts.specs.Lists.{terms_of, postings_of}
use Rattle.segment_parts.specs.Passes.{pass_more, answer_all, answer_not}
use Rattle.segment.proofs.agree_columns.have_keys.Goals as goal

pub returns-then-not-are_keyed_rows : goal.returns-then-not-are_keyed_rows
returns-then-not-are_keyed_rows c = answer_not (HaveKeys (terms_of c.args.parts.now) (postings_of c.args.parts.now)) c.args.parts.now.numbers c.columns.at c.number_column-field.result c.are_keyed_rows.result c.number_column-field.ensures c.are_keyed_rows.ensures c.if-not-are_keyed_rows.true

pub columns-preserved : goal.columns-preserved
columns-preserved c = pass_more (HaveKeys (terms_of c.args.parts.now) (postings_of c.args.parts.now)) c.args.parts.now.numbers c.columns.at c.number_column-field.result c.columns.invariant c.number_column-field.ensures (c.are_keyed_rows.ensures.0 c.if-not-are_keyed_rows.false)

pub returns : goal.returns
returns c = answer_all (HaveKeys (terms_of c.args.parts.now) (postings_of c.args.parts.now)) c.args.parts.now.numbers c.columns.at c.columns.invariant (omega (arith, c.columns-test.false, c.number_columns-at-end.ensures))
