use Rattle.std.proofs.Common.{arith}
use Rattle.segment_parts.specs.Agree.{IsOrdinalAt}
use Rattle.segment_parts.specs.Lists.{terms_of, postings_of}
use Rattle.segment_parts.specs.Passes.{pass_more, answer_all}
use Rattle.segment.proofs.agree_columns.are_ordinals.Goals as goal

pub values-preserved : goal.values-preserved
values-preserved c = pass_more (IsOrdinalAt (terms_of c.args.parts.now) (postings_of c.args.parts.now) c.args.field c.args.doc) c.args.values.now c.values.at c.value.result c.values.invariant c.value.ensures (c.is_ordinal.ensures.0 c.if-not-is_ordinal.false)

pub returns : goal.returns
returns c = answer_all (IsOrdinalAt (terms_of c.args.parts.now) (postings_of c.args.parts.now) c.args.field c.args.doc) c.args.values.now c.values.at c.values.invariant (omega (arith, c.values-test.false, c.len-at-end.ensures))
