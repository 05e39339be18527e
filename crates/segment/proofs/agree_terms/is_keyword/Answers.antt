use Rattle.std.proofs.Common.{nat_cmp, sym, subst}
use Rattle.std.specs.List.Sorted.{IsSorted}
use Rattle.segment.proofs.Halves.{values_ascend}
use Rattle.segment.proofs.PostingKinds.{no_keyword, a_keyword}
use Rattle.segment.proofs.agree_terms.is_keyword.Goals as goal

pub returns-then-positions-gt0 : goal.returns-then-positions-gt0
returns-then-positions-gt0 c = λ posting own long. no_keyword c.args.rows.now c.args.ordinal c.args.positions posting c.if-positions-gt0.true long

pub returns : goal.returns
returns c = λ posting own long. a_keyword c.args.rows.now c.args.ordinal c.args.doc c.args.positions c.values.result c.has_ordinal.result posting c.if-positions-gt0.false c.values.ensures.values c.has_ordinal.ensures own long

pub has_ordinal-requires : goal.has_ordinal-requires
has_ordinal-requires c = subst (IsSorted nat_cmp) (sym c.values.ensures.values) (values_ascend nat_cmp c.args.rows.now c.args.doc (λ at d below. (c.values.ensures.rows.valued at d below).ascending))
