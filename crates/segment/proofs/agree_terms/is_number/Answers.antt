use Rattle.std.proofs.Common.{All, w64, FitsSigned, int_cmp, sym, subst}
use Rattle.std.specs.List.Sorted.{IsSorted}
use Rattle.segment.proofs.Halves.{values_ascend}
use Rattle.segment.proofs.PostingKinds.{no_number, a_number, values_fit}
use Rattle.segment.proofs.agree_terms.is_number.Goals as goal

pub returns-then-positions-gt0 : goal.returns-then-positions-gt0
returns-then-positions-gt0 c = λ posting own long. no_number c.args.rows.now c.args.key.now c.args.positions posting c.if-positions-gt0.true long

pub has_key-requires-clause-ascending : goal.has_key-requires-clause-ascending
has_key-requires-clause-ascending c = subst (IsSorted int_cmp) (sym c.values.ensures.values) (values_ascend int_cmp c.args.rows.now c.args.doc (λ at d below. (c.values.ensures.rows.valued at d below).ascending))

pub has_key-requires-clause-fit : goal.has_key-requires-clause-fit
has_key-requires-clause-fit c = subst (All (FitsSigned w64)) (sym c.values.ensures.values) (values_fit c.args.rows.now c.args.doc c.requires)

pub returns : goal.returns
returns c = λ posting own long. a_number c.args.rows.now c.args.key.now c.args.doc c.args.positions c.values.result c.has_key.result posting c.if-positions-gt0.false c.values.ensures.values c.has_key.ensures own long
