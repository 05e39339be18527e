use Rattle.std.proofs.Common.{arith}
use Rattle.segment.proofs.PostingKinds.{no_word, no_document, a_word}
use Rattle.segment.proofs.agree_terms.is_word.Goals as goal

pub returns-then-positions-eq0 : goal.returns-then-positions-eq0
returns-then-positions-eq0 c = λ posting own long. no_word c.args.set.now c.args.positions posting c.if-positions-eq0.true long

pub returns-then-doc-len : goal.returns-then-doc-len
returns-then-doc-len c = λ posting own long. no_document c.args.set.now c.args.doc posting (omega (arith, c.if-doc-len.true, c.len.ensures)) own

pub returns : goal.returns
returns c = λ posting own long. a_word c.args.set.now c.args.doc c.args.positions c.has.result posting c.if-positions-eq0.false c.has.ensures own long
