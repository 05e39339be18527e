use Rattle.std.proofs.Common.{inr}
use Rattle.engine.specs.Parts.{answered_of}
use Rattle.engine.proofs.Answering.{left_sealed}
use Rattle.engine.proofs.Leaving.{leaves_sealed}
use Rattle.engine.proofs.Merging.{rows_end}
use Rattle.engine.proofs.segments.show_segments.Goals as goal

pub returns-in_err-reply-clause-answers : goal.returns-in_err-reply-clause-answers
returns-in_err-reply-clause-answers c = λ state f.
    left_sealed _ c.args.mapping.now c.args.index.now c.seal.new.self state _ c.args.out.now.bytes c.from_residual-in_err-reply.result c.from_residual-in_err-reply.ensures.1 f c.in_ok-seal.ensures.next c.in_ok-seal.ensures.sealed

pub returns-in_err-reply-clause-leaves : goal.returns-in_err-reply-clause-leaves
returns-in_err-reply-clause-leaves c =
    leaves_sealed (answered_of c.from_residual-in_err-reply.result) c.args.mapping.now c.args.index.now c.seal.new.self c.requires.index c.in_ok-seal.ensures.fits c.in_ok-seal.ensures.next
    c.in_ok-seal.ensures.objects (inr c.in_ok-seal.ensures.sealed)

pub returns-clause-answers : goal.returns-clause-answers
returns-clause-answers c = λ state f.
    rows_end c.args.limits.now c.args.mapping.now c.args.index.now c.seal.new.self state c.in_ok-reply.reply c.write_within.result c.write_within.new.out.bytes f c.in_ok-seal.ensures.next c.in_ok-seal.ensures.sealed
    c.in_ok-reply.ensures c.write_within.ensures.told c.write_within.ensures.text

pub returns-clause-leaves : goal.returns-clause-leaves
returns-clause-leaves c =
    leaves_sealed (answered_of c.write_within.result) c.args.mapping.now c.args.index.now c.seal.new.self c.requires.index c.in_ok-seal.ensures.fits c.in_ok-seal.ensures.next c.in_ok-seal.ensures.objects
    (inr c.in_ok-seal.ensures.sealed)
