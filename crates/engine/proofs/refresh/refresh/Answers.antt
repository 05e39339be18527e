use Rattle.std.proofs.Common.{◌++◌, List, ℕ, Some, ap, inr, refl, ◌∙◌}
use Rattle.machine.specs.State.{sealed_state}
use Rattle.reply_text.specs.Text.{reply_text}
use Rattle.reply_text.specs.declared.reply.Reply.TheVariants.{Refreshed}
use Rattle.engine.specs.declared.engine.Answered.TheVariants.{Written}
use Rattle.engine.proofs.Answering.{accepted, sealed_faithful}
use Rattle.engine.proofs.Leaving.{leaves_sealed}
use Rattle.engine.proofs.refresh.refresh.Goals as goal

pub returns-clause-answers : goal.returns-clause-answers
returns-clause-answers c = λ state f.
    accepted (Some c.args.mapping.now) c.seal.new.self state (sealed_state state) Refreshed c.write.new.out.bytes
    (sealed_faithful c.args.mapping.now c.args.index.now c.seal.new.self state f c.in_ok-seal.ensures.next c.in_ok-seal.ensures.sealed) refl refl refl
    (c.in_ok-write.ensures.ok ∙ ap (λ (bytes : List ℕ). bytes ++ reply_text Refreshed) c.requires.empty)

pub returns-clause-leaves : goal.returns-clause-leaves
returns-clause-leaves c =
    leaves_sealed Written c.args.mapping.now c.args.index.now c.seal.new.self c.requires.index c.in_ok-seal.ensures.fits c.in_ok-seal.ensures.next c.in_ok-seal.ensures.objects (inr c.in_ok-seal.ensures.sealed)
