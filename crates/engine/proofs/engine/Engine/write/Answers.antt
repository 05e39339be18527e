use Rattle.std.proofs.Common.{ap, refl, subst, sym, ◌∙◌}
use Rattle.machine.specs.Write.{write_step}
use Rattle.request_form.specs.Seen.{write_view}
use Rattle.engine.specs.Faithful.{IsFaithful}
use Rattle.engine.specs.Kept.{EngineState}
use Rattle.engine.specs.Parts.{answered_of}
use Rattle.engine.proofs.Asking.{write_answer}
use Rattle.engine.proofs.engine.Engine.write.Goals as goal

pub returns-in-Some-clause-answers : goal.returns-in-Some-clause-answers
returns-in-Some-clause-answers g c = λ state f.
    let own = subst (λ (it : EngineState). IsFaithful it state) (sym c.self.view_is) f in
    write_answer c.further_bodies_leave_blocks.ensures.same _ c.self.inside.mapping c.self.inside.index state c.in-Some.mapping c.write_tree.new.mapping (λ m. write_step c.args.self.now.limits m (write_view c.args.it) state)
    (answered_of c.write_tree.result) c.write_tree.new.out.bytes c.in-Some.is refl c.write_tree.ensures.grows own.0 own.1 own.2
    (c.write_tree.ensures.answers c.args.self.now.limits state (c.self.invariant.objects ∙ ap (λ (it : EngineState). it.limits.objects) c.self.view_is))
