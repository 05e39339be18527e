use Rattle.std.proofs.Common.{Bool, subst}
use Rattle.std.proofs.lemmas.Bool.{false≢true}
use Rattle.std.specs.Prelude.{IsTrue}
use Rattle.line_engine.proofs.Sound.{no_sound_commit}
use Rattle.line_engine.proofs.checking.sound_store.Goals as goal

pub returns-in-Ok-false-clause-damaged : goal.returns-in-Ok-false-clause-damaged
returns-in-Ok-false-clause-damaged g c = λ same bytes is.
    no_sound_commit c.args.limit bytes c.in_ok-found.found (c.in_ok-found.ensures.inspects bytes is)
    (λ held. false≢true (subst (λ (sound : Bool). IsTrue sound) c.in-Ok-false.field-0-test (c.in-Ok-false.ensures.1 held)))
