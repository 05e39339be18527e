use Rattle.std.proofs.Common.{Bool, Option, sym, subst}
use Rattle.std.specs.Prelude.{◌↔◌, IfOk, IsTrue}
use Rattle.mapping.specs.Mapping.{Mapping}
use Rattle.line_engine.specs.Checked.{AreHeld}
use Rattle.line_engine.proofs.checking.is_sound.Goals as goal

pub returns-in-Some : goal.returns-in-Some
returns-in-Some c =
    subst (λ (mapping : Option Mapping). IfOk c.holds.result (λ (sound : Bool). IsTrue sound ↔ AreHeld mapping c.args.found.now.view)) (sym c.in-Some.is) c.holds.ensures
