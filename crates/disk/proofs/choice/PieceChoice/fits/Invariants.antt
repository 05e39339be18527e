use Rattle.std.proofs.Common.{◌≡◌, drop}
use Rattle.disk.specs.Choices.{fits}
use Rattle.disk.proofs.choice.PieceChoice.fits.Given as goal

abbrev pub invariant-choices : goal.invariant-choices
invariant-choices l = fits (drop l.choice-index l.choice-items) l.rest ≡ fits l.self l.pending
