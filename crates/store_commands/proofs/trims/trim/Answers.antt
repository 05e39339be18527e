use Rattle.store_commands.proofs.Images.{kept_on}
use Rattle.store_commands.proofs.Known.{known_sealed, known_untried}
use Rattle.index_core.specs.Kept.{layout_kept}
use Rattle.store_commands.proofs.trims.trim.Goals as goal

pub returns-in-Ok-clause-known : goal.returns-in-Ok-clause-known
returns-in-Ok-clause-known g c =
    known_untried (layout_kept c.seal.new.self) c.args.store.now c.trimmed.new.store c.in-Ok.ensures.left
    (known_sealed c.args.index.now c.seal.new.self c.args.store.now.known c.in_ok-seal.ensures.sealed c.requires.known)

pub returns-in-Err-clause-known : goal.returns-in-Err-clause-known
returns-in-Err-clause-known g c =
    known_untried (layout_kept c.seal.new.self) c.args.store.now c.trimmed.new.store c.in-Err.ensures.left
    (known_sealed c.args.index.now c.seal.new.self c.args.store.now.known c.in_ok-seal.ensures.sealed c.requires.known)

pub returns-in-Err-clause-stores : goal.returns-in-Err-clause-stores
returns-in-Err-clause-stores g c = λ told found keeps. kept_on c.trimmed.new.store found found _ _ _ _ _ _ (c.in-Err.ensures.step told found keeps)
