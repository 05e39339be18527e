use Rattle.std.proofs.Common.{◌≡◌, [], length, sym, ap, ◌∙◌, arith}
use Rattle.std.proofs.lemmas.Option.{none-some}
use Rattle.stored_sources.specs.declared.root.Root.{Root}
use Rattle.stored_sources.specs.Kept.{root_read, root_in}
use Rattle.stored_sources.specs.Lent.{lent_root}
use Rattle.stored_sources.proofs.Rows.{text_read}
use Rattle.stored_sources.proofs.kept.lent_from.Goals as goal

pub unreachable-requires : goal.unreachable-requires
unreachable-requires c = none-some (c.requires.root, []) (sym c.in-None.ensures ∙ text_read c.args.bytes.now c.requires)

pub returns-clause-root : goal.returns-clause-root
unfolding root_in
returns-clause-root c = sym (ap root_read c.in-Some.ensures)

pub returns-clause-short : goal.returns-clause-short
returns-clause-short c =
    let same : lent_root c.in-Some.root ≡ c.requires.root = ap root_read (sym c.in-Some.ensures ∙ text_read c.args.bytes.now c.requires) in
    omega (arith, c.requires.is.source, ap (λ (root : Root). length root.source) same)
