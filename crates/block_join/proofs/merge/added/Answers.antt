use Rattle.std.proofs.Common.{Some, ap, ◌∙◌}
use Rattle.block_join.specs.Scores.{filled}
use Rattle.block_join.proofs.Totals.{none_either}
use Rattle.block_join.proofs.merge.added.Goals as goal

pub returns-then-have_none : goal.returns-then-have_none
returns-then-have_none c =
    c.same.ensures ∙ ap (filled (Some c.args.score)) c.in_ok-copy.ensures ∙ none_either c.args.one.now c.args.score c.args.set.now (c.have_none.ensures c.if-have_none.true) c.requires.capped c.requires.long
