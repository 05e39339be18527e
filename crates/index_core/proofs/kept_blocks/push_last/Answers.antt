use Rattle.std.proofs.Common.{◌≤◌, inr, sym, subst, arith}
use Rattle.std.specs.List.{All}
use Rattle.view_merge.specs.Given.{IsKeptOrMade}
use Rattle.view_merge.proofs.Ways.{kept_more}
use Rattle.index_core.proofs.Relaying.{all_kept}
use Rattle.index_core.proofs.Sealing.{below_more}
use Rattle.index_core.proofs.kept_blocks.push_last.Goals as goal

pub returns-clause-below : goal.returns-clause-below
returns-clause-below c =
    below_more c.args.view.now c.push.new.self c.args.made.now c.in_ok-next.next c.in_ok-entry.entry c.requires.below c.in_ok-push.ensures.pushed c.in_ok-next.ensures c.in_ok-entry.ensures.id c.in_ok-entry.ensures.whole

pub returns-clause-entries : goal.returns-clause-entries
returns-clause-entries c =
    let later : c.args.made.now ≤ c.in_ok-entry.entry.id = omega (arith, c.in_ok-entry.ensures.id) in
    subst (All (IsKeptOrMade c.args.view.now c.args.made.now)) (sym c.in_ok-push.ensures.pushed)
    (kept_more c.args.view.now c.args.view.now c.args.made.now c.in_ok-entry.entry (inr later) (all_kept c.args.made.now c.args.view.now))
