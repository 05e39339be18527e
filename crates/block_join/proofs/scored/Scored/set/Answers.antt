use Rattle.std.proofs.Common.{sym, ap, ◌∙◌, map, is_some}
use Rattle.block_join.specs.Kept.{kept_score}
use Rattle.block_join.proofs.Shown.{shown_set}
use Rattle.block_join.proofs.scored.Scored.set.Goals as goal

pub returns : goal.returns
returns c = sym (shown_set (kept_score c.self.inside.form) 0 c.self.inside.set) ∙ ap (map is_some) c.self.view_is
