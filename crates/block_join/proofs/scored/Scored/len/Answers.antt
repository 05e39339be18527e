use Rattle.std.proofs.Common.{sym, ap, ◌∙◌, length}
use Rattle.block_join.specs.Kept.{kept_score}
use Rattle.block_join.proofs.Shown.{length_shown}
use Rattle.block_join.proofs.scored.Scored.len.Goals as goal

pub returns : goal.returns
returns c = c.len.ensures ∙ sym (length_shown (kept_score c.self.inside.form) 0 c.self.inside.set) ∙ ap length c.self.view_is
