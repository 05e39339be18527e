use Rattle.std.proofs.Common.{◌≡◌, ◌<◌, ◌≤◌, length, IfSome, is_some, sym, subst, ◌∙◌}
use Rattle.block_bits.specs.Places.{next_place}
use Rattle.block_join.specs.Kept.{kept_score}
use Rattle.block_join.specs.Scores.{Standing}
use Rattle.block_join.proofs.Standing.{next_shown, ahead_within}
use Rattle.block_join.proofs.cursor.Cursor.peek.Goals as goal

pub returns-clause-value : goal.returns-clause-value
returns-clause-value c =
    subst (λ (v : Standing). c.self.inside.ahead ≡ next_place is_some v.from v.scores) c.self.view_is
    (c.self.invariant.next ∙ sym (next_shown (kept_score c.self.inside.form.now) c.self.inside.walk.documents c.self.inside.from))

pub returns-clause-within : goal.returns-clause-within
returns-clause-within c =
    subst (λ (v : Standing). IfSome c.self.inside.ahead (λ doc. (v.from ≤ doc) × (doc < length v.scores))) c.self.view_is
    (ahead_within c.self.inside.walk.documents c.self.inside.form.now c.self.inside.from c.self.inside.ahead c.self.invariant.next)
