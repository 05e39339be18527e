use Rattle.std.proofs.Common.{◌++◌, ℕ, List, ap, ◌∙◌}
use Rattle.segment_merge.proofs.Placed.{texts_written}
use Rattle.segment_merge.proofs.text_columns.put_texts.Goals as goal

pub returns : goal.returns
returns c = λ entries is.
    let made = c.in_ok-put_all.ensures in
    (made.0, made.1, made.2 ∙ ap (λ (text : List ℕ). c.args.into.now.items ++ text) (texts_written entries c.args.parts.now made.0 is c.parts_agree.ensures.agree c.parts_agree.ensures.live made.1))
