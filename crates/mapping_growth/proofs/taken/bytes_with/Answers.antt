use Rattle.std.proofs.Common.{◌≡◌, ◌++◌, ◌∷◌, [], ◌∙◌, ap, length, List}
use Rattle.tree_json.specs.Text.{compact}
use Rattle.tree_json.specs.Value.{JsonValue}
use Rattle.tree_json.specs.View.{view}
use Rattle.mapping_growth.specs.Bodies.{compact_size}
use Rattle.mapping_growth.specs.Kept.{counted}
use Rattle.mapping_growth.proofs.Keeping.{bytes_more, size_more}
use Rattle.mapping_growth.proofs.taken.bytes_with.Goals as goal

pub returns : goal.returns
returns c =
    let few : c.said.inside.counts.bytes ≡ counted (compact_size c.args.said.now) = c.said.invariant.1.bytes_is ∙ ap (λ (bs : List JsonValue). counted (compact_size bs)) c.said.view_is in
    let sum = bytes_more (compact_size c.args.said.now) (length (compact (view c.args.candidate.now.body.now))) (compact_size (c.args.said.now ++ view c.args.candidate.now.body.now ∷ [])) (size_more c.args.said.now (view c.args.candidate.now.body.now)) in
    (rw (few, c.compact_len-more.ensures.length) at c.saturating_add.ensures) ∙ sum
