use Rattle.std.proofs.Common.{◌≡◌, ◌∙◌, ◌++◌, ◌∷◌, [], length, map, vec_len, ap, arith}
use Rattle.std.proofs.lemmas.Grind.{common_steps}
use Rattle.segment.specs.Flat.{FlatDocument}
use Rattle.flattener.specs.Seen.{document_seen}
use Rattle.flattener.proofs.Filled.{last_filled}
use Rattle.flattener.proofs.walk.push_document.Goals as goal

pub returns-clause-ok : goal.returns-clause-ok
returns-clause-ok c =
    let long : vec_len c.args.into.now ≡ length c.args.into.now.items = grind (arith, common_steps) in
    rw (c.in_ok-push.ensures, c.len-place.ensures, long) (
    last_filled document_seen c.args.into.now.items c.begun.result c.fill.new.into
    ∙ ap (λ (d : FlatDocument). map document_seen c.args.into.now.items ++ d ∷ []) c.in_ok-fill.ensures
    )
