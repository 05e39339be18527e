use Rattle.std.proofs.Common.{◌≡◌, ◌∷◌, [], ◌++◌, ◌∙◌, ap, map, List, ℕ}
use Rattle.std.proofs.lemmas.List.{map-append}
use Rattle.std.proofs.lemmas.List.Elements.{All-push}
use Rattle.segment.specs.Ids.{id_of}
use Rattle.segment.specs.declared.by_id.Named.{Named}
use Rattle.segment.proofs.ById.{range_more}
use Rattle.segment.proofs.by_id.named_roots.Goals as goal

pub roots-preserved : goal.roots-preserved
roots-preserved c =
    let one : Named = record { id = c.id.result; root = c.roots.root } in (
      ap (map (λ one. one.root)) c.in_ok-push.ensures.items ∙ map-append (λ one. one.root) c.roots.named.items (one ∷ [])
          ∙ ap (λ (ns : List ℕ). ns ++ c.roots.root ∷ []) c.roots.invariant.0 ∙ range_more c.roots.root,
      rw c.in_ok-push.ensures.items (All-push (λ (one : Named). one.id.now ≡ id_of c.args.sources.now one.root) c.roots.named.items one c.roots.invariant.1 c.id.ensures),
    )
