use Rattle.std.proofs.Common.{◌≡◌, ◌<◌, ℕ, List, [], length, ap, ◌∙◌, arith}
use Rattle.block_bits.specs.Blocks.{documents_of}
use Rattle.query_eval.proofs.Scopes.{set_is}
use Rattle.segment_parts.specs.Parts.{root_flags}
use Rattle.tree_joins.specs.Seen.{scopes_of}
use Rattle.view_objects.specs.Hits.{objects_in}
use Rattle.inner_hits.proofs.Rooting.{root_is}
use Rattle.inner_hits.proofs.trees.root_of.Goals as goal

pub returns-clause-root : goal.returns-clause-root
returns-clause-root c = λ m bits trees stands.
    let s = c.args.segment.now in
    let head = c.docs-documents.ensures.agree.parts.head in
    let below : 0 < length s.scopes = (let some = head.some in omega (arith, some)) in
    let flags : root_flags s.scopes ≡ documents_of (scopes_of m trees) 0 =
    set_is s 0 (root_flags s.scopes) (head.long 0 [] below) (λ doc inside. c.scopes_are_of_documents.ensures.sets 0 doc below inside)
    ∙ ap (λ (l : List ℕ). documents_of l 0) (c.documents_are_of_objects.ensures.scopes m s bits trees stands) in
    let low : c.args.doc < length (objects_in m trees) = omega (arith, c.requires, c.documents_are_of_objects.ensures.objects m s bits trees stands) in
    root_is m s bits trees c.args.doc c.root_of_doc.result stands c.root_of_doc.ensures.root flags (c.documents_are_of_objects.ensures.trees m trees c.args.doc stands.mapping low)
