use Rattle.std.proofs.Common.{◌<◌, length, sym, ap, ◌∙◌, arith}
use Rattle.tree_objects.specs.Tree.{Tree}
use Rattle.view_objects.specs.Hits.{document_object, objects_in}
use Rattle.inner_hits.proofs.Contents.{around_none, child_found, child_there, parent_around, root_located, same_tree}
use Rattle.inner_hits.proofs.content.+located.Goals as goal

pub located-returns-in-None : goal.located-returns-in-None
located-returns-in-None t c = λ bits trees stands here holds.
    let m = c.args.mapping.now in
    let low : c.args.doc < length (objects_in m trees) = omega (arith, c.requires.doc, c.documents_are_of_objects.ensures.objects m c.args.segment.now bits trees stands) in
    root_located m trees c.args.doc _ (c.documents_are_of_objects.ensures.trees m trees c.args.doc stands.mapping low) (here ∙ around_none m c.args.scope (sym c.in-None.ensures)) c.new.ensures.items holds

pub located_inside-returns-in-None : goal.located_inside-returns-in-None
located_inside-returns-in-None t c = λ bits trees stands here holds.
    let m = c.args.mapping.now in
    let s = c.args.segment.now in
    let low : c.args.doc < length (objects_in m trees) = omega (arith, c.requires.doc, c.documents_are_of_objects.ensures.objects m s bits trees stands) in
    let at = c.documents_are_of_objects.ensures.children m trees c.args.doc c.args.scope stands.mapping c.requires.nested c.requires.scope low here in
    absurd (child_there m s trees c.args.doc c.args.scope (c.documents_are_of_objects.ensures.scopes m s bits trees stands) at (rw (sym c.requires.outer) at c.in-None.ensures.child))

pub located_inside-returns-in_ok-inside-in-Some : goal.located_inside-returns-in_ok-inside-in-Some
located_inside-returns-in_ok-inside-in-Some t c = λ bits trees stands here holds.
    let m = c.args.mapping.now in
    let s = c.args.segment.now in
    let scopes = c.documents_are_of_objects.ensures.scopes m s bits trees stands in
    let low : c.args.doc < length (objects_in m trees) = omega (arith, c.requires.doc, c.documents_are_of_objects.ensures.objects m s bits trees stands) in
    let at = c.documents_are_of_objects.ensures.children m trees c.args.doc c.args.scope stands.mapping c.requires.nested c.requires.scope low here in
    let found = rw (sym c.requires.outer) at c.in-Some.ensures.child in
    let is = child_found m s trees c.args.doc c.args.scope scopes at c.in-Some.child found in
    let around = parent_around m s trees c.args.doc c.args.scope scopes at c.in-Some.child found in
    let own = same_tree m (document_object m trees c.in-Some.child.parent) (document_object m trees c.args.doc) c.args.scope c.in-Some.child.offset is in
    c.in_ok-inside-in-Some.ensures (document_object m trees c.in-Some.child.parent) (document_object m trees c.args.doc)
    (c.in_ok-enclosing-in-Some.ensures bits trees stands (around ∙ c.requires.outer) (holds ∙ ap (λ (t : Tree). t.source) own)) is
