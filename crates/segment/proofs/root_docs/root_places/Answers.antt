use Rattle.std.proofs.Common.{◌∙◌}
use Rattle.segment.proofs.Places.{root_documents-none, root_documents-first}
use Rattle.segment.proofs.root_docs.root_places.Goals as goal

pub returns-in-empty : goal.returns-in-empty
returns-in-empty c = c.new.ensures.items ∙ root_documents-none c.args.scopes.now (rw c.as_slice.ensures at c.in-empty.len_below)

pub returns-in-len1-up : goal.returns-in-len1-up
returns-in-len1-up c =
    let first = root_documents-first c.args.scopes.now c.roots-item.result (rw c.as_slice.ensures at c.in-len1-up.len_at_least) (rw c.as_slice.ensures at c.roots-item.is) in
    rw (← first) c.places_of.ensures
