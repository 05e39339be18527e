use Rattle.std.proofs.Common.{◌<◌, Bool, List, [], length, ap, ◌∙◌, arith}
use Rattle.segment.specs.Live.{root_of as block_root}
use Rattle.segment_parts.specs.Parts.{root_flags}
use Rattle.search_page.proofs.Marks.{marks_are}
use Rattle.search_page.proofs.hits.root_of.Goals as goal

pub returns-clause-root : goal.returns-clause-root
returns-clause-root c =
    let columns = c.args.segment.now in
    let some : 0 < length columns.scopes = omega (arith, c.docs-documents.ensures.agree.parts.head.some) in
    c.root_of_doc.ensures.root
    ∙ ap (λ (flags : List Bool). block_root flags c.args.doc)
    (marks_are columns (root_flags columns.scopes) (c.docs-documents.ensures.agree.parts.head.long 0 [] some) (λ doc low. c.scopes_are_of_documents.ensures.sets 0 doc some low))
