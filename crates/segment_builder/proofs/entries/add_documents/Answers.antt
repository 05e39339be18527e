use Rattle.std.proofs.Common.{◌+◌, drop, map, sym, ap, subst, ◌∙◌, arith}
use Rattle.std.proofs.lemmas.List.{at_drop_all, at_drop_more}
use Rattle.flattener.specs.Seen.{document_seen}
use Rattle.segment_builder.specs.Entries.{with_document, with_documents}
use Rattle.segment_builder.specs.Lists.{AreLists}
use Rattle.segment_builder.proofs.entries.add_documents.Goals as goal

pub add_document-requires-clause-lists : goal.add_document-requires-clause-lists
add_document-requires-clause-lists c = let own = c.documents.invariant.0 c.requires.lists.0 c.requires.lists.1 in (own.0, own.1)

pub documents-preserved : goal.documents-preserved
documents-preserved c =
    let at = c.documents.document-index in
    let item = c.document-item.result in (
      (λ it are.
          let own = c.documents.invariant.0 it are in (
            with_document own.0 (document_seen item),
            c.in_ok-add_document.ensures.lists own.0 own.1,
            sym
                (at_drop_more (λ documents. with_documents own.0 (map document_seen documents)) c.args.documents.now at item c.documents-test.true
                ∙ ap (λ document. with_documents (with_document own.0 (document_seen document)) (map document_seen (drop (at + 1) c.args.documents.now))) (sym c.document-item.is))
                ∙ own.2,
          )),
      omega (arith, c.in_ok-add_document.ensures.longer, c.documents.invariant.1),
    )

pub returns-clause-lists : goal.returns-clause-lists
returns-clause-lists c = λ it are.
    let own = c.documents.invariant.0 it are in
    subst (λ e. AreLists e c.documents.lists) (sym (at_drop_all (λ documents. with_documents own.0 (map document_seen documents)) c.args.documents.now c.documents.document-index c.documents-test.false) ∙ own.2) own.1
