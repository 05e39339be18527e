use Rattle.std.proofs.Common.{Bor, List, ℕ, ◌++◌, ◌∷◌, [], map, ap, ◌∙◌}
use Rattle.std.specs.Option.{option_map}
use Rattle.std.proofs.lemmas.List.{map_push}
use Rattle.hit_order.specs.Table.{text_or_null}
use Rattle.nested_sort.specs.Documents.{docs_inside, question_of}
use Rattle.nested_sort.proofs.Gathers.{terms_are, texts_key}
use Rattle.nested_sort.proofs.texts.push_key_in.Goals as goal

pub term_ordinal-ordinal-requires-clause-terms : goal.term_ordinal-ordinal-requires-clause-terms
term_ordinal-ordinal-requires-clause-terms c =
    terms_are c.args.segment.now c.args.asked.now.field (docs_inside c.args.segment.now c.args.place (question_of c.args.asked.now) c.args.doc) c.terms-terms.result c.gather_ordinals.new.ordinals.items c.as_slice-found.result.now
    c.docs-documents.ensures.agree c.terms-terms.ensures c.in_ok-gather_ordinals.ensures c.as_slice-found.ensures.value

pub returns : goal.returns
returns c =
    ap (map text_or_null) c.in_ok-push.ensures.pushed
    ∙ map_push text_or_null c.args.keys.now (option_map (λ (text : Bor (List ℕ)). text.now) c.text_of-text.result)
    ∙ ap (λ key. map text_or_null c.args.keys.now ++ key ∷ [])
    (texts_key c.args.segment.now c.args.asked.now.field (docs_inside c.args.segment.now c.args.place (question_of c.args.asked.now) c.args.doc) c.terms-terms.result c.gather_ordinals.new.ordinals.items c.as_slice-found.result.now
    c.args.asked.now.mode c.args.asked.now.missing.now c.term_ordinal-ordinal.result (option_map (λ (text : Bor (List ℕ)). text.now) c.text_of-text.result)
    c.values_are_of_documents.ensures.keywords c.terms-terms.ensures c.in_ok-gather_ordinals.ensures c.as_slice-found.ensures.value c.term_ordinal-ordinal.ensures.text c.text_of-text.ensures)
