use Rattle.std.proofs.Common.{ℕ, Option, sym, ap, subst, ◌∙◌}
use Rattle.query_ast.specs.Clause.{on_field, has_words}
use Rattle.leaf_search.specs.Found.{Finds}
use Rattle.leaf_search.specs.Words.{folded_words}
use Rattle.leaf_search.proofs.Finding.{known_is, finds_unknown, finds_words, finds_word_value}
use Rattle.leaf_search.proofs.on_kind.words.Goals as goal

pub returns-in_default : goal.returns-in_default
returns-in_default c =
    finds_unknown c.args.segment.now c.args.live.now c.args.scope c.requires.documents c.values_are_of_documents.ensures.fit c.args.mapping.now (has_words c.args.value.now c.args.all) c.args.field c.docs.result c.in_ok-empty.field-0 (sym c.in_default.is ∙ c.known.ensures) c.docs.ensures.documents c.in_ok-empty.ensures

pub returns-in_ok-word_set-in-Text : goal.returns-in_ok-word_set-in-Text
returns-in_ok-word_set-in-Text c =
    subst (λ (field : Option ℕ). Finds c.args.mapping.now c.args.segment.now c.args.live.now c.args.scope (on_field field (has_words c.args.value.now c.args.all)) c.in_ok-word_set-in-Text.field-0) (sym (known_is c.args.mapping.now c.args.field c.in-Some.own (sym c.known.ensures ∙ c.in-Some.is)))
    (finds_words c.args.segment.now c.args.live.now c.args.scope c.requires.documents c.values_are_of_documents.ensures.fit c.args.mapping.now c.in-Some.own c.args.value.now c.args.all (folded_words c.as_slice.result.now) c.in_ok-word_set-in-Text.field-0 (sym c.kind.ensures ∙ c.in-Text.is) (λ text. ap folded_words c.as_slice.ensures ∙ c.in_ok-asked-in-Text.ensures text) c.in_ok-word_set-in-Text.ensures)

pub returns-in_ok-value_set-in_default-kind : goal.returns-in_ok-value_set-in_default-kind
returns-in_ok-value_set-in_default-kind c =
    subst (λ (field : Option ℕ). Finds c.args.mapping.now c.args.segment.now c.args.live.now c.args.scope (on_field field (has_words c.args.value.now c.args.all)) c.in_ok-value_set-in_default-kind.field-0) (sym (known_is c.args.mapping.now c.args.field c.in-Some.own (sym c.known.ensures ∙ c.in-Some.is)))
    (finds_word_value c.args.segment.now c.args.live.now c.args.scope c.requires.documents c.values_are_of_documents.ensures.fit c.args.mapping.now c.keys_are_ordered.ensures c.in-Some.own c.args.value.now c.args.all c.in_ok-value_set-in_default-kind.field-0 (λ e. c.in_default-kind.not-Text (c.kind.ensures ∙ e)) c.in_ok-value_set-in_default-kind.ensures.fits c.in_ok-value_set-in_default-kind.ensures.made)
