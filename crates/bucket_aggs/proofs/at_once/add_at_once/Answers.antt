use Rattle.std.proofs.Common.{◌≡◌, ◌-◌, replicate, refl, None, Some, sym, ◌∙◌, arith}
use Rattle.segment_parts.specs.Fields.{column_of}
use Rattle.segment_parts.specs.Text.{marked_places}
use Rattle.bucket_aggs.proofs.Around.{no_ups, text_ups, ups_counted}
use Rattle.bucket_aggs.proofs.Numbered.{no_texts_shown, texts_shown}
use Rattle.bucket_aggs.proofs.Termed.{texts_counted}
use Rattle.bucket_aggs.proofs.at_once.add_at_once.Goals as goal

pub returns-in_default-clause-counts : goal.returns-in_default-clause-counts
returns-in_default-clause-counts c =
    let none : column_of c.args.field c.args.segment.now.ordinals ≡ None = sym c.ordinals.ensures ∙ c.in_default.is in
    λ done. record { each = λ v. omega (arith, no_texts_shown c.args.segment.now c.args.kind c.args.field v (marked_places 0 c.args.set.now) c.requires.written c.values_are_of_documents.ensures.keywords none) }

pub returns-in_default-clause-ups : goal.returns-in_default-clause-ups
returns-in_default-clause-ups c =
    let none : column_of c.args.field c.args.segment.now.ordinals ≡ None = sym c.ordinals.ensures ∙ c.in_default.is in
    λ done. record { each = λ v. omega (arith, no_ups c.args.segment.now c.args.to c.args.kind c.args.field c.args.set.now v c.requires.written c.values_are_of_documents.ensures.keywords none) }

pub returns-clause-counts : goal.returns-clause-counts
returns-clause-counts c =
    let some : column_of c.args.field c.args.segment.now.ordinals ≡ Some c.in-Some.column = sym c.ordinals.ensures ∙ c.in-Some.is in
    let docs = marked_places 0 c.args.set.now in
    λ done. record {
      each = λ v.
          omega (
            arith,
            c.in_ok-put_terms.ensures.counts v,
            texts_counted c.args.segment.now c.args.field c.in-Some.column docs c.docs-documents.ensures.agree some c.terms-terms.result c.terms-terms.ensures c.count-ascending.ensures.ascending c.terms_of_field-first.result.0 c.terms_of_field-first.result.1 c.terms_of_field-first.ensures.ordered
                c.terms_of_field-first.ensures.within c.terms_of_field-first.ensures.of_field (replicate (c.terms_of_field-first.result.1 - c.terms_of_field-first.result.0) 0) c.counts_at_once.new.counts.own.items c.as_slice.result.now refl c.in_ok-counts_at_once.ensures.counted c.as_slice.ensures.value v,
            texts_shown c.args.segment.now c.args.kind c.args.field v c.in-Some.column docs c.requires.written c.values_are_of_documents.ensures.keywords some,
          );
    }

pub returns-clause-ups : goal.returns-clause-ups
returns-clause-ups c =
    let some : column_of c.args.field c.args.segment.now.ordinals ≡ Some c.in-Some.column = sym c.ordinals.ensures ∙ c.in-Some.is in
    λ done. record {
      each = λ v.
          omega (
            arith,
            c.in_ok-put_terms-2.ensures.counts v,
            ups_counted c.args.segment.now c.args.to c.args.field c.in-Some.column c.args.set.now c.docs-documents.ensures.agree some c.terms-terms.result c.terms-terms.ensures c.count-ascending.ensures.ascending c.terms_of_field-first.result.0 c.terms_of_field-first.result.1 c.terms_of_field-first.ensures.ordered
                c.terms_of_field-first.ensures.within c.terms_of_field-first.ensures.of_field c.counts_at_once.new.counts.around.items c.as_slice-2.result.now c.in_ok-counts_at_once.ensures.ups c.as_slice-2.ensures.value v,
            text_ups c.args.segment.now c.args.to c.args.kind c.args.field c.args.set.now v c.in-Some.column c.requires.written c.values_are_of_documents.ensures.keywords some,
          );
    }
