use Rattle.std.proofs.Common.{◌≡◌, ◌<◌, ◌-◌, replicate, refl, count_by, ℕ, List, None, Some, ap, sym, subst, length, ◌∙◌, arith}
use Rattle.std.specs.List.Sorted.{IsPermutation}
use Rattle.segment_parts.specs.Fields.{column_of}
use Rattle.segment_parts.specs.Text.{marked_places}
use Rattle.bucket_aggs.specs.Counts.{is_term}
use Rattle.bucket_aggs.proofs.Cuts.{found_none}
use Rattle.query_ast.proofs.Elements.{Each}
use Rattle.bucket_aggs.proofs.Numbered.{no_texts_shown, texts_shown}
use Rattle.bucket_aggs.proofs.Termed.{different, ordinals_counted, ordinals_within, texts_counted}
use Rattle.bucket_aggs.proofs.terms.add_texts.Goals as goal

pub returns-in_default-clause-counts : goal.returns-in_default-clause-counts
returns-in_default-clause-counts c =
    let none : column_of c.args.field c.args.segment.now.ordinals ≡ None = sym c.ordinals.ensures ∙ c.in_default.is in
    record { each = λ v. omega (arith, no_texts_shown c.args.segment.now c.args.kind c.args.field v (marked_places 0 c.args.set.now) c.requires.written c.values_are_of_documents.ensures.keywords none) }

pub returns-clause-counts : goal.returns-clause-counts
returns-clause-counts c =
    let some : column_of c.args.field c.args.segment.now.ordinals ≡ Some c.in-Some.column = sym c.ordinals.ensures ∙ c.in-Some.is in
    let docs = marked_places 0 c.args.set.now in
    record {
      each = λ v.
          omega (
            arith,
            c.in_ok-put_terms.ensures.counts v,
            texts_counted c.args.segment.now c.args.field c.in-Some.column docs c.docs-documents.ensures.agree some c.terms-terms.result c.terms-terms.ensures c.count-ascending.ensures.ascending c.terms_of_field-first.result.0 c.terms_of_field-first.result.1 c.terms_of_field-first.ensures.ordered
                c.terms_of_field-first.ensures.within c.terms_of_field-first.ensures.of_field (replicate (c.terms_of_field-first.result.1 - c.terms_of_field-first.result.0) 0) c.in_ok-counts.counts.items c.as_slice.result.now refl c.in_ok-counts.ensures.counted c.as_slice.ensures.value v,
            texts_shown c.args.segment.now c.args.kind c.args.field v c.in-Some.column docs c.requires.written c.values_are_of_documents.ensures.keywords some,
          );
    }

pub put_ordinals-requires : goal.put_ordinals-requires
put_ordinals-requires c =
    let columns = c.args.segment.now in
    let f : ℕ = c.args.field in
    let docs : List ℕ = marked_places 0 c.args.set.now in
    let some : column_of f columns.ordinals ≡ Some c.in-Some.column = sym c.ordinals.ensures ∙ c.in-Some.is in
    let agree = c.docs-documents.ensures.agree in
    let sorted : List ℕ = c.sort_unstable.new.self.items in
    let same : IsPermutation (different columns f c.in-Some.column docs agree some) sorted = subst (λ (l : List ℕ). IsPermutation l sorted) c.in_ok-ordinals.ensures c.sort_unstable.ensures.permutation in
    subst (λ (l : List ℕ). Each (λ (ordinal : ℕ). ordinal < length c.terms-terms.result) l) (sym c.as_slice-sorted.ensures.value)
    (ordinals_within columns f c.in-Some.column docs agree some c.terms-terms.result sorted c.terms-terms.ensures same)

pub returns-then-few-clause-counts : goal.returns-then-few-clause-counts
returns-then-few-clause-counts c =
    let columns = c.args.segment.now in
    let f : ℕ = c.args.field in
    let docs : List ℕ = marked_places 0 c.args.set.now in
    let some : column_of f columns.ordinals ≡ Some c.in-Some.column = sym c.ordinals.ensures ∙ c.in-Some.is in
    let agree = c.docs-documents.ensures.agree in
    let sorted : List ℕ = c.sort_unstable.new.self.items in
    let same : IsPermutation (different columns f c.in-Some.column docs agree some) sorted = subst (λ (l : List ℕ). IsPermutation l sorted) c.in_ok-ordinals.ensures c.sort_unstable.ensures.permutation in
    record {
      each = λ v.
          omega (
            arith,
            c.in_ok-put_ordinals.ensures.counts v,
            ap (count_by (is_term c.terms-terms.result v)) c.as_slice-sorted.ensures.value,
            ordinals_counted columns f c.in-Some.column docs agree some c.values-sorted.ensures.rows c.terms-terms.result c.terms-terms.ensures c.count-ascending.ensures.ascending c.terms_of_field-first.result.0 c.terms_of_field-first.result.1
                c.terms_of_field-first.ensures.ordered c.terms_of_field-first.ensures.within c.terms_of_field-first.ensures.of_field sorted same v,
            texts_shown columns c.args.kind f v c.in-Some.column docs c.requires.written c.values_are_of_documents.ensures.keywords some,
          );
    }

pub returns-in_default-clause-found : goal.returns-in_default-clause-found
returns-in_default-clause-found c = found_none c.args.segment.now c.args.set.now c.args.entry c.args.found.now.items c.args.found.now.items refl

pub returns-then-few-clause-found : goal.returns-then-few-clause-found
returns-then-few-clause-found c = found_none c.args.segment.now c.args.set.now c.args.entry c.args.found.now.items c.args.found.now.items refl
