use Rattle.std.proofs.Common.{◌≡◌, ◌↔◌, IsTrue, true, false, List, ℕ, All, Some, slice_get, length, map, refl, subst}
use Rattle.std.proofs.lemmas.Option.{slice_get_read}
use Rattle.term_table.specs.declared.rows.TermRow.{TermRow}
use Rattle.segment_parts.specs.Agree.{IsOrdinalAt}
use Rattle.segment_parts.specs.Passes.{pass_more, answer_all, answer_not}
use Rattle.segment_parts.proofs.given_values.are_ordinals.Goals as goal

pub rows-preserved : goal.rows-preserved
rows-preserved c =
    let P : ℕ × List ℕ → Type 0 = λ own. All (λ ordinal. IsOrdinalAt (map (λ (row : TermRow). row.term) c.args.terms.now) (map (λ (row : TermRow). row.postings) c.args.terms.now) c.args.column.now.0 own.0 ordinal) own.1 in
    let items = c.as_slice-doc-items.result.now in
    let row = c.rows-item.result in
    let here : slice_get items c.rows.doc-index ≡ Some row = slice_get_read items (length items) c.rows.doc-index row refl c.rows-test.true c.rows-item.is in
    let own : IsTrue c.have_terms_at.result ↔ P row = rw (← c.field-field.ensures.field, ← c.as_slice.ensures.values) c.have_terms_at.ensures in
    pass_more P items c.rows.doc-index row c.rows.invariant here (own.0 c.if-not-have_terms_at.false)

pub returns-then-not-have_terms_at : goal.returns-then-not-have_terms_at
returns-then-not-have_terms_at c =
    let P : ℕ × List ℕ → Type 0 = λ own. All (λ ordinal. IsOrdinalAt (map (λ (row : TermRow). row.term) c.args.terms.now) (map (λ (row : TermRow). row.postings) c.args.terms.now) c.args.column.now.0 own.0 ordinal) own.1 in
    let items = c.as_slice-doc-items.result.now in
    let row = c.rows-item.result in
    let here : slice_get items c.rows.doc-index ≡ Some row = slice_get_read items (length items) c.rows.doc-index row refl c.rows-test.true c.rows-item.is in
    let own : IsTrue c.have_terms_at.result ↔ P row = rw (← c.field-field.ensures.field, ← c.as_slice.ensures.values) c.have_terms_at.ensures in
    subst (λ (xs : List (ℕ × List ℕ)). IsTrue false ↔ All P xs) c.as_slice-doc-items.ensures.rows
    (answer_not P items c.rows.doc-index row c.have_terms_at.result here own c.if-not-have_terms_at.true)

pub returns : goal.returns
returns c =
    let P : ℕ × List ℕ → Type 0 = λ own. All (λ ordinal. IsOrdinalAt (map (λ (row : TermRow). row.term) c.args.terms.now) (map (λ (row : TermRow). row.postings) c.args.terms.now) c.args.column.now.0 own.0 ordinal) own.1 in
    subst (λ (xs : List (ℕ × List ℕ)). IsTrue true ↔ All P xs) c.as_slice-doc-items.ensures.rows
    (answer_all P c.as_slice-doc-items.result.now c.rows.doc-index c.rows.invariant c.rows-test.false)
