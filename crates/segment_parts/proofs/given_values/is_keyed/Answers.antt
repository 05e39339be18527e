use Rattle.std.proofs.Common.{◌≡◌, ◌∙◌, Some, slice_get, Contains, map, ap, w64, sym, subst, List, ℕ}
use Rattle.std.proofs.lemmas.Int.{to_z-of_z}
use Rattle.term_table.specs.Keys.{number_key}
use Rattle.term_table.specs.declared.rows.TermRow.{TermRow}
use Rattle.segment_parts.specs.Keyed.{keyed_at, keyed_nowhere}
use Rattle.segment_parts.proofs.given_values.is_keyed.Goals as goal

pub returns-in-Some : goal.returns-in-Some
returns-in-Some c =
    let term : TermRow → ℕ × List ℕ = λ row. row.term in
    let lists : TermRow → List (ℕ × List ℕ) = λ row. row.postings in
    let key : c.number_key.result ≡ number_key c.args.number = c.number_key.ensures ∙ ap number_key (to_z-of_z w64 c.args.number c.ranges.number) in
    keyed_at (map term c.args.terms.now) (map lists c.args.terms.now) c.args.field c.args.doc c.args.number c.in-Some.place _ c.as_slice.ensures.are.ascending
    (ap (λ (rs : List TermRow). slice_get (map term rs) c.in-Some.place) (sym c.as_slice.ensures.rows) ∙ c.in-Some.ensures.found ∙ ap (λ (k : List ℕ). Some (c.args.field, k)) key)
    c.has_document.ensures

pub returns-in-None : goal.returns-in-None
returns-in-None c =
    let term : TermRow → ℕ × List ℕ = λ row. row.term in
    let lists : TermRow → List (ℕ × List ℕ) = λ row. row.postings in
    let key : c.number_key.result ≡ number_key c.args.number = c.number_key.ensures ∙ ap number_key (to_z-of_z w64 c.args.number c.ranges.number) in
    keyed_nowhere (map term c.args.terms.now) (map lists c.args.terms.now) c.args.field c.args.doc c.args.number
    (λ there. c.in-None.ensures.missing (subst (λ (k : List ℕ). Contains (map term c.as_slice.result.now) (c.args.field, k)) (sym key) (subst (λ (rs : List TermRow). Contains (map term rs) (c.args.field, number_key c.args.number)) (sym c.as_slice.ensures.rows) there)))
