use Rattle.std.proofs.Common.{◌≡◌, ◌∙◌, Some, refl, slice_get, Contains, ap, w64, sym, subst, List, ℕ}
use Rattle.std.proofs.lemmas.Int.{to_z-of_z}
use Rattle.term_table.specs.Keys.{number_key}
use Rattle.term_table.specs.Terms.{AreAscending}
use Rattle.segment_parts.specs.Lists.{terms_of, postings_of}
use Rattle.segment_parts.specs.Keyed.{keyed_at, keyed_nowhere}
use Rattle.segment.proofs.agree_columns.is_keyed.Goals as goal

pub returns-in-Some : goal.returns-in-Some
returns-in-Some c =
    let key : c.number_key.result ≡ number_key c.args.number = c.number_key.ensures ∙ ap number_key (to_z-of_z w64 c.args.number c.ranges.number) in
    keyed_at (terms_of c.args.parts.now) (postings_of c.args.parts.now) c.args.field c.args.doc c.args.number c.in-Some.ordinal _
    (subst AreAscending c.terms-terms.ensures c.count-count.ensures.ascending)
    (ap (λ (ts : List (ℕ × List ℕ)). slice_get ts c.in-Some.ordinal) (sym c.terms-terms.ensures) ∙ c.in-Some.ensures.found ∙ ap (λ (k : List ℕ). Some (c.args.field, k)) key)
    c.is_posted.ensures

pub returns-in-None : goal.returns-in-None
returns-in-None c =
    let key : c.number_key.result ≡ number_key c.args.number = c.number_key.ensures ∙ ap number_key (to_z-of_z w64 c.args.number c.ranges.number) in
    keyed_nowhere (terms_of c.args.parts.now) (postings_of c.args.parts.now) c.args.field c.args.doc c.args.number
    (λ there. c.in-None.ensures.missing.0 refl (subst (λ (k : List ℕ). Contains c.terms-terms.result (c.args.field, k)) (sym key) (subst (λ (ts : List (ℕ × List ℕ)). Contains ts (c.args.field, number_key c.args.number)) (sym c.terms-terms.ensures) there)))
