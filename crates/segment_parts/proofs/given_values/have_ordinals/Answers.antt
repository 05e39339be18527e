use Rattle.std.proofs.Common.{◌↔◌, IsTrue, true, false, List, ℕ, All, length, refl, subst}
use Rattle.std.proofs.lemmas.Option.{slice_get_read}
use Rattle.segment_parts.specs.Agree.{HaveOrdinals}
use Rattle.segment_parts.specs.Lists.{terms_of, postings_of}
use Rattle.segment_parts.specs.Passes.{pass_more, answer_all, answer_not}
use Rattle.segment_parts.proofs.given_values.have_ordinals.Goals as goal

pub columns-preserved : goal.columns-preserved
columns-preserved c =
    let items = c.as_slice-column-items.result.now in
    pass_more (HaveOrdinals (terms_of c.args.columns.now) (postings_of c.args.columns.now)) items c.columns.column-index c.column-item.result c.columns.invariant
    (slice_get_read items (length items) c.columns.column-index c.column-item.result refl c.columns-test.true c.column-item.is) (c.are_ordinals.ensures.0 c.if-not-are_ordinals.false)

pub returns-then-not-are_ordinals : goal.returns-then-not-are_ordinals
returns-then-not-are_ordinals c =
    let P = HaveOrdinals (terms_of c.args.columns.now) (postings_of c.args.columns.now) in
    let items = c.as_slice-column-items.result.now in
    subst (λ (xs : List (ℕ × List (ℕ × List ℕ))). IsTrue false ↔ All P xs) c.as_slice-column-items.ensures.columns
    (answer_not P items c.columns.column-index c.column-item.result c.are_ordinals.result (slice_get_read items (length items) c.columns.column-index c.column-item.result refl c.columns-test.true c.column-item.is) c.are_ordinals.ensures c.if-not-are_ordinals.true)

pub returns : goal.returns
returns c =
    let P = HaveOrdinals (terms_of c.args.columns.now) (postings_of c.args.columns.now) in
    subst (λ (xs : List (ℕ × List (ℕ × List ℕ))). IsTrue true ↔ All P xs) c.as_slice-column-items.ensures.columns
    (answer_all P c.as_slice-column-items.result.now c.columns.column-index c.columns.invariant c.columns-test.false)
