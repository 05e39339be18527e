use Rattle.std.proofs.Common.{◌≡◌, ℕ, List, ◌+◌, ◌-◌, ◌/◌, length, sym, subst, ◌∙◌, arith}
use Rattle.std.proofs.lemmas.List.{length-map}
use Rattle.segment_builder.specs.Columns.{terms_lent, IsFieldStart}
use Rattle.segment_builder.proofs.Finding.{start_all, start_later, start_sooner, term_there}
use Rattle.segment_builder.proofs.find.field_start.Goals as goal

pub places-init : goal.places-init
places-init c =
    let count = length-map {B = ℕ × List ℕ} c.args.terms.now (λ term. (term.0, term.1.now)) in
    (start_all (terms_lent c.args.terms.now) c.args.field (length c.args.terms.now) count, omega arith, omega arith)

pub places-preserved-then-is_before : goal.places-preserved-then-is_before
places-preserved-then-is_before c =
    let middle = c.places.low + (c.places.high - c.places.low) / 2 in
    let here = term_there c.args.terms.now middle _ (omega (arith, c.places-test.true, c.places.invariant.2)) in (
      start_later (terms_lent c.args.terms.now) c.args.field c.places.low middle c.places.high _ c.requires c.places.invariant.0 here (sym c.is_before.ensures ∙ c.if-is_before.true),
      omega (arith, c.places-test.true),
      c.places.invariant.2,
    )

pub places-preserved : goal.places-preserved
places-preserved c =
    let middle = c.places.low + (c.places.high - c.places.low) / 2 in
    let here = term_there c.args.terms.now middle _ (omega (arith, c.places-test.true, c.places.invariant.2)) in (
      start_sooner (terms_lent c.args.terms.now) c.args.field c.places.low middle c.places.high _ c.requires c.places.invariant.0 here (sym c.is_before.ensures ∙ c.if-is_before.false),
      omega (arith, c.places-test.true),
      omega (arith, c.places-test.true, c.places.invariant.2),
    )

pub returns-clause-start : goal.returns-clause-start
returns-clause-start c =
    let met : c.places.high ≡ c.places.low = omega (arith, c.places.invariant.1) in
    subst (IsFieldStart (terms_lent c.args.terms.now) c.args.field c.places.low) met c.places.invariant.0
