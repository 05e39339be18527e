use Rattle.std.proofs.Common.{ℕ, List, ◌+◌, ◌-◌, ◌/◌, sym, ◌∙◌, arith}
use Rattle.std.proofs.lemmas.List.{length-map}
use Rattle.segment_builder.specs.Columns.{terms_lent}
use Rattle.segment_builder.proofs.Finding.{below_middle, between_in, found_at_last, from_middle, ordinal_at, term_there}
use Rattle.segment_builder.proofs.find.find.Goals as goal

pub places-init : goal.places-init
places-init c =
    let count = length-map {B = ℕ × List ℕ} c.args.terms.now (λ term. (term.0, term.1.now)) in
    let between = between_in (terms_lent c.args.terms.now) c.args.field c.args.bytes.now c.args.from c.args.end c.requires.range c.requires.there in
    (between, omega (arith, between.from, between.below), omega (arith, c.requires.range.within, count))

pub places-preserved-then-is_after : goal.places-preserved-then-is_after
places-preserved-then-is_after c =
    let middle = c.places.low + (c.places.high - c.places.low) / 2 in
    let here = term_there c.args.terms.now middle _ (omega (arith, c.places-test.true, c.places.invariant.2)) in (
      below_middle (terms_lent c.args.terms.now) (c.args.field, c.args.bytes.now) _ c.places.low middle c.places.high c.requires.ascending c.places.invariant.0 here (sym c.is_after.ensures ∙ c.if-is_after.true),
      omega (arith, c.places-test.true),
      omega (arith, c.places-test.true, c.places.invariant.2),
    )

pub places-preserved : goal.places-preserved
places-preserved c =
    let middle = c.places.low + (c.places.high - c.places.low) / 2 in
    let here = term_there c.args.terms.now middle _ (omega (arith, c.places-test.true, c.places.invariant.2)) in (
      from_middle (terms_lent c.args.terms.now) (c.args.field, c.args.bytes.now) _ c.places.low middle c.places.high c.requires.ascending c.places.invariant.0 here (sym c.is_after.ensures ∙ c.if-is_after.false),
      omega (arith, c.places-test.true),
      c.places.invariant.2,
    )

pub returns : goal.returns
returns c =
    sym (ordinal_at (terms_lent c.args.terms.now) c.places.low (c.args.field, c.args.bytes.now) c.requires.ascending (found_at_last (terms_lent c.args.terms.now) (c.args.field, c.args.bytes.now) c.places.low c.places.high c.places.invariant.0 (omega arith)))
