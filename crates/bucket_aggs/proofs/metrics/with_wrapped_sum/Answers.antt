use Rattle.std.proofs.Common.{◌≡◌, ◌<◌, ◌^◌, ◌∷◌, ℕ, ℤ, true, false, List, [], length, get_or, refl, sym, ap, ◌∙◌, arith, rules, w64}
use Rattle.std.proofs.lemmas.Int.{to_z-of_z, wrapping_add_onto}
use mir.Val.{SFits, to_z}
use mir.Syntax.{w128}
use Rattle.bucket_aggs.specs.Sums.{above, below, first_of}
use Rattle.bucket_aggs.proofs.Told.{document_below}
use Rattle.bucket_aggs.proofs.Wrapped.{wrapping_end, wrapping_in, wrapping_out, wrapping_start}
use Rattle.bucket_aggs.proofs.metrics.with_wrapped_sum.Goals as goal

pub has-requires : goal.has-requires
has-requires c =
    let low : c.rows.at < length c.args.rows.now = omega (arith, c.rows-test.true, c.len-at-end.ensures) in
    document_below c.args.rows.now c.rows.at c.row-own.result.0 (length c.args.set.now) (c.row-own.result.1 ∷ []) low c.row-own.ensures c.requires.within

pub rows-init : goal.rows-init
rows-init c =
    let low : SFits w64 c.args.start.least = search rules in
    let high : SFits w64 c.args.start.greatest = search rules in
    wrapping_start c.args.start c.args.set.now c.args.rows.now _ _ c.requires.anew (to_z-of_z w64 c.args.start.least low) (to_z-of_z w64 c.args.start.greatest high)

pub rows-preserved-then-not-has : goal.rows-preserved-then-not-has
rows-preserved-then-not-has c =
    let low : c.rows.at < length c.args.rows.now = omega (arith, c.rows-test.true, c.len-at-end.ensures) in
    let failed : get_or c.args.set.now c.row-own.result.0 false ≡ false = sym c.has.ensures ∙ c.if-not-has.true in
    wrapping_out c.args.start c.args.set.now c.args.rows.now c.rows.at c.rows.others _ _ _ c.rows.invariant c.row-own.result.0 c.row-own.result.1 _ _ _ _ low c.row-own.ensures failed refl refl refl refl

pub rows-preserved : goal.rows-preserved
rows-preserved c =
    let number : ℤ = c.row-own.result.1 in
    let low : c.rows.at < length c.args.rows.now = omega (arith, c.rows-test.true, c.len-at-end.ensures) in
    let held : get_or c.args.set.now c.row-own.result.0 false ≡ true = sym c.has.ensures ∙ c.if-not-has.false in
    let fits : SFits w64 number = search rules in
    let lowest : SFits w64 c.lesser-least.result = search rules in
    let highest : SFits w64 c.greater-greatest.result = search rules in
    let bits : c.rows.total-bits < 2 ^ 64 = search rules in
    wrapping_in c.args.start c.args.set.now c.args.rows.now c.rows.at c.rows.others _ _ _ c.rows.invariant c.row-own.result.0 number _ _ _ _ low c.row-own.ensures held fits refl
    (wrapping_add_onto w64 c.rows.total-bits number bits fits)
    (to_z-of_z w64 c.lesser-least.result lowest ∙ c.lesser-least.ensures ∙ ap (first_of below (to_z w64 c.rows.least-bits)) (to_z-of_z w64 number fits))
    (to_z-of_z w64 c.greater-greatest.result highest ∙ c.greater-greatest.ensures ∙ ap (first_of above (to_z w64 c.rows.greatest-bits)) (to_z-of_z w64 number fits))

pub returns : goal.returns
returns c =
    let rows : List (ℕ × List ℤ) = c.args.rows.now in
    let end : c.rows.at ≡ length rows = omega (arith, c.rows-test.false, c.len-at-end.ensures, c.rows.auto.at-end) in
    let sum : SFits w128 c.from-2.result = search rules in
    wrapping_end c.args.start c.args.set.now rows c.rows.at c.rows.others _ _ _ c.rows.invariant _ end c.requires.ascending (omega (arith, c.from.ensures, c.len.ensures)) (to_z-of_z w128 c.from-2.result sum ∙ c.from-2.ensures) refl refl
