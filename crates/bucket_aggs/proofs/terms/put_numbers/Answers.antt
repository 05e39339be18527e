use Rattle.std.proofs.Common.{◌≡◌, ℤ, pos, ap, sym, subst, ◌∙◌, get_or, rules, arith, w64}
use Rattle.std.proofs.lemmas.Int.{to_z-of_z}
use Rattle.std.proofs.lemmas.List.Sums.{sum_by-drop_more}
use mir.Val.{SFits}
use Rattle.tree_objects.specs.declared.field_value.FieldValue.TheVariants.{Number}
use Rattle.bucket_aggs.specs.Counts.{AreKeys, added, is_number, weight}
use Rattle.bucket_aggs.proofs.Rowed.{one_if}
use Rattle.bucket_aggs.proofs.Weights.{Rows, keys_added, weight_added}
use Rattle.bucket_aggs.proofs.terms.put_numbers.Goals as goal

pub numbers-preserved : goal.numbers-preserved
numbers-preserved c =
    let z : ℤ = get_or c.args.numbers.now c.numbers.at (pos 0) in
    let fits : SFits w64 z = search rules in
    let old : Rows = c.numbers.rows.items in
    let new : c.add.new.rows.items ≡ added (Number z) 1 old = c.in_ok-add.ensures ∙ ap (λ (x : ℤ). added (Number x) 1 old) (to_z-of_z w64 z fits) in (
      λ v.
          omega (
            arith,
            c.numbers.invariant.0 v,
            ap (weight v) new,
            weight_added v (Number z) 1 old,
            sum_by-drop_more (one_if (is_number v)) c.args.numbers.now c.numbers.at (pos 0) c.numbers-test.true,
          ),
      λ kind plain are. subst (AreKeys kind) (sym new) (keys_added kind (Number z) 1 old plain (omega arith) (c.numbers.invariant.1 kind plain are)),
    )
