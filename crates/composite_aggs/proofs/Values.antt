-- Keys are totally ordered, and two that compare as equal are one.
use Rattle.std.proofs.Common.{◌≡◌, List, [], ◌∷◌, refl, ap, ◌∙◌}
use Rattle.std.specs.Cmp.{IsTotalOrder}
use Rattle.std.specs.Cmp.Lexicographic.{lists_total}
use Rattle.std.specs.Ordering.{ordering_then}
use Rattle.std.specs.declared.cmp.Ordering.{Ordering}
use Rattle.std.specs.declared.cmp.Ordering.TheVariants.{Less, Equal, Greater}
use Rattle.query_ast.proofs.Values.{value_exact, value_total}
use Rattle.query_ast.specs.Compare.{value_cmp}
use Rattle.tree_objects.specs.declared.field_value.FieldValue.{FieldValue}
use Rattle.composite_aggs.specs.Composite.{key_order}

pub key_total : IsTotalOrder key_order
key_total = lists_total value_total

both_equal : (r s : Ordering) → ordering_then r s ≡ Equal → (r ≡ Equal) × (s ≡ Equal)
both_equal Less s p = cc
both_equal Equal s p = (refl, p)
both_equal Greater s p = cc

pub key_exact : (x y : List FieldValue) → key_order x y ≡ Equal → x ≡ y
key_exact [] [] p = refl
key_exact [] (b ∷ y) p = cc
key_exact (a ∷ x) [] p = cc
key_exact (a ∷ x) (b ∷ y) p =
    let parts = both_equal (value_cmp a b) (key_order x y) p in
    ap (λ v. v ∷ x) (value_exact a b parts.0) ∙ ap (λ l. b ∷ l) (key_exact x y parts.1)
