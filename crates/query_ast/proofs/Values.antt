-- Values of fields are totally ordered, and two that compare as equal are one.
use Rattle.std.proofs.Common.{◌≡◌, refl, ap}
use Rattle.std.specs.Cmp.{IsTotalOrder}
use Rattle.std.specs.Ordering.{ordering_reverse}
use Rattle.std.specs.declared.cmp.Ordering.TheVariants.{Less, Equal}
use Rattle.std.proofs.lemmas.Cmp.{int_cmp_total, nat_list_cmp_total}
use Rattle.std.proofs.lemmas.Map.Lookups.{exact_bytes, exact_signed}
use Rattle.tree_objects.specs.declared.field_value.FieldValue.{FieldValue}
use Rattle.tree_objects.specs.declared.field_value.FieldValue.TheVariants.{Number, Written}
use Rattle.query_ast.specs.Compare.{value_cmp}

value_antisymm : (x y : FieldValue) → value_cmp x y ≡ ordering_reverse (value_cmp y x)
value_antisymm (Number a) (Number b) = int_cmp_total.antisymm a b
value_antisymm (Number a) (Written t) = refl
value_antisymm (Written s) (Number b) = refl
value_antisymm (Written s) (Written t) = nat_list_cmp_total.antisymm s t

value_trans : (x y z : FieldValue) → value_cmp x y ≡ Less → value_cmp y z ≡ Less → value_cmp x z ≡ Less
value_trans (Number a) (Number b) (Number c) p q = int_cmp_total.trans a b c p q
value_trans (Number a) (Number b) (Written u) p q = refl
value_trans (Number a) (Written t) (Number c) p q = cc
value_trans (Number a) (Written t) (Written u) p q = refl
value_trans (Written s) (Number b) z p q = cc
value_trans (Written s) (Written t) (Number c) p q = q
value_trans (Written s) (Written t) (Written u) p q = nat_list_cmp_total.trans s t u p q

value_congr : (x y z : FieldValue) → value_cmp x y ≡ Equal → value_cmp x z ≡ value_cmp y z
value_congr (Number a) (Number b) (Number c) p = int_cmp_total.congr a b c p
value_congr (Number a) (Number b) (Written u) p = refl
value_congr (Number a) (Written t) z p = cc
value_congr (Written s) (Number b) z p = cc
value_congr (Written s) (Written t) (Number c) p = refl
value_congr (Written s) (Written t) (Written u) p = nat_list_cmp_total.congr s t u p

pub value_total : IsTotalOrder value_cmp
value_total = record { antisymm = value_antisymm; trans = value_trans; congr = value_congr }

pub value_exact : (x y : FieldValue) → value_cmp x y ≡ Equal → x ≡ y
value_exact (Number a) (Number b) p = ap Number (exact_signed a b p)
value_exact (Number a) (Written t) p = cc
value_exact (Written s) (Number b) p = cc
value_exact (Written s) (Written t) p = ap Written (exact_bytes s t p)
