-- How values are compared, and how a list is put in order.
use Rattle.std.specs.Prelude.{Bool, List, [], ◌∷◌, if◌then◌else◌}
use Rattle.std.specs.List.{list_any}
use Rattle.std.specs.Ordering.{nat_cmp, int_cmp, is_eq, is_lt}
use Rattle.std.specs.Cmp.Lexicographic.{slice_cmp}
use Rattle.std.specs.declared.cmp.Ordering.{Ordering}
use Rattle.std.specs.declared.cmp.Ordering.TheVariants.{Less, Greater}
use Rattle.tree_objects.specs.declared.field_value.FieldValue.{FieldValue}
use Rattle.tree_objects.specs.declared.field_value.FieldValue.TheVariants.{Number, Written}

-- numbers by number and texts by bytes; the values of one field are all of one kind, and of two kinds numbers come first
abbrev pub value_cmp : FieldValue → FieldValue → Ordering
value_cmp (Number a) (Number b) = int_cmp a b
value_cmp (Number a) (Written t) = Less
value_cmp (Written s) (Number b) = Greater
value_cmp (Written s) (Written t) = slice_cmp nat_cmp s t

abbrev pub is_less : FieldValue → FieldValue → Bool
is_less a b = is_lt (value_cmp a b)

abbrev pub is_same_value : FieldValue → FieldValue → Bool
is_same_value a b = is_eq (value_cmp a b)

module _ {A : Type 0} where
  -- an element put into a list that is in order: before the first that it isn't behind, so that it stays before its equals
  abbrev pub placed : (A → A → Bool) → A → List A → List A
  placed before new [] = new ∷ []
  placed before new (first ∷ rest) = if before first new then first ∷ placed before new rest else new ∷ first ∷ rest

  -- the list in order; equal elements stay in the order in which they come
  abbrev pub in_order : (A → A → Bool) → List A → List A
  in_order before [] = []
  in_order before (x ∷ xs) = placed before x (in_order before xs)

  -- the elements that differ from all before them
  abbrev pub each_once_but : (A → A → Bool) → List A → List A → List A
  each_once_but same met [] = []
  each_once_but same met (x ∷ xs) =
      if list_any (same x) met then each_once_but same met xs else x ∷ each_once_but same (x ∷ met) xs

  -- the different elements, in the order in which they first come
  abbrev pub each_once : (A → A → Bool) → List A → List A
  each_once same xs = each_once_but same [] xs
