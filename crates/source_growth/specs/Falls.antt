-- A form is smaller than the properties that have it, so that what goes down them ends.
use Rattle.std.specs.Prelude.{◌≤◌, ◌≡◌, List, [], ◌∷◌, String, refl}
use Rattle.std.proofs.Common.{arith}
use Rattle.std.specs.declared.alloc.Global.{Global}
use Rattle.std.specs.Map.{values_of}
use denote.Param.Weighed.{most}
use Rattle.tree_json.specs.Value.{value_size, members_of, members_size}
use Rattle.source_growth.specs.Forms.{form_of, forms_of}
use Rattle.source_growth.specs.declared.found.Form.{Form}
use Rattle.source_growth.specs.declared.found.Form.TheVariants.{Typed, Plain, Nested}
use Rattle.source_growth.specs.declared.found.Found.TheDeep.{deep-Form}
use Rattle.source_growth.specs.declared.found.Found.TheView as found_view

deep_le_size : (f : Form) → deep-Form f ≤ value_size (form_of f)
deep_le_size (Typed given) = omega arith
deep_le_size (Plain below) = let e : found_view.size below ≡ members_size below = refl in omega arith
deep_le_size (Nested below) = let e : found_view.size below ≡ members_size below = refl in omega arith

pub forms_fall : (es : List (String Global × Form)) → most deep-Form (values_of es) ≤ members_size (members_of (forms_of es))
forms_fall [] = omega arith
forms_fall (e ∷ es) = omega (arith, deep_le_size e.1, forms_fall es)
