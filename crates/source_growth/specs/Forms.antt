-- What forms say that a walk keeps: each is a property's form as a body has it.
use Rattle.std.specs.Prelude.{ℕ, ◌≡◌, List, Option, None, String, string_bytes, codes, map}
use Rattle.std.specs.declared.alloc.Global.{Global}
use Rattle.tree_json.specs.Value.{JsonValue, Members}
use Rattle.source_growth.specs.Growth.{typed, plain, nested, put_member}
use Rattle.source_growth.specs.declared.found.Form.{Form}
use Rattle.source_growth.specs.declared.found.Form.TheVariants.{Typed, Plain, Nested}
use Rattle.source_growth.specs.declared.found.ValueType.{ValueType}
use Rattle.source_growth.specs.declared.found.ValueType.TheVariants.{Text, Long, Boolean}

abbrev pub type_name : ValueType → List ℕ
type_name Text = codes "text"
type_name Long = codes "long"
type_name Boolean = codes "boolean"

abbrev pub form_of : Form → JsonValue
form_of (Typed given) = typed (type_name given)
form_of (Plain below) = plain below
form_of (Nested below) = nested below

abbrev pub forms_of : List (String Global × Form) → List (List ℕ × JsonValue)
forms_of es = map (λ e. (string_bytes e.0, form_of e.1)) es

-- what is left after a property is taken out, if there was one: whatever is put there comes to stand as if it hadn't been
pub record IsLeft (name : List ℕ) (taken : Option JsonValue) (before after : Members) : Type 0 where
  pub none : taken ≡ None → after ≡ before
  pub puts : (form : JsonValue) → put_member name form after ≡ put_member name form before
