-- What a shape keeps: a body that has the form of a search body, and its members.
use Rattle.std.specs.Prelude.{◌≡◌, true, List, ℕ}
use Rattle.tree_json.specs.Value.{JsonValue, object, members_of}
use Rattle.tree_json.specs.View.{view}
use Rattle.tree_json.specs.declared.value.Json.{Json}
use Rattle.search_form.specs.Form.{is_search_body}
use Rattle.search_form.specs.Texts.{AreTexts}

pub record IsShape (body : Json) (members : List (List ℕ × JsonValue)) : Type 0 where
  pub object_there : view body ≡ object (members_of members)
  pub has_the_form : is_search_body (view body) ≡ true
  pub texts : AreTexts (view body)
