-- What a reader of JSON gives: texts are UTF-8 (RFC 8259, section 8.1), and whole numbers have 64 bits with their sign.
use Rattle.std.specs.Int.{w64}
use Rattle.std.specs.Prelude.{⊤, FitsSigned}
use Rattle.std.specs.Str.{IsUtf8}
use Rattle.tree_json.specs.Value.{JsonValue, null, bool, whole, text, list, object, Elements, no_elements, element, Members, no_members, member}

abbrev mutual
  pub AreTexts : JsonValue → Type 0
  AreTexts null = ⊤
  AreTexts (bool b) = ⊤
  AreTexts (whole z) = FitsSigned w64 z
  AreTexts (text s) = IsUtf8 s
  AreTexts (list ds) = AllAreTexts ds
  AreTexts (object ms) = EachAreTexts ms

  pub AllAreTexts : Elements → Type 0
  AllAreTexts no_elements = ⊤
  AllAreTexts (element d ds) = AreTexts d × AllAreTexts ds

  pub EachAreTexts : Members → Type 0
  EachAreTexts no_members = ⊤
  EachAreTexts (member k d ms) = AreTexts d × EachAreTexts ms
