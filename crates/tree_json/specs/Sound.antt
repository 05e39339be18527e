-- What holds of each value that a `Json` holds: numbers of 64 bits, texts of UTF-8, and names that strictly ascend.
use Rattle.std.specs.Prelude.{⊤, ℕ, ◌<◌, ◌^◌, ℤ, pos, negsuc, List, [], ◌∷◌}
use Rattle.std.specs.Cmp.Lexicographic.{slice_cmp}
use Rattle.std.specs.List.Sorted.{IsStrictlySortedBy}
use Rattle.std.specs.Ordering.{nat_cmp}
use Rattle.std.specs.Str.{IsUtf8}
use Rattle.tree_json.specs.Value.{JsonValue, null, bool, whole, text, list, object, Elements, no_elements, element, Members, no_members, member}

abbrev pub IsOf64 : ℤ → Type 0
IsOf64 (pos n) = n < 2 ^ 63
IsOf64 (negsuc n) = n < 2 ^ 63

abbrev pub names_in : Members → List (List ℕ)
names_in no_members = []
names_in (member k d ms) = k ∷ names_in ms

abbrev mutual
  pub IsSound : JsonValue → Type 0
  IsSound null = ⊤
  IsSound (bool b) = ⊤
  IsSound (whole z) = IsOf64 z
  IsSound (text s) = IsUtf8 s
  IsSound (list ds) = AreSound ds
  IsSound (object ms) = MembersAreSound ms × IsStrictlySortedBy (slice_cmp nat_cmp) (names_in ms)

  pub AreSound : Elements → Type 0
  AreSound no_elements = ⊤
  AreSound (element d ds) = IsSound d × AreSound ds

  pub MembersAreSound : Members → Type 0
  MembersAreSound no_members = ⊤
  MembersAreSound (member k d ms) = (IsUtf8 k × IsSound d) × MembersAreSound ms
