-- Members as they are merged one by one: those that were found, and those that are still to come. `Merging` in `proofs/`
-- leads from them to `Merged`.
use Rattle.std.specs.Prelude.{◌≡◌, ℕ, Bool, false, List, [], ◌∷◌}
use Rattle.std.specs.Ordering.{nat_cmp, is_lt}
use Rattle.std.specs.Cmp.Lexicographic.{slice_cmp}
use Rattle.std.specs.Str.{bytes_eq}
use Rattle.std.specs.declared.cmp.Ordering.TheVariants.{Less}
use Rattle.tree_json.specs.Value.{JsonValue, Members, no_members, member, members_of}
use Rattle.json_merge.specs.Merged.{merged_members}

abbrev pub Entry : Type 0
Entry = List ℕ × JsonValue

-- the first name comes before this one
abbrev pub is_before : List ℕ → List Entry → Bool
is_before name [] = false
is_before name (e ∷ es) = is_lt (slice_cmp nat_cmp e.0 name)

-- the first name is this one
abbrev pub is_named : List ℕ → List Entry → Bool
is_named name [] = false
is_named name (e ∷ es) = bytes_eq e.0 name

-- the first of those that come is this one, and its name comes before
pub record Comes (name : List ℕ) (e : Entry) (old new : List Entry) : Type 0 where
  pub is : old ≡ e ∷ new
  pub less : slice_cmp nat_cmp e.0 name ≡ Less

-- those that were found, with the others behind
abbrev pub behind : List Entry → Members → Members
behind [] ms = ms
behind (e ∷ es) ms = member e.0 e.1 (behind es ms)

-- each name comes after this one
abbrev pub AreAfter : List ℕ → Members → Type 0
AreAfter name no_members = Unit {0}
AreAfter name (member k d ms) = (slice_cmp nat_cmp name k ≡ Less) × AreAfter name ms

-- each name comes after the one before it
abbrev pub Ascend : Members → Type 0
Ascend no_members = Unit {0}
Ascend (member k d ms) = AreAfter k ms × Ascend ms

-- members went from those that come to those that were found, and a change from that name on makes the same of both
pub record Carries (name : List ℕ) (found coming found_then coming_then : List Entry) : Type 0 where
  pub same : (v : JsonValue) (rest : Members) → AreAfter name rest
      → behind found_then (merged_members (member name v rest) (members_of coming_then)) ≡ behind found (merged_members (member name v rest) (members_of coming))

-- the change under a name was made, and the rest of the change makes the same of what is left
pub record Joins (name : List ℕ) (v : JsonValue) (found coming found_then coming_then : List Entry) : Type 0 where
  pub same : (rest : Members) → AreAfter name rest
      → behind found_then (merged_members rest (members_of coming_then)) ≡ behind found (merged_members (member name v rest) (members_of coming))
