-- Merged values nest no deeper than what is merged.
use Rattle.std.proofs.Common.{◌≡◌, ℕ, suc, ◌≤◌, max, List, Ordering, Less, Equal, Greater, arith}
use Rattle.std.specs.Cmp.Lexicographic.{slice_cmp}
use Rattle.std.specs.Ordering.{nat_cmp, match_ordering}
use Rattle.tree_json.specs.Levels.{levels, members_levels}
use Rattle.tree_json.specs.Value.{JsonValue, null, bool, whole, text, list, object, Members, no_members, member}
use Rattle.json_merge.specs.Merged.{with_member, into_object, merged, merged_members}

within_each : (o : Ordering) (a b c : Members) (n : ℕ) → members_levels a ≤ n → members_levels b ≤ n → members_levels c ≤ n → members_levels (match_ordering o a b c) ≤ n
within_each Less a b c n p q r = p
within_each Equal a b c n p q r = q
within_each Greater a b c n p q r = r

with_member_within : (name : List ℕ) (change : JsonValue → JsonValue) (new : JsonValue) (ms : Members) (n : ℕ)
    → levels new ≤ n → members_levels ms ≤ n → ((d : JsonValue) → levels d ≤ n → levels (change d) ≤ n) → members_levels (with_member name change new ms) ≤ n
with_member_within name change new no_members n fits within keeps = omega (arith, fits)
with_member_within name change new (member k d ms) n fits within keeps =
    let first : levels d ≤ n = omega (arith, within) in
    let rest : members_levels ms ≤ n = omega (arith, within) in
    within_each (slice_cmp nat_cmp name k) _ _ _ n
    (omega (arith, fits, within))
    (omega (arith, keeps d first, rest))
    (omega (arith, first, with_member_within name change new ms n fits rest keeps))

mutual
  pub merged_within : (change live : JsonValue) (n : ℕ) → levels change ≤ n → levels live ≤ n → levels (merged change live) ≤ n
  merged_within null live n a b = a
  merged_within (bool t) live n a b = a
  merged_within (whole z) live n a b = a
  merged_within (text s) live n a b = a
  merged_within (list ds) live n a b = a
  merged_within (object ms) null n a b = a
  merged_within (object ms) (bool t) n a b = a
  merged_within (object ms) (whole z) n a b = a
  merged_within (object ms) (text s) n a b = a
  merged_within (object ms) (list ds) n a b = a
  merged_within (object ms) (object ls) n a b =
      let m = max (members_levels ms) (members_levels ls) in
      omega (arith, a, b, members_within ms ls m (omega arith) (omega arith))

  members_within : (ms live : Members) (n : ℕ) → members_levels ms ≤ n → members_levels live ≤ n → members_levels (merged_members ms live) ≤ n
  members_within no_members live n a b = b
  members_within (member name v ms) live n a b =
      let value : levels v ≤ n = omega (arith, a) in
      members_within ms (with_member name (merged v) v live) n (omega (arith, a))
      (with_member_within name (merged v) v live n value b (λ d h. merged_within v d n value h))
