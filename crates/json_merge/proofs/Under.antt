-- What stands under each name of a merged object.
use Rattle.std.proofs.Common.{◌≡◌, ℕ, List as Seq, refl, sym, ap, ◌∙◌, subst, Bool, true, false, cond, Less, Equal, Greater, Ordering, bytes_eq, Option, Some, None}
use Rattle.std.proofs.lemmas.Map.Text.{is_eq-slice_cmp}
use Rattle.std.proofs.lemmas.Slice.Eq.{bytes_eq-Decides}
use Rattle.std.specs.Ordering.{match_ordering, is_eq}
use Rattle.tree_json.specs.Names.{IsAscending}
use Rattle.tree_json.specs.Value.{JsonValue, Members, no_members, member, member_of, members_of}
use Rattle.json_merge.specs.Merged.{merged, merged_members, with_member, under}
use Rattle.json_merge.specs.Coming.{Entry, AreAfter, Ascend}
use Rattle.json_merge.proofs.Merging.{compared, reversed, after_through, ascend_from, ascend_with}

-- a comparison's answer as a test
same_from : (k name : Seq ℕ) (r : Ordering) → compared k name ≡ r → bytes_eq k name ≡ is_eq r
same_from k name r h = sym (is_eq-slice_cmp k name) ∙ ap is_eq h

-- what comes before all names is none of them
none_after : (name : Seq ℕ) (ms : Members) → AreAfter name ms → member_of ms name ≡ None
none_after name no_members all = refl
none_after name (member k d ms) all = rw (same_from k name Greater (reversed name k Less all.0)) (none_after name ms all.1)

-- one member changed or put
abbrev put : (JsonValue → JsonValue) → JsonValue → Option JsonValue → Option JsonValue
put change new None = Some new
put change new (Some d) = Some (change d)

under_it : (k : Seq ℕ) (change : JsonValue → JsonValue) (new : JsonValue) (ms : Members) → Ascend ms → member_of (with_member k change new ms) k ≡ put change new (member_of ms k)
under_it k change new no_members up = rw ((bytes_eq-Decides k k).1 refl) refl
under_it k change new (member j d ms) up = by (compared k j) refl (under_it k change new ms up.1)
  where
    by : (r : Ordering) → compared k j ≡ r → member_of (with_member k change new ms) k ≡ put change new (member_of ms k)
        → member_of (match_ordering r (member k new (member j d ms)) (member j (change d) ms) (member j d (with_member k change new ms))) k ≡ put change new (member_of (member j d ms) k)
    by Less same rest = rw ((bytes_eq-Decides k k).1 refl, none_after k (member j d ms) (same, after_through k j ms same up.0)) refl
    by Equal same rest = rw (same_from j k Equal (reversed k j Equal same)) refl
    by Greater same rest = rw (same_from j k Less (reversed k j Greater same)) rest

under_others : (k name : Seq ℕ) (change : JsonValue → JsonValue) (new : JsonValue) (ms : Members) → bytes_eq k name ≡ false → member_of (with_member k change new ms) name ≡ member_of ms name
under_others k name change new no_members other = rw other refl
under_others k name change new (member j d ms) other = by (compared k j) refl (under_others k name change new ms other)
  where
    by : (r : Ordering) → compared k j ≡ r → member_of (with_member k change new ms) name ≡ member_of ms name
        → member_of (match_ordering r (member k new (member j d ms)) (member j (change d) ms) (member j d (with_member k change new ms))) name ≡ member_of (member j d ms) name
    by Less same rest = rw other refl
    by Equal same rest =
        let is : k ≡ j = (bytes_eq-Decides k j).0 (same_from k j Equal same) in
        let no : bytes_eq j name ≡ false = subst (λ (x : Seq ℕ). bytes_eq x name ≡ false) is other in
        rw no refl
    by Greater same rest = ap (λ (found : Option JsonValue). cond (bytes_eq j name) (Some d) found) rest

under_each : (cs ms : Members) (name : Seq ℕ) → Ascend cs → Ascend ms → member_of (merged_members cs ms) name ≡ under (member_of cs name) (member_of ms name)
under_each no_members ms name cup up = refl
under_each (member k v cs) ms name cup up =
    by (bytes_eq k name) refl (under_each cs (with_member k (merged v) v ms) name cup.1 (ascend_with k (merged v) v ms up))
  where
    put_is : (found : Option JsonValue) → put (merged v) v found ≡ under (Some v) found
    put_is None = refl
    put_is (Some d) = refl

    by : (r : Bool) → bytes_eq k name ≡ r → member_of (merged_members cs (with_member k (merged v) v ms)) name ≡ under (member_of cs name) (member_of (with_member k (merged v) v ms) name)
        → member_of (merged_members cs (with_member k (merged v) v ms)) name ≡ under (cond r (Some v) (member_of cs name)) (member_of ms name)
    by true same rest =
        let is : k ≡ name = (bytes_eq-Decides k name).0 same in
        let none : member_of cs name ≡ None = none_after name cs (subst (λ (x : Seq ℕ). AreAfter x cs) is cup.0) in
        let here : member_of (with_member k (merged v) v ms) name ≡ put (merged v) v (member_of ms name) =
        subst (λ (x : Seq ℕ). member_of (with_member k (merged v) v ms) x ≡ put (merged v) v (member_of ms x)) is (under_it k (merged v) v ms up) in
        rest ∙ ap (λ (c : Option JsonValue). under c (member_of (with_member k (merged v) v ms) name)) none ∙ here ∙ put_is (member_of ms name)
    by false other rest = rest ∙ ap (λ (d : Option JsonValue). under (member_of cs name) d) (under_others k name (merged v) v ms other)

pub under_merged : (cs ls : Seq Entry) → IsAscending cs → IsAscending ls → (name : Seq ℕ) → member_of (merged_members (members_of cs) (members_of ls)) name ≡ under (member_of (members_of cs) name) (member_of (members_of ls) name)
under_merged cs ls cup up name = under_each (members_of cs) (members_of ls) name (ascend_from cs cup) (ascend_from ls up)
