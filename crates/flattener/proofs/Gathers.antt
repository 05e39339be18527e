-- Items along the names of a path, and the names one by one.
use Rattle.std.proofs.Common.{◌≡◌, ℕ, ℤ, ◌<◌, ◌≤◌, ◌==◌, Bool, List as Seq, [], ◌∷◌, ◌++◌, refl, sym, ap, arith, Option, Some, None, bytes_eq, length, drop, ◌-◌}
use Rattle.std.proofs.lemmas.List.{length-drop}
use Rattle.tree_json.specs.Value.{JsonValue, bool, whole, text, object, Members, no_members, member, member_of, value_size, members_size}
use Rattle.tree_objects.specs.Object.{items, items_at}
use Rattle.mapping_body.specs.Names.{dot, before_name, names_of, names_between}
use Rattle.flattener.specs.Walked.{names_behind, names_left, first_name, behind_name, start_below}
use Rattle.mapping.proofs.Nearest.{append_nil}
use Rattle.mapping_body.proofs.Walks.{split, size_at, member_size_at}

pub names_apart : (path : Seq ℕ) → names_behind path ≡ first_name path ∷ names_left (behind_name path)
names_apart [] = refl
names_apart (byte ∷ []) =
    split (byte == dot)
    (λ yes. rw yes refl)
    (λ no. rw no refl)
names_apart (byte ∷ c ∷ path) =
    split (byte == dot)
    (λ yes. rw yes refl)
    (λ no. rw no (ap (before_name byte) (names_apart (c ∷ path))))

abbrev held_or : JsonValue → Option JsonValue → JsonValue
held_or e None = e
held_or e (Some v) = v

abbrev sized : Option JsonValue → ℕ
sized None = 0
sized (Some v) = value_size v

item_at : (ms : Members) (name : Seq ℕ) (names : Seq (Seq ℕ)) (d : JsonValue) → member_of ms name ≡ Some d → items_at ms name names ≡ items d names
item_at no_members name names d h = absurd (cc (h))
item_at (member k e ms) name names d h =
    split (bytes_eq k name)
    (λ yes. let same : Some e ≡ Some d = rw yes at h in rw yes (ap (λ v. items v names) (ap (held_or e) same)))
    (λ no. let further : member_of ms name ≡ Some d = rw no at h in rw no (item_at ms name names d further))

item_missing : (ms : Members) (name : Seq ℕ) (names : Seq (Seq ℕ)) → member_of ms name ≡ None → items_at ms name names ≡ []
item_missing no_members name names h = refl
item_missing (member k e ms) name names h =
    split (bytes_eq k name)
    (λ yes. (let g : Some e ≡ None = rw yes at h in absurd (cc (g))))
    (λ no. let further : member_of ms name ≡ None = rw no at h in rw no (item_missing ms name names further))

pub items_member : (ms : Members) (path : Seq ℕ) (d : JsonValue) → member_of ms (first_name path) ≡ Some d
    → items (object ms) (names_behind path) ≡ items d (names_left (behind_name path))
items_member ms path d h = rw (names_apart path) (item_at ms (first_name path) (names_left (behind_name path)) d h)

pub items_without : (ms : Members) (path : Seq ℕ) → member_of ms (first_name path) ≡ None → items (object ms) (names_behind path) ≡ []
items_without ms path h = rw (names_apart path) (item_missing ms (first_name path) (names_left (behind_name path)) h)

members_positive : (ms : Members) → 0 < members_size ms
members_positive no_members = omega arith
members_positive (member k d ms) = omega (arith, members_positive ms)

pub size_found : (ms : Members) (name : Seq ℕ) (d : JsonValue) → member_of ms name ≡ Some d → value_size d < members_size ms
size_found no_members name d h = absurd (cc (h))
size_found (member k e ms) name d h =
    split (bytes_eq k name)
    (λ yes. let same : Some e ≡ Some d = rw yes at h in let size : value_size e ≡ value_size d = ap sized same in let some : 0 < members_size ms = members_positive ms in omega (arith, size, some))
    (λ no. let further : member_of ms name ≡ Some d = rw no at h in let less : value_size d < members_size ms = size_found ms name d further in omega (arith, less))

-- with a name left, what is no object, no list and not null has nothing
pub items_end : (path : Seq ℕ) → (b : Bool) → items (bool b) (names_behind path) ≡ []
items_end path b = rw (names_apart path) refl

pub items_end_whole : (path : Seq ℕ) → (z : ℤ) → items (whole z) (names_behind path) ≡ []
items_end_whole path z = rw (names_apart path) refl

pub items_end_text : (path : Seq ℕ) → (s : Seq ℕ) → items (text s) (names_behind path) ≡ []
items_end_text path s = rw (names_apart path) refl

some_name : (path : Seq ℕ) → 0 < length path → names_behind path ≡ names_of path
some_name [] h = absurd (omega (arith, h))
some_name (byte ∷ path) h = refl

no_name : (path : Seq ℕ) → length path ≡ 0 → [] ≡ names_of path
no_name [] h = refl
no_name (byte ∷ path) h = absurd (omega (arith, h))

pub below_some : (above path : Seq ℕ) → start_below above < length path → names_behind (drop (start_below above) path) ≡ names_between above path
below_some [] path h = some_name path h
below_some (byte ∷ above) path h =
    let long : length (drop (start_below (byte ∷ above)) path) ≡ length path - start_below (byte ∷ above) = length-drop (start_below (byte ∷ above)) path in
    some_name (drop (start_below (byte ∷ above)) path) (omega (arith, h, long))

pub below_none : (above path : Seq ℕ) → length path ≤ start_below above → [] ≡ names_between above path
below_none [] path h = no_name path (omega (arith, h))
below_none (byte ∷ above) path h =
    let long : length (drop (start_below (byte ∷ above)) path) ≡ length path - start_below (byte ∷ above) = length-drop (start_below (byte ∷ above)) path in
    no_name (drop (start_below (byte ∷ above)) path) (omega (arith, h, long))

pub ruleset below = (below_some, below_none)

pub none_more : (vs : Seq JsonValue) (ms : Members) (path : Seq ℕ) → member_of ms (first_name path) ≡ None → vs ≡ vs ++ items (object ms) (names_behind path)
none_more vs ms path h = rw (items_without ms path h) (sym (append_nil vs))

pub ruleset gathers = (none_more, items_member, items_without, size_found, size_at, member_size_at, items_end, items_end_whole, items_end_text)
