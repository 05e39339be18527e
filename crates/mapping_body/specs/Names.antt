-- Names and the paths that they make.
use Rattle.std.specs.Prelude.{ℕ, ◌≡◌, ◌<◌, suc, ◌+◌, ◌==◌, Bool, true, false, ◌&&◌, not, if◌then◌else◌, nat_le, List, [], ◌∷◌, ◌++◌, length, drop, Option, is_some}
use Rattle.std.specs.List.{list_any, position_from, count_by}
use Rattle.std.specs.List.Sorted.{IsStrictlySortedBy}
use Rattle.std.specs.Ordering.{nat_cmp, is_lt}
use Rattle.std.specs.Str.{bytes_eq}
use Rattle.std.specs.Cmp.Lexicographic.{slice_cmp}
use Rattle.mapping_body.specs.declared.refusal.TheConstants.{MOST_NAME_BYTES}
use Rattle.std.specs.declared.cmp.Ordering.{Ordering}
use Rattle.std.specs.declared.cmp.Ordering.TheVariants.{Less, Equal, Greater}

-- the byte of `.`
abbrev pub dot : ℕ
dot = 46

abbrev pub has_dot : List ℕ → Bool
has_dot name = list_any (λ byte. byte == dot) name

-- a name of a property or a relation has 1 to MOST_NAME_BYTES bytes
abbrev pub is_name : List ℕ → Bool
is_name name = nat_le 1 (length name) && nat_le (length name) MOST_NAME_BYTES

-- and that of a property has no dot, so that a path can be taken apart again
abbrev pub is_property_name : List ℕ → Bool
is_property_name name = is_name name && not (has_dot name)

-- the path of a name below a path: names joined by dots; the root's path is empty
abbrev pub joined : List ℕ → List ℕ → List ℕ
joined [] name = name
joined (byte ∷ path) name = (byte ∷ path) ++ (dot ∷ name)

abbrev pub before_name : ℕ → List (List ℕ) → List (List ℕ)
before_name byte [] = (byte ∷ []) ∷ []
before_name byte (name ∷ names) = (byte ∷ name) ∷ names

abbrev pub split : List ℕ → List (List ℕ)
split [] = [] ∷ []
split (byte ∷ path) = if byte == dot then [] ∷ split path else before_name byte (split path)

-- the names of a path; the root has none
abbrev pub names_of : List ℕ → List (List ℕ)
names_of [] = []
names_of (byte ∷ path) = split (byte ∷ path)

abbrev pub dot_count : List ℕ → ℕ
dot_count path = count_by (λ byte. byte == dot) path

-- how many names a path that isn't the root's has
abbrev pub name_count : List ℕ → ℕ
name_count path = 1 + dot_count path

-- the names that lead from a path to one below it
abbrev pub names_between : List ℕ → List ℕ → List (List ℕ)
names_between [] path = names_of path
names_between (byte ∷ above) path = names_of (drop (length (byte ∷ above) + 1) path)

-- the path goes on with a further name
abbrev pub goes_on : List ℕ → List ℕ → Bool
goes_on [] [] = false
goes_on [] (byte ∷ path) = byte == dot
goes_on (a ∷ above) [] = false
goes_on (a ∷ above) (byte ∷ path) = a == byte && goes_on above path

-- the names of the first path are a proper prefix of the names of the second
abbrev pub lies_above : List ℕ → List ℕ → Bool
lies_above [] [] = false
lies_above [] (byte ∷ path) = true
lies_above (a ∷ above) path = goes_on (a ∷ above) path

-- the second list is the first with further elements behind it
pub record IsProperPrefix {A : Type 0} (xs ys : List A) : Type 0 where
  pub further : List A
  pub some : 0 < length further
  pub is : ys ≡ xs ++ further

-- ---- lists in byte order

abbrev pub by_order : {A : Type 0} → Ordering → A → A → A → A
by_order Less less equal greater = less
by_order Equal less equal greater = equal
by_order Greater less equal greater = greater

-- the list with one more element at its place in the byte order of names; a name that is there already stays as it is
abbrev pub put : {A : Type 0} → (A → List ℕ) → A → List A → List A
put name x [] = x ∷ []
put name x (y ∷ ys) = by_order (slice_cmp nat_cmp (name y) (name x)) (y ∷ put name x ys) (y ∷ ys) (x ∷ y ∷ ys)

-- and with several more
abbrev pub put_all : {A : Type 0} → (A → List ℕ) → List A → List A → List A
put_all name ys [] = ys
put_all name ys (x ∷ xs) = put_all name (put name x ys) xs

-- the elements in byte order of their names
abbrev pub in_byte_order : {A : Type 0} → (A → List ℕ) → List A → List A
in_byte_order name xs = put_all name [] xs

-- the place of a name in a list
abbrev pub place_of : List ℕ → List (List ℕ) → Option ℕ
place_of name names = position_from (λ other. bytes_eq other name) 0 names

-- a name is one of a list
abbrev pub is_among : List (List ℕ) → List ℕ → Bool
is_among names name = is_some (place_of name names)

-- ---- lists whose names ascend

abbrev pub AreAscending : List (List ℕ) → Type 0
AreAscending names = IsStrictlySortedBy (slice_cmp nat_cmp) names
