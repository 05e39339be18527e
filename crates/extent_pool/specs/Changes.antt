-- What taking and giving back change in lists of extents and of holes, both in ascending order of place.
use Rattle.std.specs.Prelude.{◌≡◌, ℕ, ◌+◌, ◌-◌, ◌<◌, ◌≤◌, Bool, true, ◌&&◌, cond, ◌==◌, nat_lt, nat_le, List, [], ◌∷◌, ◌++◌, Some, length, take, drop, find, slice_index_or}
use Rattle.extent_pool.specs.declared.extent.Extent.{Extent}
use Rattle.extent_pool.specs.Extents.{end_of}
use Rattle.extent_pool.specs.Gaps.{gap}

-- Does the extent begin before the byte? Does the hole end before it?
abbrev pub begins_before : ℕ → Extent → Bool
begins_before byte e = nat_lt e.at byte

abbrev pub ends_before : ℕ → Extent → Bool
ends_before byte h = nat_lt (h.at + h.len) byte

-- Does each extent begin at the end of the one before it, or behind?
abbrev pub are_apart : ℕ → List Extent → Bool
are_apart from [] = true
are_apart from (e ∷ es) = nat_le from e.at && are_apart (end_of e) es

-- The extents and one more, in its place.
abbrev pub with_extent : Extent → List Extent → List Extent
with_extent e [] = e ∷ []
with_extent e (x ∷ xs) = cond (nat_lt x.at e.at) (x ∷ with_extent e xs) (e ∷ x ∷ xs)

-- The extents without the one at a place.
abbrev pub without_extent : ℕ → List Extent → List Extent
without_extent at [] = []
without_extent at (x ∷ xs) = cond (x.at == at) xs (x ∷ without_extent at xs)

-- The holes after the front of the first that is as long as the size is gone.
abbrev pub filled : ℕ → List Extent → List Extent
filled size [] = []
filled size (h ∷ hs) =
    cond (nat_le size h.len) (gap (h.at + size) (h.at + h.len) ++ hs) (h ∷ filled size hs)

-- The place of the first hole that is as long as the size, and what is left there without its front.
pub record IsFirst (hs : List Extent) (size place : ℕ) : Type 0 where
  pub inside : place < length hs
  pub fits : (d : Extent) → size ≤ (slice_index_or hs place d).len
  pub found : (d : Extent) → find (λ h. nat_le size h.len) hs ≡ Some (slice_index_or hs place d)
  pub filled_is : (d : Extent) → filled size hs ≡ take place hs ++ (gap ((slice_index_or hs place d).at + size) ((slice_index_or hs place d).at + (slice_index_or hs place d).len) ++ drop (place + 1) hs)

-- The holes and one more in front of them, which takes in the first where that begins at its end.
abbrev pub in_front : ℕ → ℕ → List Extent → List Extent
in_front at end [] = record { at = at; len = end - at } ∷ []
in_front at end (h ∷ hs) =
    cond (h.at == end)
    (record { at = at; len = h.at + h.len - at } ∷ hs)
    (record { at = at; len = end - at } ∷ h ∷ hs)

-- The same where the first hole may end at the place, and none ends before it.
abbrev pub freed_here : ℕ → ℕ → List Extent → List Extent
freed_here at end [] = in_front at end []
freed_here at end (h ∷ hs) = cond (h.at + h.len == at) (in_front h.at end hs) (in_front at end (h ∷ hs))

-- The holes after the bytes from one place to another have become free: neighbours are one hole.
abbrev pub freed : ℕ → ℕ → List Extent → List Extent
freed at end [] = freed_here at end []
freed at end (h ∷ hs) = cond (ends_before at h) (h ∷ freed at end hs) (freed_here at end (h ∷ hs))
