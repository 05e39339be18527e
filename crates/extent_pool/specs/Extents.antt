-- Extents of a store, which keep whole units of 64 bytes.
use Rattle.std.specs.Prelude.{◌≡◌, ℕ, ◌+◌, ◌≤◌, ◌%◌, Bool, ◌&&◌, nat_lt, nat_le, List, length, map, count_by, All}
use Rattle.std.specs.Int.{next_multiple_of}
use Rattle.std.specs.List.Sorted.{IsStrictlyIncreasing}
use Rattle.extent_pool.specs.declared.extent.TheConstants.{UNIT}
use Rattle.extent_pool.specs.declared.extent.Extent.{Extent}

-- A list of extents, and how many more it has room for.
pub record Extents : Type 0 where
  pub extents : List Extent
  pub spare : ℕ

-- How many extents the list has room for in all.
abbrev pub room_of : Extents → ℕ
room_of l = length l.extents + l.spare

-- What a pool is: the bytes below its limit, and the extents that are taken, in ascending order of place.
pub record Pool : Type 0 where
  pub limit : ℕ
  pub taken : List Extent

-- The least multiple of the unit that is no less than the length.
abbrev pub rounded : ℕ → ℕ
rounded len = next_multiple_of len UNIT

-- The first byte past the units of an extent.
abbrev pub end_of : Extent → ℕ
end_of e = e.at + rounded e.len

-- Does the byte lie in a unit of the extent?
abbrev pub keeps : ℕ → Extent → Bool
keeps byte e = nat_le e.at byte && nat_lt byte (end_of e)

-- No byte belongs to two of the extents.
pub record AreDisjoint (es : List Extent) : Type 0 where
  pub one_at_most : (byte : ℕ) → count_by (keeps byte) es ≤ 1

-- Each extent begins before the next, and at a unit, and its units end at the limit or before.
pub record AreInOrder (limit : ℕ) (es : List Extent) : Type 0 where
  pub ascending : IsStrictlyIncreasing (map (λ e. e.at) es)
  pub aligned : All (λ e. e.at % UNIT ≡ 0) es
  pub within : All (λ e. end_of e ≤ limit) es
