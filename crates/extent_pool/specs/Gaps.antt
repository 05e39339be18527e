-- What a pool keeps of its extents and holes: extents in order, one behind the other, and the gaps between them.
use Rattle.std.specs.Prelude.{◌≡◌, ℕ, ◌+◌, ◌-◌, ◌*◌, ◌/◌, ◌%◌, ◌^◌, ◌≤◌, cond, nat_lt, List, [], ◌∷◌, ◌++◌, length}
use Rattle.extent_pool.specs.declared.extent.TheConstants.{UNIT}
use Rattle.extent_pool.specs.declared.extent.Extent.{Extent}
use Rattle.extent_pool.specs.Extents.{Extents, end_of, room_of}

-- The extents stand one behind the other between the two places, each in whole units.
abbrev pub AreLaid : ℕ → List Extent → ℕ → Type 0
AreLaid from [] end = from ≤ end
AreLaid from (e ∷ es) end = (from ≤ e.at) × (e.at % UNIT ≡ 0) × (1 ≤ e.len) × AreLaid (end_of e) es end

-- The bytes from one place to another, where there are any.
abbrev pub gap : ℕ → ℕ → List Extent
gap from end = cond (nat_lt from end) (record { at = from; len = end - from } ∷ []) []

-- The gaps that extents leave which stand in order.
abbrev pub gaps : ℕ → List Extent → ℕ → List Extent
gaps from [] end = gap from end
gaps from (e ∷ es) end = gap from e.at ++ gaps (end_of e) es end

-- The end of the last whole unit below a limit.
abbrev pub whole : ℕ → ℕ
whole limit = limit / UNIT * UNIT

-- The holes are the gaps, and there is room for one hole more than there are taken extents.
pub record IsKept (limit : ℕ) (taken : List Extent) (holes : Extents) : Type 0 where
  pub small : limit ≤ 2 ^ 60
  pub laid : AreLaid 0 taken (whole limit)
  pub holes_are : holes.extents ≡ gaps 0 taken (whole limit)
  pub room : length taken + 1 ≤ room_of holes
