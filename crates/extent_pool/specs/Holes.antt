-- What the taken extents leave: the maximal runs of free units below the limit, in ascending order of place.
use Rattle.std.specs.Prelude.{ℕ, zero, suc, ◌+◌, ◌*◌, ◌/◌, Bool, not, cond, ◌==◌, nat_le, List, [], ◌∷◌, Option, find}
use Rattle.std.specs.Option.{option_map}
use Rattle.std.specs.List.{list_any}
use Rattle.extent_pool.specs.declared.extent.TheConstants.{UNIT}
use Rattle.extent_pool.specs.declared.extent.Extent.{Extent}
use Rattle.extent_pool.specs.Extents.{rounded, keeps}

-- A unit is free where no extent keeps it. Extents keep whole units, so its first byte tells.
abbrev pub is_free : List Extent → ℕ → Bool
is_free taken unit = not (list_any (keeps (unit * UNIT)) taken)

-- A free unit joins the run that begins right behind it; where none does, it is a run by itself.
abbrev pub with_unit : ℕ → List Extent → List Extent
with_unit unit [] = record { at = unit * UNIT; len = UNIT } ∷ []
with_unit unit (h ∷ hs) =
    cond (h.at == (unit + 1) * UNIT)
    (record { at = unit * UNIT; len = UNIT + h.len } ∷ hs)
    (record { at = unit * UNIT; len = UNIT } ∷ h ∷ hs)

-- The maximal runs of units that pass the test, among `count` units from `unit` on.
abbrev pub runs : (ℕ → Bool) → ℕ → ℕ → List Extent
runs free unit zero = []
runs free unit (suc count) =
    cond (free unit) (with_unit unit (runs free (unit + 1) count)) (runs free (unit + 1) count)

-- The holes of a pool: the units that lie wholly below the limit count.
unfoldable pub holes_of : ℕ → List Extent → List Extent
holes_of limit taken = runs (is_free taken) 0 (limit / UNIT)

-- Is the hole as long as the rounded length?
abbrev pub has_room : ℕ → Extent → Bool
has_room len hole = nat_le (rounded len) hole.len

-- The extent of this length at the front of the first hole that has room for it.
abbrev pub first_fit : ℕ → List Extent → Option Extent
first_fit len holes = option_map (λ hole. record { at = hole.at; len = len }) (find (has_room len) holes)
