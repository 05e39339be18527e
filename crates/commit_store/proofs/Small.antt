-- A store whose limit is below the header's length has room for nothing.
use Rattle.std.proofs.Common.{◌≡◌, ℕ, zero, suc, ◌+◌, ◌*◌, ◌/◌, ◌<◌, ◌≤◌, Bool, true, false, not, ◌&&◌, ◌||◌, cond, nat_lt, nat_le, List, [], ◌∷◌, ◌++◌, length, Option, None, Some, refl, sym, ◌∙◌, ap, subst, arith}
use Rattle.std.specs.List.{list_any}
use Rattle.extent_pool.specs.Extents.{keeps, end_of}
use Rattle.extent_pool.specs.Holes.{holes_of, is_free, runs, first_fit}
use Rattle.extent_pool.specs.Placing.{fit, placed, room_for, room_behind, room_with, in_front_of, with_taken}
use Rattle.extent_pool.specs.declared.extent.TheConstants.{UNIT}
use Rattle.extent_pool.specs.declared.extent.Extent.{Extent}
use Rattle.mapping.specs.Mapping.{Mapping}
use Rattle.segment.specs.Live.{EntryState}
use Rattle.commit_store.specs.Known.{StoreState}
use Rattle.commit_store.specs.Preparing.{header_extent, taken_by, new_sizes, room_of, size_of_record}

header_keeps : (byte : ℕ) → byte < 2_048 → keeps byte header_extent ≡ true
header_keeps byte less = grind arith

none_free : (rest : List Extent) (unit : ℕ) → unit < 32 → is_free (header_extent ∷ rest) unit ≡ false
none_free rest unit less = ap (λ (it : Bool). not (it || list_any (keeps (unit * UNIT)) rest)) (header_keeps (unit * UNIT) (omega (arith, less)))

no_runs : (rest : List Extent) (unit count : ℕ) → unit + count ≤ 32 → runs (is_free (header_extent ∷ rest)) unit count ≡ []
no_runs rest unit zero less = refl
no_runs rest unit (suc count) less = rw (none_free rest unit (omega (arith, less))) (no_runs rest (unit + 1) count (omega (arith, less)))

no_holes : (limit : ℕ) (rest : List Extent) → limit < 2_048 → holes_of limit (header_extent ∷ rest) ≡ []
unfolding holes_of
no_holes limit rest less = no_runs rest 0 (limit / UNIT) (omega (arith, less))

no_fit : (limit : ℕ) (rest : List Extent) (len : ℕ) → limit < 2_048 → fit limit (header_extent ∷ rest) len ≡ None
no_fit limit rest len less = ap (first_fit len) (no_holes limit rest less)

no_room_in : (limit : ℕ) (rest : List Extent) (sizes : List ℕ) (size : ℕ) → limit < 2_048 → room_for limit (header_extent ∷ rest) sizes size ≡ None
no_room_in limit rest [] size less = ap (room_with []) (no_fit limit rest size less)
no_room_in limit rest (len ∷ sizes) size less =
    ap (λ (it : Option Extent). room_behind limit (header_extent ∷ rest) size (in_front_of it (placed limit (with_taken it (header_extent ∷ rest)) sizes))) (no_fit limit rest len less)

pub no_room_below : (store : StoreState) (m : Mapping) (view : List EntryState) → store.limit < 2_048 → room_of store m view ≡ None
no_room_below store m view less = no_room_in store.limit store.named (new_sizes store.known view) (size_of_record m view) less
