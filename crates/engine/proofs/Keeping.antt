-- Ordinals that are kept from one search of a point in time to the next.
use Rattle.std.proofs.Common.{◌≡◌, ℕ, List, Option, Some, None, sym, subst}
use Rattle.std.specs.Prelude.{IfSome}
use Rattle.std.specs.Option.{option_map}
use Rattle.join_ordinals.specs.Ordinals.{AreOrdinals, Ordinals}
use Rattle.point_in_time.specs.Points.{KeptPoints, entries_under}
use Rattle.segment.specs.Live.{EntryState}
use Rattle.engine.specs.Kept.{IfPoint}

-- those that are taken out under an id are those of its view
pub own_taken : (points : KeptPoints) (id : ℕ) (view : List EntryState) (kept : Option (ℕ × Ordinals)) (own : Option Ordinals) → entries_under id points.points ≡ Some view → IfPoint points kept → IfSome own (λ ordinals. kept ≡ Some (id, ordinals)) → IfSome own (AreOrdinals view)
own_taken points id view kept None under are is = tt
own_taken points id view kept (Some own) under are is =
    subst (λ (found : Option (List EntryState)). IfSome found (λ entries. AreOrdinals entries own)) under (subst (IfPoint points) is are)

-- and those of a view may be kept under its id
pub own_kept : (points : KeptPoints) (id : ℕ) (view : List EntryState) (own : Option Ordinals) → entries_under id points.points ≡ Some view → IfSome own (AreOrdinals view) → IfPoint points (option_map (λ ordinals. (id, ordinals)) own)
own_kept points id view None under are = tt
own_kept points id view (Some own) under are = subst (λ (found : Option (List EntryState)). IfSome found (λ entries. AreOrdinals entries own)) (sym under) are
