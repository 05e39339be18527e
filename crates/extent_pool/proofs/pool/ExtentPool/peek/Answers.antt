use Rattle.std.proofs.Common.{◌≡◌, List, Some, None, ap, ◌∙◌, sym}
use Rattle.std.specs.Option.{option_map}
use Rattle.extent_pool.specs.declared.extent.Extent.{Extent}
use Rattle.extent_pool.specs.Holes.{has_room, first_fit}
use Rattle.std.specs.List.{position}
use Rattle.extent_pool.proofs.Peeking.{found_at, found_nowhere}
use Rattle.extent_pool.proofs.pool.ExtentPool.peek.Goals as goal

pub returns-in-Some : goal.returns-in-Some
returns-in-Some c =
    let d : Extent = record { at = 0; len = 0 } in
    let hs = c.as_slice-holes.result.now in
    let is : position (has_room c.args.len) hs ≡ Some c.in-Some.place = sym c.first_with_room.ensures ∙ c.in-Some.is in
    sym (found_at hs c.args.len c.in-Some.place d is)
    ∙ ap (λ (xs : List Extent). option_map (λ (e : Extent). e.at) (first_fit c.args.len xs)) (c.as_slice-holes.ensures ∙ c.holes.ensures.holes)

pub returns-in-None : goal.returns-in-None
returns-in-None c =
    let hs = c.as_slice-holes.result.now in
    let is : position (has_room c.args.len) hs ≡ None = sym c.first_with_room.ensures ∙ c.in-None.is in
    sym (found_nowhere hs c.args.len is)
    ∙ ap (λ (xs : List Extent). option_map (λ (e : Extent). e.at) (first_fit c.args.len xs)) (c.as_slice-holes.ensures ∙ c.holes.ensures.holes)
