-- A list of vectors, and a write into one of them.
use Rattle.std.proofs.Common.{◌≡◌, ℕ, zero, suc, ◌<◌, List, [], ◌∷◌, length, get_or, set, refl, ap, ◌∙◌, arith, Vec}
use Rattle.std.specs.Vec.{with_item}
use Rattle.std.proofs.lemmas.List.{map-set}
use Rattle.segment_merge.specs.Lists.{items_of}
use Rattle.segment_merge.specs.TermRefs.{rooms_of, with_ordinal}

items_at : {A : Type 0} (lists : List (Vec ℕ A)) (place ordinal : ℕ) (own : Vec ℕ A) → own ≡ get_or lists place own → ordinal < get_or (rooms_of (items_of lists)) place 0 → own.items ≡ get_or (items_of lists) place []
items_at [] place ordinal own read h = absurd (omega (arith, h))
items_at {A} (first ∷ lists) zero ordinal own read h = ap (λ (v : Vec ℕ A). v.items) read
items_at (first ∷ lists) (suc place) ordinal own read h = items_at lists place ordinal own read h

-- how many terms a part has
pub room_at : (news : List (List ℕ)) (place : ℕ) → get_or (rooms_of news) place 0 ≡ length (get_or news place [])
room_at [] place = refl
room_at (own ∷ news) zero = refl
room_at (own ∷ news) (suc place) = room_at news place

pub nested_room : {A : Type 0} (lists : List (Vec ℕ A)) (now : List (List ℕ)) (place ordinal : ℕ) (own : Vec ℕ A) → items_of lists ≡ now → own ≡ get_or lists place own → ordinal < get_or (rooms_of now) place 0 → ordinal < length own.items
nested_room lists now place ordinal own seen read h =
    let room : ordinal < get_or (rooms_of (items_of lists)) place 0 = omega (arith, h, ap (λ (news : List (List ℕ)). get_or (rooms_of news) place 0) seen) in
    omega (arith, room, room_at (items_of lists) place, ap (λ (ns : List ℕ). length ns) (items_at lists place ordinal own read room))

pub nested_set : {A : Type 0} (lists : List (Vec ℕ A)) (now : List (List ℕ)) (place ordinal new : ℕ) (own : Vec ℕ A) → items_of lists ≡ now → own ≡ get_or lists place own → ordinal < get_or (rooms_of now) place 0
    → items_of (set lists place (with_item own ordinal new)) ≡ with_ordinal now place ordinal new
nested_set {A} lists now place ordinal new own seen read h =
    let room : ordinal < get_or (rooms_of (items_of lists)) place 0 = omega (arith, h, ap (λ (news : List (List ℕ)). get_or (rooms_of news) place 0) seen) in
    map-set (λ (v : Vec ℕ A). v.items) lists place (with_item own ordinal new)
    ∙ ap (λ (ns : List ℕ). set (items_of lists) place (set ns ordinal new)) (items_at lists place ordinal own read room)
    ∙ ap (λ (news : List (List ℕ)). with_ordinal news place ordinal new) seen
