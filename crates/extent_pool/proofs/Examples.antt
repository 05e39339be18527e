-- Extents computed: which share a byte, where their units end, and what they leave free.
use Rattle.std.specs.Prelude.{◌≡◌, ℕ, [], ◌∷◌, count_by, Some, None, refl}
use Rattle.extent_pool.specs.declared.extent.Extent.{Extent}
use Rattle.extent_pool.specs.Extents.{end_of, keeps}
use Rattle.extent_pool.specs.Holes.{holes_of, first_fit}

abbrev extent : ℕ → ℕ → Extent
extent at len = record { at = at; len = len }

-- 100 bytes keep two units, so that what begins at the second shares it
a_shared_unit : count_by (keeps 64) (extent 0 100 ∷ extent 64 64 ∷ []) ≡ 2
a_shared_unit = refl

the_next_unit_is_not_shared : count_by (keeps 128) (extent 0 100 ∷ extent 128 64 ∷ []) ≡ 1
the_next_unit_is_not_shared = refl

-- 65 bytes end past a limit of 64
one_byte_takes_a_unit : end_of (extent 0 65) ≡ 128
one_byte_takes_a_unit = refl

a_whole_unit : end_of (extent 0 64) ≡ 64
a_whole_unit = refl

-- ---- the first hole with room, below 1,024 bytes of which the first 256 are taken

one_hole : holes_of 1024 (extent 0 256 ∷ []) ≡ extent 256 768 ∷ []
unfolding holes_of
one_hole = refl

two_holes : holes_of 1024 (extent 0 256 ∷ extent 384 64 ∷ []) ≡ extent 256 128 ∷ extent 448 576 ∷ []
unfolding holes_of
two_holes = refl

a_part_of_a_unit_is_no_hole : holes_of 100 [] ≡ extent 0 64 ∷ []
unfolding holes_of
a_part_of_a_unit_is_no_hole = refl

past_the_short_hole : first_fit 200 (extent 256 128 ∷ extent 448 576 ∷ []) ≡ Some (extent 448 200)
past_the_short_hole = refl

the_first_that_just_has_room : first_fit 128 (extent 256 128 ∷ extent 648 376 ∷ []) ≡ Some (extent 256 128)
the_first_that_just_has_room = refl

no_room : first_fit 1000 (extent 704 320 ∷ []) ≡ None
no_room = refl
