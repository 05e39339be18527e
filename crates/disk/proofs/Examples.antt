-- What a write leaves of a file, on a few bytes.
use Rattle.std.specs.Prelude.{◌≡◌, ℕ, [], ◌∷◌, codes, refl}
use Rattle.disk.specs.Memory.{written}

over_what_stands : written 2 (codes "XY") (codes "abcdef") ≡ codes "abXYef"
over_what_stands = refl

past_the_end : written 4 (codes "ghij") (codes "abXYef") ≡ codes "abXYghij"
past_the_end = refl

zeros_fill_a_gap : written 4 (codes "l") (codes "ab") ≡ 97 ∷ 98 ∷ 0 ∷ 0 ∷ 108 ∷ []
zeros_fill_a_gap = refl

nothing_changes_nothing : written 9 [] (codes "ab") ≡ codes "ab"
nothing_changes_nothing = refl
