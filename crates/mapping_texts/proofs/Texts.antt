-- The bodies of a mapping are read back.
use Rattle.std.proofs.Common.{◌≡◌, ℕ, suc, ◌+◌, ◌<◌, ◌≤◌, inl, inr, List, [], ◌∷◌, All, length, get_or, subst, arith}
use Rattle.std.proofs.lemmas.Bool.{cases_lt}
use Rattle.std.proofs.lemmas.List.Elements.{All-from_recursion}
use Rattle.std.specs.List.{AllByRecursion}
use Rattle.tree_json.specs.Levels.{levels, most_levels}
use Rattle.tree_json.specs.Sound.{IsSound}
use Rattle.tree_json.specs.Value.{JsonValue, null}
use Rattle.tree_json.proofs.RoundTrip.{reads_back}
use Rattle.mapping_growth.specs.Bodies.{AreBodies}
use Rattle.mapping_texts.specs.Texts.{IsReadBack}
use Rattle.mapping_texts.proofs.Depths.{bodies_levels}

-- the first so many bodies are sound
abbrev pub AreSoundTo : ℕ → List JsonValue → Type 0
AreSoundTo count bodies = (n : ℕ) → n < count → IsSound (get_or bodies n null)

pub sound_none : (bodies : List JsonValue) → AreSoundTo 0 bodies
sound_none bodies n below = absurd (omega (arith, below))

pub sound_more : (count : ℕ) (bodies : List JsonValue) → AreSoundTo count bodies → IsSound (get_or bodies count null) → AreSoundTo (count + 1) bodies
sound_more count bodies before here n below =
    elim (cases_lt n count) [
      | inl less ↦ before n less
      | inr past ↦ let is : count ≡ n = omega (arith, past, below) in subst (λ (k : ℕ). IsSound (get_or bodies k null)) is here
    ]

all_sound : (bodies : List JsonValue) → ((n : ℕ) → n < length bodies → IsSound (get_or bodies n null)) → AllByRecursion IsSound bodies
all_sound [] each = tt
all_sound (body ∷ bodies) each = (each 0 (omega arith), all_sound bodies (λ n below. each (suc n) (omega (arith, below))))

read_all : (bodies : List JsonValue) → AllByRecursion IsSound bodies → AllByRecursion (λ (body : JsonValue). levels body ≤ most_levels) bodies → AllByRecursion IsReadBack bodies
read_all [] sound few = tt
read_all (body ∷ bodies) sound few = (reads_back body sound.0 few.0, read_all bodies sound.1 few.1)

pub bodies_read : (bodies : List JsonValue) (count : ℕ) → AreBodies bodies → count ≡ length bodies → AreSoundTo count bodies → AllByRecursion IsReadBack bodies
bodies_read bodies count are all sound =
    let every : AllByRecursion IsSound bodies = all_sound bodies (λ n below. sound n (omega (arith, below, all))) in
    read_all bodies every (bodies_levels bodies are every)

pub bodies_read_all : (bodies : List JsonValue) (count : ℕ) → AreBodies bodies → count ≡ length bodies → AreSoundTo count bodies → All IsReadBack bodies
bodies_read_all bodies count are all sound = All-from_recursion IsReadBack bodies (bodies_read bodies count are all sound)

pub ruleset texts = (sound_none, sound_more, bodies_read, bodies_read_all)
