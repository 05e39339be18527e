-- Values of eight bytes each, by index and one by one.
use Rattle.std.proofs.Common.{◌≡◌, ℕ, zero, suc, ◌+◌, ◌*◌, ◌/◌, ◌<◌, ◌≤◌, List, [], ◌∷◌, ◌++◌, length, get_or, drop, refl, sym, ap, ◌∙◌, arith}
use Rattle.std.specs.List.{flat_map, All}
use Rattle.std.proofs.lemmas.List.{same_lists, nil_from_length, length-drop, drop-drop, drop_at, length-append}
use Rattle.std.proofs.lemmas.List.Elements.{All-head, All-tail}
use Rattle.std.proofs.lemmas.List.FromFn.{length-map-range_with_len, get_or-map-range_with_len}
use Rattle.doc_values.specs.Kept.{value_in, values_in}

pub length-values_in : {X : Type 0} (front : List ℕ → X) (bytes : List ℕ) → length (values_in front bytes) ≡ length bytes / 8
unfolding values_in
length-values_in front bytes = length-map-range_with_len (value_in front bytes) 0 (length bytes / 8)

pub get_or-values_in : {X : Type 0} (front : List ℕ → X) (bytes : List ℕ) (at : ℕ) (d : X) → at < length bytes / 8 → get_or (values_in front bytes) at d ≡ value_in front bytes at
unfolding values_in
get_or-values_in front bytes at d below = get_or-map-range_with_len (value_in front bytes) 0 (length bytes / 8) at at d below (omega arith)

pub values_none : {X : Type 0} (front : List ℕ → X) (bytes : List ℕ) → length bytes < 8 → values_in front bytes ≡ []
values_none front bytes short = nil_from_length (values_in front bytes) (length-values_in front bytes ∙ omega arith)

-- the first value, and those behind it
pub values_more : {X : Type 0} (front : List ℕ → X) (bytes : List ℕ) → 8 ≤ length bytes → values_in front bytes ≡ front bytes ∷ values_in front (drop 8 bytes)
values_more {X} front bytes long =
    let rest = drop 8 bytes in
    let count : length bytes / 8 ≡ suc (length rest / 8) = omega (arith, length-drop 8 bytes) in
    same_lists (values_in front bytes) (front bytes ∷ values_in front rest)
    (length-values_in front bytes ∙ count ∙ sym (ap suc (length-values_in front rest)))
    (λ k d below. each k d (omega (arith, below, length-values_in front bytes)))
  where
    each : (k : ℕ) (d : X) → k < length bytes / 8 → get_or (values_in front bytes) k d ≡ get_or (front bytes ∷ values_in front (drop 8 bytes)) k d
    each zero d below = get_or-values_in front bytes 0 d below
    each (suc k) d below =
        let inside : k < length (drop 8 bytes) / 8 = omega (arith, length-drop 8 bytes) in
        let place : 8 * suc k ≡ 8 + 8 * k = omega arith in
        get_or-values_in front bytes (suc k) d below
        ∙ ap front (ap (λ n. drop n bytes) place ∙ sym (drop-drop (8 * k) 8 bytes))
        ∙ sym (get_or-values_in front (drop 8 bytes) k d inside)

-- the values that a text is of
pub values_text : {X : Type 0} (front : List ℕ → X) (text : X → List ℕ) (Fits : X → Type 0) (values : List X) → ((value : X) → length (text value) ≡ 8) → ((value : X) (rest : List ℕ) → Fits value → front (text value ++ rest) ≡ value)
    → All Fits values → values_in front (flat_map text values) ≡ values
values_text front text Fits [] long shows fit = values_none front [] (omega arith)
values_text front text Fits (value ∷ values) long shows fit =
    let behind = flat_map text values in
    values_more front (text value ++ behind) (omega (arith, length-append (text value) behind, long value))
    ∙ ap (λ first. first ∷ values_in front (drop 8 (text value ++ behind))) (shows value behind (All-head Fits value values fit))
    ∙ ap (λ bytes. value ∷ values_in front bytes) (drop_at (text value) behind 8 (long value))
    ∙ ap (λ others. value ∷ others) (values_text front text Fits values long shows (All-tail Fits value values fit))

pub length-values_text : {X : Type 0} (text : X → List ℕ) (values : List X) → ((value : X) → length (text value) ≡ 8) → length (flat_map text values) ≡ 8 * length values
length-values_text text [] long = refl
length-values_text text (value ∷ values) long =
    omega (arith, length-append (text value) (flat_map text values), long value, length-values_text text values long)
