-- Entries of one value each: they lie sixteen bytes apart, so that a row is found without its place.
use Rattle.std.proofs.Common.{◌≡◌, ℕ, zero, suc, ◌+◌, ◌-◌, ◌*◌, ◌/◌, ◌%◌, ◌^◌, ◌<◌, ◌≤◌, List, [], ◌∷◌, length, get_or, take, drop, sym, ap, ◌∙◌, arith, slice_range}
use Rattle.std.specs.declared.cmp.Ordering.{Ordering}
use Rattle.std.proofs.lemmas.List.{same_lists, length-drop, length-take-le, take-take, drop-take, drop-drop}
use Rattle.std.proofs.lemmas.List.FromFn.{length-map-range_with_len, get_or-map-range_with_len}
use Rattle.part_text.specs.Front.{first_u32}
use Rattle.part_text.specs.Places.{row, ArePlaces}
use Rattle.doc_values.specs.Single.{AreSingle}
use Rattle.doc_values.specs.Kept.{values_in, entry_of, column_rows, single_entry, single_in, single_rows_in, AreEntriesAt, AreSingleAt, AreSixteen, IsKept}
use Rattle.doc_values.proofs.Numbers.{length-values_in, values_more, values_none}
use Rattle.doc_values.proofs.Entries.{length-column_rows, get_or-column_rows}

pub length-single_rows_in : {X : Type 0} (front : List ℕ → X) (bytes : List ℕ) → length (single_rows_in front bytes) ≡ length bytes / 16
unfolding single_rows_in
length-single_rows_in front bytes = length-map-range_with_len (single_in front bytes) 0 (length bytes / 16)

pub get_or-single_rows_in : {X : Type 0} (front : List ℕ → X) (bytes : List ℕ) (at : ℕ) (d : ℕ × List X) → at < length bytes / 16 → get_or (single_rows_in front bytes) at d ≡ single_in front bytes at
unfolding single_rows_in
get_or-single_rows_in front bytes at d below = get_or-map-range_with_len (single_in front bytes) 0 (length bytes / 16) at at d below (omega arith)

-- ---- places that lie sixteen apart at least

abbrev Apart : List ℕ → Type 0
Apart places = (at : ℕ) → at + 1 < length places → get_or places at 0 + 16 ≤ get_or places (at + 1) 0

apart_by : (places : List ℕ) (at more : ℕ) → Apart places → at + more < length places → get_or places at 0 + 16 * more ≤ get_or places (at + more) 0
apart_by places at zero apart inside = let same : get_or places (at + 0) 0 ≡ get_or places at 0 = ap (λ k. get_or places k 0) (omega arith) in omega (arith, same)
apart_by places at (suc more) apart inside =
    let next : at + suc more ≡ (at + more) + 1 = omega arith in
    let before = apart_by places at more apart (omega (arith, inside)) in
    let on : get_or places (at + more) 0 + 16 ≤ get_or places ((at + more) + 1) 0 = apart (at + more) (omega (arith, inside)) in
    let here : get_or places (at + suc more) 0 ≡ get_or places ((at + more) + 1) 0 = ap (λ k. get_or places k 0) next in
    omega (arith, before, on, here)

length-row : (places bytes : List ℕ) (at : ℕ) → ArePlaces places (length bytes) → at + 1 < length places → length (row places bytes at) ≡ get_or places (at + 1) 0 - get_or places at 0
length-row places bytes at are below =
    let from : ℕ = get_or places at 0 in
    let to : ℕ = get_or places (at + 1) 0 in
    let inside : to ≤ length bytes = are.within (at + 1) below in
    length-take-le (to - from) (drop from bytes) (omega (arith, inside, length-drop from bytes))

apart_of : (places bytes : List ℕ) → AreEntriesAt places bytes → Apart places
apart_of places bytes are = λ at below.
    let long = length-row places bytes at are.places_are below in
    let whole : 16 ≤ length (row places bytes at) = are.whole at below in
    omega (arith, long, whole)

-- the last place, as far behind the first as all entries are long
abbrev pub first_of : List ℕ → ℕ
first_of places = get_or places 0 0

abbrev pub last_of : List ℕ → ℕ
last_of places = get_or places (length places - 1) 0

pub spread : (places bytes : List ℕ) → AreEntriesAt places bytes → first_of places + 16 * (length places - 1) ≤ last_of places
spread places bytes are =
    let count : ℕ = length places - 1 in
    let some : 0 < length places = are.places_are.some in
    let all = apart_by places 0 count (apart_of places bytes are) (omega (arith, some)) in
    let same : get_or places (0 + count) 0 ≡ get_or places count 0 = ap (λ k. get_or places k 0) (omega arith) in
    omega (arith, all, same)

pub last_within : (places bytes : List ℕ) → AreEntriesAt places bytes → last_of places ≤ length bytes
last_within places bytes are = let some : 0 < length places = are.places_are.some in are.places_are.within (length places - 1) (omega (arith, some))

-- all entries together
pub length-all : (places bytes : List ℕ) → AreEntriesAt places bytes → length (slice_range bytes (first_of places) (last_of places)) ≡ last_of places - first_of places
length-all places bytes are =
    let inside = last_within places bytes are in
    length-take-le (last_of places - first_of places) (drop (first_of places) bytes) (omega (arith, inside, length-drop (first_of places) bytes))

-- ---- where all entries take no more than sixteen bytes each

place_is : (places bytes : List ℕ) (at : ℕ) → AreEntriesAt places bytes → last_of places ≡ first_of places + 16 * (length places - 1) → at < length places → get_or places at 0 ≡ first_of places + 16 * at
place_is places bytes at are ends below =
    let count : ℕ = length places - 1 in
    let apart = apart_of places bytes are in
    let before = apart_by places 0 at apart (omega (arith, below)) in
    let behind = apart_by places at (count - at) apart (omega (arith, below)) in
    let here : get_or places (0 + at) 0 ≡ get_or places at 0 = ap (λ k. get_or places k 0) (omega arith) in
    let last : get_or places (at + (count - at)) 0 ≡ get_or places count 0 = ap (λ k. get_or places k 0) (omega (arith, below)) in
    omega (arith, before, behind, here, last, ends, below)

one_entry : (bytes : List ℕ) (first long at : ℕ) → 16 * at + 16 ≤ long → single_entry (take long (drop first bytes)) at ≡ take 16 (drop (first + 16 * at) bytes)
one_entry bytes first long at inside =
    let left : ℕ = long - 16 * at in
    let whole : long ≡ 16 * at + left = omega (arith, inside) in
    ap (λ n. take 16 (drop (16 * at) (take n (drop first bytes)))) whole
    ∙ ap (take 16) (drop-take (16 * at) left (drop first bytes))
    ∙ take-take 16 left (drop (16 * at) (drop first bytes)) (omega (arith, inside))
    ∙ ap (take 16) (drop-drop (16 * at) first bytes)

pub are_single : (places bytes own : List ℕ) → AreEntriesAt places bytes → own ≡ slice_range bytes (first_of places) (last_of places) → length own ≡ 16 * (length places - 1) → AreSingleAt places bytes own
are_single places bytes own are is long =
    let first : ℕ = first_of places in
    let all = length-all places bytes are in
    let apart = spread places bytes are in
    let ends : last_of places ≡ first + 16 * (length places - 1) = omega (arith, long, all, apart, ap length is) in
    record {
      long = long;
      entry_is = λ at below.
          let from : get_or places at 0 ≡ first + 16 * at = place_is places bytes at are ends (omega (arith, below)) in
          let to : get_or places (at + 1) 0 ≡ first + 16 * (at + 1) = place_is places bytes (at + 1) are ends below in
          let sixteen : get_or places (at + 1) 0 - get_or places at 0 ≡ 16 = omega (arith, from, to) in
          let inside : 16 * at + 16 ≤ last_of places - first = omega (arith, ends, below) in
          ap (λ n. take n (drop (get_or places at 0) bytes)) sixteen
          ∙ ap (λ n. take 16 (drop n bytes)) from
          ∙ sym (one_entry bytes first (last_of places - first) at inside)
          ∙ ap (λ entries. single_entry entries at) (sym is);
    }

place_after : (places : List ℕ) (at : ℕ) → ((k : ℕ) → k + 1 < length places → get_or places (k + 1) 0 ≡ get_or places k 0 + 16) → at < length places → get_or places at 0 ≡ get_or places 0 0 + 16 * at
place_after places zero each below = omega arith
place_after places (suc at) each below =
    let before = place_after places at each (omega (arith, below)) in
    let on : get_or places (at + 1) 0 ≡ get_or places at 0 + 16 = each at (omega (arith, below)) in
    let here : get_or places (suc at) 0 ≡ get_or places (at + 1) 0 = ap (λ k. get_or places k 0) (omega arith) in
    omega (arith, before, on, here)

-- entries that are longer together aren't all of sixteen bytes
pub not_sixteen : (places bytes own : List ℕ) → AreEntriesAt places bytes → own ≡ slice_range bytes (first_of places) (last_of places) → (length own ≡ 16 * (length places - 1) → ⊥) → AreSixteen places bytes → ⊥
not_sixteen places bytes own are is other each =
    let some : 0 < length places = are.places_are.some in
    let step : (k : ℕ) → k + 1 < length places → get_or places (k + 1) 0 ≡ get_or places k 0 + 16 =
    λ k below.
    let long = length-row places bytes k are.places_are below in
    let sixteen : length (row places bytes k) ≡ 16 = each k below in
    omega (arith, long, sixteen) in
    let ends = place_after places (length places - 1) step (omega (arith, some)) in
    other (omega (arith, ends, length-all places bytes are, ap length is))

-- ---- the rows of a column

one_value : {X : Type 0} (front : List ℕ → X) (entry : List ℕ) → length entry ≡ 16 → values_in front (drop 8 entry) ≡ front (drop 8 entry) ∷ []
one_value {X} front entry long =
    values_more front (drop 8 entry) (omega (arith, long, length-drop 8 entry))
    ∙ ap (λ (rest : List X). front (drop 8 entry) ∷ rest) (values_none front (drop 8 (drop 8 entry)) (omega (arith, long, length-drop 8 entry, length-drop 8 (drop 8 entry))))

length-single_entry : (own : List ℕ) (at count : ℕ) → length own ≡ 16 * count → at < count → length (single_entry own at) ≡ 16
length-single_entry own at count long below = length-take-le 16 (drop (16 * at) own) (omega (arith, long, below, length-drop (16 * at) own))

pub single_rows_are : {X : Type 0} (front : List ℕ → X) (places bytes own : List ℕ) (value : List (ℕ × List X)) → column_rows front places bytes ≡ value → AreSingleAt places bytes own → single_rows_in front own ≡ value
single_rows_are {X} front places bytes own value view are =
    let count : ℕ = length places - 1 in
    let long : length (single_rows_in front own) ≡ count = omega (arith, length-single_rows_in front own, are.long) in
    same_lists (single_rows_in front own) (column_rows front places bytes) (long ∙ sym (length-column_rows front places bytes))
    (λ k d below.
    let inside : k + 1 < length places = omega (arith, below, long) in
    let entry : List ℕ = single_entry own k in
    get_or-single_rows_in front own k d (omega (arith, below, length-single_rows_in front own))
    ∙ ap (λ (values : List X). (first_u32 entry, values)) (sym (one_value front entry (length-single_entry own k count are.long (omega (arith, inside)))))
    ∙ ap (entry_of front) (sym (are.entry_is k inside))
    ∙ sym (get_or-column_rows front places bytes k d inside))
    ∙ view

pub single_values : {X : Type 0} (front : List ℕ → X) (own : List ℕ) (value : List (ℕ × List X)) → single_rows_in front own ≡ value → AreSingle value
single_values {X} front own value is = λ k d below.
    let low : k < length own / 16 = omega (arith, below, ap length is, length-single_rows_in front own) in
    ap (λ (rows : List (ℕ × List X)). length (get_or rows k d).1) (sym is) ∙ ap (λ (r : ℕ × List X). length r.1) (get_or-single_rows_in front own k d low)

pub fewer_rows : {X : Type 0} (cmp : X → X → Ordering) (front : List ℕ → X) (places bytes own : List ℕ) → IsKept cmp front places bytes → AreSingleAt places bytes own → length own / 16 < 2 ^ 32
fewer_rows cmp front places bytes own kept are =
    let fewer = kept.rows_are.fewer in
    omega (arith, fewer, are.long, length-column_rows front places bytes)

-- where each row has one value, each entry has sixteen bytes
pub sixteen_each : {X : Type 0} (front : List ℕ → X) (places bytes : List ℕ) (value : List (ℕ × List X)) → AreEntriesAt places bytes → column_rows front places bytes ≡ value → AreSingle value → AreSixteen places bytes
sixteen_each {X} front places bytes value are view single = λ at below.
    let own : ℕ × List X = (0, []) in
    let inside : at < length value = omega (arith, below, length-column_rows front places bytes, ap length view) in
    let one : length (get_or value at own).1 ≡ 1 = single at own inside in
    let here : length (get_or value at own).1 ≡ length (values_in front (drop 8 (row places bytes at))) =
    ap (λ (rows : List (ℕ × List X)). length (get_or rows at own).1) (sym view) ∙ ap (λ (r : ℕ × List X). length r.1) (get_or-column_rows front places bytes at own below) in
    let whole : 16 ≤ length (row places bytes at) = are.whole at below in
    let eights : length (row places bytes at) % 8 ≡ 0 = are.eights at below in
    omega (arith, one, here, whole, eights, length-values_in front (drop 8 (row places bytes at)), length-drop 8 (row places bytes at))
