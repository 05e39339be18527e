-- The first of some elements, taken part by part.
use Rattle.std.proofs.Common.{◌≡◌, ℕ, zero, suc, ◌+◌, ◌<◌, ◌≤◌, ℤ, pos, replicate, Bool, List, [], ◌∷◌, ◌++◌, length, map, take, drop, get_or, Option, Some, is_some, refl, sym, subst, ap, ◌∙◌, arith}
use Rattle.std.specs.List.{range_with_len}
use Rattle.block_join.specs.Scores.{filled}
use Rattle.hit_order.specs.Table.{key_at, keys_of, number_or_null, row_at, table_of}
use Rattle.hit_order.specs.declared.column.Column.{Column}
use Rattle.hit_order.specs.declared.column.ColumnKeys.{ColumnKeys}
use Rattle.hit_order.specs.declared.column.ColumnKeys.TheVariants.{Numbers}
use Rattle.query_ast.specs.declared.sort.Key.{Key}
use Rattle.query_ast.specs.declared.sort.Key.TheVariants.{Null, Number}
use Rattle.search_page.specs.Hits.{AreShared, place_of, places_of, plain_row}
use Rattle.segment_parts.specs.Text.{marked_places}
use Rattle.hit_order.specs.declared.column.RowPlace.{RowPlace}

module _ {A : Type 0} where
  pub taken_full : (n : ℕ) (xs more : List A) → length xs ≡ n → take n (xs ++ more) ≡ xs
  taken_full zero [] more long = refl
  taken_full zero (x ∷ xs) more long = absurd (omega (arith, long))
  taken_full (suc n) [] more long = absurd (omega (arith, long))
  taken_full (suc n) (x ∷ xs) more long = ap (λ (l : List A). x ∷ l) (taken_full n xs more (omega (arith, long)))

  pub taken_whole : (n : ℕ) (xs : List A) → length xs ≤ n → take n xs ≡ xs
  taken_whole zero [] low = refl
  taken_whole (suc n) [] low = refl
  taken_whole zero (x ∷ xs) low = absurd (omega (arith, low))
  taken_whole (suc n) (x ∷ xs) low = ap (λ (l : List A). x ∷ l) (taken_whole n xs (omega (arith, low)))

  pub taken_few : (n : ℕ) (xs : List A) → length (take n xs) ≤ n
  taken_few zero xs = omega arith
  taken_few (suc n) [] = omega arith
  taken_few (suc n) (x ∷ xs) = omega (arith, taken_few n xs)

  -- what is behind the first many of a part
  pub taken_on : (n : ℕ) (xs more : List A) → take n (take n xs ++ more) ≡ take n (xs ++ more)
  taken_on zero xs more = refl
  taken_on (suc n) [] more = refl
  taken_on (suc n) (x ∷ xs) more = ap (λ (l : List A). x ∷ l) (taken_on n xs more)

pub dropped_all : {A : Type 0} (at : ℕ) (xs : List A) → length xs ≤ at → drop at xs ≡ []
dropped_all zero [] past = refl
dropped_all (suc at) [] past = refl
dropped_all zero (x ∷ xs) past = absurd (omega (arith, past))
dropped_all (suc at) (x ∷ xs) past = dropped_all at xs (omega (arith, past))

-- the places of the sets from one on, the first of them apart
pub places_step : (at : ℕ) (found : List (List (Option ℕ))) (scores : List (Option ℕ)) (flags : List Bool) → at < length found → scores ≡ get_or found at scores → flags ≡ map is_some scores → places_of at (drop at found) ≡ map (place_of at) (marked_places 0 flags) ++ places_of (at + 1) (drop (at + 1) found)
places_step at found scores flags low is set = by at at found low is
  where
    by : (place at : ℕ) (found : List (List (Option ℕ))) → at < length found → scores ≡ get_or found at scores → places_of place (drop at found) ≡ map (place_of place) (marked_places 0 flags) ++ places_of (place + 1) (drop (at + 1) found)
    by place at [] low is = absurd (omega (arith, low))
    by place zero (x ∷ found) low is =
        let next : suc place ≡ place + 1 = omega arith in
        ap (λ (l : List (Option ℕ)). map (place_of place) (marked_places 0 (map is_some l)) ++ places_of (suc place) found) (sym is)
        ∙ ap (λ (l : List Bool). map (place_of place) (marked_places 0 l) ++ places_of (suc place) found) (sym set)
        ∙ ap (λ (k : ℕ). map (place_of place) (marked_places 0 flags) ++ places_of k found) next
    by place (suc at) (x ∷ found) low is = let next : suc at + 1 ≡ suc (at + 1) = omega arith in rw next (by place at found (omega (arith, low)) is)

pub places_end : (at : ℕ) (found : List (List (Option ℕ))) → length found ≤ at → places_of at (drop at found) ≡ []
places_end at found past = ap (places_of at) (dropped_all at found past)

-- ---- a list cut at both ends

take_none : {A : Type 0} (n : ℕ) → take {A = A} n [] ≡ []
take_none zero = refl
take_none (suc n) = refl

pub cut_both : {A : Type 0} (from size : ℕ) (xs : List A) → drop from (take (from + size) xs) ≡ take size (drop from xs)
cut_both zero size xs = let none : 0 + size ≡ size = omega arith in rw none refl
cut_both (suc from) size [] = let next : suc from + size ≡ suc (from + size) = omega arith in rw next (sym (take_none size))
cut_both (suc from) size (x ∷ xs) = let next : suc from + size ≡ suc (from + size) = omega arith in rw next (cut_both from size xs)

-- ---- what all entries share

pub shared_step : (score at : ℕ) (found : List (List (Option ℕ))) (scores : List (Option ℕ)) → at < length found → scores ≡ get_or found at scores → scores ≡ filled (Some score) (map is_some scores) → AreShared score (drop (at + 1) found) → AreShared score (drop at found)
shared_step score at [] scores low is own rest = absurd (omega (arith, low))
shared_step score zero (x ∷ found) scores low is own rest = (subst (λ (s : List (Option ℕ)). s ≡ filled (Some score) (map is_some s)) is own, rest)
shared_step score (suc at) (x ∷ found) scores low is own rest =
    let next : suc at + 1 ≡ suc (at + 1) = omega arith in
    shared_step score at found scores (omega (arith, low)) is own (rw next at rest)

-- ---- the rows of places

keys_same : (count at : ℕ) (z : ℤ) → at < count → get_or (map number_or_null (replicate count (Some z))) at Null ≡ Number z
keys_same zero at z low = absurd (omega (arith, low))
keys_same (suc count) zero z low = refl
keys_same (suc count) (suc at) z low = keys_same count at z (omega (arith, low))

range_mapped : {A B : Type 0} (f : ℕ → A) (g : B → A) (d : B) (start : ℕ) (xs : List B) → ((k : ℕ) → k < length xs → f (start + k) ≡ g (get_or xs k d)) → map f (range_with_len start (length xs)) ≡ map g xs
range_mapped f g d start [] same = refl
range_mapped {A} {B} f g d start (x ∷ xs) same =
    ap (λ (y : A). y ∷ map f (range_with_len (start + 1) (length xs))) (let here : start + 0 ≡ start = omega arith in sym (ap f here) ∙ same 0 (omega arith))
    ∙ ap (λ (l : List A). g x ∷ l) (range_mapped f g d (start + 1) xs (λ k low. (let on : (start + 1) + k ≡ start + suc k = omega arith in ap f on) ∙ same (suc k) (omega (arith, low))))

pub table_plain : (score : ℕ) (column : Column) (keys : List (Option ℤ)) (page : List RowPlace) → column.keys ≡ Numbers keys → keys ≡ replicate (length page) (Some (pos score)) → (table_of (column ∷ []) page).rows ≡ map (plain_row score) page
unfolding table_of
table_plain score column keys page numbers same =
    range_mapped (row_at (column ∷ []) page) (plain_row score) (record { place = 0; doc = 0; number = pos 0 }) 0 page
    (λ k low.
    let own : key_at column k ≡ Number (pos score) =
    ap (λ (c : ColumnKeys). get_or (keys_of c) k Null) numbers
    ∙ ap (λ (l : List (Option ℤ)). get_or (map number_or_null l) k Null) same
    ∙ keys_same (length page) k (pos score) low in
    let at : RowPlace = get_or page k (record { place = 0; doc = 0; number = pos 0 }) in
    ap (row_at (column ∷ []) page) (let here : 0 + k ≡ k = omega arith in here)
    ∙ ap (λ (key : Key). record { keys = key ∷ []; place = at.place; doc = at.doc; number = at.number }) own)

pub replicate_more : {A : Type 0} (n : ℕ) (x : A) → replicate (n + 1) x ≡ replicate n x ++ x ∷ []
replicate_more zero x = refl
replicate_more {A} (suc n) x = let next : suc n + 1 ≡ suc (n + 1) = omega arith in rw next (ap (λ (l : List A). x ∷ l) (replicate_more n x))
