-- Rows by their places: what stands between the places of rows are the rows' texts.
use Rattle.std.proofs.Common.{Option, Some, None, ◌≡◌, ℕ, zero, suc, ◌+◌, ◌-◌, ◌<◌, ◌≤◌, List, [], ◌∷◌, ◌++◌, length, get_or, map, take, drop, refl, sym, ap, ◌∙◌, append_assoc, arith}
use Rattle.std.specs.List.{flat_map}
use Rattle.std.proofs.lemmas.List.{take_at, drop_at, drop-drop, length-append, length-drop, append-nil, length-map, get_or-map, same_lists, nil_from_length}
use Rattle.std.proofs.lemmas.List.FromFn.{length-map-range_with_len, get_or-map-range_with_len}
use Rattle.std.proofs.lemmas.List.Concat.{flat_map-append}
use Rattle.part_text.specs.Reading.{Reader, many_at, IsKeyed}
use Rattle.part_text.specs.Reads.{Reads, IsBytes, IsBytes-rest}
use Rattle.part_text.specs.Walks.{IsWalked, walked_start, walked_more, walked_end}
use Rattle.part_text.specs.Places.{places_from, row, rows_of, ArePlaces}

pub length-places_from : {X : Type 0} (text : X → List ℕ) (place : ℕ) (items : List X) → length (places_from text place items) ≡ length items + 1
length-places_from text place [] = refl
length-places_from text place (item ∷ items) = let e = length-places_from text (place + length (text item)) items in omega arith

pub length-rows_of : (places bytes : List ℕ) → length (rows_of places bytes) ≡ length places - 1
unfolding rows_of
length-rows_of places bytes = length-map-range_with_len (row places bytes) 0 (length places - 1)

pub get_or-rows_of : (places bytes : List ℕ) (at : ℕ) (d : List ℕ) → at + 1 < length places → get_or (rows_of places bytes) at d ≡ row places bytes at
unfolding rows_of
get_or-rows_of places bytes at d below = get_or-map-range_with_len (row places bytes) 0 (length places - 1) at at d (omega arith) (omega arith)

-- the first place, and where the first text ends
first_place : {X : Type 0} (text : X → List ℕ) (place : ℕ) (items : List X) → get_or (places_from text place items) 0 0 ≡ place
first_place text place [] = refl
first_place text place (item ∷ items) = refl

-- the text of each item stands at its place
row-places_from : {X : Type 0} (text : X → List ℕ) (place : ℕ) (items : List X) (bytes rest : List ℕ) (at : ℕ) (d : X) → drop place bytes ≡ flat_map text items ++ rest → at < length items → row (places_from text place items) bytes at ≡ text (get_or items at d)
row-places_from text place [] bytes rest at d stands below = absurd (omega arith)
row-places_from text place (item ∷ items) bytes rest zero d stands below =
    let next : get_or (places_from text (place + length (text item)) items) 0 0 ≡ place + length (text item) = first_place text (place + length (text item)) items in
    let long : place + length (text item) - place ≡ length (text item) = omega arith in
    let whole : drop place bytes ≡ text item ++ (flat_map text items ++ rest) = stands ∙ append_assoc (text item) (flat_map text items) rest in
    ap (λ n. take (n - place) (drop place bytes)) next ∙ ap (λ n. take n (drop place bytes)) long ∙ ap (take (length (text item))) whole ∙ take_at (text item) (flat_map text items ++ rest) (length (text item)) refl
row-places_from text place (item ∷ items) bytes rest (suc at) d stands below =
    let behind : drop (place + length (text item)) bytes ≡ flat_map text items ++ rest =
    sym (drop-drop (length (text item)) place bytes) ∙ ap (drop (length (text item))) (stands ∙ append_assoc (text item) (flat_map text items) rest) ∙ drop_at (text item) (flat_map text items ++ rest) (length (text item)) refl in
    let next : suc at + 1 ≡ suc (at + 1) = omega arith in
    rw next (row-places_from text (place + length (text item)) items bytes rest at d behind (omega arith))

-- so the rows are the texts of the items
pub rows_of-places_from : {X : Type 0} (text : X → List ℕ) (place : ℕ) (items : List X) (bytes rest : List ℕ) → drop place bytes ≡ flat_map text items ++ rest → rows_of (places_from text place items) bytes ≡ map text items
rows_of-places_from text place [] bytes rest stands = nil_from_length (rows_of (place ∷ []) bytes) (length-rows_of (place ∷ []) bytes)
rows_of-places_from text place (item ∷ items) bytes rest stands =
    let count : length (places_from text place (item ∷ items)) ≡ length (item ∷ items) + 1 = length-places_from text place (item ∷ items) in
    let long : length (rows_of (places_from text place (item ∷ items)) bytes) ≡ length (map text (item ∷ items)) =
    length-rows_of (places_from text place (item ∷ items)) bytes ∙ omega (arith, count, length-map (item ∷ items) text) in
    same_lists (rows_of (places_from text place (item ∷ items)) bytes) (map text (item ∷ items)) long (λ k d below.
    let inside : k < length (item ∷ items) = omega (arith, below, long, length-map (item ∷ items) text) in
    get_or-rows_of (places_from text place (item ∷ items)) bytes k d (omega (arith, count, inside))
    ∙ row-places_from text place (item ∷ items) bytes rest k item stands inside
    ∙ sym (get_or-map text (item ∷ items) k item d inside))

one_rises : (place : ℕ) (places : List ℕ) (at : ℕ) → ((k : ℕ) → k + 1 < length places → get_or places k 0 ≤ get_or places (k + 1) 0) → place ≤ get_or places 0 0 → at + 1 < length (place ∷ places) → get_or (place ∷ places) at 0 ≤ get_or (place ∷ places) (at + 1) 0
one_rises place places zero rising first below = first
one_rises place places (suc at) rising first below =
    let next : suc at + 1 ≡ suc (at + 1) = omega arith in
    rw next (rising at (omega arith))

one_within : (place end : ℕ) (places : List ℕ) (at : ℕ) → ((k : ℕ) → k < length places → get_or places k 0 ≤ end) → place ≤ end → at < length (place ∷ places) → get_or (place ∷ places) at 0 ≤ end
one_within place end places zero within first below = first
one_within place end places (suc at) within first below = within at (omega arith)

places_more : (place end : ℕ) (places : List ℕ) → ArePlaces places end → place ≤ get_or places 0 0 → ArePlaces (place ∷ places) end
places_more place end places are first = record {
  some = omega arith;
  rising = λ at below. one_rises place places at are.rising first below;
  within = λ at below. let upto : get_or places 0 0 ≤ end = are.within 0 are.some in one_within place end places at are.within (omega (arith, first, upto)) below;
}

-- the places of rows don't fall
pub places_are : {X : Type 0} (text : X → List ℕ) (place : ℕ) (items : List X) (bytes rest : List ℕ) → place ≤ length bytes → drop place bytes ≡ flat_map text items ++ rest → ArePlaces (places_from text place items) (length bytes)
places_are text place [] bytes rest inside stands = record {
  some = omega arith;
  rising = λ at below. absurd (omega arith);
  within = λ at below. one_within place (length bytes) [] at (λ k none. absurd (omega arith)) inside below;
}
places_are text place (item ∷ items) bytes rest inside stands =
    let whole : drop place bytes ≡ text item ++ (flat_map text items ++ rest) = stands ∙ append_assoc (text item) (flat_map text items) rest in
    let long : length bytes - place ≡ length (text item) + length (flat_map text items ++ rest) =
    sym (length-drop place bytes) ∙ ap length whole ∙ length-append (text item) (flat_map text items ++ rest) in
    let behind : drop (place + length (text item)) bytes ≡ flat_map text items ++ rest =
    sym (drop-drop (length (text item)) place bytes) ∙ ap (drop (length (text item))) whole ∙ drop_at (text item) (flat_map text items ++ rest) (length (text item)) refl in
    places_more place (length bytes) (places_from text (place + length (text item)) items)
    (places_are text (place + length (text item)) items bytes rest (omega (arith, long, inside)) behind)
    (let next = first_place text (place + length (text item)) items in omega (arith, next))

-- one more item behind the others
pub places_from-push : {X : Type 0} (text : X → List ℕ) (place : ℕ) (items : List X) (item : X) → places_from text place (items ++ item ∷ []) ≡ places_from text place items ++ (place + length (flat_map text (items ++ item ∷ []))) ∷ []
places_from-push text place [] item = ap (λ end. place ∷ (place + end) ∷ []) (ap length (sym (append-nil (text item))))
places_from-push text place (first ∷ items) item =
    let more = places_from-push text (place + length (text first)) items item in
    let long : (place + length (text first)) + length (flat_map text (items ++ item ∷ [])) ≡ place + length (flat_map text (first ∷ (items ++ item ∷ []))) =
    omega (arith, length-append (text first) (flat_map text (items ++ item ∷ []))) in
    ap (λ later. place ∷ later) (more ∙ ap (λ end. places_from text (place + length (text first)) items ++ end ∷ []) long)

-- a loop over rows: those that were read stand in front of what is left, and these are their places
pub record IsPlacing {K X : Type 0} (key : X → K) (text : X → List ℕ) (item : Option K → Reader X) (total : Option (List X × List ℕ)) (count : ℕ) (bytes : List ℕ) (at : ℕ) (before : Option K) (done : ℕ) (rest places : List ℕ) : Type 0 where
  pub walk : IsWalked key item total count before done rest
  pub parts : bytes ≡ flat_map text walk.front ++ rest
  pub placed : places ≡ places_from text at walk.front

pub placing_start : {K X : Type 0} (key : X → K) (text : X → List ℕ) (item : Option K → Reader X) (count : ℕ) (bytes : List ℕ) (at : ℕ) (places : List ℕ) → places ≡ at ∷ [] → IsPlacing key text item (many_at key item None count bytes) count bytes at None 0 bytes places
unfolding walked_start
placing_start key text item count bytes at places one = record { walk = walked_start key item count bytes; parts = refl; placed = one }

-- the end of one more row is where what is left begins
pub placing_more : {K X : Type 0} (key : X → K) (text : X → List ℕ) (May : Option K → X → Type 0) (item : Option K → Reader X) (total : Option (List X × List ℕ)) (count : ℕ) (bytes : List ℕ) (at : ℕ) (before : Option K) (done : ℕ) (rest places : List ℕ) (own : K) (after : List ℕ) (end : ℕ) → Reads text May item → IsBytes bytes → IsPlacing key text item total count bytes at before done rest places → done < count → IsKeyed key (item before rest) own after → end + length after ≡ at + length bytes → IsPlacing key text item total count bytes at (Some own) (done + 1) after (places ++ end ∷ [])
unfolding walked_more
placing_more key text May item total count bytes at before done rest places own after end law fits was below read ends =
    let front = was.walk.front in
    let took = law.takes before rest read.item after (IsBytes-rest bytes (flat_map text front) rest fits was.parts) read.is in
    let pushed : flat_map text (front ++ read.item ∷ []) ≡ flat_map text front ++ text read.item = flat_map-append text front (read.item ∷ []) ∙ ap (λ last. flat_map text front ++ last) (append-nil (text read.item)) in
    let parts : bytes ≡ flat_map text (front ++ read.item ∷ []) ++ after =
    was.parts ∙ ap (λ behind. flat_map text front ++ behind) took.1 ∙ sym (append_assoc (flat_map text front) (text read.item) after) ∙ ap (λ first. first ++ after) (sym pushed) in
    let long : length bytes ≡ length (flat_map text (front ++ read.item ∷ [])) + length after = ap length parts ∙ length-append (flat_map text (front ++ read.item ∷ [])) after in
    let here : end ≡ at + length (flat_map text (front ++ read.item ∷ [])) = omega (arith, ends, long) in
    record {
      walk = walked_more key item total count before done rest own after was.walk below read;
      parts = parts;
      placed = ap (λ earlier. earlier ++ end ∷ []) was.placed ∙ ap (λ place. places_from text at front ++ place ∷ []) here ∙ sym (places_from-push text at front read.item);
    }

-- what is known of the rows when all were read
pub record ArePlaced {K X : Type 0} (key : X → K) (text : X → List ℕ) (item : Option K → Reader X) (count : ℕ) (bytes : List ℕ) (at : ℕ) (rest places : List ℕ) : Type 0 where
  pub items : List X
  pub is : many_at key item None count bytes ≡ Some (items, rest)
  pub placed : places ≡ places_from text at items

pub placing_end : {K X : Type 0} (key : X → K) (text : X → List ℕ) (item : Option K → Reader X) (count : ℕ) (bytes : List ℕ) (at : ℕ) (before : Option K) (done : ℕ) (rest places : List ℕ) → IsPlacing key text item (many_at key item None count bytes) count bytes at before done rest places → count ≤ done → ArePlaced key text item count bytes at rest places
placing_end key text item count bytes at before done rest places was past = record {
  items = was.walk.front;
  is = walked_end key item (many_at key item None count bytes) count before done rest was.walk past;
  placed = was.placed;
}

-- what is left behind a row is no longer than all of the bytes
pub placing_within : {K X : Type 0} (key : X → K) (text : X → List ℕ) (May : Option K → X → Type 0) (item : Option K → Reader X) (total : Option (List X × List ℕ)) (count : ℕ) (bytes : List ℕ) (at : ℕ) (before : Option K) (done : ℕ) (rest places : List ℕ) (own : K) (after : List ℕ) → Reads text May item → IsBytes bytes → IsPlacing key text item total count bytes at before done rest places → IsKeyed key (item before rest) own after → length after ≤ length bytes
placing_within key text May item total count bytes at before done rest places own after law fits was read =
    let front = was.walk.front in
    let took = law.takes before rest read.item after (IsBytes-rest bytes (flat_map text front) rest fits was.parts) read.is in
    let one : length bytes ≡ length (flat_map text front) + length rest = ap length was.parts ∙ length-append (flat_map text front) rest in
    let two : length rest ≡ length (text read.item) + length after = ap length took.1 ∙ length-append (text read.item) after in
    omega (arith, one, two)
