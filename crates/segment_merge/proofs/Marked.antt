-- What stands where a flag is set.
use Rattle.std.proofs.Common.{◌≡◌, ℕ, ◌+◌, ◌<◌, ◌≤◌, Bool, true, false, cond, List, [], ◌∷◌, ◌++◌, length, map, get_or, drop, refl, sym, ap, ap₂, ◌∙◌, append_assoc, arith}
use Rattle.std.specs.List.{count_by}
use Rattle.std.proofs.lemmas.List.{at_drop_all, drop_more, get_or-map, length-append, length-drop, length-map}
use Rattle.std.proofs.lemmas.List.FromFn.{get_or-map-range_with_len, length-map-range_with_len}
use Rattle.block_bits.specs.Flags.{is_marked}
use Rattle.segment.specs.Flat.{FlatDocument, flat_of, flats_of}
use Rattle.segment_parts.specs.Marks.{count-mark}
use Rattle.segment_parts.specs.Text.{marked_places}
use Rattle.segment_parts.specs.declared.columns.Columns.{Columns}
use Rattle.segment_merge.specs.Merged.{where_marked}

-- one more
pub marked_more : {X : Type 0} (flags : List Bool) (items : List X) (at : ℕ) (d : X) → at < length flags → at < length items
    → where_marked (drop at flags) (drop at items) ≡ cond (get_or flags at false) (get_or items at d ∷ where_marked (drop (at + 1) flags) (drop (at + 1) items)) (where_marked (drop (at + 1) flags) (drop (at + 1) items))
marked_more flags items at d h k = ap₂ where_marked (drop_more flags at false h) (drop_more items at d k)

pub length-where : {X : Type 0} (flags : List Bool) (items : List X) → length flags ≡ length items → length (where_marked flags items) ≡ count_by is_marked flags
length-where [] items long = refl
length-where (flag ∷ flags) [] long = absurd (omega (arith, long))
length-where (true ∷ flags) (item ∷ items) long = omega (arith, count-mark true flags, length-where flags items (omega (arith, long)))
length-where (false ∷ flags) (item ∷ items) long = omega (arith, count-mark false flags, length-where flags items (omega (arith, long)))

-- items at the places of flags that are set
pub items_at : {X : Type 0} (d : X) (flags : List Bool) (start : ℕ) (items : List X) → length (drop start items) ≡ length flags → map (λ i. get_or items i d) (marked_places start flags) ≡ where_marked flags (drop start items)
items_at d [] start items long = refl
items_at {X} d (true ∷ flags) start items long =
    let inside : start < length items = omega (arith, long, length-drop start items) in
    let rest : length (drop (start + 1) items) ≡ length flags = omega (arith, long, length-drop start items, length-drop (start + 1) items) in
    ap (λ (xs : List X). get_or items start d ∷ xs) (items_at d flags (start + 1) items rest) ∙ ap (where_marked (true ∷ flags)) (sym (drop_more items start d inside))
items_at {X} d (false ∷ flags) start items long =
    let inside : start < length items = omega (arith, long, length-drop start items) in
    let rest : length (drop (start + 1) items) ≡ length flags = omega (arith, long, length-drop start items, length-drop (start + 1) items) in
    items_at d flags (start + 1) items rest ∙ ap (where_marked (false ∷ flags)) (sym (drop_more items start d inside))

-- ---- a walk over documents

pub step_live : (flags : List Bool) (scopes : List ℕ) (doc scope : ℕ) (old new all : List ℕ) → doc < length flags → doc < length scopes → get_or flags doc false ≡ true → scope ≡ get_or scopes doc 0 → new ≡ old ++ scope ∷ []
    → old ++ where_marked (drop doc flags) (drop doc scopes) ≡ all → new ++ where_marked (drop (doc + 1) flags) (drop (doc + 1) scopes) ≡ all
step_live flags scopes doc scope old new all h k is at pushed was =
    let rest : List ℕ = where_marked (drop (doc + 1) flags) (drop (doc + 1) scopes) in
    let more : where_marked (drop doc flags) (drop doc scopes) ≡ scope ∷ rest =
    marked_more flags scopes doc 0 h k ∙ ap (λ (b : Bool). cond b (get_or scopes doc 0 ∷ rest) rest) is ∙ ap (λ n. n ∷ rest) (sym at) in
    ap (λ (xs : List ℕ). xs ++ rest) pushed ∙ append_assoc old (scope ∷ []) rest ∙ ap (λ (xs : List ℕ). old ++ xs) (sym more) ∙ was

pub step_dead : (flags : List Bool) (scopes : List ℕ) (doc : ℕ) (old all : List ℕ) → doc < length flags → doc < length scopes → get_or flags doc false ≡ false
    → old ++ where_marked (drop doc flags) (drop doc scopes) ≡ all → old ++ where_marked (drop (doc + 1) flags) (drop (doc + 1) scopes) ≡ all
step_dead flags scopes doc old all h k isnt was =
    let rest : List ℕ = where_marked (drop (doc + 1) flags) (drop (doc + 1) scopes) in
    let more : where_marked (drop doc flags) (drop doc scopes) ≡ rest = marked_more flags scopes doc 0 h k ∙ ap (λ (b : Bool). cond b (get_or scopes doc 0 ∷ rest) rest) isnt in
    ap (λ (xs : List ℕ). old ++ xs) (sym more) ∙ was

pub count_end : (flags : List Bool) (scopes : List ℕ) (end : ℕ) (old new : List ℕ) → length flags ≤ end → length flags ≡ length scopes → new ++ where_marked (drop end flags) (drop end scopes) ≡ old ++ where_marked flags scopes
    → length new ≡ length old + count_by is_marked flags
count_end flags scopes end old new past long was =
    let none : where_marked (drop end flags) (drop end scopes) ≡ [] = at_drop_all (λ (fs : List Bool). where_marked fs (drop end scopes)) flags end past in
    omega (
      arith,
      ap (λ (xs : List ℕ). length xs) was,
      length-append new (where_marked (drop end flags) (drop end scopes)),
      ap (λ (xs : List ℕ). length xs) none,
      length-append old (where_marked flags scopes),
      length-where flags scopes long,
    )

pub scope_at : (columns : Columns) (doc : ℕ) → doc < columns.documents → get_or (map (λ (flat : FlatDocument). flat.scope) (flats_of columns)) doc 0 ≡ (flat_of columns doc).scope
scope_at columns doc h =
    get_or-map (λ (flat : FlatDocument). flat.scope) (flats_of columns) doc (flat_of columns doc) 0 (omega (arith, h, length-map-range_with_len (flat_of columns) 0 columns.documents))
    ∙ ap (λ (flat : FlatDocument). flat.scope) (get_or-map-range_with_len (flat_of columns) 0 columns.documents doc doc (flat_of columns doc) h (omega arith))

pub long_scopes : (columns : Columns) → length (map (λ (flat : FlatDocument). flat.scope) (flats_of columns)) ≡ columns.documents
long_scopes columns = length-map (flats_of columns) (λ (flat : FlatDocument). flat.scope) ∙ length-map-range_with_len (flat_of columns) 0 columns.documents
