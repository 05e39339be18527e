-- One step of a walk over the rows, columns and parts that a merge writes again.
use Rattle.std.proofs.Common.{◌≡◌, ℕ, zero, suc, ◌+◌, ◌<◌, Bool, true, false, cond, List, [], ◌∷◌, ◌++◌, length, map, get_or, slice_get, drop, Option, Some, None, refl, sym, ap, subst, ◌∙◌, append_assoc, arith, length-append, Vec}
use Rattle.std.specs.Prelude.{slice_index, slice_index_or}
use Rattle.std.specs.Option.{is_some}
use Rattle.std.specs.List.{All, filter, flat_map}
use Rattle.std.proofs.lemmas.Grind.{flat_map-append}
use Rattle.std.proofs.lemmas.List.{drop_more, drop-drop, length-map}
use Rattle.std.proofs.lemmas.List.Elements.{filter-append}
use Rattle.std.proofs.lemmas.Option.{get_or_from_slice_get, slice_get_within}
use Rattle.doc_values.specs.Values.{documents}
use Rattle.part_text.specs.Text.{counted_text, u32_text}
use Rattle.segment.specs.Flat.{has_some}
use Rattle.segment_builder.specs.Groups.{groups_seen}
use Rattle.segment_parts.specs.Agree.{AreWithin}
use Rattle.segment_parts.specs.declared.columns.Columns.{Columns}
use Rattle.segment_merge.specs.ByField.{group_text, keyed_text, total}
use Rattle.segment_merge.specs.Merged.{kept, renumbered}
use Rattle.segment_merge.specs.Numbering.{PartState, new_number}
use Rattle.segment_merge.specs.Pieces.{columns_in, columns_of_parts, first_list, joined, written_rows, whole}

-- the first of what is left
pub left_at : {X : Type 0} (xs : List X) (at : ℕ) (x : X) → slice_get xs at ≡ Some x → drop at xs ≡ x ∷ drop (at + 1) xs
left_at xs at x is = drop_more xs at x (slice_get_within xs at x is) ∙ ap (λ y. y ∷ drop (at + 1) xs) (get_or_from_slice_get xs at x x is)

pub held_at : {X : Type 0} (P : X → Type 0) (xs : List X) (at : ℕ) (x : X) → All P xs → slice_get xs at ≡ Some x → P x
held_at P xs at x all is = subst P (get_or_from_slice_get xs at x x is) (all at x (slice_get_within xs at x is))

-- ---- rows

-- the row at an index is of the document at that index
pub row_at : {X : Type 0} (rows : List (ℕ × List X)) (at : ℕ) → at < length rows → (values : List X) × (slice_get rows at ≡ Some (slice_index (documents rows) at, values))
row_at [] at below = absurd (omega (arith, below))
row_at (row ∷ rows) zero below = (row.1, refl)
row_at (row ∷ rows) (suc at) below = row_at rows at (omega (arith, below))

pub doc_below : {X : Type 0} (count : ℕ) (rows : List (ℕ × List X)) (at doc : ℕ) → AreWithin count rows → at < length rows → doc ≡ slice_index (documents rows) at → doc < count
doc_below {X} count rows at doc all below is =
    let own = row_at rows at below in
    subst (λ d. d < count) (sym is) (held_at (λ (row : ℕ × List X). row.0 < count) rows at (slice_index (documents rows) at, own.0) all own.1)

-- a document with a new number is live, and that is its number
numbered : (part : PartState) (doc number : ℕ) → new_number part doc ≡ Some number → (slice_index_or part.entry.live.docs doc false ≡ true) × (renumbered part.base part.entry.live.docs doc ≡ number)
numbered part doc number is = found (slice_index_or part.entry.live.docs doc false) is
  where
    found : (live : Bool) → cond live (Some (renumbered part.base part.entry.live.docs doc)) None ≡ Some number → (live ≡ true) × (renumbered part.base part.entry.live.docs doc ≡ number)
    found true e = (refl, cc (e))
    found false e = absurd (cc (e))

unnumbered : (part : PartState) (doc : ℕ) → new_number part doc ≡ None → slice_index_or part.entry.live.docs doc false ≡ false
unnumbered part doc is = found (slice_index_or part.entry.live.docs doc false) is
  where
    found : (live : Bool) → cond live (Some (renumbered part.base part.entry.live.docs doc)) None ≡ None → live ≡ false
    found true e = absurd (cc (e))
    found false e = refl

abbrev pub kept_in : {X : Type 0} → PartState → List (ℕ × List X) → List (ℕ × List X)
kept_in part rows = kept part.base part.entry.live.docs rows

pub kept_live : {X : Type 0} (part : PartState) (rows : List (ℕ × List X)) (at doc number : ℕ) (values : List X) → slice_get rows at ≡ Some (doc, values) → new_number part doc ≡ Some number
    → kept_in part (drop at rows) ≡ (number, values) ∷ kept_in part (drop (at + 1) rows)
kept_live part rows at doc number values row is =
    let own = numbered part doc number is in
    ap (kept_in part) (left_at rows at (doc, values) row) ∙ rw (own.0, own.1) refl

pub kept_dead : {X : Type 0} (part : PartState) (rows : List (ℕ × List X)) (at doc : ℕ) (values : List X) → slice_get rows at ≡ Some (doc, values) → new_number part doc ≡ None
    → kept_in part (drop at rows) ≡ kept_in part (drop (at + 1) rows)
kept_dead part rows at doc values row is = ap (kept_in part) (left_at rows at (doc, values) row) ∙ rw (unnumbered part doc is) refl

-- counted
is_live : (part : PartState) (doc : ℕ) (some : Bool) → is_some (new_number part doc) ≡ some → slice_index_or part.entry.live.docs doc false ≡ some
is_live part doc some is = found (slice_index_or part.entry.live.docs doc false) is
  where
    found : (live : Bool) → is_some (cond live (Some (renumbered part.base part.entry.live.docs doc)) None) ≡ some → live ≡ some
    found true e = e
    found false e = e

pub count_live : {X : Type 0} (part : PartState) (rows : List (ℕ × List X)) (at doc : ℕ) (number : Option ℕ) (some : Bool) → at < length rows → doc ≡ slice_index (documents rows) at → number ≡ new_number part doc → some ≡ is_some number → some ≡ true
    → length (kept_in part (drop at rows)) ≡ length (kept_in part (drop (at + 1) rows)) + 1
count_live part rows at doc number some below of_row of_doc test is =
    let own = row_at rows at below in
    let live = is_live part doc true (ap is_some (sym of_doc) ∙ sym test ∙ is) in
    let here = left_at rows at (slice_index (documents rows) at, own.0) own.1 in
    let counted : length (kept_in part ((slice_index (documents rows) at, own.0) ∷ drop (at + 1) rows)) ≡ length (kept_in part (drop (at + 1) rows)) + 1 =
    rw (← of_row, live) (omega arith) in
    ap (λ rs. length (kept_in part rs)) here ∙ counted

pub count_dead : {X : Type 0} (part : PartState) (rows : List (ℕ × List X)) (at doc : ℕ) (number : Option ℕ) (some : Bool) → at < length rows → doc ≡ slice_index (documents rows) at → number ≡ new_number part doc → some ≡ is_some number → some ≡ false
    → length (kept_in part (drop at rows)) ≡ length (kept_in part (drop (at + 1) rows))
count_dead part rows at doc number some below of_row of_doc test is =
    let own = row_at rows at below in
    let dead = is_live part doc false (ap is_some (sym of_doc) ∙ sym test ∙ is) in
    let here = left_at rows at (slice_index (documents rows) at, own.0) own.1 in
    let counted : length (kept_in part ((slice_index (documents rows) at, own.0) ∷ drop (at + 1) rows)) ≡ length (kept_in part (drop (at + 1) rows)) =
    rw (← of_row, dead) refl in
    ap (λ rs. length (kept_in part rs)) here ∙ counted

-- written
pub rows_live : {X : Type 0} (text : ℕ × List X → List ℕ) (renew : X → X) (part : PartState) (rows : List (ℕ × List X)) (at doc number : ℕ) (found : Option ℕ) (values : List X) (now new all : List ℕ)
    → slice_get rows at ≡ Some (slice_index (documents rows) at, values) → doc ≡ slice_index (documents rows) at → found ≡ new_number part doc → found ≡ Some number → new ≡ now ++ text (number, map renew values)
    → now ++ flat_map text (written_rows renew part (drop at rows)) ≡ all → new ++ flat_map text (written_rows renew part (drop (at + 1) rows)) ≡ all
rows_live {X} text renew part rows at doc number found values now new all row of_row of_doc is put was =
    let next = kept_live part rows at (slice_index (documents rows) at) number values row (ap (new_number part) (sym of_row) ∙ sym of_doc ∙ is) in
    let rest : List ℕ = flat_map text (written_rows renew part (drop (at + 1) rows)) in
    ap (λ (xs : List ℕ). xs ++ rest) put
    ∙ append_assoc now (text (number, map renew values)) rest
    ∙ ap (λ (kept : List (ℕ × List X)). now ++ flat_map text (map (λ (own : ℕ × List X). (own.0, map renew own.1)) kept)) (sym next)
    ∙ was

pub rows_dead : {X : Type 0} (text : ℕ × List X → List ℕ) (renew : X → X) (part : PartState) (rows : List (ℕ × List X)) (at doc : ℕ) (found : Option ℕ) (now all : List ℕ)
    → at < length rows → doc ≡ slice_index (documents rows) at → found ≡ new_number part doc → found ≡ None
    → now ++ flat_map text (written_rows renew part (drop at rows)) ≡ all → now ++ flat_map text (written_rows renew part (drop (at + 1) rows)) ≡ all
rows_dead {X} text renew part rows at doc found now all below of_row of_doc is was =
    let own = row_at rows at below in
    let next = kept_dead part rows at (slice_index (documents rows) at) own.0 own.1 (ap (new_number part) (sym of_row) ∙ sym of_doc ∙ is) in
    ap (λ (kept : List (ℕ × List X)). now ++ flat_map text (map (λ (other : ℕ × List X). (other.0, map renew other.1)) kept)) (sym next) ∙ was

-- ---- columns

pub columns_more : {X : Type 0} (renew : X → X) (part : PartState) (columns : List (ℕ × List (ℕ × List X))) (at field : ℕ) (rows : List (ℕ × List X)) (now new all : List (ℕ × List (ℕ × List X)))
    → slice_get columns at ≡ Some (field, rows) → new ≡ now ++ filter has_some ((field, written_rows renew part rows) ∷ [])
    → now ++ filter has_some (columns_in renew part (drop at columns)) ≡ all → new ++ filter has_some (columns_in renew part (drop (at + 1) columns)) ≡ all
columns_more {X} renew part columns at field rows now new all column put was =
    let own : List (ℕ × List (ℕ × List X)) = (field, written_rows renew part rows) ∷ [] in
    let rest : List (ℕ × List (ℕ × List X)) = columns_in renew part (drop (at + 1) columns) in
    ap (λ (xs : List (ℕ × List (ℕ × List X))). xs ++ filter has_some rest) put
    ∙ append_assoc now (filter has_some own) (filter has_some rest)
    ∙ ap (λ (xs : List (ℕ × List (ℕ × List X))). now ++ xs) (sym (filter-append has_some own rest))
    ∙ ap (λ (cs : List (ℕ × List (ℕ × List X))). now ++ filter has_some (columns_in renew part cs)) (sym (left_at columns at (field, rows) column))
    ∙ was

-- ---- parts

pub of_first : (lists : List (List ℕ)) (at : ℕ) (list : List ℕ) → list ≡ slice_index_or lists at [] → list ≡ first_list (drop at lists)
of_first lists at list is = is ∙ first_of lists at
  where
    first_of : (lists : List (List ℕ)) (at : ℕ) → slice_index_or lists at [] ≡ first_list (drop at lists)
    first_of [] zero = refl
    first_of [] (suc at) = refl
    first_of (own ∷ lists) zero = refl
    first_of (own ∷ lists) (suc at) = first_of lists at

pub parts_more : {X : Type 0} (columns : Columns → List (ℕ × List (ℕ × List X))) (renew : List ℕ → X → X) (parts : List PartState) (lists : List (List ℕ)) (at : ℕ) (part : PartState) (list : List ℕ) (now new all : List (ℕ × List (ℕ × List X)))
    → at < length parts → part ≡ get_or parts at part → list ≡ first_list (drop at lists) → new ≡ now ++ filter has_some (columns_in (renew list) part (columns part.entry.columns))
    → now ++ filter has_some (columns_of_parts columns renew (drop at parts) (drop at lists)) ≡ all → new ++ filter has_some (columns_of_parts columns renew (drop (at + 1) parts) (drop (at + 1) lists)) ≡ all
parts_more {X} columns renew parts lists at part list now new all below is own put was =
    let first : List (ℕ × List (ℕ × List X)) = columns_in (renew list) part (columns part.entry.columns) in
    let rest : List (ℕ × List (ℕ × List X)) = columns_of_parts columns renew (drop (at + 1) parts) (drop (at + 1) lists) in
    let here : drop at parts ≡ part ∷ drop (at + 1) parts = drop_more parts at part below ∙ ap (λ p. p ∷ drop (at + 1) parts) (sym is) in
    let on : 1 + at ≡ at + 1 = omega arith in
    let lists_on : drop 1 (drop at lists) ≡ drop (at + 1) lists = drop-drop 1 at lists ∙ ap (λ n. drop n lists) (omega arith) in
    ap (λ (xs : List (ℕ × List (ℕ × List X))). xs ++ filter has_some rest) put
    ∙ append_assoc now (filter has_some first) (filter has_some rest)
    ∙ ap (λ (xs : List (ℕ × List (ℕ × List X))). now ++ xs) (sym (filter-append has_some first rest))
    ∙ ap (λ (ls : List (List ℕ)). now ++ filter has_some (first ++ columns_of_parts columns renew (drop (at + 1) parts) ls)) (sym lists_on)
    ∙ ap (λ (l : List ℕ). now ++ filter has_some (columns_in (renew l) part (columns part.entry.columns) ++ columns_of_parts columns renew (drop (at + 1) parts) (drop 1 (drop at lists)))) own
    ∙ ap (λ (ps : List PartState). now ++ filter has_some (columns_of_parts columns renew ps (drop at lists))) (sym here)
    ∙ was

-- ---- groups that are written one behind the other

pub items_more : {X : Type 0} (text : X → List ℕ) (items : List X) (at : ℕ) (item : X) (now new all : List ℕ) → at < length items → item ≡ get_or items at item → new ≡ now ++ text item
    → now ++ flat_map text (drop at items) ≡ all → new ++ flat_map text (drop (at + 1) items) ≡ all
items_more {X} text items at item now new all below is put was =
    let rest : List ℕ = flat_map text (drop (at + 1) items) in
    let here : drop at items ≡ item ∷ drop (at + 1) items = drop_more items at item below ∙ ap (λ x. x ∷ drop (at + 1) items) (sym is) in
    ap (λ (xs : List ℕ). xs ++ rest) put
    ∙ append_assoc now (text item) rest
    ∙ ap (λ (xs : List X). now ++ flat_map text xs) (sym here)
    ∙ was

pub groups_more : {X A : Type 0} (text : ℕ × List X → List ℕ) (groups : List (ℕ × Vec X A)) (at : ℕ) (group : ℕ × Vec X A) (own : List X) (now new all : List ℕ)
    → at < length groups → group ≡ get_or groups at group → own ≡ group.1.items → new ≡ now ++ text (group.0, own)
    → now ++ flat_map text (groups_seen (drop at groups)) ≡ all → new ++ flat_map text (groups_seen (drop (at + 1) groups)) ≡ all
groups_more {X} {A} text groups at group own now new all below is parts put was =
    let rest : List ℕ = flat_map text (groups_seen (drop (at + 1) groups)) in
    let here : drop at groups ≡ group ∷ drop (at + 1) groups = drop_more groups at group below ∙ ap (λ g. g ∷ drop (at + 1) groups) (sym is) in
    ap (λ (xs : List ℕ). xs ++ rest) put
    ∙ append_assoc now (text (group.0, own)) rest
    ∙ ap (λ (ps : List X). now ++ (text (group.0, ps) ++ rest)) parts
    ∙ ap (λ (gs : List (ℕ × Vec X A)). now ++ flat_map text (groups_seen gs)) (sym here)
    ∙ was

-- groups behind their number
pub groups_counted : {X A : Type 0} (text : ℕ × List X → List ℕ) (groups all : List (ℕ × Vec X A)) (count : ℕ) (old mid new : List ℕ)
    → count ≡ length groups → mid ≡ old ++ u32_text count → all ≡ groups → new ≡ mid ++ flat_map text (groups_seen all)
    → new ≡ old ++ counted_text u32_text text (groups_seen groups)
groups_counted {X} {A} text groups all count old mid new counted first same put =
    let long : length (groups_seen groups) ≡ count = length-map groups (λ (group : ℕ × Vec X A). (group.0, group.1.items)) ∙ sym counted in
    put
    ∙ ap (λ (gs : List (ℕ × Vec X A)). mid ++ flat_map text (groups_seen gs)) same
    ∙ ap (λ (xs : List ℕ). xs ++ flat_map text (groups_seen groups)) first
    ∙ append_assoc old (u32_text count) (flat_map text (groups_seen groups))
    ∙ ap (λ n. old ++ (u32_text n ++ flat_map text (groups_seen groups))) (sym long)

-- ---- groups whose parts are lists

total_is : {X : Type 0} (lists : List (List X)) → total (λ list. length list) lists ≡ length (joined lists)
total_is [] = refl
total_is (list ∷ lists) = omega (arith, total_is lists, length-append list (joined lists))

texts_are : {X : Type 0} (text : X → List ℕ) (lists : List (List X)) → flat_map (λ list. flat_map text list) lists ≡ flat_map text (joined lists)
texts_are text [] = refl
texts_are text (list ∷ lists) = ap (λ (rest : List ℕ). flat_map text list ++ rest) (texts_are text lists) ∙ sym (flat_map-append text list (joined lists))

whole_texts : {X : Type 0} (text : X → List ℕ) (groups : List (ℕ × List (List X))) → flat_map (group_text (λ list. length list) (λ list. flat_map text list)) groups ≡ flat_map (keyed_text text) (map whole groups)
whole_texts text [] = refl
whole_texts {X} text (group ∷ groups) =
    let rest : List ℕ = flat_map (group_text (λ (list : List X). length list) (λ (list : List X). flat_map text list)) groups in
    ap (λ n. (u32_text group.0 ++ (u32_text n ++ flat_map (λ (list : List X). flat_map text list) group.1)) ++ rest) (total_is group.1)
    ∙ ap (λ (own : List ℕ). (u32_text group.0 ++ (u32_text (length (joined group.1)) ++ own)) ++ rest) (texts_are text group.1)
    ∙ ap (λ (more : List ℕ). keyed_text text (group.0, joined group.1) ++ more) (whole_texts text groups)

pub written_whole : {X : Type 0} (text : X → List ℕ) (groups : List (ℕ × List (List X))) (old new : List ℕ) → new ≡ old ++ counted_text u32_text (group_text (λ list. length list) (λ list. flat_map text list)) groups
    → new ≡ old ++ counted_text u32_text (keyed_text text) (map whole groups)
written_whole {X} text groups old new put =
    let rest : List ℕ = flat_map (group_text (λ (list : List X). length list) (λ (list : List X). flat_map text list)) groups in
    put
    ∙ ap (λ n. old ++ (u32_text n ++ rest)) (sym (length-map groups (whole {K = ℕ} {X = X})))
    ∙ ap (λ (all : List ℕ). old ++ (u32_text (length (map whole groups)) ++ all)) (whole_texts text groups)
