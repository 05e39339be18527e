-- The new numbers of documents with a value of a text field: one step of a walk, and that they ascend.
use Rattle.std.proofs.Common.{◌≡◌, ℕ, zero, suc, ◌+◌, ◌-◌, ◌<◌, ◌≤◌, Bool, true, false, List, [], ◌∷◌, ◌++◌, length, map, set, get_or, drop, take, replicate, Some, None, refl, sym, ap, subst, ◌∙◌, append_assoc, append-nil, arith, length-set, get_or-set_other}
use Rattle.std.specs.Prelude.{slice_index_or, count_by}
use Rattle.std.specs.Cmp.{nat_cmp_is}
use Rattle.std.specs.List.{All, AllByRecursion, filter, flat_map}
use Rattle.std.specs.List.Sorted.{IsStrictlyIncreasing}
use Rattle.std.specs.Ordering.{eq_by_cmp, nat_cmp}
use Rattle.std.specs.declared.cmp.Ordering.TheVariants.{Less}
use Rattle.std.proofs.lemmas.Cmp.{nat_cmp_total}
use Rattle.std.proofs.lemmas.List.{drop_more, drop-drop, length-map, length-replicate}
use Rattle.std.proofs.lemmas.List.Elements.{All-head, All-tail, filter-append}
use Rattle.std.proofs.lemmas.List.Sums.{sum_by-cons}
use Rattle.block_bits.specs.Flags.{is_marked}
use Rattle.block_bits.specs.Places.{next_place}
use Rattle.part_text.specs.Text.{counted_text, u32_text}
use Rattle.segment.specs.Flat.{has_some}
use Rattle.segment.specs.Live.{EntryState, IsLiveOver}
use Rattle.segment_builder.specs.Columns.{marks_of, with_marks}
use Rattle.segment_builder.specs.Groups.{in_groups, keys}
use Rattle.segment_builder.specs.Made.{marked_groups}
use Rattle.segment_parts.specs.Agree.{AreColumns}
use Rattle.segment_parts.specs.Fields.{fields}
use Rattle.segment_parts.specs.Marks.{count-mark, marked_places-next, marked_places-none, marked_places-set}
use Rattle.segment_parts.specs.Text.{marked_places, presence_text, present_text}
use Rattle.segment_merge.specs.ByField.{keyed_text}
use Rattle.segment_merge.specs.Merged.{kept_places, live_count, live_count_of, renumbered, IsGathered}
use Rattle.segment_merge.specs.Numbering.{PartState, parts_from}
use Rattle.segment_merge.specs.Pieces.{from_parts, part_texts}
use Rattle.segment_merge.proofs.Gathering.{groups_append, none_behind, own_gathered, split}

abbrev pub places_in : PartState → List ℕ → List ℕ
places_in part docs = kept_places part.base part.entry.live.docs docs

abbrev pub texts_in : PartState → List (ℕ × List Bool) → List (ℕ × List ℕ)
texts_in part columns = map (λ (column : ℕ × List Bool). (column.0, places_in part (marked_places 0 column.1))) columns

-- ---- one step

pub places_append : (base : ℕ) (live : List Bool) (docs others : List ℕ) → kept_places base live (docs ++ others) ≡ kept_places base live docs ++ kept_places base live others
places_append base live [] others = refl
places_append base live (doc ∷ docs) others =
    split (slice_index_or live doc false)
    (λ is. rw (is, places_append base live docs others) refl)
    (λ isnt. rw (isnt, places_append base live docs others) refl)

-- the first place of what is left of a set
pub place_left : (flags : List Bool) (from place : ℕ) → next_place is_marked from flags ≡ Some place → marked_places from (drop from flags) ≡ place ∷ marked_places (place + 1) (drop (place + 1) flags)
place_left flags from place found =
    let more = marked_places-next from (drop from flags) place found in
    let on : from + (place + 1 - from) ≡ place + 1 = omega (arith, more.0) in
    more.1 ∙ ap (λ (rest : List Bool). place ∷ marked_places (place + 1) rest) (drop-drop (place + 1 - from) from flags ∙ ap (λ n. drop n flags) on)

pub places_more : (part : PartState) (flags : List Bool) (from place : ℕ) (now new all : List ℕ) → next_place is_marked from flags ≡ Some place → new ≡ now ++ places_in part (place ∷ [])
    → now ++ places_in part (marked_places from (drop from flags)) ≡ all → new ++ places_in part (marked_places (place + 1) (drop (place + 1) flags)) ≡ all
places_more part flags from place now new all found put was =
    let rest : List ℕ = marked_places (place + 1) (drop (place + 1) flags) in
    ap (λ (xs : List ℕ). xs ++ places_in part rest) put
    ∙ append_assoc now (places_in part (place ∷ [])) (places_in part rest)
    ∙ ap (λ (xs : List ℕ). now ++ xs) (sym (places_append part.base part.entry.live.docs (place ∷ []) rest))
    ∙ ap (λ (docs : List ℕ). now ++ places_in part docs) (sym (place_left flags from place found))
    ∙ was

pub places_end : (part : PartState) (flags : List Bool) (from : ℕ) (now all : List ℕ) → next_place is_marked from flags ≡ None → now ++ places_in part (marked_places from (drop from flags)) ≡ all → now ≡ all
places_end part flags from now all none was =
    sym (append-nil now) ∙ ap (λ (docs : List ℕ). now ++ places_in part docs) (sym (marked_places-none from (drop from flags) none)) ∙ was

pub all_texts_more : (parts : List PartState) (at : ℕ) (part : PartState) (now new all : List (ℕ × List ℕ)) → at < length parts → part ≡ get_or parts at part → new ≡ now ++ filter has_some (part_texts part)
    → now ++ filter has_some (from_parts part_texts (drop at parts)) ≡ all → new ++ filter has_some (from_parts part_texts (drop (at + 1) parts)) ≡ all
all_texts_more parts at part now new all below is put was =
    let rest : List (ℕ × List ℕ) = from_parts part_texts (drop (at + 1) parts) in
    let here : drop at parts ≡ part ∷ drop (at + 1) parts = drop_more parts at part below ∙ ap (λ p. p ∷ drop (at + 1) parts) (sym is) in
    ap (λ (xs : List (ℕ × List ℕ)). xs ++ filter has_some rest) put
    ∙ append_assoc now (filter has_some (part_texts part)) (filter has_some rest)
    ∙ ap (λ (xs : List (ℕ × List ℕ)). now ++ xs) (sym (filter-append has_some (part_texts part) rest))
    ∙ ap (λ (ps : List PartState). now ++ filter has_some (from_parts part_texts ps)) (sym here)
    ∙ was

-- ---- numbers that ascend

-- each is at `low` or later, before `high`, and later than those before it
abbrev pub Ascend : ℕ → ℕ → List ℕ → Type 0
Ascend low high [] = Unit {0}
Ascend low high (place ∷ places) = (low ≤ place) × ((place < high) × Ascend (place + 1) high places)

ascend_wider : (low wide high : ℕ) (places : List ℕ) → wide ≤ low → Ascend low high places → Ascend wide high places
ascend_wider low wide high [] less up = tt
ascend_wider low wide high (place ∷ places) less up = (omega (arith, up.0), (up.1.0, up.1.1))

ascend_append : (low mid high : ℕ) (places others : List ℕ) → low ≤ mid → mid ≤ high → Ascend low mid places → Ascend mid high others → Ascend low high (places ++ others)
ascend_append low mid high [] others first last up more = ascend_wider mid low high others first more
ascend_append low mid high (place ∷ places) others first last up more =
    (up.0, (omega (arith, up.1.0), ascend_append (place + 1) mid high places others (omega (arith, up.1.0)) last up.1.1 more))

marked_ascend : (start end : ℕ) (flags : List Bool) → end ≡ start + length flags → Ascend start end (marked_places start flags)
marked_ascend start end [] is = tt
marked_ascend start end (true ∷ flags) is = (omega arith, (omega (arith, is), marked_ascend (start + 1) end flags (omega (arith, is))))
marked_ascend start end (false ∷ flags) is = ascend_wider (start + 1) start end (marked_places (start + 1) flags) (omega arith) (marked_ascend (start + 1) end flags (omega (arith, is)))

count_up : (low high : ℕ) (live : List Bool) → low ≤ high → count_by is_marked (take low live) ≤ count_by is_marked (take high live)
count_up zero high live less = omega arith
count_up (suc low) zero live less = absurd (omega (arith, less))
count_up (suc low) (suc high) [] less = omega arith
count_up (suc low) (suc high) (flag ∷ live) less = omega (arith, count_up low high live (omega (arith, less)), count-mark flag (take low live), count-mark flag (take high live))

count_next : (doc : ℕ) (live : List Bool) → slice_index_or live doc false ≡ true → count_by is_marked (take (doc + 1) live) ≡ count_by is_marked (take doc live) + 1
count_next zero [] is = absurd (cc (is))
count_next (suc doc) [] is = absurd (cc (is))
count_next zero (flag ∷ live) is =
    let here : flag ≡ true = is in
    rw here (omega (arith, count-mark true []))
count_next (suc doc) (flag ∷ live) is =
    let e : suc doc + 1 ≡ suc (doc + 1) = omega arith in
    rw e (omega (arith, count_next doc live is, count-mark flag (take (doc + 1) live), count-mark flag (take doc live)))

kept_ascend : (base : ℕ) (live : List Bool) (low high : ℕ) (docs : List ℕ) → Ascend low high docs → Ascend (renumbered base live low) (renumbered base live high) (kept_places base live docs)
kept_ascend base live low high [] up = tt
kept_ascend base live low high (doc ∷ docs) up =
    let rest = kept_ascend base live (doc + 1) high docs up.1.1 in
    let first : renumbered base live low ≤ renumbered base live doc = omega (arith, count_up low doc live up.0) in
    let last : renumbered base live (doc + 1) ≤ renumbered base live high = omega (arith, count_up (doc + 1) high live (omega (arith, up.1.0))) in
    split (slice_index_or live doc false)
    (λ is.
    let next : renumbered base live (doc + 1) ≡ renumbered base live doc + 1 = omega (arith, count_next doc live is) in
    rw is (first, (omega (arith, next, last), subst (λ n. Ascend n (renumbered base live high) (kept_places base live docs)) next rest)))
    (λ isnt.
    rw isnt (ascend_wider (renumbered base live (doc + 1)) (renumbered base live low) (renumbered base live high) (kept_places base live docs) (omega (arith, first, count_up doc (doc + 1) live (omega arith))) rest))

-- ---- at a field

less_is : (x y : ℕ) → x < y → nat_cmp x y ≡ Less
less_is x y less = sym (nat_cmp_is x y Less less)

behind_first : (first : ℕ) (columns : List (ℕ × List Bool)) (part : PartState) → ((k : ℕ) → k < length columns → first < get_or (fields columns) k 0) → AllByRecursion (λ k. nat_cmp first k ≡ Less) (keys (texts_in part columns))
behind_first first [] part behind = tt
behind_first first (column ∷ columns) part behind = (less_is first column.0 (behind 0 (omega arith)), behind_first first columns part (λ k below. behind (suc k) (omega (arith, below))))

up_rest : (first : ℕ) (others : List ℕ) → IsStrictlyIncreasing (first ∷ others) → IsStrictlyIncreasing others
up_rest first others up = λ at h.
    let e : suc at + 1 ≡ suc (at + 1) = omega arith in
    rw e at (up (suc at) (omega (arith, h)))

all_behind : (first : ℕ) (others : List ℕ) → IsStrictlyIncreasing (first ∷ others) → (k : ℕ) → k < length others → first < get_or others k 0
all_behind first [] up k below = absurd (omega (arith, below))
all_behind first (other ∷ others) up zero below = up 0 (omega arith)
all_behind first (other ∷ others) up (suc k) below =
    let here : first < other = up 0 (omega arith) in
    omega (arith, here, all_behind other others (up_rest first (other ∷ others) up) k (omega (arith, below)))

ascend_at : (key : ℕ) (part : PartState) (columns : List (ℕ × List Bool)) → IsStrictlyIncreasing (fields columns) → All (λ (column : ℕ × List Bool). length column.1 ≡ length part.entry.live.docs) columns
    → Ascend part.base (part.base + live_count part.entry) (in_groups nat_cmp key (texts_in part columns))
ascend_at key part [] up long = tt
ascend_at key part (column ∷ columns) up long =
    let live = part.entry.live.docs in
    let places = places_in part (marked_places 0 column.1) in
    let own : length column.1 ≡ length live = All-head (λ (other : ℕ × List Bool). length other.1 ≡ length live) column columns long in
    split (eq_by_cmp nat_cmp key column.0)
    (λ is.
    let none : in_groups nat_cmp key (texts_in part columns) ≡ [] =
    none_behind nat_cmp nat_cmp_total key column.0 (texts_in part columns) is (behind_first column.0 columns part (λ k below. all_behind column.0 (fields columns) up k (omega (arith, below, length-map columns (λ (other : ℕ × List Bool). other.0))))) in
    let up_to : Ascend (renumbered part.base live 0) (renumbered part.base live (length live)) places =
    kept_ascend part.base live 0 (length live) (marked_places 0 column.1) (marked_ascend 0 (length live) column.1 (omega (arith, own))) in
    let low : renumbered part.base live 0 ≡ part.base = omega arith in
    let high : renumbered part.base live (length live) ≡ part.base + live_count part.entry = ap (λ (flags : List Bool). part.base + count_by is_marked flags) (take_whole live) in
    rw (is, none, append-nil places) (subst (λ n. Ascend n (part.base + live_count part.entry) places) low (subst (λ n. Ascend (renumbered part.base live 0) n places) high up_to)))
    (λ isnt. rw isnt (ascend_at key part columns (up_rest column.0 (fields columns) up) (All-tail (λ (other : ℕ × List Bool). length other.1 ≡ length live) column columns long)))
  where
    take_whole : (flags : List Bool) → take (length flags) flags ≡ flags
    take_whole [] = refl
    take_whole (flag ∷ flags) = ap (λ rest. flag ∷ rest) (take_whole flags)

abbrev pub Agrees : PartState → Type 0
Agrees part = AreColumns part.entry.columns

abbrev pub IsLive : PartState → Type 0
IsLive part = IsLiveOver part.entry.columns part.entry.live

ascend_in : (key : ℕ) (part : PartState) → Agrees part → IsLive part → Ascend part.base (part.base + live_count part.entry) (in_groups nat_cmp key (part_texts part))
ascend_in key part agree live =
    let present = part.entry.columns.present in
    let long : All (λ (column : ℕ × List Bool). length column.1 ≡ length part.entry.live.docs) present =
    λ k d below. (agree.parts.present_are.each k d below).long ∙ sym live.documents in
    ascend_at key part present agree.parts.present_are.ascending long

ascend_all : (key base : ℕ) (entries : List EntryState) → All Agrees (parts_from base entries) → All IsLive (parts_from base entries)
    → Ascend base (base + live_count_of entries) (in_groups nat_cmp key (from_parts part_texts (parts_from base entries)))
ascend_all key base [] agree live = tt
ascend_all key base (entry ∷ entries) agree live =
    let part : PartState = record { base = base; entry = entry } in
    let rest = parts_from (base + live_count entry) entries in
    let mid = base + live_count entry in
    let end = base + live_count_of (entry ∷ entries) in
    let sum : end ≡ mid + live_count_of entries = omega (arith, sum_by-cons live_count entry entries) in
    let later : Ascend mid end (in_groups nat_cmp key (from_parts part_texts rest)) =
    subst (λ n. Ascend mid n (in_groups nat_cmp key (from_parts part_texts rest))) (sym sum) (ascend_all key mid entries (All-tail Agrees part rest agree) (All-tail IsLive part rest live)) in
    subst (Ascend base end) (sym (groups_append nat_cmp nat_cmp_total key (part_texts part) (from_parts part_texts rest)))
    (ascend_append base mid end (in_groups nat_cmp key (part_texts part)) (in_groups nat_cmp key (from_parts part_texts rest)) (omega arith) (omega (arith, sum)) (ascend_in key part (All-head Agrees part rest agree) (All-head IsLive part rest live)) later)

-- ---- sets made of numbers that ascend

set_places : (docs : List ℕ) (flags : List Bool) (low : ℕ) → Ascend low (length flags) docs → ((k : ℕ) → low ≤ k → get_or flags k false ≡ false) → marked_places 0 (with_marks flags docs) ≡ marked_places 0 flags ++ docs
set_places [] flags low up none = sym (append-nil (marked_places 0 flags))
set_places (doc ∷ docs) flags low up none =
    let more : List Bool = set flags doc true in
    let long : length more ≡ length flags = length-set flags doc true in
    let behind : (k : ℕ) → doc + 1 ≤ k → get_or more k false ≡ false =
    λ k later. get_or-set_other flags doc k true false (λ same. (let e : k ≡ doc = same in absurd (omega (arith, e, later)))) ∙ none k (omega (arith, later, up.0)) in
    let one : marked_places 0 more ≡ marked_places 0 flags ++ doc ∷ [] = marked_places-set 0 flags doc doc (omega arith) up.1.0 (λ k later. none k (omega (arith, later, up.0))) in
    set_places docs more (doc + 1) (subst (λ n. Ascend (doc + 1) n docs) (sym long) up.1.1) behind
    ∙ ap (λ (xs : List ℕ). xs ++ docs) one
    ∙ append_assoc (marked_places 0 flags) (doc ∷ []) docs

no_flag : (n k : ℕ) → get_or (replicate n false) k false ≡ false
no_flag zero zero = refl
no_flag zero (suc k) = refl
no_flag (suc n) zero = refl
no_flag (suc n) (suc k) = no_flag n k

no_places : (n start : ℕ) → marked_places start (replicate n false) ≡ []
no_places zero start = refl
no_places (suc n) start = no_places n (start + 1)

places_back : (n : ℕ) (docs : List ℕ) → Ascend 0 n docs → marked_places 0 (marks_of n docs) ≡ docs
places_back n docs up =
    set_places docs (replicate n false) 0 (subst (λ m. Ascend 0 m docs) (sym (length-replicate n false)) up) (λ k _. no_flag n k)
    ∙ ap (λ (xs : List ℕ). xs ++ docs) (no_places n 0)

-- ---- written

present_texts : (n : ℕ) (texts : List (ℕ × List ℕ)) → AllByRecursion (λ (group : ℕ × List ℕ). marked_places 0 (marks_of n group.1) ≡ group.1) texts → flat_map presence_text (marked_groups n texts) ≡ flat_map (keyed_text u32_text) texts
present_texts n [] all = refl
present_texts n (group ∷ texts) all =
    ap (λ (docs : List ℕ). (u32_text group.0 ++ counted_text u32_text u32_text docs) ++ flat_map presence_text (marked_groups n texts)) all.0
    ∙ ap (λ (rest : List ℕ). keyed_text u32_text group ++ rest) (present_texts n texts all.1)

present_written : (n : ℕ) (texts : List (ℕ × List ℕ)) → AllByRecursion (λ (group : ℕ × List ℕ). marked_places 0 (marks_of n group.1) ≡ group.1) texts → present_text (marked_groups n texts) ≡ counted_text u32_text (keyed_text u32_text) texts
unfolding present_text
present_written n texts all =
    ap (λ (rest : List ℕ). u32_text (length (marked_groups n texts)) ++ rest) (present_texts n texts all)
    ∙ ap (λ k. u32_text k ++ flat_map (keyed_text u32_text) texts) (length-map texts (λ (group : ℕ × List ℕ). (group.0, marks_of n group.1)))

each_back : (n : ℕ) (parts : List (ℕ × List ℕ)) → ((key : ℕ) → Ascend 0 n (in_groups nat_cmp key parts)) → (texts : List (ℕ × List ℕ)) → AllByRecursion (λ (group : ℕ × List ℕ). group.1 ≡ in_groups nat_cmp group.0 parts) texts
    → AllByRecursion (λ (group : ℕ × List ℕ). marked_places 0 (marks_of n group.1) ≡ group.1) texts
each_back n parts up [] own = tt
each_back n parts up (group ∷ texts) own = (places_back n group.1 (subst (Ascend 0 n) (sym own.0) (up group.0)), each_back n parts up texts own.1)

pub texts_written : (entries : List EntryState) (parts : List PartState) (texts : List (ℕ × List ℕ)) → parts ≡ parts_from 0 entries → All Agrees parts → All IsLive parts → IsGathered nat_cmp (from_parts part_texts parts) texts
    → counted_text u32_text (keyed_text u32_text) texts ≡ present_text (marked_groups (live_count_of entries) texts)
texts_written entries parts texts is agree live gathered =
    let none_before : 0 + live_count_of entries ≡ live_count_of entries = omega arith in
    let own = own_gathered nat_cmp nat_cmp_total (from_parts part_texts (parts_from 0 entries)) texts (subst (λ ps. IsGathered nat_cmp (from_parts part_texts ps) texts) is gathered) in
    let up : (key : ℕ) → Ascend 0 (live_count_of entries) (in_groups nat_cmp key (from_parts part_texts (parts_from 0 entries))) =
    λ key. subst (λ n. Ascend 0 n (in_groups nat_cmp key (from_parts part_texts (parts_from 0 entries)))) none_before (ascend_all key 0 entries (subst (All Agrees) is agree) (subst (All IsLive) is live)) in
    sym (present_written (live_count_of entries) texts (each_back (live_count_of entries) (from_parts part_texts (parts_from 0 entries)) up texts own))
