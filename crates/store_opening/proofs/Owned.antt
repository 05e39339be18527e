-- What is tested of blocks across segments: numbers, ids and how many objects there are.
use Rattle.std.proofs.Common.{◌≡◌, ℕ, zero, suc, ◌+◌, ◌<◌, ◌≤◌, ◌↔◌, nat_le, nat_lt, Bool, true, false, cond, ◌&&◌, List, [], ◌∷◌, ◌++◌, length, map, filter, drop, take, get_or, slice_get, All, Option, None, Some, refl, sym, ◌∙◌, ap, subst, arith, append_assoc, append-nil}
use Rattle.std.specs.List.{count_by, flat_map}
use Rattle.std.specs.Option.{is_some}
use Rattle.std.specs.Str.{bytes_eq}
use Rattle.std.proofs.lemmas.Bool.{and_parts, and_from, leb-true, le-leb, lt-leb, lt-ltb, le-ltb}
use Rattle.std.proofs.lemmas.List.{drop_more, drop_all, length-map}
use Rattle.std.proofs.lemmas.List.Elements.{All-head, All-tail}
use Rattle.std.proofs.lemmas.List.Sums.{sum_by-append}
use Rattle.std.proofs.lemmas.Slice.Eq.{bytes_eq-Decides}
use Rattle.block_bits.specs.Flags.{is_marked}
use Rattle.flattener.specs.Block.{BlockState}
use Rattle.flattener.specs.Fits.{live_count, live_in as live_documents, most_live}
use Rattle.index_core.proofs.Entering.{block_of_root}
use Rattle.index_core.specs.Found.{root_numbers}
use Rattle.index_core.specs.Kept.{AreBlocks, HaveOwnIds, has_block_id, laid, most_made, numbers_in, numbers_of, segment_kept, segments_kept}
use Rattle.layout.proofs.Ascending.{ascend_end}
use Rattle.layout.proofs.Goes.{split, counted, counted_both}
use Rattle.layout.specs.Ascending.{Ascend}
use Rattle.layout.specs.Layout.{Marked, is_live, item_in, live_in, live_items}
use Rattle.segment.specs.Live.{EntryState, IsLiveOver}
use Rattle.segment_builder.specs.Blocks.{block_objects, blocks_in, blocks_of, marked_by, objects_of}
use Rattle.segment_view.specs.Views.{is_live_root}
use Rattle.stored_sources.specs.Roots.{no_root, root_of}
use Rattle.stored_sources.specs.declared.root.Root.{Root}
use Rattle.store_opening.specs.Blocks.{ascends, ascends_behind, known_times, live_through, numbers_through, root_times, times_in, under_id, AreNew, IsKnownEntry, IsKnownTwice, KnowsMore}
use Rattle.store_opening.specs.declared.live_ids.LiveIds.{LiveIds}

-- ---- numbers

pub ascends_is : (numbers : List ℕ) (from end : ℕ) → (ascends from numbers end ≡ true) ↔ Ascend from numbers end
ascends_is [] from end = (λ is. leb-true from end is, λ is. le-leb from end is)
ascends_is (n ∷ numbers) from end = (
  λ is.
      let first = and_parts (nat_le from n) (nat_lt n end && ascends (n + 1) numbers end) is in
      let rest = and_parts (nat_lt n end) (ascends (n + 1) numbers end) first.1 in
      (leb-true from n first.0, (ascends_is numbers (n + 1) end).0 rest.1),
  λ is.
      and_from (nat_le from n) (nat_lt n end && ascends (n + 1) numbers end) (le-leb from n is.0)
      (and_from (nat_lt n end) (ascends (n + 1) numbers end) (lt-ltb n end (omega (arith, ascend_end numbers (n + 1) end is.1))) ((ascends_is numbers (n + 1) end).1 is.1)),
)

-- the number at an index comes next
pub number_next : (columns_roots : List Root) (root number : ℕ) → root < length columns_roots → number ≡ (root_of columns_roots root).number
    → drop root (map (λ (it : Root). it.number) columns_roots) ≡ number ∷ drop (root + 1) (map (λ (it : Root). it.number) columns_roots)
number_next [] root number inside is = absurd (omega (arith, inside))
number_next (r ∷ roots) zero number inside is = ap (λ (n : ℕ). n ∷ map (λ (it : Root). it.number) roots) (sym is)
number_next (r ∷ roots) (suc root) number inside is =
    let e : suc root + 1 ≡ suc (root + 1) = omega arith in
    rw e (number_next roots root number (omega (arith, inside)) is)

pub ascends_on : (numbers more : List ℕ) (root number least end : ℕ) → drop root numbers ≡ number ∷ drop (root + 1) numbers → least ≤ number → number < end
    → ascends (number + 1) (drop (root + 1) numbers ++ more) end ≡ ascends least (drop root numbers ++ more) end
ascends_on numbers more root number least end next low high =
    sym (ap (λ (xs : List ℕ). ascends least (xs ++ more) end) next ∙ rw (le-leb least number low, lt-ltb number end high) refl)

pub ascends_low : (numbers more : List ℕ) (root number least end : ℕ) → drop root numbers ≡ number ∷ drop (root + 1) numbers → number < least
    → false ≡ ascends least (drop root numbers ++ more) end
ascends_low numbers more root number least end next low =
    sym (ap (λ (xs : List ℕ). ascends least (xs ++ more) end) next ∙ rw (lt-leb least number low) refl)

pub ascends_high : (numbers more : List ℕ) (root number least end : ℕ) → drop root numbers ≡ number ∷ drop (root + 1) numbers → least ≤ number → end ≤ number
    → false ≡ ascends least (drop root numbers ++ more) end
ascends_high numbers more root number least end next low high =
    sym (ap (λ (xs : List ℕ). ascends least (xs ++ more) end) next ∙ rw (le-leb least number low, le-ltb number end high) refl)

-- none is left
pub all_ascended : (roots : List Root) (more : List ℕ) (root least end : ℕ) → length roots ≤ root
    → ascends least more end ≡ ascends least (drop root (map (λ (it : Root). it.number) roots) ++ more) end
all_ascended roots more root least end past =
    sym (ap (λ (xs : List ℕ). ascends least (xs ++ more) end)
    (drop_all root (map (λ (it : Root). it.number) roots) (omega (arith, past, length-map roots (λ (it : Root). it.number)))))

-- an entry that is next
pub entry_next : (entries : List EntryState) (at : ℕ) (d entry : EntryState) → at < length entries → entry ≡ get_or entries at d → drop at entries ≡ entry ∷ drop (at + 1) entries
entry_next entries at d entry inside is = drop_more entries at d inside ∙ ap (λ (it : EntryState). it ∷ drop (at + 1) entries) (sym is)

pub numbers_next : (entries : List EntryState) (at from end : ℕ) (entry : EntryState) (found : Option ℕ) → drop at entries ≡ entry ∷ drop (at + 1) entries
    → ((more : List ℕ) → ascends_behind found more end ≡ ascends from (root_numbers entry.columns ++ more) end)
    → ascends_behind found (numbers_through (drop (at + 1) entries)) end ≡ ascends from (numbers_through (drop at entries)) end
numbers_next entries at from end entry found next behind =
    behind (numbers_through (drop (at + 1) entries)) ∙ ap (λ (es : List EntryState). ascends from (numbers_through es) end) (sym next)

pub found_behind : (found : Option ℕ) (from : ℕ) (more : List ℕ) (end : ℕ) → found ≡ Some from → ascends from more end ≡ ascends_behind found more end
found_behind found from more end is = sym (ap (λ (o : Option ℕ). ascends_behind o more end) is)

pub none_behind : (found : Option ℕ) (more : List ℕ) (end : ℕ) → found ≡ None → false ≡ ascends_behind found more end
none_behind found more end is = sym (ap (λ (o : Option ℕ). ascends_behind o more end) is)

-- ---- objects

pub count_next : (entries : List EntryState) (at objects : ℕ) (entry : EntryState) → drop at entries ≡ entry ∷ drop (at + 1) entries
    → objects + live_count (drop at entries) ≡ live_count entries → (objects + live_documents entry) + live_count (drop (at + 1) entries) ≡ live_count entries
count_next entries at objects entry next so_far = let both : live_count (drop at entries) ≡ live_documents entry + live_count (drop (at + 1) entries) = ap live_count next in omega (arith, so_far, both)

-- ---- ids, root by root

abbrev pub live : List (Marked BlockState) → List BlockState
live marked = map item_in (filter is_live marked)

some_is : {A : Type 0} (x y : A) → Some x ≡ Some y → x ≡ y
some_is x y e = cc (e)

live_more : (ms : List (Marked BlockState)) (place : ℕ) (m : Marked BlockState) → slice_get ms place ≡ Some m
    → live (drop place ms) ≡ cond m.live (m.item ∷ live (drop (place + 1) ms)) (live (drop (place + 1) ms))
live_more [] place m at = absurd (cc (at))
live_more (first ∷ ms) zero m at =
    let same : first ≡ m = some_is first m at in
    elim first.live as (λ l. map item_in (cond l (first ∷ filter is_live ms) (filter is_live ms)) ≡ cond l (first.item ∷ live ms) (live ms)) [
      | true ↦ refl
      | false ↦ refl
    ]
    ∙ ap (λ (x : Marked BlockState). cond x.live (x.item ∷ live ms) (live ms)) same
live_more (first ∷ ms) (suc place) m at =
    let e : suc place + 1 ≡ suc (place + 1) = omega arith in
    rw e (live_more ms place m at)

times_cond : (l : Bool) (block : BlockState) (blocks : List BlockState) (id : List ℕ)
    → times_in (cond l (block ∷ blocks) blocks) id ≡ cond l (cond (bytes_eq block.root.id id) 1 0) 0 + times_in blocks id
times_cond true block blocks id = counted (has_block_id id) block blocks
times_cond false block blocks id = omega arith

-- a root of an entry has its id as often as its block has
pub times_next : (entry : EntryState) (place : ℕ) (id : List ℕ) → IsKnownEntry entry → place < length entry.columns.roots
    → times_in (live (drop place (blocks_in entry))) id ≡ root_times entry place id + times_in (live (drop (place + 1) (blocks_in entry))) id
times_next entry place id known inside =
    let here = block_of_root entry place known.roots known.over inside in
    let next : live (drop place (blocks_in entry)) ≡ cond here.block.live (here.block.item ∷ live (drop (place + 1) (blocks_in entry))) (live (drop (place + 1) (blocks_in entry)))
    = live_more (blocks_in entry) place here.block here.at in
    ap (λ (bs : List BlockState). times_in bs id) next
    ∙ times_cond here.block.live here.block.item (live (drop (place + 1) (blocks_in entry))) id
    ∙ ap (λ (l : Bool). cond l (cond (bytes_eq here.block.item.root.id id) 1 0) 0 + times_in (live (drop (place + 1) (blocks_in entry))) id) here.live_is
    ∙ ap (λ (own : List ℕ). cond (is_live_root place entry) (cond (bytes_eq own id) 1 0) 0 + times_in (live (drop (place + 1) (blocks_in entry))) id)
    (ap (λ r. r.id) here.root_is)

-- so far: what is known and what is left have each id as often as what was known and all have
pub record Counting (old : LiveIds) (all left : List BlockState) (now : LiveIds) : Type 0 where
  pub same : (id : List ℕ) → known_times now id + times_in left id ≡ known_times old id + times_in all id

pub counting_start : (ids : LiveIds) (all : List BlockState) → Counting ids all all ids
counting_start ids all = record { same = λ id. refl }

pub counting_on : (entry : EntryState) (place : ℕ) (old now new : LiveIds) → IsKnownEntry entry → place < length entry.columns.roots
    → Counting old (live (blocks_in entry)) (live (drop place (blocks_in entry))) now
    → ((id : List ℕ) → known_times new id ≡ known_times now id + root_times entry place id)
    → Counting old (live (blocks_in entry)) (live (drop (place + 1) (blocks_in entry))) new
counting_on entry place old now new known inside counting more =
    record { same = λ id. omega (arith, counting.same id, more id, times_next entry place id known inside) }

same_bytes : (id : List ℕ) → bytes_eq id id ≡ true
same_bytes id = (bytes_eq-Decides id id).1 refl

pub counting_twice : (entry : EntryState) (place : ℕ) (old now : LiveIds) → IsKnownEntry entry → place < length entry.columns.roots
    → Counting old (live (blocks_in entry)) (live (drop place (blocks_in entry))) now → IsKnownTwice entry place now → AreNew old (live (blocks_in entry)) → ⊥
counting_twice entry place old now known inside counting twice new =
    let id : List ℕ = (root_of entry.columns.roots place).id in
    let one : root_times entry place id ≡ 1
    = ap (λ (b : Bool). cond b (cond (bytes_eq id id) 1 0) 0) twice.live ∙ ap (λ (b : Bool). cond b 1 0) (same_bytes id) in
    omega (arith, counting.same id, times_next entry place id known inside, one, twice.known, new id)

marked_long : (blocks : List BlockState) (marks : List Bool) → length (marked_by blocks marks) ≤ length marks
marked_long [] marks = omega arith
marked_long (block ∷ blocks) [] = omega arith
marked_long (block ∷ blocks) (mark ∷ marks) = omega (arith, marked_long blocks marks)

pub counting_end : (entry : EntryState) (place : ℕ) (old now : LiveIds) → IsKnownEntry entry → length entry.columns.roots ≤ place
    → Counting old (live (blocks_in entry)) (live (drop place (blocks_in entry))) now → KnowsMore old (live (blocks_in entry)) now
counting_end entry place old now known past counting id =
    let none : live (drop place (blocks_in entry)) ≡ []
    = ap live (drop_all place (blocks_in entry) (omega (arith, marked_long (blocks_of entry.columns) entry.live.roots, known.over.roots, past))) in
    omega (arith, counting.same id, ap (λ (bs : List BlockState). times_in bs id) none)

-- ---- ids, entry by entry

pub through_next : (entries : List EntryState) (at : ℕ) (entry : EntryState) (id : List ℕ) → drop at entries ≡ entry ∷ drop (at + 1) entries
    → times_in (live_through (drop at entries)) id ≡ times_in (live_in (segment_kept entry)) id + times_in (live_through (drop (at + 1) entries)) id
through_next entries at entry id next =
    ap (λ (es : List EntryState). times_in (live_through es) id) next
    ∙ counted_both (has_block_id id) (live_in (segment_kept entry)) (live_through (drop (at + 1) entries))

pub record Through (entries : List EntryState) (at : ℕ) (now : LiveIds) : Type 0 where
  pub same : (id : List ℕ) → known_times now id + times_in (live_through (drop at entries)) id ≡ times_in (live_through entries) id

pub through_start : (entries : List EntryState) (ids : LiveIds) → ((id : List ℕ) → under_id ids id ≡ None) → Through entries 0 ids
through_start entries ids none = record {
  same = λ id.
      let zero_is : known_times ids id ≡ 0 = ap (λ (o : Option ℕ). cond (is_some o) 1 0) (none id) in
      omega (arith, zero_is);
}

pub through_on : (entries : List EntryState) (at : ℕ) (entry : EntryState) (now new : LiveIds) → drop at entries ≡ entry ∷ drop (at + 1) entries
    → Through entries at now → KnowsMore now (live_in (segment_kept entry)) new → Through entries (at + 1) new
through_on entries at entry now new next through more =
    record { same = λ id. omega (arith, through.same id, more id, through_next entries at entry id next) }

pub through_twice : (entries : List EntryState) (at : ℕ) (entry : EntryState) (now : LiveIds) → drop at entries ≡ entry ∷ drop (at + 1) entries
    → Through entries at now → (AreNew now (live_in (segment_kept entry)) → ⊥) → HaveOwnIds (live_through entries) → ⊥
through_twice entries at entry now next through twice own =
    twice (λ id. omega (arith, through.same id, own id, through_next entries at entry id next))

known_once : (ids : LiveIds) (id : List ℕ) → known_times ids id ≤ 1
known_once ids id = by (is_some (under_id ids id))
  where
    by : (b : Bool) → cond b 1 0 ≤ 1
    by true = omega arith
    by false = omega arith

pub through_end : (entries : List EntryState) (at : ℕ) (now : LiveIds) → length entries ≤ at → Through entries at now → HaveOwnIds (live_through entries)
through_end entries at now past through id =
    let none : live_through (drop at entries) ≡ [] = ap live_through (drop_all at entries past) in
    omega (arith, through.same id, ap (λ (bs : List BlockState). times_in bs id) none, known_once now id)

-- ---- all of it

numbers_same : (entries : List EntryState) → All IsKnownEntry entries → flat_map numbers_in (segments_kept entries) ≡ numbers_through entries
numbers_same [] known = refl
numbers_same (entry ∷ entries) known =
    ap (λ (ns : List ℕ). ns ++ flat_map numbers_in (segments_kept entries)) (All-head IsKnownEntry entry entries known).whole.numbers
    ∙ ap (λ (ns : List ℕ). root_numbers entry.columns ++ ns) (numbers_same entries (All-tail IsKnownEntry entry entries known))

objects_same : (entries : List EntryState) → All IsKnownEntry entries → objects_of (live_through entries) ≡ live_count entries
objects_same [] known = refl
objects_same (entry ∷ entries) known =
    let first = All-head IsKnownEntry entry entries known in
    let own : live_documents entry ≡ objects_of (live_in (segment_kept entry)) = first.whole.counted entry.live first.over in
    omega (arith, sum_by-append block_objects (live_in (segment_kept entry)) (live_through entries), own, objects_same entries (All-tail IsKnownEntry entry entries known))

none_behind_all : (entries : List EntryState) (made : ℕ) → live_items (laid entries [] made) ≡ live_through entries
none_behind_all entries made = append-nil (live_through entries)

-- what the parts say is what all of it says
pub blocks_are : (entries : List EntryState) (next made : ℕ) → All IsKnownEntry entries → made < most_made → ascends 0 (numbers_through entries) next ≡ true
    → live_count entries ≤ most_live → HaveOwnIds (live_through entries) → AreBlocks (laid entries [] made) next
blocks_are entries next made known few ascend objects own = record {
  ascending = subst (λ (ns : List ℕ). Ascend 0 ns next) (sym (append-nil (flat_map numbers_in (segments_kept entries)) ∙ numbers_same entries known))
      ((ascends_is (numbers_through entries) 0 next).0 ascend);
  ids = subst HaveOwnIds (sym (none_behind_all entries made)) own;
  few = omega (arith, objects, objects_same entries known, ap objects_of (none_behind_all entries made));
  buffer = omega arith;
  made = few;
}

pub of_blocks_numbers : (entries : List EntryState) (next made : ℕ) → All IsKnownEntry entries → AreBlocks (laid entries [] made) next
    → ascends 0 (numbers_through entries) next ≡ true
of_blocks_numbers entries next made known are =
    (ascends_is (numbers_through entries) 0 next).1
    (subst (λ (ns : List ℕ). Ascend 0 ns next) (append-nil (flat_map numbers_in (segments_kept entries)) ∙ numbers_same entries known) are.ascending)

pub of_blocks_objects : (entries : List EntryState) (next made : ℕ) → All IsKnownEntry entries → AreBlocks (laid entries [] made) next → live_count entries ≤ most_live
of_blocks_objects entries next made known are = omega (arith, are.few, objects_same entries known, ap objects_of (none_behind_all entries made))

pub of_blocks_ids : (entries : List EntryState) (next made : ℕ) → AreBlocks (laid entries [] made) next → HaveOwnIds (live_through entries)
of_blocks_ids entries next made are = subst HaveOwnIds (none_behind_all entries made) are.ids
