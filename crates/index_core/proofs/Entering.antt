-- The numbers of live blocks are put under their ids one by one.
use Rattle.std.proofs.Common.{◌≡◌, ℕ, zero, suc, ◌+◌, ◌<◌, ◌≤◌, ◌==◌, nat_lt, max, Bool, true, false, cond, List, [], ◌∷◌, ◌++◌, length, map, filter, take, drop, get_or, slice_get, slice_index_or, Option, Some, None, refl, sym, ap, subst, ◌∙◌, arith}
use Rattle.std.proofs.lemmas.Bool.{ltb-true, ltb-false}
use Rattle.std.specs.List.{All, count_by, find, flat_map}
use Rattle.std.specs.Ordering.{nat_cmp, ord_max}
use Rattle.std.specs.Option.{option_map, option_or}
use Rattle.std.specs.Str.{bytes_eq}
use Rattle.std.proofs.lemmas.List.{drop_all, drop_more, length-map, take_all}
use Rattle.std.proofs.lemmas.List.Elements.{All-nil, All-cons, All-more}
use Rattle.std.proofs.lemmas.List.Folds.{find-append}
use Rattle.std.proofs.lemmas.List.Sums.{sum_by-append}
use Rattle.flattener.specs.Block.{BlockState}
use Rattle.layout.proofs.Goes.{split, counted, counted_both}
use Rattle.layout.specs.Layout.{Marked, is_live, item_in, live_in}
use Rattle.segment.specs.Flat.{FlatRoot, flat_root, roots_of}
use Rattle.segment.specs.Live.{EntryState, IsLiveOver}
use Rattle.segment_builder.specs.Blocks.{block_objects, blocks_in, blocks_of, marked_by, objects_of}
use Rattle.stored_sources.specs.Roots.{no_root, root_of}
use Rattle.segment_view.specs.Views.{is_live_root}
use Rattle.index_core.specs.Found.{AreBelow, IsWhole, number_of, number_under}
use Rattle.index_core.specs.Kept.{HaveOwnIds, block_number, has_block_id, made_by, segment_kept, segments_kept}
use Rattle.index_core.specs.declared.live_numbers.LiveNumbers.{LiveNumbers}
use Rattle.index_core.proofs.Places.{at_map, element, is_at}

abbrev pub live : List (Marked BlockState) → List BlockState
live marked = map item_in (filter is_live marked)

found_none : (id : List ℕ) (blocks : List BlockState) → count_by (has_block_id id) blocks ≡ 0 → number_of id blocks ≡ None
found_none id [] none = refl
found_none id (b ∷ blocks) none =
    split (has_block_id id b)
    (λ is.
    let one : ◌≡◌ {A = ℕ} (cond (has_block_id id b) 1 0) 1 = ap (λ t. cond t 1 0) is in
    absurd (omega (arith, none, counted (has_block_id id) b blocks, one)))
    (λ isnt. rw isnt (found_none id blocks (omega (arith, none, counted (has_block_id id) b blocks))))

-- ---- an entry, block by block

-- what is still to come, before what is known
abbrev pub later : List BlockState → LiveNumbers → List ℕ → Option ℕ
later blocks numbers id = option_or (number_of id blocks) (number_under numbers id)

-- so far: what is to come, and what is known, say what all say
abbrev pub IsPending : List BlockState → List BlockState → LiveNumbers → LiveNumbers → Type 0
IsPending all left old now = (id : List ℕ) → later left now id ≡ later all old id

pub put_one : (b : BlockState) (blocks : List BlockState) (known now : LiveNumbers) → HaveOwnIds (b ∷ blocks)
    → ((other : List ℕ) → number_under now other ≡ cond (bytes_eq b.root.id other) (Some b.root.number) (number_under known other))
    → (id : List ℕ) → later blocks now id ≡ later (b ∷ blocks) known id
put_one b blocks known now own put id =
    split (has_block_id id b)
    (λ is.
    let one : ◌≡◌ {A = ℕ} (cond (has_block_id id b) 1 0) 1 = ap (λ t. cond t 1 0) is in
    let none : number_of id blocks ≡ None = found_none id blocks (omega (arith, own id, counted (has_block_id id) b blocks, one)) in
    rw (none, put id, is) refl)
    (λ isnt. rw (put id, isnt) refl)

live_more : (ms : List (Marked BlockState)) (place : ℕ) (m : Marked BlockState) → slice_get ms place ≡ Some m → live (drop place ms) ≡ cond m.live (m.item ∷ live (drop (place + 1) ms)) (live (drop (place + 1) ms))
live_more [] place m at = absurd (cc (at))
live_more (first ∷ ms) zero m at =
    let same : first ≡ m = some_is first m at in
    elim first.live as (λ l. map item_in (cond l (first ∷ filter is_live ms) (filter is_live ms)) ≡ cond l (first.item ∷ live ms) (live ms)) [
      | true ↦ refl
      | false ↦ refl
    ]
    ∙ ap (λ (x : Marked BlockState). cond x.live (x.item ∷ live ms) (live ms)) same
  where
    some_is : (x y : Marked BlockState) → Some x ≡ Some y → x ≡ y
    some_is x y e = cc (e)
live_more (first ∷ ms) (suc place) m at =
    let e : suc place + 1 ≡ suc (place + 1) = omega arith in
    rw e (live_more ms place m at)

live_less : (ms : List (Marked BlockState)) (place : ℕ) (id : List ℕ) → count_by (has_block_id id) (live (drop place ms)) ≤ count_by (has_block_id id) (live ms)
live_less [] zero id = omega arith
live_less [] (suc place) id = omega arith
live_less (m ∷ ms) zero id = omega arith
live_less (m ∷ ms) (suc place) id =
    let rest = live_less ms place id in
    split m.live
    (λ is.
    let all : live (m ∷ ms) ≡ m.item ∷ live ms = rw is refl in
    omega (arith, rest, ap (count_by (has_block_id id)) all, counted (has_block_id id) m.item (live ms)))
    (λ isnt. let all : live (m ∷ ms) ≡ live ms = rw isnt refl in omega (arith, rest, ap (count_by (has_block_id id)) all))

pub own_left : (ms : List (Marked BlockState)) (place : ℕ) → HaveOwnIds (live ms) → HaveOwnIds (live (drop place ms))
own_left ms place own id = omega (arith, own id, live_less ms place id)

pub pending_dead : (ms : List (Marked BlockState)) (place : ℕ) (m : Marked BlockState) (old now : LiveNumbers) → slice_get ms place ≡ Some m → m.live ≡ false → IsPending (live ms) (live (drop place ms)) old now → IsPending (live ms) (live (drop (place + 1) ms)) old now
pending_dead ms place m old now at isnt pending id =
    let left : live (drop place ms) ≡ live (drop (place + 1) ms) = live_more ms place m at ∙ rw isnt refl in
    ap (λ bs. later bs now id) (sym left) ∙ pending id

pub pending_live : (ms : List (Marked BlockState)) (place : ℕ) (m : Marked BlockState) (old known now : LiveNumbers) → slice_get ms place ≡ Some m → m.live ≡ true → HaveOwnIds (live ms)
    → ((other : List ℕ) → number_under now other ≡ cond (bytes_eq m.item.root.id other) (Some m.item.root.number) (number_under known other))
    → IsPending (live ms) (live (drop place ms)) old known → IsPending (live ms) (live (drop (place + 1) ms)) old now
pending_live ms place m old known now at is own put pending id =
    let left : live (drop place ms) ≡ m.item ∷ live (drop (place + 1) ms) = live_more ms place m at ∙ rw is refl in
    put_one m.item (live (drop (place + 1) ms)) known now (subst HaveOwnIds left (own_left ms place own)) put id ∙ ap (λ bs. later bs known id) (sym left) ∙ pending id

-- ---- entries

pub own_both : (xs ys : List BlockState) → HaveOwnIds (xs ++ ys) → HaveOwnIds xs × HaveOwnIds ys
own_both xs ys own = (λ id. omega (arith, own id, counted_both (has_block_id id) xs ys), λ id. omega (arith, own id, counted_both (has_block_id id) xs ys))

some_counted : (id : List ℕ) (blocks : List BlockState) (n : ℕ) → number_of id blocks ≡ Some n → 1 ≤ count_by (has_block_id id) blocks
some_counted id [] n found = absurd (cc (found))
some_counted id (b ∷ blocks) n found =
    split (has_block_id id b)
    (λ is. let one : ◌≡◌ {A = ℕ} (cond (has_block_id id b) 1 0) 1 = ap (λ t. cond t 1 0) is in omega (arith, counted (has_block_id id) b blocks, one))
    (λ isnt. omega (arith, counted (has_block_id id) b blocks, some_counted id blocks n (rw isnt at found)))

-- the numbers of one entry come before those that are known, and after those of later entries
pub entry_more : (first rest : List BlockState) (known now : LiveNumbers) → HaveOwnIds (first ++ rest) → ((id : List ℕ) → number_under now id ≡ later first known id) → (id : List ℕ) → later rest now id ≡ later (first ++ rest) known id
entry_more first rest known now own put id =
    ap (option_or (number_of id rest)) (put id) ∙ by (number_of id first) refl ∙ sym (ap (λ o. option_or o (number_under known id)) both)
  where
    mapped : (o p : Option BlockState) → option_map block_number (option_or o p) ≡ option_or (option_map block_number o) (option_map block_number p)
    mapped None p = refl
    mapped (Some b) p = refl

    both : number_of id (first ++ rest) ≡ option_or (number_of id first) (number_of id rest)
    both = ap (option_map block_number) (find-append (has_block_id id) first rest) ∙ mapped (find (has_block_id id) first) (find (has_block_id id) rest)

    three : (p q : Option ℕ) → option_or p (option_or None q) ≡ option_or (option_or None p) q
    three None q = refl
    three (Some n) q = refl

    by : (o : Option ℕ) → number_of id first ≡ o → option_or (number_of id rest) (option_or (number_of id first) (number_under known id)) ≡ option_or (option_or (number_of id first) (number_of id rest)) (number_under known id)
    by None is = rw is (three (number_of id rest) (number_under known id))
    by (Some n) is =
        let none : number_of id rest ≡ None = found_none id rest (omega (arith, own id, counted_both (has_block_id id) first rest, some_counted id first n is)) in
        rw (is, none) refl

-- ---- ids of entries

pub below_made : (entries : List EntryState) → All (λ (entry : EntryState). entry.id < made_by entries) entries
below_made [] = All-nil (λ (entry : EntryState). entry.id < 0)
below_made (entry ∷ entries) = within (entry ∷ entries) (made_by (entry ∷ entries)) (omega arith)
  where
    within : (es : List EntryState) (end : ℕ) → made_by es ≤ end → All (λ (e : EntryState). e.id < end) es
    within [] end most = All-nil (λ (e : EntryState). e.id < end)
    within (e ∷ es) end most = All-cons (λ (x : EntryState). x.id < end) e es (omega (arith, most)) (within es end (omega (arith, most)))

-- ---- entries, one by one

abbrev pub live_of : List EntryState → List BlockState
live_of entries = flat_map live_in (segments_kept entries)

dropped_less : (entries : List EntryState) (at : ℕ) (id : List ℕ) → count_by (has_block_id id) (live_of (drop at entries)) ≤ count_by (has_block_id id) (live_of entries)
dropped_less [] zero id = omega arith
dropped_less [] (suc at) id = omega arith
dropped_less (entry ∷ entries) zero id = omega arith
dropped_less (entry ∷ entries) (suc at) id = omega (arith, dropped_less entries at id, counted_both (has_block_id id) (live_in (segment_kept entry)) (live_of entries))

pub own_dropped : (entries : List EntryState) (at : ℕ) → HaveOwnIds (live_of entries) → HaveOwnIds (live_of (drop at entries))
own_dropped entries at own id = omega (arith, own id, dropped_less entries at id)

-- what was read of so many entries
pub record IsReading (entries : List EntryState) (at : ℕ) (numbers : LiveNumbers) (objects made : ℕ) : Type 0 where
  pub known : (id : List ℕ) → later (live_of (drop at entries)) numbers id ≡ number_of id (live_of entries)
  pub sum_is : objects + objects_of (live_of (drop at entries)) ≡ objects_of (live_of entries)
  pub made_is : max made (made_by (drop at entries)) ≡ made_by entries
  pub whole : All (λ (entry : EntryState). IsWhole entry) (take at entries)

nothing_more : (o : Option ℕ) → option_or o None ≡ o
nothing_more None = refl
nothing_more (Some n) = refl

pub reading_none : (entries : List EntryState) (numbers : LiveNumbers) → ((id : List ℕ) → number_under numbers id ≡ None) → IsReading entries 0 numbers 0 0
reading_none entries numbers none = record {
  known = λ id. ap (option_or (number_of id (live_of entries))) (none id) ∙ nothing_more (number_of id (live_of entries));
  sum_is = omega arith;
  made_is = omega arith;
  whole = All-nil (λ (entry : EntryState). IsWhole entry);
}

-- an entry that is next, and those behind it
pub next_entry : (entries : List EntryState) (at : ℕ) (entry : EntryState) → at < length entries → get_or entries at entry ≡ entry → drop at entries ≡ entry ∷ drop (at + 1) entries
next_entry entries at entry within is = drop_more entries at entry within ∙ ap (λ (e : EntryState). e ∷ drop (at + 1) entries) is

pub own_next : (entries : List EntryState) (at : ℕ) (entry : EntryState) → drop at entries ≡ entry ∷ drop (at + 1) entries → HaveOwnIds (live_of entries) → HaveOwnIds (live_in (segment_kept entry) ++ live_of (drop (at + 1) entries))
own_next entries at entry next own = subst (λ (es : List EntryState). HaveOwnIds (live_of es)) next (own_dropped entries at own)

-- how many objects an entry's live blocks have, and its id
pub record HasRoomFor (entries : List EntryState) (at objects : ℕ) (entry : EntryState) : Type 0 where
  pub objects_are : objects + objects_of (live_in (segment_kept entry)) ≤ objects_of (live_of entries)
  pub id_is : entry.id + 1 ≤ made_by entries

pub room_for : (entries : List EntryState) (at : ℕ) (numbers : LiveNumbers) (objects made : ℕ) (entry : EntryState) → IsReading entries at numbers objects made → drop at entries ≡ entry ∷ drop (at + 1) entries → HasRoomFor entries at objects entry
room_for entries at numbers objects made entry is next =
    let both = sum_by-append block_objects (live_in (segment_kept entry)) (live_of (drop (at + 1) entries)) in
    let split_is : objects_of (live_of (drop at entries)) ≡ objects_of (live_in (segment_kept entry) ++ live_of (drop (at + 1) entries)) = ap (λ (es : List EntryState). objects_of (live_of es)) next in
    let made_next : made_by (drop at entries) ≡ max (entry.id + 1) (made_by (drop (at + 1) entries)) = ap made_by next in
    record { objects_are = omega (arith, is.sum_is, both, split_is); id_is = omega (arith, is.made_is, made_next) }

-- the greater of two numbers, as `max` answers it
pub greater_of : (one two : ℕ) → ord_max nat_cmp one two ≡ max one two
greater_of one two =
    split (nat_lt two one)
    (λ is. rw is (omega (arith, ltb-true two one is)))
    (λ isnt. split (two == one)
    (λ same. rw (isnt, same) (omega (arith, ltb-false two one isnt)))
    (λ other. rw (isnt, other) (omega (arith, ltb-false two one isnt))))

pub reading_more : (entries : List EntryState) (at : ℕ) (numbers now : LiveNumbers) (objects made count greater : ℕ) (entry : EntryState) → HaveOwnIds (live_of entries) → IsReading entries at numbers objects made → at < length entries → get_or entries at entry ≡ entry
    → ((id : List ℕ) → number_under now id ≡ later (live_in (segment_kept entry)) numbers id) → count ≡ objects_of (live_in (segment_kept entry)) → greater ≡ max made (entry.id + 1) → IsWhole entry → IsReading entries (at + 1) now (objects + count) greater
reading_more entries at numbers now objects made count greater entry own is within here put count_is greater_is whole =
    let next = next_entry entries at entry within here in
    let both = sum_by-append block_objects (live_in (segment_kept entry)) (live_of (drop (at + 1) entries)) in
    let split_is : objects_of (live_of (drop at entries)) ≡ objects_of (live_in (segment_kept entry) ++ live_of (drop (at + 1) entries)) = ap (λ (es : List EntryState). objects_of (live_of es)) next in
    let made_next : made_by (drop at entries) ≡ max (entry.id + 1) (made_by (drop (at + 1) entries)) = ap made_by next in
    record {
      known = λ id.
          entry_more (live_in (segment_kept entry)) (live_of (drop (at + 1) entries)) numbers now (own_next entries at entry next own) put id
          ∙ ap (λ (es : List EntryState). later (live_of es) numbers id) (sym next)
          ∙ is.known id;
      sum_is = omega (arith, is.sum_is, both, split_is, count_is);
      made_is = omega (arith, is.made_is, made_next, greater_is);
      whole = All-more (λ (e : EntryState). IsWhole e) entries at entry within is.whole (subst (λ (e : EntryState). IsWhole e) (sym here) whole);
    }

-- all of them
pub record AreRead (entries : List EntryState) (numbers : LiveNumbers) (objects made : ℕ) : Type 0 where
  pub known : (id : List ℕ) → number_under numbers id ≡ number_of id (live_of entries)
  pub sum_is : objects ≡ objects_of (live_of entries)
  pub made_is : made ≡ made_by entries
  pub below : AreBelow (made_by entries) entries

pub reading_all : (entries : List EntryState) (at : ℕ) (numbers : LiveNumbers) (objects made : ℕ) → IsReading entries at numbers objects made → length entries ≤ at → AreRead entries numbers objects made
reading_all entries at numbers objects made is past =
    let none : drop at entries ≡ [] = drop_all at entries past in
    let no_objects : objects_of (live_of (drop at entries)) ≡ 0 = ap (λ (es : List EntryState). objects_of (live_of es)) none in
    let no_made : made_by (drop at entries) ≡ 0 = ap made_by none in
    record {
      known = λ id. ap (λ (es : List EntryState). later (live_of es) numbers id) (sym none) ∙ is.known id;
      sum_is = omega (arith, is.sum_is, no_objects);
      made_is = omega (arith, is.made_is, no_made);
      below = record { ids = below_made entries; whole = subst (λ (es : List EntryState). All (λ (e : EntryState). IsWhole e) es) (take_all at entries past) is.whole };
    }

-- ---- an entry's roots

-- the block of a root in an entry
pub record IsBlockOf (entry : EntryState) (place : ℕ) : Type 0 where
  pub block : Marked BlockState
  pub at : slice_get (blocks_in entry) place ≡ Some block
  pub live_is : block.live ≡ slice_index_or entry.live.roots place false
  pub root_is : block.item.root ≡ flat_root (root_of entry.columns.roots place)

marked_place : (blocks : List BlockState) (marks : List Bool) (place : ℕ) (block : BlockState) → slice_get blocks place ≡ Some block → length marks ≡ length blocks → slice_get (marked_by blocks marks) place ≡ Some (record { item = block; live = get_or marks place false })
marked_place [] marks place block at long = absurd (cc (at))
marked_place (b ∷ blocks) [] place block at long = absurd (omega (arith, long))
marked_place (b ∷ blocks) (mark ∷ marks) zero block at long = ap (λ (x : BlockState). let m : Marked BlockState = record { item = x; live = mark } in Some m) (same b block at)
  where
    same : (x y : BlockState) → Some x ≡ Some y → x ≡ y
    same x y e = cc (e)
marked_place (b ∷ blocks) (mark ∷ marks) (suc place) block at long = marked_place blocks marks place block at (omega (arith, long))

pub block_of_root : (entry : EntryState) (place : ℕ) → map (λ (block : BlockState). block.root) (blocks_of entry.columns) ≡ roots_of entry.columns → IsLiveOver entry.columns entry.live → place < length entry.columns.roots → IsBlockOf entry place
block_of_root entry place roots over within =
    let long : length (blocks_of entry.columns) ≡ length entry.columns.roots = omega (arith, ap length roots, length-map (blocks_of entry.columns) (λ (block : BlockState). block.root), length-map entry.columns.roots flat_root) in
    let own = is_at (blocks_of entry.columns) place (omega (arith, within, long)) in
    let kept = is_at entry.columns.roots place within in
    let one = element (map (λ (block : BlockState). block.root) (blocks_of entry.columns)) place own.0.root (at_map (λ (block : BlockState). block.root) (blocks_of entry.columns) place own.0 own.1) in
    let two = element (roots_of entry.columns) place (flat_root kept.0) (at_map flat_root entry.columns.roots place kept.0 kept.1) in
    let three = element entry.columns.roots place kept.0 kept.1 in
    record {
      block = record { item = own.0; live = slice_index_or entry.live.roots place false };
      at = marked_place (blocks_of entry.columns) entry.live.roots place own.0 own.1 (omega (arith, over.roots, long));
      live_is = refl;
      root_is = sym (one.at own.0.root) ∙ ap (λ (rs : List FlatRoot). get_or rs place own.0.root) roots ∙ two.at own.0.root ∙ ap flat_root (sym (three.at no_root));
    }

-- one root of an entry more
pub pending_root : (entry : EntryState) (place : ℕ) (old known now : LiveNumbers) → map (λ (block : BlockState). block.root) (blocks_of entry.columns) ≡ roots_of entry.columns → IsLiveOver entry.columns entry.live → place < length entry.columns.roots → HaveOwnIds (live (blocks_in entry))
    → (is_live_root place entry ≡ true → (id : List ℕ) → number_under now id ≡ cond (bytes_eq (root_of entry.columns.roots place).id id) (Some (root_of entry.columns.roots place).number) (number_under known id))
    → (is_live_root place entry ≡ false → (id : List ℕ) → number_under now id ≡ number_under known id)
    → IsPending (live (blocks_in entry)) (live (drop place (blocks_in entry))) old known → IsPending (live (blocks_in entry)) (live (drop (place + 1) (blocks_in entry))) old now
pending_root entry place old known now roots over within own put same pending =
    let here = block_of_root entry place roots over within in
    split (is_live_root place entry)
    (λ is.
    let moved : (id : List ℕ) → number_under now id ≡ cond (bytes_eq here.block.item.root.id id) (Some here.block.item.root.number) (number_under known id) =
    subst (λ (r : FlatRoot). (id : List ℕ) → number_under now id ≡ cond (bytes_eq r.id id) (Some r.number) (number_under known id)) (sym here.root_is) (put is) in
    pending_live (blocks_in entry) place here.block old known now here.at (here.live_is ∙ is) own moved pending)
    (λ isnt. λ id. ap (option_or (number_of id (live (drop (place + 1) (blocks_in entry))))) (same isnt id) ∙ pending_dead (blocks_in entry) place here.block old known here.at (here.live_is ∙ isnt) pending id)

marked_long : (blocks : List BlockState) (marks : List Bool) → length (marked_by blocks marks) ≤ length marks
marked_long [] marks = omega arith
marked_long (block ∷ blocks) [] = omega arith
marked_long (block ∷ blocks) (mark ∷ marks) = omega (arith, marked_long blocks marks)

-- all of them
pub pending_over : (entry : EntryState) (place : ℕ) (old now : LiveNumbers) → IsLiveOver entry.columns entry.live → length entry.columns.roots ≤ place → IsPending (live (blocks_in entry)) (live (drop place (blocks_in entry))) old now
    → (id : List ℕ) → number_under now id ≡ later (live (blocks_in entry)) old id
pending_over entry place old now over past pending id =
    ap (λ (ms : List (Marked BlockState)). later (live ms) now id) (sym (drop_all place (blocks_in entry) (omega (arith, marked_long (blocks_of entry.columns) entry.live.roots, over.roots, past)))) ∙ pending id
