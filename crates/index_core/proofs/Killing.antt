-- The live block with an id goes: what becomes of entries and of the buffer.
use Rattle.std.proofs.Common.{◌≡◌, ℕ, zero, suc, ◌+◌, ◌-◌, ◌==◌, ◌<◌, ◌≤◌, Bool, true, false, List, [], ◌∷◌, ◌++◌, map, filter, take, drop, set, get_or, slice_get, slice_set, IsSomeAnd, Option, Some, refl, sym, ap, subst, ◌∙◌, arith, eqb-true}
use Rattle.std.specs.List.{count_by, flat_map, take-map, drop-map}
use Rattle.std.proofs.lemmas.List.{map-append, map-set}
use Rattle.std.proofs.lemmas.List.Elements.{All-get_or, All-set}
use Rattle.flattener.specs.Block.{BlockState}
use Rattle.layout.proofs.Goes.{split, counted_both, dead, dead_items, dead_in, none_goes, none_in, one_in, one_taken, some_in, some_at}
use Rattle.layout.proofs.Looked.{find_passes}
use Rattle.layout.specs.Layout.{Layout, Marked, OpenMerge, SegmentOf, live_in, staying, killed, killed_in}
use Rattle.segment.specs.Flat.{FlatRoot, flat_root, roots_of}
use Rattle.segment.specs.Live.{EntryState, LiveState, killed as killed_bits}
use Rattle.stored_sources.specs.Roots.{root_of, source_of}
use Rattle.segment_parts.specs.declared.columns.Columns.{Columns}
use Rattle.segment_builder.specs.Blocks.{blocks_of, blocks_in, marked_by, dead_at}
use Rattle.segment_view.specs.Views.{is_live_root, with_dead}
use Rattle.index_core.specs.Kept.{HaveOwnIds, has_block_id, laid, numbers_in, segment_kept, segments_kept}
use Rattle.index_core.specs.Found.{AreBelow, IsLive, IsRootAt, IsWhole, columns_of, live_blocks}
use Rattle.index_core.proofs.Places.{at_map, element}

some_is : {A : Type 0} (x y : A) → Some x ≡ Some y → x ≡ y
some_is x y e = cc (e)

set_same : {A B : Type 0} (f : A → B) (xs : List A) (index : ℕ) (x y : A) → slice_get xs index ≡ Some x → f y ≡ f x → map f (set xs index y) ≡ map f xs
set_same f [] index x y at same = refl
set_same f (first ∷ xs) zero x y at same = ap (λ z. z ∷ map f xs) (same ∙ ap f (sym (some_is first x at)))
set_same f (first ∷ xs) (suc index) x y at same = ap (λ rest. f first ∷ rest) (set_same f xs index x y at same)

pub removed : {A B : Type 0} (f : A → B) (xs ys : List A) (index : ℕ) → ys ≡ take index xs ++ drop (index + 1) xs → map f ys ≡ take index (map f xs) ++ drop (index + 1) (map f xs)
removed f xs ys index is =
    ap (map f) is ∙ map-append f (take index xs) (drop (index + 1) xs) ∙ ap (λ zs. zs ++ map f (drop (index + 1) xs)) (sym (take-map f index xs)) ∙ ap (λ zs. take index (map f xs) ++ zs) (sym (drop-map f (index + 1) xs))

-- a layout beside other merges and another factor
abbrev pub beside : List OpenMerge → ℕ → Option ℕ → Layout BlockState → Layout BlockState
beside merges started factor layout = record layout { merges = merges; started = started; factor = factor }

-- ---- marks

pub record IsMarkedAt (blocks : List BlockState) (marks : List Bool) (place : ℕ) (m : Marked BlockState) : Type 0 where
  pub block : slice_get blocks place ≡ Some m.item
  pub mark : (d : Bool) → get_or marks place d ≡ m.live

pub marked_at : (blocks : List BlockState) (marks : List Bool) (place : ℕ) (m : Marked BlockState) → slice_get (marked_by blocks marks) place ≡ Some m → IsMarkedAt blocks marks place m
marked_at [] marks place m at = absurd (cc (at))
marked_at (block ∷ blocks) [] place m at = absurd (cc (at))
marked_at (block ∷ blocks) (mark ∷ marks) zero m at =
    let first : Marked BlockState = record { item = block; live = mark } in
    let same : first ≡ m = some_is first m at in
    record { block = ap (λ (x : Marked BlockState). Some x.item) same; mark = λ d. ap (λ (x : Marked BlockState). x.live) same }
marked_at (block ∷ blocks) (mark ∷ marks) (suc place) m at = let rest = marked_at blocks marks place m at in record { block = rest.block; mark = rest.mark }

pub live_root : (entries : List EntryState) (index root : ℕ) (block : BlockState) → IsRootAt entries index root block → IsSomeAnd (slice_get entries index) (λ entry. is_live_root root entry ≡ true)
live_root entries index root block is =
    rw is.here ((marked_at (blocks_of is.entry.columns) is.entry.live.roots root (record { item = block; live = true }) is.item).mark false)

-- the block of a live root
pub root_block : (entries : List EntryState) (index root : ℕ) (block : BlockState) (columns : Columns) → (is : IsRootAt entries index root block) → columns ≡ is.entry.columns → slice_get (blocks_of columns) root ≡ Some block
root_block entries index root block columns is same =
    ap (λ (cs : Columns). slice_get (blocks_of cs) root) same ∙ (marked_at (blocks_of is.entry.columns) is.entry.live.roots root (record { item = block; live = true }) is.item).block

pub root_source : (columns : Columns) (root : ℕ) (block : BlockState) → map (λ (b : BlockState). b.root) (blocks_of columns) ≡ roots_of columns → slice_get (blocks_of columns) root ≡ Some block → slice_get (roots_of columns) root ≡ Some (flat_root (root_of columns.roots root))
    → source_of columns.roots root ≡ block.root.source
root_source columns root block roots at flat =
    sym (ap (λ (r : FlatRoot). r.source) (some_is block.root (flat_root (root_of columns.roots root)) (sym (at_map (λ (b : BlockState). b.root) (blocks_of columns) root block at) ∙ ap (λ (rs : List FlatRoot). slice_get rs root) roots ∙ flat)))

dead_same : (place : ℕ) (ms : List (Marked BlockState)) → dead_at place ms ≡ dead (λ (block : BlockState). true) place ms
dead_same place [] = refl
dead_same zero (m ∷ ms) = refl
dead_same (suc place) (m ∷ ms) =
    let e : suc place - 1 ≡ place = omega arith in
    let later : (suc place == 0) ≡ false = split (suc place == 0) (λ is. absurd (omega (arith, eqb-true (suc place) 0 is))) (λ isnt. isnt) in
    rw (later, e) (ap (λ (rest : List (Marked BlockState)). m ∷ rest) (dead_same place ms))

-- ---- an entry with a dead block more

module _ (marks_blocks : (columns : Columns) (root : ℕ) (live : LiveState) → marked_by (blocks_of columns) (killed_bits columns root live).roots ≡ dead_at root (marked_by (blocks_of columns) live.roots)) where
  dead_entry : (goes : BlockState → Bool) (root : ℕ) (entry : EntryState) → segment_kept (with_dead root entry) ≡ dead_in goes root (segment_kept entry)
  dead_entry goes root entry =
      ap (λ (ms : List (Marked BlockState)). let s : SegmentOf BlockState = record { id = entry.id; items = ms } in s) (marks_blocks entry.columns root entry.live ∙ dead_same root (blocks_in entry) ∙ same root (blocks_in entry))
    where
      same : (place : ℕ) (ms : List (Marked BlockState)) → dead (λ (block : BlockState). true) place ms ≡ dead goes place ms
      same place [] = refl
      same zero (m ∷ ms) = refl
      same (suc place) (m ∷ ms) = ap (λ (rest : List (Marked BlockState)). m ∷ rest) (same place ms)

  whole_dead : (root : ℕ) (entry : EntryState) → IsWhole entry → IsWhole (with_dead root entry)
  whole_dead root entry is = record {
    some = is.some;
    numbers = ap numbers_in (dead_entry (λ (block : BlockState). true) root entry) ∙ dead_items (λ (block : BlockState). true) (λ (block : BlockState). block.root.number) root (blocks_in entry) ∙ is.numbers;
    counted = is.counted;
  }

  -- ---- all blocks

  module _ (entries : List EntryState) (buffer : List BlockState) (id : List ℕ) (block : BlockState) (number made : ℕ) (own : HaveOwnIds (live_blocks entries buffer)) (live : IsLive entries buffer id block number) where
    abbrev goes : BlockState → Bool
    goes = has_block_id id

    is_own : goes block ≡ true
    is_own = find_passes goes (live_blocks entries buffer) block live.found

    both : count_by goes (flat_map live_in (segments_kept entries)) + count_by goes buffer ≤ 1
    both = omega (arith, own id, counted_both goes (flat_map live_in (segments_kept entries)) buffer)

    pub root_killed : (index root : ℕ) (now : List EntryState) → (is : IsRootAt entries index root block) → now ≡ slice_set entries index (with_dead root is.entry) → laid now buffer made ≡ killed goes (laid entries buffer made)
    root_killed index root now is put =
        let here : slice_get (segments_kept entries) index ≡ Some (segment_kept is.entry) = at_map segment_kept entries index is.entry is.here in
        let some = some_in goes (segments_kept entries) index root (segment_kept is.entry) (record { item = block; live = true }) here is.item refl is_own in
        let segments : map (killed_in goes) (segments_kept entries) ≡ set (segments_kept entries) index (dead_in goes root (segment_kept is.entry)) =
        one_in goes (segments_kept entries) index root (segment_kept is.entry) (record { item = block; live = true }) (omega (arith, both)) here is.item refl is_own in
        let kept : segments_kept now ≡ map (killed_in goes) (segments_kept entries) =
        ap segments_kept put ∙ map-set segment_kept entries index (with_dead root is.entry) ∙ ap (set (segments_kept entries) index) (dead_entry goes root is.entry) ∙ sym segments in
        let stays : filter (staying goes) buffer ≡ buffer = none_goes goes buffer (omega (arith, both, some)) in
        rw (kept, stays) refl

    pub buffer_killed : (index : ℕ) (now : List BlockState) → slice_get buffer index ≡ Some block → now ≡ take index buffer ++ drop (index + 1) buffer → laid entries now made ≡ killed goes (laid entries buffer made)
    buffer_killed index now at is =
        let some = some_at goes buffer index block at is_own in
        let segments : map (killed_in goes) (segments_kept entries) ≡ segments_kept entries = none_in goes (segments_kept entries) (omega (arith, both, some)) in
        let taken : now ≡ filter (staying goes) buffer = is ∙ sym (one_taken goes buffer index block (omega (arith, both)) at is_own) in
        rw (segments, taken) refl

  pub below_dead : (made index root : ℕ) (entries now : List EntryState) (block : BlockState) → AreBelow made entries → (is : IsRootAt entries index root block) → now ≡ slice_set entries index (with_dead root is.entry) → AreBelow made now
  below_dead made index root entries now block below is put =
      let own = element entries index is.entry is.here in
      let id : is.entry.id < made = subst (λ (e : EntryState). e.id < made) (own.at is.entry) (All-get_or (λ (e : EntryState). e.id < made) entries index is.entry own.within below.ids) in
      let whole : IsWhole is.entry = subst (λ (e : EntryState). IsWhole e) (own.at is.entry) (All-get_or (λ (e : EntryState). IsWhole e) entries index is.entry own.within below.whole) in
      subst (AreBelow made) (sym put) (record {
        ids = All-set (λ (e : EntryState). e.id < made) entries index (with_dead root is.entry) id below.ids;
        whole = All-set (λ (e : EntryState). IsWhole e) entries index (with_dead root is.entry) (whole_dead root is.entry whole) below.whole;
      })

pub columns_dead : (index root : ℕ) (entries now : List EntryState) (block : BlockState) → (is : IsRootAt entries index root block) → now ≡ slice_set entries index (with_dead root is.entry) → columns_of now ≡ columns_of entries
columns_dead index root entries now block is put = ap columns_of put ∙ set_same (λ (e : EntryState). e.columns) entries index is.entry (with_dead root is.entry) is.here refl
