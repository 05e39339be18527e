-- Where the live block with a number stands.
use Rattle.std.proofs.Common.{◌≡◌, inl, inr, ℕ, zero, suc, ◌-◌, ◌<◌, ◌≤◌, true, false, List, [], ◌∷◌, length, map, get_or, slice_get, Some, refl, sym, ap, subst, ◌∙◌, arith}
use Rattle.std.specs.List.{find, flat_map, position_or_len}
use Rattle.std.proofs.lemmas.Bool.{cases_lt, leb-true, leb-false}
use Rattle.std.proofs.lemmas.List.{get_or-map, length-map}
use Rattle.std.proofs.lemmas.List.Elements.{All-get_or}
use Rattle.std.proofs.lemmas.List.Folds.{find_at}
use Rattle.flattener.specs.Block.{BlockState}
use Rattle.layout.proofs.Ascending.{middle, ascend_first, ascend_second, ascend_at, ascend_two}
use Rattle.layout.proofs.Looked.{IsThere, somewhere, earlier, where_found}
use Rattle.layout.specs.Ascending.{Ascend}
use Rattle.layout.specs.Layout.{Marked, SegmentOf, live_in}
use Rattle.segment.specs.Live.{EntryState}
use Rattle.segment_builder.specs.Blocks.{blocks_in}
use Rattle.stored_sources.specs.declared.root.Root.{Root}
use Rattle.flattener.specs.Seen.{block_seen}
use Rattle.flattener.specs.declared.document.Block.{Block}
use Rattle.index_core.specs.declared.place.Place.{Place}
use Rattle.index_core.specs.Kept.{has_block_id, block_number, numbers_in, segment_kept, segments_kept}
use Rattle.index_core.specs.Found.{Rise, StandsAt, Stands, IsHalving, root_numbers, first_number, first_numbers, block_numbers, begins_by, IsWhole, AreWhole, all_numbers, IsLive, IsLiveNumber, IsRootAt, IsAt}

some_is : {A : Type 0} (x y : A) → Some x ≡ Some y → x ≡ y
some_is x y e = cc (e)

-- ---- an element at an index

pub record IsElement {A : Type 0} (xs : List A) (index : ℕ) (x : A) : Type 0 where
  pub within : index < length xs
  pub at : (d : A) → get_or xs index d ≡ x

pub element : {A : Type 0} (xs : List A) (index : ℕ) (x : A) → slice_get xs index ≡ Some x → IsElement xs index x
element [] index x at = absurd (cc (at))
element (y ∷ xs) zero x at = record { within = omega arith; at = λ d. some_is y x at }
element (y ∷ xs) (suc index) x at = let rest = element xs index x at in record { within = omega (arith, rest.within); at = rest.at }

pub is_at : {A : Type 0} (xs : List A) (index : ℕ) → index < length xs → (x : A) × (slice_get xs index ≡ Some x)
is_at [] index within = absurd (omega (arith, within))
is_at (x ∷ xs) zero within = (x, refl)
is_at (x ∷ xs) (suc index) within = is_at xs index (omega (arith, within))

pub at_map : {A B : Type 0} (f : A → B) (xs : List A) (index : ℕ) (x : A) → slice_get xs index ≡ Some x → slice_get (map f xs) index ≡ Some (f x)
at_map f [] index x at = absurd (cc (at))
at_map f (y ∷ xs) zero x at = ap (λ z. Some (f z)) (some_is y x at)
at_map f (y ∷ xs) (suc index) x at = at_map f xs index x at

pub record IsMapped {A B : Type 0} (f : A → B) (xs : List A) (index : ℕ) (y : B) : Type 0 where
  pub own : A
  pub here : slice_get xs index ≡ Some own
  pub same : f own ≡ y

pub of_map : {A B : Type 0} (f : A → B) (xs : List A) (index : ℕ) (y : B) → slice_get (map f xs) index ≡ Some y → IsMapped f xs index y
of_map f [] index y at = absurd (cc (at))
of_map f (x ∷ xs) zero y at = record { own = x; here = refl; same = some_is (f x) y at }
of_map f (x ∷ xs) (suc index) y at = let rest = of_map f xs index y at in record { own = rest.own; here = rest.here; same = rest.same }

-- ---- numbers that rise stand once

pub stands_once : (numbers : List ℕ) (one two number : ℕ) → Rise numbers → StandsAt numbers one number → StandsAt numbers two number → one ≡ two
stands_once numbers one two number rise here there =
    elim (cases_lt one two) [
      | inl less ↦ absurd (omega (arith, rise one two less there.within, here.at, there.at))
      | inr more ↦ elim (cases_lt two one) [
        | inl less ↦ absurd (omega (arith, rise two one less here.within, here.at, there.at))
        | inr same ↦ omega (arith, more, same)
      ]
    ]

-- ---- blocks

module _ (entries : List EntryState) (buffer : List BlockState) (end : ℕ) (is : Ascend 0 (all_numbers entries buffer) end) where
  abbrev mid : ℕ
  mid = middle 0 (flat_map numbers_in (segments_kept entries))

  below : Ascend 0 (flat_map numbers_in (segments_kept entries)) mid
  below = ascend_first (flat_map numbers_in (segments_kept entries)) (block_numbers buffer) 0 end is

  above : Ascend mid (block_numbers buffer) end
  above = ascend_second (flat_map numbers_in (segments_kept entries)) (block_numbers buffer) 0 end is

  pub rise_buffer : Rise (block_numbers buffer)
  rise_buffer = λ one two less within. ascend_two (block_numbers buffer) mid end one two 0 above less within

  -- ---- in the buffer

  pub in_buffer : (id : List ℕ) (block : BlockState) (number : ℕ) → IsLive entries buffer id block number → begins_by number buffer ≡ true → (index : ℕ) × (slice_get buffer index ≡ Some block)
  in_buffer id block number live begins =
      elim (where_found (has_block_id id) block_number (segments_kept entries) buffer 0 end block is live.found) [
        | inl kept ↦ absurd (late buffer above begins kept.below)
        | inr own ↦ (position_or_len (has_block_id id) buffer, sym (find_at (has_block_id id) buffer) ∙ own.found)
      ]
    where
      late : (blocks : List BlockState) → Ascend mid (block_numbers blocks) end → begins_by number blocks ≡ true → block_number block < mid → ⊥
      late [] ascend none less = cc (none)
      late (first ∷ blocks) ascend begins less = omega (arith, ascend.0, leb-true first.root.number number begins, live.same, less)

  pub stands_in_buffer : (block : BlockState) (number index : ℕ) → block_number block ≡ number → slice_get buffer index ≡ Some block → StandsAt (block_numbers buffer) index number
  stands_in_buffer block number index same at =
      let own = element (block_numbers buffer) index (block_number block) (at_map block_number buffer index block at) in
      record { within = own.within; at = own.at 0 ∙ same }

  -- ---- in an entry

  module _ (whole : AreWhole entries) where
    whole_at : (index : ℕ) (entry : EntryState) → slice_get entries index ≡ Some entry → IsWhole entry
    whole_at index entry at =
        let own = element entries index entry at in
        subst (λ (e : EntryState). IsWhole e) (own.at entry) (All-get_or (λ (e : EntryState). IsWhole e) entries index entry own.within whole)

    -- the first block of an entry
    record HasFirst (index : ℕ) (entry : EntryState) : Type 0 where
      block : Marked BlockState
      there : IsThere (has_block_id []) block_number (segments_kept entries) index 0 (segment_kept entry) block
      number : block.item.root.number ≡ first_number entry

    first_there : (index : ℕ) (entry : EntryState) → slice_get entries index ≡ Some entry → HasFirst index entry
    first_there index entry at =
        let own = whole_at index entry at in
        let long : 0 < length (blocks_in entry) = omega (arith, own.some, ap length own.numbers, length-map (blocks_in entry) (λ (m : Marked BlockState). m.item.root.number), length-map entry.columns.roots (λ (r : Root). r.number)) in
        let first = is_at (blocks_in entry) 0 long in
        let number = element (numbers_in (segment_kept entry)) 0 first.0.item.root.number (at_map (λ (m : Marked BlockState). m.item.root.number) (blocks_in entry) 0 first.0 first.1) in
        record {
          block = first.0;
          there = record { segment = at_map segment_kept entries index entry at; item = first.1 };
          number = sym (number.at 0) ∙ ap (λ ns. get_or ns 0 0) own.numbers;
        }

    firsts_at : (index : ℕ) (entry : EntryState) → slice_get entries index ≡ Some entry → get_or (first_numbers entries) index 0 ≡ first_number entry
    firsts_at index entry at = (element (first_numbers entries) index (first_number entry) (at_map first_number entries index entry at)).at 0

    pub rise_firsts : Rise (first_numbers entries)
    rise_firsts one two less within =
        let long : two < length entries = omega (arith, within, length-map entries first_number) in
        let e = is_at entries one (omega (arith, less, long)) in
        let f = is_at entries two long in
        let own = first_there one e.0 e.1 in
        let other = first_there two f.0 f.1 in
        let rises = earlier (has_block_id []) block_number (segments_kept entries) 0 mid one two 0 0 (segment_kept e.0) (segment_kept f.0) own.block other.block below own.there other.there less in
        omega (arith, rises, own.number, other.number, firsts_at one e.0 e.1, firsts_at two f.0 f.1)

    -- the numbers of one entry rise
    one_ascends : (segments : List (SegmentOf BlockState)) (from to index : ℕ) (s : SegmentOf BlockState) → Ascend from (flat_map numbers_in segments) to → slice_get segments index ≡ Some s → (low : ℕ) × (high : ℕ) × Ascend low (numbers_in s) high
    one_ascends [] from to index s ascend at = absurd (cc (at))
    one_ascends (first ∷ segments) from to zero s ascend at =
        (from, middle from (numbers_in first), subst (λ (x : SegmentOf BlockState). Ascend from (numbers_in x) (middle from (numbers_in first))) (some_is first s at) (ascend_first (numbers_in first) (flat_map numbers_in segments) from to ascend))
    one_ascends (first ∷ segments) from to (suc index) s ascend at =
        one_ascends segments (middle from (numbers_in first)) to index s (ascend_second (numbers_in first) (flat_map numbers_in segments) from to ascend) at

    pub rise_roots : (index : ℕ) (entry : EntryState) → slice_get entries index ≡ Some entry → Rise (root_numbers entry.columns)
    rise_roots index entry at =
        let own = one_ascends (segments_kept entries) 0 mid index (segment_kept entry) below (at_map segment_kept entries index entry at) in
        subst Rise (whole_at index entry at).numbers (λ one two less within. ascend_two (numbers_in (segment_kept entry)) own.0 own.1 one two 0 own.2 less within)

    -- where the search among first numbers ends is the entry that has the number
    pub record IsFound (count number : ℕ) (block : BlockState) : Type 0 where
      pub some : 0 < count
      pub entry : EntryState
      pub here : slice_get entries (count - 1) ≡ Some entry
      pub root : ℕ
      pub item : slice_get (blocks_in entry) root ≡ Some (record { item = block; live = true })
      pub stands : StandsAt (root_numbers entry.columns) root number

    not_buffered : (id : List ℕ) (block : BlockState) (number : ℕ) → IsLive entries buffer id block number → begins_by number buffer ≡ false → find (has_block_id id) (flat_map live_in (segments_kept entries)) ≡ Some block
    not_buffered id block number live begins =
        elim (where_found (has_block_id id) block_number (segments_kept entries) buffer 0 end block is live.found) [
          | inl kept ↦ kept.found
          | inr own ↦ absurd (early buffer above begins own.found)
        ]
      where
        later : (blocks : List BlockState) (from : ℕ) → Ascend from (block_numbers blocks) end → find (has_block_id id) blocks ≡ Some block → from ≤ block_number block
        later blocks from ascend found =
            let at : slice_get blocks (position_or_len (has_block_id id) blocks) ≡ Some block = sym (find_at (has_block_id id) blocks) ∙ found in
            let own = element (block_numbers blocks) (position_or_len (has_block_id id) blocks) (block_number block) (at_map block_number blocks (position_or_len (has_block_id id) blocks) block at) in
            omega (arith, (ascend_at (block_numbers blocks) from end (position_or_len (has_block_id id) blocks) 0 ascend own.within).0, own.at 0)

        early : (blocks : List BlockState) → Ascend mid (block_numbers blocks) end → begins_by number blocks ≡ false → find (has_block_id id) blocks ≡ Some block → ⊥
        early [] ascend none found = cc (found)
        early (first ∷ blocks) ascend later_begins found =
            let least : Ascend first.root.number (block_numbers (first ∷ blocks)) end = (omega arith, ascend.1) in
            omega (arith, later (first ∷ blocks) first.root.number least found, leb-false first.root.number number later_begins, live.same)

    pub found_at : (id : List ℕ) (block : BlockState) (number count : ℕ) → IsLive entries buffer id block number → begins_by number buffer ≡ false → IsHalving (first_numbers entries) number count count → IsFound count number block
    found_at id block number count live begins halving =
        let somewhere_is = somewhere (has_block_id id) block_number (segments_kept entries) block (not_buffered id block number live begins) in
        let own = of_map segment_kept entries somewhere_is.index somewhere_is.segment somewhere_is.there.segment in
        let item : slice_get (blocks_in own.own) somewhere_is.place ≡ Some (record { item = block; live = true }) = ap (λ (s : SegmentOf BlockState). slice_get s.items somewhere_is.place) own.same ∙ somewhere_is.there.item in
        let within = (element entries somewhere_is.index own.own own.here).within in
        let long : length (first_numbers entries) ≡ length entries = length-map entries first_number in
        let numbers = element (numbers_in (segment_kept own.own)) somewhere_is.place (block_number block) (at_map (λ (m : Marked BlockState). m.item.root.number) (blocks_in own.own) somewhere_is.place (record { item = block; live = true }) item) in
        let roots : StandsAt (root_numbers own.own.columns) somewhere_is.place number = subst (λ ns. StandsAt ns somewhere_is.place number) (whole_at somewhere_is.index own.own own.here).numbers (record { within = numbers.within; at = numbers.at 0 ∙ live.same }) in
        let low : get_or (first_numbers entries) somewhere_is.index 0 ≤ number = at_least somewhere_is.index somewhere_is.place own.own own.here roots in
        let before : somewhere_is.index < count = elim (cases_lt somewhere_is.index count) [
          | inl less ↦ less
          | inr more ↦ absurd (omega (arith, low, halving.behind somewhere_is.index more (omega (arith, within, long))))
        ] in
        let last : somewhere_is.index ≡ count - 1 = elim (cases_lt somewhere_is.index (count - 1)) [
          | inl less ↦ absurd (further somewhere_is.index (count - 1) somewhere_is.place own.own own.here item less (omega (arith, halving.within, long, before)) (halving.before (count - 1) (omega (arith, before))))
          | inr more ↦ omega (arith, more, before)
        ] in
        record {
          some = omega (arith, before);
          entry = own.own;
          here = ap (slice_get entries) (sym last) ∙ own.here;
          root = somewhere_is.place;
          item = item;
          stands = roots;
        }
      where
        at_least : (index place : ℕ) (entry : EntryState) → slice_get entries index ≡ Some entry → StandsAt (root_numbers entry.columns) place number → get_or (first_numbers entries) index 0 ≤ number
        at_least index zero entry at stands = omega (arith, firsts_at index entry at, stands.at)
        at_least index (suc place) entry at stands = omega (arith, firsts_at index entry at, stands.at, rise_roots index entry at 0 (suc place) (omega arith) stands.within)

        further : (one two place : ℕ) (entry : EntryState) → slice_get entries one ≡ Some entry → slice_get (blocks_in entry) place ≡ Some (record { item = block; live = true }) → one < two → two < length entries → get_or (first_numbers entries) two 0 ≤ number → ⊥
        further one two place entry at item less within most =
            let f = is_at entries two within in
            let other = first_there two f.0 f.1 in
            let rises = earlier (has_block_id []) block_number (segments_kept entries) 0 mid one two place 0 (segment_kept entry) (segment_kept f.0) (record { item = block; live = true }) other.block below
            (record { segment = at_map segment_kept entries one entry at; item = item }) other.there less in
            omega (arith, rises, other.number, firsts_at two f.0 f.1, most, live.same)

    -- the root that has the number is the one that is found
    pub root_at : (count number root : ℕ) (block : BlockState) → (found : IsFound count number block) → StandsAt (root_numbers found.entry.columns) root number → IsRootAt entries (count - 1) root block
    root_at count number root block found stands =
        let same : found.root ≡ root = stands_once (root_numbers found.entry.columns) found.root root number (rise_roots (count - 1) found.entry found.here) found.stands stands in
        record {
          entry = found.entry;
          here = found.here;
          item = subst (λ r. slice_get (blocks_in found.entry) r ≡ Some (record { item = block; live = true })) same found.item;
          within = omega (arith, stands.within, length-map found.entry.columns.roots (λ (r : Root). r.number));
        }

-- ---- a live number

module _ (entries : List EntryState) (buffer : List BlockState) (number : ℕ) (is : IsLiveNumber entries buffer number) where
  pub buffer_rises : Rise (block_numbers buffer)
  buffer_rises = rise_buffer entries buffer is.end is.ascending

  pub buffer_has : begins_by number buffer ≡ true → Stands (block_numbers buffer) number
  buffer_has begins =
      let own = in_buffer entries buffer is.end is.ascending is.id is.block number is.live begins in
      (own.0, stands_in_buffer entries buffer is.end is.ascending is.block number own.0 is.live.same own.1)

  pub buffer_at : begins_by number buffer ≡ true → (index : ℕ) → StandsAt (block_numbers buffer) index number → (id : List ℕ) (block : BlockState) → IsLive entries buffer id block number → slice_get buffer index ≡ Some block
  buffer_at begins index stands id block live =
      let own = in_buffer entries buffer is.end is.ascending id block number live begins in
      subst (λ i. slice_get buffer i ≡ Some block)
      (stands_once (block_numbers buffer) own.0 index number buffer_rises (stands_in_buffer entries buffer is.end is.ascending block number own.0 live.same own.1) stands) own.1

  module _ (whole : AreWhole entries) where
    pub firsts_rise : Rise (first_numbers entries)
    firsts_rise = rise_firsts entries buffer is.end is.ascending whole

    module _ (count : ℕ) (begins : begins_by number buffer ≡ false) (halving : IsHalving (first_numbers entries) number count count) where
      pub count_some : 0 < count
      count_some = (found_at entries buffer is.end is.ascending whole is.id is.block number count is.live begins halving).some

      pub count_within : count - 1 < length entries
      count_within =
          let own = found_at entries buffer is.end is.ascending whole is.id is.block number count is.live begins halving in
          (element entries (count - 1) own.entry own.here).within

      -- the entry that has the number
      pub record HasNumber (entry : EntryState) : Type 0 where
        pub rise : Rise (root_numbers entry.columns)
        pub stands : Stands (root_numbers entry.columns) number
        pub at : (root : ℕ) → StandsAt (root_numbers entry.columns) root number → (id : List ℕ) (block : BlockState) → IsLive entries buffer id block number → IsRootAt entries (count - 1) root block

      pub has_number : (entry : EntryState) → get_or entries (count - 1) entry ≡ entry → HasNumber entry
      has_number entry same =
          let own = found_at entries buffer is.end is.ascending whole is.id is.block number count is.live begins halving in
          let here = element entries (count - 1) own.entry own.here in
          let is_own : own.entry ≡ entry = sym (here.at entry) ∙ same in
          record {
            rise = subst (λ (e : EntryState). Rise (root_numbers e.columns)) is_own (rise_roots entries buffer is.end is.ascending whole (count - 1) own.entry own.here);
            stands = subst (λ (e : EntryState). Stands (root_numbers e.columns) number) is_own (own.root, own.stands);
            at = λ root stands id block live.
                let other = found_at entries buffer is.end is.ascending whole id block number count live begins halving in
                let there = element entries (count - 1) other.entry other.here in
                let is_other : entry ≡ other.entry = sym same ∙ there.at entry in
                root_at entries buffer is.end is.ascending whole count number root block other (subst (λ (e : EntryState). StandsAt (root_numbers e.columns) root number) is_other stands);
          }

-- what stands at a place, where entries and buffer are known by other names
pub place_moved : (entries kept : List EntryState) (buffer left : List BlockState) (number : ℕ) (place : Place) → kept ≡ entries → left ≡ buffer → ((id : List ℕ) (block : BlockState) → IsLive kept left id block number → IsAt place kept left block) → (id : List ℕ) (block : BlockState) → IsLive entries buffer id block number → IsAt place entries buffer block
place_moved entries kept buffer left number place one two at =
    subst (λ (es : List EntryState). (id : List ℕ) (block : BlockState) → IsLive es buffer id block number → IsAt place es buffer block) one
    (subst (λ (bs : List BlockState). (id : List ℕ) (block : BlockState) → IsLive kept bs id block number → IsAt place kept bs block) two at)

-- the number of a block in the buffer
pub buffered_number : (blocks : List Block) (index : ℕ) (block : Block) → index < length blocks → block ≡ get_or blocks index block → get_or (block_numbers (map block_seen blocks)) index 0 ≡ block.root.number
buffered_number blocks index block within is =
    get_or-map block_number (map block_seen blocks) index (block_seen block) 0 (omega (arith, within, length-map blocks block_seen))
    ∙ ap block_number (get_or-map block_seen blocks index block (block_seen block) within ∙ ap block_seen (sym is))

pub buffered_source : (blocks : List Block) (index : ℕ) (here : Block) (block : BlockState) → slice_get (map block_seen blocks) index ≡ Some block → here ≡ get_or blocks index here → here.root.source ≡ block.root.source
buffered_source blocks index here block at is =
    let own = of_map block_seen blocks index block at in
    ap (λ (b : BlockState). b.root.source) (ap block_seen (is ∙ (element blocks index own.own own.here).at here) ∙ own.same)
