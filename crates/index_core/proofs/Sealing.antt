-- A segment that is made of the buffer has its blocks, all of them live.
use Rattle.std.proofs.Common.{◌≡◌, ◌≢◌, ℕ, ◌+◌, ◌<◌, Bool, List, [], ◌∷◌, ◌++◌, length, map, refl, sym, ap, ◌∙◌, append-nil, arith}
use Rattle.std.proofs.lemmas.List.{length-map, map-append}
use Rattle.std.proofs.lemmas.List.Elements.{All-append, All-cons, All-nil, All-weaker}
use Rattle.flattener.specs.Block.{BlockState}
use Rattle.flattener.specs.Fits.{SegmentFits}
use Rattle.flattener.specs.Seen.{block_seen}
use Rattle.flattener.specs.declared.document.Block.{Block}
use Rattle.layout.specs.Layout.{Layout, Marked, OpenMerge, SegmentOf, alive, segment_of, with_buffer_last}
use Rattle.layout.specs.Merges.{factor_of}
use Rattle.merge_jobs.specs.Open.{merges_in, merges_shown}
use Rattle.mapping.specs.Mapping.{Mapping}
use Rattle.segment.specs.Flat.{FlatRoot, flat_root, roots_of}
use Rattle.segment.specs.Live.{EntryState, IsLiveOver}
use Rattle.segment_parts.specs.declared.columns.Columns.{Columns}
use Rattle.segment_builder.specs.Blocks.{blocks_of, blocks_in, marked_by}
use Rattle.index_core.specs.Kept.{laid, segment_kept, segments_kept}
use Rattle.segment_view.specs.Views.{IsNewId}
use Rattle.index_core.specs.Found.{AreBelow, AreCounted, AreFit, BlocksState, IsWhole, layout_of, layout_ready, root_numbers}
use Rattle.index_core.specs.declared.ready.Ready.{Ready}

map_twice : {A B C : Type 0} (f : B → C) (g : A → B) (xs : List A) → map f (map g xs) ≡ map (λ x. f (g x)) xs
map_twice f g [] = refl
map_twice f g (x ∷ xs) = ap (λ rest. f (g x) ∷ rest) (map_twice f g xs)

-- the numbers of the blocks are those of the roots
pub numbers_same : (columns : Columns) → map (λ (block : BlockState). block.root) (blocks_of columns) ≡ roots_of columns → map (λ (block : BlockState). block.root.number) (blocks_of columns) ≡ root_numbers columns
numbers_same columns roots =
    sym (map_twice (λ (root : FlatRoot). root.number) (λ (block : BlockState). block.root) (blocks_of columns))
    ∙ ap (map (λ (root : FlatRoot). root.number)) roots
    ∙ map_twice (λ (root : FlatRoot). root.number) flat_root columns.roots

marked_numbers : (blocks : List BlockState) (marks : List Bool) → length blocks ≡ length marks → map (λ (m : Marked BlockState). m.item.root.number) (marked_by blocks marks) ≡ map (λ (block : BlockState). block.root.number) blocks
marked_numbers [] marks long = refl
marked_numbers (block ∷ blocks) [] long = absurd (omega (arith, long))
marked_numbers (block ∷ blocks) (mark ∷ marks) long = ap (λ rest. block.root.number ∷ rest) (marked_numbers blocks marks (omega (arith, long)))

pub whole_entry : (entry : EntryState) → map (λ (block : BlockState). block.root) (blocks_of entry.columns) ≡ roots_of entry.columns → IsLiveOver entry.columns entry.live → 0 < length entry.columns.roots → AreCounted entry.columns → IsWhole entry
whole_entry entry roots over some counted = record {
  some = some;
  numbers =
      marked_numbers (blocks_of entry.columns) entry.live.roots
      (omega (arith, ap length roots, length-map (blocks_of entry.columns) (λ (block : BlockState). block.root), length-map entry.columns.roots flat_root, over.roots))
      ∙ numbers_same entry.columns roots;
  counted = counted;
}

-- ---- the layout

-- the blocks of the buffer are the last segment: there were none
pub last_none : (entries : List EntryState) (buffer : List BlockState) (made : ℕ) → buffer ≡ [] → laid entries [] made ≡ with_buffer_last (laid entries buffer made)
last_none entries buffer made none =
    let more : made + 0 ≡ made = omega arith in
    rw (none, append-nil (segments_kept entries), more) refl

-- or there were some
pub last_some : (entries now : List EntryState) (buffer : List BlockState) (made next : ℕ) (entry : EntryState) → 0 < length buffer → now ≡ entries ++ entry ∷ [] → next ≡ made + 1 → entry.id ≡ made → blocks_in entry ≡ map alive buffer
    → laid now [] next ≡ with_buffer_last (laid entries buffer made)
last_some entries now buffer made next entry some put more id items =
    let segments : segments_kept now ≡ segments_kept entries ++ segment_of made buffer = last_segments buffer some items in
    let one : made + length (segment_of made buffer) ≡ made + 1 = ap (λ n. made + n) (one_made buffer some) in
    rw (segments, more, one) refl
  where
    one_made : (blocks : List BlockState) → 0 < length blocks → length (segment_of made blocks) ≡ 1
    one_made [] h = absurd (omega (arith, h))
    one_made (block ∷ blocks) h = refl

    last_segments : (blocks : List BlockState) → 0 < length blocks → blocks_in entry ≡ map alive blocks → segments_kept now ≡ segments_kept entries ++ segment_of made blocks
    last_segments [] h its = absurd (omega (arith, h))
    last_segments (block ∷ blocks) h its =
        ap segments_kept put ∙ map-append segment_kept entries (entry ∷ [])
        ∙ ap (λ (n : ℕ). segments_kept entries ++ (let s : SegmentOf BlockState = record { id = n; items = blocks_in entry } in s) ∷ []) id
        ∙ ap (λ (ms : List (Marked BlockState)). segments_kept entries ++ (let s : SegmentOf BlockState = record { id = made; items = ms } in s) ∷ []) its

-- the same beside open merges, of what sealing makes
pub last_ready : (it : BlocksState) (ready : Ready) → laid ready.view [] ready.made ≡ with_buffer_last (laid it.entries it.buffer it.made) → merges_shown ready.merges.items ≡ merges_in it.jobs → layout_ready ready it.started it.factor ≡ with_buffer_last (layout_of it)
last_ready it ready last merges =
    ap (λ (l : Layout BlockState). let s : Layout BlockState = record l { merges = merges_shown ready.merges.items; started = it.started; factor = factor_of it.factor } in s) last
    ∙ ap (λ (ms : List OpenMerge). let s : Layout BlockState = record (with_buffer_last (layout_of it)) { merges = ms } in s) merges

-- and of what it leaves
pub last_layout : (it : BlocksState) (entries : List EntryState) (buffer : List BlockState) (made spare : ℕ) → laid entries [] made ≡ with_buffer_last (laid it.entries it.buffer it.made) → buffer ≡ []
    → layout_of (record it { entries = entries; buffer = buffer; made = made; spare = spare }) ≡ with_buffer_last (layout_of it)
last_layout it entries buffer made spare last none =
    ap (λ (bs : List BlockState). let s : Layout BlockState = record (layout_of it) { segments = segments_kept entries; buffer = bs; made = made } in s) none
    ∙ ap (λ (l : Layout BlockState). let s : Layout BlockState = record l { merges = merges_in it.jobs; started = it.started; factor = factor_of it.factor } in s) last

pub below_more : (entries now : List EntryState) (made next : ℕ) (entry : EntryState) → AreBelow made entries → now ≡ entries ++ entry ∷ [] → next ≡ made + 1 → entry.id ≡ made → IsWhole entry → AreBelow next now
below_more entries now made next entry below put more id whole =
    rw (put, more) (record {
      ids = All-append (λ (e : EntryState). e.id < made + 1) entries (entry ∷ []) (All-weaker (λ (e : EntryState). e.id < made) (λ (e : EntryState). e.id < made + 1) (λ e less. omega (arith, less)) entries below.ids)
          (All-cons (λ (e : EntryState). e.id < made + 1) entry [] (omega (arith, id)) (All-nil (λ (e : EntryState). e.id < made + 1)));
      whole = All-append (λ (e : EntryState). IsWhole e) entries (entry ∷ []) below.whole (All-cons (λ (e : EntryState). IsWhole e) entry [] whole (All-nil (λ (e : EntryState). IsWhole e)));
    })

-- segments that fit, and one more
pub fit_more : (m : Mapping) (entries now : List EntryState) (entry : EntryState) → now ≡ entries ++ entry ∷ [] → SegmentFits m entry.columns → AreFit m entries → AreFit m now
fit_more m entries now entry put fits fit =
    rw put (All-append (λ (e : EntryState). SegmentFits m e.columns) entries (entry ∷ []) fit (All-cons (λ (e : EntryState). SegmentFits m e.columns) entry [] fits (All-nil (λ (e : EntryState). SegmentFits m e.columns))))

-- an id that is new
pub new_id : (entries : List EntryState) (made id : ℕ) → AreBelow made entries → id ≡ made → IsNewId entries id
new_id entries made id below is = All-weaker (λ (e : EntryState). e.id < made) (λ (e : EntryState). e.id ≢ id) (λ e less same. omega (arith, less, same, is)) entries below.ids

pub no_blocks : (blocks : List Block) → length blocks ≡ 0 → map block_seen blocks ≡ []
no_blocks [] none = refl
no_blocks (block ∷ blocks) none = absurd (omega (arith, none))
