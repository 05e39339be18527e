-- A store that was opened stands for the trees of its commit.
use Rattle.std.proofs.Common.{◌≡◌, ℕ, Bool, List, [], ◌∷◌, map, Option, None, Some, IfSome, option_map, refl, sym, ap, subst, ◌∙◌, append-nil}
use Rattle.std.specs.List.{flat_map}
use Rattle.commit_store.specs.Known.{StoreState}
use Rattle.commit_store.specs.Opened.{store_found}
use Rattle.commit_store.specs.Saying.{Found, IsGood, StoreCommit, entries_of, mapping_said}
use Rattle.flattener.specs.Block.{BlockState}
use Rattle.index_core.specs.Kept.{AreBlocks, HaveOwnIds, laid, made_by, numbers_in, segments_kept}
use Rattle.layout.proofs.Images.{live_items_as}
use Rattle.layout.specs.As.{layout_as, segment_as}
use Rattle.layout.specs.Ascending.{Ascend}
use Rattle.layout.specs.Layout.{SegmentOf, live_in, live_items}
use Rattle.machine.specs.State.{IsNumbered, State, empty_state}
use Rattle.mapping.specs.Mapping.{Mapping}
use Rattle.point_in_time.specs.Points.{no_points}
use Rattle.segment.specs.Live.{EntryState}
use Rattle.store_compact.specs.Compacting.{kept_of}
use Rattle.index_trees.specs.Content.{AreBlocksOf, IsContentOf, OpensTo}
use Rattle.index_trees.specs.Faithful.{AreFaithful, Indexed, PointsStandFor, block_in, tree_in}
use Rattle.index_trees.specs.Given.{IsOpenedAs, index_found, next_found, view_found}
use Rattle.index_trees.specs.Starting.{AreHeld, OpensIn, StartsFrom, layout_held, segments_held, state_found}
use Rattle.index_trees.proofs.Blocks.{blocks_of_trees}
use Rattle.index_trees.proofs.Numbers.{below_end, live_ascend, live_list}

-- ---- the blocks of entries that hold trees

blocks_held : (m : Mapping) (entries : List EntryState) (held : AreHeld m entries) → segments_kept entries ≡ map (segment_as (block_in m)) (segments_held m entries held)
blocks_held m [] held = refl
blocks_held m (entry ∷ entries) held = λ i. record { id = entry.id; items = held.0.blocks i } ∷ blocks_held m entries held.1 i

laid_held : (m : Mapping) (entries : List EntryState) (held : AreHeld m entries) → laid entries [] (made_by entries) ≡ layout_as (block_in m) (layout_held m entries held)
laid_held m entries held = λ i. record { segments = blocks_held m entries held i; buffer = []; merges = []; started = 0; made = made_by entries; factor = None }

live_held : (m : Mapping) (entries : List EntryState) (held : AreHeld m entries) → live_items (laid entries [] (made_by entries)) ≡ map (block_in m) (live_items (layout_held m entries held))
live_held m entries held = ap live_items (laid_held m entries held) ∙ live_items_as (block_in m) (layout_held m entries held)

-- ---- numbers

numbered_held : (m : Mapping) (entries : List EntryState) (held : AreHeld m entries) (made next : ℕ) → AreBlocks (laid entries [] made) next
    → IsNumbered (record { mapping = Some m; live = map (tree_in m) (live_items (layout_held m entries held)); next = next })
numbered_held m entries held made next are =
    let its = live_items (layout_held m entries held) in
    let segments = segments_held m entries held in
    let numbers : Ascend 0 (flat_map numbers_in (map (segment_as (block_in m)) segments)) next
    = subst (λ (it : List (SegmentOf BlockState)). Ascend 0 (flat_map numbers_in it) next) (blocks_held m entries held)
    (subst (λ (it : List ℕ). Ascend 0 it next) (append-nil (flat_map numbers_in (segments_kept entries))) are.ascending) in
    let ascend : Ascend 0 (map (λ (it : Indexed m). it.tree.number) its) next
    = subst (λ (it : List (Indexed m)). Ascend 0 (map (λ (own : Indexed m). own.tree.number) it) next) (sym (append-nil (flat_map live_in segments))) (live_ascend m segments 0 next numbers) in
    let own : HaveOwnIds (map (block_in m) its) = subst HaveOwnIds (live_held m entries held) are.ids in
    record { live = live_list m its 0 next ascend own; below = below_end m its 0 next ascend }

-- ---- the whole

abbrev Opens : ℕ → Option Mapping → ℕ → List EntryState → StoreState → State → Type 0
Opens objects mapping next view store start = AreFaithful mapping (index_found view next objects) start × PointsStandFor mapping no_points start.points × (start.kept ≡ kept_of store)

opens_none : (limit objects : ℕ) (closed : Bool) → Opens objects None 0 [] (store_found limit None closed) empty_state
opens_none limit objects closed =
    (record { mapped = refl; next = refl; stands = refl; laid = refl; numbered = record { live = tt; below = tt } }, (refl, refl), refl)

opens_some : (limit objects : ℕ) (closed : Bool) (c : StoreCommit) (held : AreHeld (mapping_said c.says) (entries_of c)) → IsGood limit c
    → Opens objects (Some (mapping_said c.says)) c.says.next (entries_of c) (store_found limit (Some c) closed) (state_found limit c held)
opens_some limit objects closed c held good =
    let m = mapping_said c.says in
    let layout = layout_held m (entries_of c) held in (
      record {
        mapped = refl;
        next = refl;
        stands = record { indexed = layout; trees = refl; blocks = laid_held m (entries_of c) held };
        laid = live_items_as (tree_in m) layout;
        numbered = numbered_held m (entries_of c) held _ c.says.next good.blocks;
      },
      record { opened = refl; each = tt },
      refl,
    )

abbrev mapping_found : Option StoreCommit → Option Mapping
mapping_found None = None
mapping_found (Some c) = Some (mapping_said c.says)

opens_found : (limit objects : ℕ) (closed : Bool) (found : Option StoreCommit) (start : State) → IfSome found (IsGood limit) → OpensIn limit found start
    → Opens objects (mapping_found found) (next_found found) (view_found found) (store_found limit found closed) start
opens_found limit objects closed None start good opens = subst (Opens objects None 0 [] (store_found limit None closed)) (sym opens) (opens_none limit objects closed)
opens_found limit objects closed (Some c) start good opens =
    subst (Opens objects (Some (mapping_said c.says)) c.says.next (entries_of c) (store_found limit (Some c) closed)) (sym opens.1) (opens_some limit objects closed c opens.0 good)

mapping_same : (found : Option StoreCommit) (mapping : Option Mapping) → mapping ≡ option_map (λ (c : StoreCommit). mapping_said c.says) found → mapping ≡ mapping_found found
mapping_same None mapping is = is
mapping_same (Some c) mapping is = is

pub faithful_is : (limit objects : ℕ) (found : Option StoreCommit) (store : StoreState) (mapping : Option Mapping) (next : ℕ) (view : List EntryState) (start : State)
    → IfSome found (IsGood limit) → IsOpenedAs limit found store mapping next view → OpensIn limit found start
    → AreFaithful mapping (index_found view next objects) start × PointsStandFor mapping no_points start.points × (start.kept ≡ kept_of store)
faithful_is limit objects found store mapping next view start good it opens =
    let whole = opens_found limit objects it.closed found start good opens in
    let first = subst (λ (own : Option Mapping). Opens objects own (next_found found) (view_found found) (store_found limit found it.closed) start) (sym (mapping_same found mapping it.mapping_is)) whole in
    let second = subst (λ (own : ℕ). Opens objects mapping own (view_found found) (store_found limit found it.closed) start) (sym it.next_is) first in
    let third = subst (λ (own : List EntryState). Opens objects mapping next own (store_found limit found it.closed) start) (sym it.view_is) second in
    subst (λ (own : StoreState). Opens objects mapping next view own start) (sym it.store_is) third

pub good_is : (limit : ℕ) (file : List ℕ) (found : Option StoreCommit) → Found limit file found → IfSome found (IsGood limit)
good_is limit file None holds = tt
good_is limit file (Some c) holds = holds.good

pub content_opened : (limit : ℕ) (found : Option StoreCommit) (start : State) → OpensIn limit found start → IsContentOf found start.content
content_opened limit None start opens = ap (λ (it : State). it.content) opens
content_opened limit (Some c) start opens =
    let m = mapping_said c.says in
    let its = live_items (layout_held m (entries_of c) opens.0) in
    subst (λ (it : State). IsContentOf (Some c) it.content) (sym opens.1)
    (record { mapping = refl; next = refl; live = subst (λ (blocks : List BlockState). AreBlocksOf blocks (map (tree_in m) its)) (sym (live_held m (entries_of c) opens.0)) (blocks_of_trees m its) })

pub starts_so : (limit : ℕ) (file : List ℕ) (start : State) → StartsFrom limit file start → OpensTo limit start.content file
starts_so limit file start is = record { found = is.found; holds = is.holds; is = content_opened limit is.found start is.opens }
