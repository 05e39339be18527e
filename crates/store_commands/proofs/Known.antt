-- What stays known: from layout to layout, and behind a commit.
use Rattle.std.proofs.Common.{◌≡◌, inl, inr, ℕ, ◌+◌, ◌<◌, ◌≤◌, max, nat_lt, Bool, cond, List, [], ◌∷◌, map, find, get_or, All, Contains, Option, None, Some, unwrap_or, refl, sym, ◌∙◌, ap, subst, arith, ltb-true, ltb-false}
use Rattle.std.specs.List.{AllByRecursion, AllZip}
use Rattle.std.proofs.lemmas.List.Elements.{All-contains, All-contains_itself, All-from_recursion, All-map, All-weaker, at_from_Contains, recursion_from_All}
use Rattle.std.proofs.lemmas.Option.{none-some}
use Rattle.flattener.specs.Block.{BlockState}
use Rattle.index_core.specs.Kept.{IndexState, laid, layout_kept, made_by, segment_kept, segments_kept}
use Rattle.layout.proofs.Goes.{split}
use Rattle.layout.proofs.Merging.{all_weaker}
use Rattle.layout.specs.Layout.{Layout, SegmentOf, item_in, sealed}
use Rattle.layout_ids.proofs.Keeping.{sealed_keeps}
use Rattle.layout_ids.specs.Ids.{HaveGivenIds, IsNewOr, KeepsItems}
use Rattle.segment.specs.Live.{EntryState}
use Rattle.segment_builder.specs.Blocks.{blocks_of}
use Rattle.segment_view.specs.Views.{HaveOwnIds}
use Rattle.commit_store.specs.declared.known.KnownSegment.{KnownSegment}
use Rattle.commit_store.specs.Known.{StoreState}
use Rattle.commit_store.specs.Preparing.{entry_or, has_id, known_as}
use Rattle.store_commands.specs.Commands.{AreKnown, HasBlocksOf}
use Rattle.store_compact.specs.Compacting.{IsKnownOf, IsUntried}
use Rattle.store_commands.specs.Ready.{HasItems}

-- ---- from layout to layout

abbrev Below : ℕ → KnownSegment → Type 0
Below made it = it.entry.id < made

abbrev Knows : List (SegmentOf BlockState) → KnownSegment → Type 0
Knows segments it = All (HasBlocksOf it) segments

module _ (before after : Layout BlockState) (keeps : KeepsItems before after) where
  same_blocks : (it : KnownSegment) → Below before.made it → Knows before.segments it → (segment : SegmentOf BlockState) → IsNewOr before segment → HasBlocksOf it segment
  same_blocks it below knows segment (inl new) = λ same. absurd (omega (arith, below, new, same))
  same_blocks it below knows segment (inr was) = λ same.
      sym was.items ∙ All-contains (HasBlocksOf it) before.segments was.before knows was.there (was.id ∙ same)

  still_knows : (known : List KnownSegment) → AllByRecursion (Below before.made) known → AllByRecursion (Knows before.segments) known → AllByRecursion (Knows after.segments) known
  still_knows [] below knows = tt
  still_knows (it ∷ known) below knows = (
    All-from_recursion (HasBlocksOf it) after.segments (all_weaker (IsNewOr before) (HasBlocksOf it) (same_blocks it below.0 knows.0) after.segments keeps.each),
    still_knows known below.1 knows.1,
  )

pub known_on : (before after : Layout BlockState) (known : List KnownSegment) → KeepsItems before after → AreKnown before known → AreKnown after known
known_on before after known keeps are =
    let below = recursion_from_All (Below before.made) known are.below in
    record {
      given = keeps.given are.given;
      below = All-from_recursion (Below after.made) known (all_weaker (Below before.made) (Below after.made) (λ it own. omega (arith, own, keeps.made)) known below);
      blocks = All-from_recursion (Knows after.segments) known (still_knows before after keeps known below (recursion_from_All (Knows before.segments) known are.blocks));
    }

-- the index is sealed
pub known_sealed : (index index' : IndexState) (known : List KnownSegment) → layout_kept index' ≡ sealed (layout_kept index) → AreKnown (layout_kept index) known → AreKnown (layout_kept index') known
known_sealed index index' known layout are =
    subst (λ (it : Layout BlockState). AreKnown it known) (sym layout) (known_on (layout_kept index) (sealed (layout_kept index)) known (sealed_keeps (layout_kept index)) are)

-- ---- a view that was opened

abbrev Under : ℕ → SegmentOf BlockState → Type 0
Under made segment = segment.id < made

first_most : (one other : ℕ) → one ≤ max one other
first_most one other = grind arith

second_most : (one other : ℕ) → other ≤ max one other
second_most one other = grind arith

pub opened_given : (view : List EntryState) → HaveGivenIds (laid view [] (made_by view))
opened_given [] = tt
opened_given (entry ∷ view) =
    let most = max (entry.id + 1) (made_by view) in (
      omega (arith, first_most (entry.id + 1) (made_by view)),
      all_weaker (Under (made_by view)) (Under most) (λ segment own. omega (arith, own, second_most (entry.id + 1) (made_by view))) (segments_kept view) (opened_given view),
    )

-- ---- behind a commit

-- entries with one id are one entry
one_of : (entries : List EntryState) (one other : EntryState) → HaveOwnIds entries → Contains entries one → Contains entries other → one.id ≡ other.id → one ≡ other
one_of entries one other own here there same =
    let at = at_from_Contains entries one here in
    let to = at_from_Contains entries other there in
    let ids : (i j : ℕ) → get_or entries i one ≡ one → get_or entries j one ≡ other → (get_or entries i one).id ≡ (get_or entries j one).id =
    λ i j a b. ap (λ (it : EntryState). it.id) a ∙ same ∙ ap (λ (it : EntryState). it.id) (sym b) in
    split (nat_lt at.0 to.0)
    (λ less. absurd (own at.0 to.0 one (ltb-true at.0 to.0 less) to.1 (ids at.0 to.0 (at.2 one) (to.2 one))))
    (λ notless. split (nat_lt to.0 at.0)
    (λ less. absurd (own to.0 at.0 one (ltb-true to.0 at.0 less) at.1 (sym (ids at.0 to.0 (at.2 one) (to.2 one)))))
    (λ isnt.
    let equal : at.0 ≡ to.0 = omega (arith, ltb-false at.0 to.0 notless, ltb-false to.0 at.0 isnt) in
    sym (at.2 one) ∙ ap (λ (k : ℕ). get_or entries k one) equal ∙ to.2 one))

found_holds : {X : Type 0} (P : X → Type 0) (test : X → Bool) (xs : List X) (x : X) → AllByRecursion P xs → find test xs ≡ Some x → P x
found_holds {X = X} P test [] x all found = absurd (none-some x found)
found_holds {X = X} P test (it ∷ xs) x all found =
    split (test it)
    (λ passes.
    let is : it ≡ x = ap (λ (one : Option X). unwrap_or one it) (ap (λ (b : Bool). cond b (Some it) (find test xs)) (sym passes) ∙ found) in
    subst P is all.0)
    (λ fails. found_holds P test xs x all.1 (ap (λ (b : Bool). cond b (Some it) (find test xs)) (sym fails) ∙ found))

-- what is so of a known segment, by its entry
record IsKnown (layout : Layout BlockState) (entry : EntryState) : Type 0 where
  below : entry.id < layout.made
  blocks : All (λ (segment : SegmentOf BlockState). segment.id ≡ entry.id → map item_in segment.items ≡ blocks_of entry.columns) layout.segments

module _ (index : IndexState) (own : HaveOwnIds index.entries) (items : All HasItems index.entries) (given : AllByRecursion (Under index.made) (segments_kept index.entries)) where
  abbrev HasBlocksAs : EntryState → SegmentOf BlockState → Type 0
  HasBlocksAs entry segment = segment.id ≡ entry.id → map item_in segment.items ≡ blocks_of entry.columns

  entries_under : (entries : List EntryState) → AllByRecursion (Under index.made) (segments_kept entries) → AllByRecursion (λ (entry : EntryState). entry.id < index.made) entries
  entries_under [] under = tt
  entries_under (entry ∷ entries) under = (under.0, entries_under entries under.1)

  known_new : (entry : EntryState) → Contains index.entries entry → IsKnown (layout_kept index) entry
  known_new entry there = record {
    below = All-contains (λ (it : EntryState). it.id < index.made) index.entries entry
        (All-from_recursion (λ (it : EntryState). it.id < index.made) index.entries (entries_under index.entries given)) there;
    blocks = All-map (HasBlocksAs entry) segment_kept index.entries
        (All-weaker (Contains index.entries) (λ (it : EntryState). HasBlocksAs entry (segment_kept it))
        (λ it here same.
        let is : it ≡ entry = one_of index.entries it entry own here there same in
        All-contains HasItems index.entries it items here ∙ ap (λ (one : EntryState). blocks_of one.columns) is)
        index.entries (All-contains_itself index.entries));
  }

  module _ (old : StoreState) (before : AllByRecursion (λ (it : KnownSegment). IsKnown (layout_kept index) it.entry) old.known) where
    known_one : (entry : EntryState) (it : KnownSegment) → Contains index.entries entry → (known : Option KnownSegment) → known_as old.known entry.id ≡ known → it.entry ≡ entry_or entry known → IsKnown (layout_kept index) it.entry
    known_one entry it there None none is = subst (IsKnown (layout_kept index)) (sym is) (known_new entry there)
    known_one entry it there (Some known) found is =
        subst (IsKnown (layout_kept index)) (sym is)
        (found_holds (λ (it : KnownSegment). IsKnown (layout_kept index) it.entry) (has_id entry.id) old.known known before found)

    known_each : (entries : List EntryState) (new : List KnownSegment) → AllByRecursion (Contains index.entries) entries → AllZip (IsKnownOf old) entries new
        → AllByRecursion (λ (it : KnownSegment). IsKnown (layout_kept index) it.entry) new
    known_each [] [] there zip = tt
    known_each [] (it ∷ new) there zip = absurd zip
    known_each (entry ∷ entries) [] there zip = absurd zip
    known_each (entry ∷ entries) (it ∷ new) there zip = (known_one entry it there.0 (known_as old.known entry.id) refl zip.0, known_each entries new there.1 zip.1)

each_known : (layout : Layout BlockState) (known : List KnownSegment) → AllByRecursion (Below layout.made) known → AllByRecursion (Knows layout.segments) known → AllByRecursion (λ (it : KnownSegment). IsKnown layout it.entry) known
each_known layout [] below blocks = tt
each_known layout (it ∷ known) below blocks = (record { below = below.0; blocks = blocks.0 }, each_known layout known below.1 blocks.1)

pub known_behind : (index : IndexState) (old new : StoreState) → HaveOwnIds index.entries → All HasItems index.entries → AllZip (IsKnownOf old) index.entries new.known → AreKnown (layout_kept index) old.known → AreKnown (layout_kept index) new.known
known_behind index old new own items zip are =
    let before = each_known (layout_kept index) old.known (recursion_from_All (Below index.made) old.known are.below) (recursion_from_All (Knows (layout_kept index).segments) old.known are.blocks) in
    let each = known_each index own items are.given old before index.entries new.known (recursion_from_All (Contains index.entries) index.entries (All-contains_itself index.entries)) zip in
    record {
      given = are.given;
      below = All-from_recursion (Below index.made) new.known (all_weaker (λ (it : KnownSegment). IsKnown (layout_kept index) it.entry) (Below index.made) (λ it known. known.below) new.known each);
      blocks = All-from_recursion (Knows (layout_kept index).segments) new.known (all_weaker (λ (it : KnownSegment). IsKnown (layout_kept index) it.entry) (Knows (layout_kept index).segments) (λ it known. known.blocks) new.known each);
    }

-- no generation was tried: the segments are known that were
pub known_untried : (layout : Layout BlockState) (old new : StoreState) → IsUntried old new → AreKnown layout old.known → AreKnown layout new.known
known_untried layout old new (inl same) are = subst (λ (it : StoreState). AreKnown layout it.known) (sym same) are
known_untried layout old new (inr closed) are = subst (λ (it : StoreState). AreKnown layout it.known) (sym closed) are

pub limit_untried : (old new : StoreState) → IsUntried old new → new.limit ≡ old.limit
limit_untried old new (inl same) = ap (λ (it : StoreState). it.limit) same
limit_untried old new (inr closed) = ap (λ (it : StoreState). it.limit) closed
