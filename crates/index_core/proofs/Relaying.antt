-- What merge calls leave of entries, open merges and their layout.
use Rattle.std.proofs.Common.{◌≡◌, inl, inr, ℕ, zero, suc, ◌+◌, ◌-◌, ◌==◌, ◌<◌, ◌≤◌, nat_le, Bool, true, false, cond, List, [], ◌∷◌, ◌++◌, length, map, filter, take, drop, Contains, Option, Some, None, IsSome, IfSome, refl, sym, ap, subst, ◌∙◌, arith, eqb-true}
use Rattle.std.specs.List.{All, AllByRecursion, find, flat_map, take-map, drop-map}
use Rattle.std.specs.Option.{option_map}
use Rattle.std.proofs.lemmas.List.{length-append, length-drop, length-map, length-take, map-append}
use Rattle.std.proofs.lemmas.List.Elements.{All-contains_itself, All-cons, All-nil, All-weaker}
use Rattle.std.proofs.lemmas.List.Sums.{sum_by-append}
use Rattle.flattener.specs.Block.{BlockState}
use Rattle.layout.proofs.Goes.{split}
use Rattle.layout.proofs.Keeps.{remade_keeps, sealed_keeps}
use Rattle.layout.proofs.Merging.{AreDistinct, IsClear, all_both, all_filter, all_weaker, ranges_of, settled_by, shifted_open, shifted_ranges}
use Rattle.layout.proofs.Settling.{sealed_after}
use Rattle.layout.specs.Layout.{Layout, OpenMerge, live_in, live_items, live_of_range, remade, sealed, segment_of, settled, shifted, with_buffer_last}
use Rattle.layout.specs.Merges.{AreOpen, IsWithin, advanced_if, closed, factor_of, finish_fault, finished, has_merge_id, is_other, left_fault, merge_named, not_done, shares, start_fault, step_fault, unknown, unknown_fault}
use Rattle.merge_jobs.specs.Job.{IsLater, live_in_all, segment_kept, segments_kept}
use Rattle.merge_jobs.specs.Open.{OpenState, is_named, is_other_than, merge_in, merges_in, merges_shown, parts_in, placeless, with_merge}
use Rattle.segment.specs.Live.{EntryState}
use Rattle.segment_builder.specs.Blocks.{block_objects, live_blocks, objects_of}
use Rattle.segment_view.specs.Views.{HaveOwnIds, replaced}
use Rattle.view_merge.specs.Given.{IsKeptOrMade, segments_of}
use Rattle.index_core.specs.Found.{AreBelow, AreKept, AreOpenOf, BlocksState, ComesLater, HasJob, IsJobOver, IsLaterOf, IsRelaid, IsWhole, entry_id, layout_of, layout_ready, live_blocks as all_live}
use Rattle.index_core.specs.Kept.{AreBlocks, block_number, most_factor, most_made}
use Rattle.index_core.specs.declared.ready.Ready.{Ready}
use Rattle.index_core.proofs.Changing.{merges_blocks, remade_blocks, sealed_blocks}
use Rattle.index_core.proofs.Jobs.{IsItself, all_drop, all_take, are_later, each, have_ids, over_moved, own_ids, own_same}
use Rattle.index_core.proofs.Opened.{advanced_place, closed_open, none_clear, others_clear, same_open, start_open, started_so}

-- ---- lists of merges

pub opened_of : (it : BlocksState) → HaveOwnIds it.entries → AreKept it.made it.started it.factor it.entries it.jobs → AreOpenOf (layout_of it)
opened_of it own kept = record {
  open_are = subst (λ n. AreOpen n it.started (merges_in it.jobs)) (sym (length-map it.entries segment_kept)) kept.open_are;
  ids = have_ids it.made it.entries own kept.below.ids;
}

pub merges_changed : (f : OpenMerge → OpenMerge) (jobs : List OpenState) → merges_in (map (with_merge f) jobs) ≡ map f (merges_in jobs)
merges_changed f [] = refl
merges_changed f (job ∷ jobs) = ap (λ ms. f job.merge ∷ ms) (merges_changed f jobs)

pub parts_changed : (f : OpenMerge → OpenMerge) (jobs : List OpenState) → map parts_in (map (with_merge f) jobs) ≡ map parts_in jobs
parts_changed f [] = refl
parts_changed f (job ∷ jobs) = ap (λ ps. job.parts ∷ ps) (parts_changed f jobs)

pub merges_without : (id : ℕ) (jobs : List OpenState) → merges_in (filter (is_other_than id) jobs) ≡ filter (is_other id) (merges_in jobs)
merges_without id [] = refl
merges_without id (job ∷ jobs) = split (is_other_than id job) (λ stays. rw stays (ap (λ ms. job.merge ∷ ms) (merges_without id jobs))) (λ goes. rw goes (merges_without id jobs))

pub named_merge : (id : ℕ) (jobs : List OpenState) → find (has_merge_id id) (merges_in jobs) ≡ option_map merge_in (find (is_named id) jobs)
named_merge id [] = refl
named_merge id (job ∷ jobs) = split (is_named id job) (λ is. rw is refl) (λ isnt. rw isnt (named_merge id jobs))

-- a job whose merge is named
pub record IsNamed (id : ℕ) (jobs : List OpenState) (merge : OpenMerge) : Type 0 where
  pub job : OpenState
  pub found : find (is_named id) jobs ≡ Some job
  pub merge_is : job.merge ≡ merge

pub job_of : (id : ℕ) (jobs : List OpenState) (merge : OpenMerge) → find (has_merge_id id) (merges_in jobs) ≡ Some merge → IsNamed id jobs merge
job_of id jobs merge found = at (find (is_named id) jobs) refl (sym (named_merge id jobs) ∙ found)
  where
    some_is : (x y : OpenMerge) → Some x ≡ Some y → x ≡ y
    some_is x y e = cc (e)

    at : (o : Option OpenState) → find (is_named id) jobs ≡ o → option_map merge_in o ≡ Some merge → IsNamed id jobs merge
    at None e m = absurd (cc (m))
    at (Some job) e m = record { job = job; found = e; merge_is = some_is job.merge merge m }

pub some_named : (id : ℕ) (jobs : List OpenState) → unknown_fault (find (has_merge_id id) (merges_in jobs)) ≡ None → IsSome (find (is_named id) jobs)
some_named id jobs none = at (find (is_named id) jobs) (sym (ap unknown_fault (named_merge id jobs)) ∙ none)
  where
    at : (o : Option OpenState) → unknown_fault (option_map merge_in o) ≡ None → IsSome o
    at None e = absurd (cc (e))
    at (Some job) e = refl

shifted_placeless : (from count by : ℕ) (ms : List OpenMerge) → map placeless (map (shifted from count by) ms) ≡ map placeless ms
shifted_placeless from count by [] = refl
shifted_placeless from count by (m ∷ ms) = rw (one m, shifted_placeless from count by ms) refl
  where
    one : (n : OpenMerge) → placeless (shifted from count by n) ≡ placeless n
    one n = elim (nat_le (from + count) n.from) as (λ b. placeless (cond b (record n { from = n.from - count + by }) n) ≡ placeless n) [
      | true ↦ refl
      | false ↦ refl
    ]

settled_placeless : {A : Type 0} (factor : Option ℕ) (layout : Layout A) → map placeless (settled factor layout).merges ≡ map placeless layout.merges
settled_placeless factor layout =
    settled_by (λ l. map placeless l.merges ≡ map placeless layout.merges) (λ from count l p some there free. shifted_placeless from count _ l.merges ∙ p) factor layout refl

-- sealing leaves all of an open merge but its place
pub sealed_placeless : {A : Type 0} (layout : Layout A) → map placeless (sealed layout).merges ≡ map placeless layout.merges
unfolding sealed
sealed_placeless layout = settled_placeless layout.factor (with_buffer_last layout)

-- ---- ranges of entries

live_each : (entries : List EntryState) → flat_map live_in (segments_kept entries) ≡ live_in_all entries
live_each [] = refl
live_each (entry ∷ entries) = ap (λ bs. live_blocks entry ++ bs) (live_each entries)

pub live_range : (from count : ℕ) (entries : List EntryState) → flat_map live_in (take count (drop from (segments_kept entries))) ≡ live_in_all (take count (drop from entries))
live_range from count entries =
    ap (λ xs. flat_map live_in (take count xs)) (drop-map segment_kept from entries)
    ∙ ap (flat_map live_in) (take-map segment_kept count (drop from entries))
    ∙ live_each (take count (drop from entries))

objects_both : (one two : List BlockState) → objects_of (one ++ two) ≡ objects_of one + objects_of two
objects_both one two = sum_by-append block_objects one two

few_prefix : (n : ℕ) (entries : List EntryState) → objects_of (live_in_all (take n entries)) ≤ objects_of (live_in_all entries)
few_prefix zero entries = omega arith
few_prefix (suc n) [] = omega arith
few_prefix (suc n) (entry ∷ entries) =
    omega (arith, few_prefix n entries, objects_both (live_blocks entry) (live_in_all (take n entries)), objects_both (live_blocks entry) (live_in_all entries))

few_rest : (n : ℕ) (entries : List EntryState) → objects_of (live_in_all (drop n entries)) ≤ objects_of (live_in_all entries)
few_rest zero entries = omega arith
few_rest (suc n) [] = omega arith
few_rest (suc n) (entry ∷ entries) = omega (arith, few_rest n entries, objects_both (live_blocks entry) (live_in_all entries))

pub few_entries : (entries : List EntryState) (buffer : List BlockState) → objects_of (live_in_all entries) ≤ objects_of (all_live entries buffer)
few_entries entries buffer = omega (arith, ap objects_of (live_each entries), objects_both (flat_map live_in (segments_kept entries)) buffer)

-- a range has no more objects than all
pub few_range : (from count : ℕ) (entries : List EntryState) (buffer : List BlockState) → objects_of (live_in_all (take count (drop from entries))) ≤ objects_of (all_live entries buffer)
few_range from count entries buffer = omega (arith, few_prefix count (drop from entries), few_rest from entries, few_entries entries buffer)

-- ---- sealing

-- what is so of entries and merges is so of those that sealing leaves
pub sealed_kept : (it now : BlocksState) (next : ℕ) → AreOpenOf (layout_of it) → AreBlocks (layout_of it) next → AreKept it.made it.started it.factor it.entries it.jobs
    → layout_of now ≡ sealed (layout_of it) → AreBelow now.made now.entries → All (IsKeptOrMade it.entries it.made) now.entries → map parts_in now.jobs ≡ map parts_in it.jobs → AreKept now.made now.started it.factor now.entries now.jobs
sealed_kept it now next open_is blocks kept is below entries parts =
    let after = sealed_after block_number next (layout_of it) (record { open_are = open_is.open_are; ids = open_is.ids; ascending = blocks.ascending }) in
    let open_now : AreOpen (length (segments_kept now.entries)) now.started (merges_in now.jobs) =
    subst (λ (l : Layout BlockState). AreOpen (length l.segments) l.started l.merges) (sym is) after.sound.open_are in
    let ranges : ranges_of (segments_kept now.entries) (merges_in now.jobs) ≡ ranges_of (segments_kept it.entries) (merges_in it.jobs) =
    ap (λ (l : Layout BlockState). ranges_of l.segments l.merges) is ∙ after.ranges in
    record {
      below = below;
      open_are = subst (λ n. AreOpen n now.started (merges_in now.jobs)) (length-map now.entries segment_kept) open_now;
      over = over_moved it.made it.entries now.entries it.jobs now.jobs kept.below.ids entries parts ranges kept.over;
      factor_is = kept.factor_is;
    }

pub taken_layout : (it now : BlocksState) (ready : Ready) → now.entries ≡ ready.view → now.buffer ≡ [] → now.made ≡ ready.made → merges_in now.jobs ≡ merges_shown ready.merges.items → now.started ≡ it.started → now.factor ≡ it.factor
    → layout_of now ≡ layout_ready ready it.started it.factor
taken_layout it now ready entries buffer made merges started factor = rw (entries, buffer, made, merges, started, factor) refl

-- and so of what it made first
pub taken_kept : (it : BlocksState) (ready : Ready) (jobs : List OpenState) (next : ℕ) → AreOpenOf (layout_of it) → AreBlocks (layout_of it) next → AreKept it.made it.started it.factor it.entries it.jobs
    → layout_ready ready it.started it.factor ≡ sealed (layout_of it) → AreBelow ready.made ready.view → All (IsKeptOrMade it.entries it.made) ready.view
    → merges_in jobs ≡ merges_shown ready.merges.items → map parts_in jobs ≡ map parts_in it.jobs → AreKept ready.made it.started it.factor ready.view jobs
taken_kept it ready jobs next open_is blocks kept is below entries merges parts =
    let now : BlocksState = record it { entries = ready.view; buffer = []; made = ready.made; jobs = jobs } in
    sealed_kept it now next open_is blocks kept (taken_layout it now ready refl refl refl merges refl refl ∙ is) below entries parts

pub sealed_relaid : (it now : BlocksState) → AreOpenOf (layout_of it) → now.made < most_made → layout_of now ≡ sealed (layout_of it) → IsRelaid it now
sealed_relaid it now open_is made is = record {
  blocks = λ next are. subst (λ (l : Layout BlockState). AreBlocks l next) (sym is) (sealed_blocks (layout_of it) next open_is (omega (arith, made, ap (λ (l : Layout BlockState). l.made) is)) are);
  live = ap live_items is ∙ sealed_keeps (layout_of it);
}

-- ---- other merges beside the same entries

pub same_relaid : (it now : BlocksState) → now.entries ≡ it.entries → now.buffer ≡ it.buffer → now.made ≡ it.made → IsRelaid it now
same_relaid it now entries buffer made = record {
  blocks = λ next are. record {
    ascending = rw (entries, buffer) are.ascending;
    ids = rw (entries, buffer) are.ids;
    few = rw (entries, buffer) are.few;
    buffer = rw buffer are.buffer;
    made = rw made are.made;
  };
  live = rw (entries, buffer) refl;
}

own_later : (entries : List EntryState) → AreDistinct (map entry_id entries) → AllByRecursion (ComesLater entries) entries
own_later entries distinct =
    all_weaker (λ (part : EntryState). AllByRecursion (IsItself part) entries) (ComesLater entries)
    (λ part own. all_weaker (IsItself part) (IsLaterOf part) (λ entry itself same. subst (IsLater part) (sym (itself same)) (record { id = refl; columns = refl; live = λ root is. is })) entries own)
    entries (own_same entries distinct)

pub started_kept : (it : BlocksState) (from count left : ℕ) (job : OpenState) → HaveOwnIds it.entries → AreKept it.made it.started it.factor it.entries it.jobs → start_fault from count (layout_of it) ≡ None
    → job ≡ record { merge = record { id = it.started + 1; from = from; count = count; left = left }; parts = take count (drop from it.entries) } → AreKept it.made (it.started + 1) it.factor it.entries (it.jobs ++ job ∷ [])
started_kept it from count left job own kept none is =
    let start = started_so from count (layout_of it) none in
    let open_is = opened_of it own kept in
    let open_now = start_open from count left (layout_of it) start open_is.open_are in
    let new : OpenState = record { merge = record { id = it.started + 1; from = from; count = count; left = left }; parts = take count (drop from it.entries) } in
    let over : IsJobOver it.entries (record { merge = record { id = it.started + 1; from = from; count = count; left = left }; parts = take count (drop from it.entries) }) = record {
      ids = refl;
      later = all_take (ComesLater it.entries) count (drop from it.entries) (all_drop (ComesLater it.entries) from it.entries (own_later it.entries (own_ids it.entries own)));
    } in
    rw is (record {
      below = kept.below;
      open_are = subst (λ ms. AreOpen (length it.entries) (it.started + 1) ms) (sym (map-append merge_in it.jobs (new ∷ []))) (subst (λ n. AreOpen n (it.started + 1) (merges_in it.jobs ++ new.merge ∷ [])) (length-map it.entries segment_kept) open_now);
      over = all_both (IsJobOver it.entries) it.jobs (new ∷ []) kept.over (over, tt);
      factor_is = kept.factor_is;
    })

pub advanced_kept : (it : BlocksState) (id roots : ℕ) → AreKept it.made it.started it.factor it.entries it.jobs → AreKept it.made it.started it.factor it.entries (map (with_merge (advanced_if id roots)) it.jobs)
advanced_kept it id roots kept = record {
  below = kept.below;
  open_are = subst (λ ms. AreOpen (length it.entries) it.started ms) (sym (merges_changed (advanced_if id roots) it.jobs)) (same_open (advanced_if id roots) (advanced_place id roots) (length it.entries) it.started (merges_in it.jobs) kept.open_are);
  over = still it.jobs kept.over;
  factor_is = kept.factor_is;
}
  where
    still : (jobs : List OpenState) → AllByRecursion (IsJobOver it.entries) jobs → AllByRecursion (IsJobOver it.entries) (map (with_merge (advanced_if id roots)) jobs)
    still [] over = tt
    still (job ∷ jobs) over =
        let place = advanced_place id roots job.merge in
        (record { ids = over.0.ids ∙ ap (λ n. map entry_id (take n (drop job.merge.from it.entries))) (sym place.count) ∙ ap (λ n. map entry_id (take (advanced_if id roots job.merge).count (drop n it.entries))) (sym place.from); later = over.0.later }, still jobs over.1)

pub closed_kept : (it : BlocksState) (id : ℕ) → AreKept it.made it.started it.factor it.entries it.jobs → AreKept it.made it.started it.factor it.entries (filter (is_other_than id) it.jobs)
closed_kept it id kept = record {
  below = kept.below;
  open_are = subst (λ ms. AreOpen (length it.entries) it.started ms) (sym (merges_without id it.jobs)) (closed_open id (length it.entries) it.started (merges_in it.jobs) kept.open_are);
  over = all_filter (IsJobOver it.entries) (is_other_than id) it.jobs kept.over;
  factor_is = kept.factor_is;
}

-- ---- a range of entries gives way

abbrev entries_by : Option EntryState → List EntryState
entries_by None = []
entries_by (Some entry) = entry ∷ []

replaced_is : (from count : ℕ) (by : Option EntryState) (entries : List EntryState) → replaced from count by entries ≡ take from entries ++ (entries_by by ++ drop (from + count) entries)
replaced_is from count None entries = refl
replaced_is from count (Some entry) entries = refl

segments_by : (by : Option EntryState) → segments_kept (entries_by by) ≡ segments_of by
segments_by None = refl
segments_by (Some entry) = refl

-- the segments of entries of which a range gave way
pub replaced_segments : (from count : ℕ) (by : Option EntryState) (entries : List EntryState) → segments_kept (replaced from count by entries) ≡ take from (segments_kept entries) ++ (segments_of by ++ drop (from + count) (segments_kept entries))
replaced_segments from count by entries =
    ap segments_kept (replaced_is from count by entries)
    ∙ map-append segment_kept (take from entries) (entries_by by ++ drop (from + count) entries)
    ∙ ap (λ xs. segments_kept (take from entries) ++ xs) (map-append segment_kept (entries_by by) (drop (from + count) entries))
    ∙ ap (λ xs. xs ++ (segments_kept (entries_by by) ++ segments_kept (drop (from + count) entries))) (sym (take-map segment_kept from entries))
    ∙ ap (λ xs. take from (segments_kept entries) ++ (segments_kept (entries_by by) ++ xs)) (sym (drop-map segment_kept (from + count) entries))
    ∙ ap (λ xs. take from (segments_kept entries) ++ (xs ++ drop (from + count) (segments_kept entries))) (segments_by by)

-- what holds of some entries and of those that come holds afterwards
pub all_replaced : (P : EntryState → Type 0) (from count : ℕ) (by : Option EntryState) (entries : List EntryState) → AllByRecursion P entries → IfSome by P → AllByRecursion P (replaced from count by entries)
all_replaced P from count by entries all new =
    subst (AllByRecursion P) (sym (replaced_is from count by entries))
    (all_both P (take from entries) (entries_by by ++ drop (from + count) entries) (all_take P from entries all) (all_both P (entries_by by) (drop (from + count) entries) (some by new) (all_drop P (from + count) entries all)))
  where
    some : (o : Option EntryState) → IfSome o P → AllByRecursion P (entries_by o)
    some None h = tt
    some (Some entry) h = (h, tt)

pub all_index : {A : Type 0} (P : A → Type 0) (xs : List A) → AllByRecursion P xs → All P xs
all_index P [] all = All-nil P
all_index P (x ∷ xs) all = All-cons P x xs all.0 (all_index P xs all.1)

-- entries are kept
pub all_kept : (made : ℕ) (entries : List EntryState) → All (IsKeptOrMade entries made) entries
all_kept made entries = All-weaker (Contains entries) (IsKeptOrMade entries made) (λ e here. inl here) entries (All-contains_itself entries)

-- what a range of entries that gives way asks: none of the other merges has a segment of it, and what comes is whole
pub record IsGiven (it : BlocksState) (from count : ℕ) (by : Option EntryState) (jobs : List OpenState) : Type 0 where
  pub within : from + count ≤ length it.entries
  pub id : IfSome by (λ entry. entry.id ≡ it.made)
  pub whole : IfSome by IsWhole
  pub clear : AllByRecursion (IsClear from count) (merges_in jobs)
  pub open_are : AreOpen (length it.entries) it.started (merges_in jobs)
  pub over : AllByRecursion (IsJobOver it.entries) jobs
  pub segments : segments_of by ≡ segment_of it.made (live_in_all (take count (drop from it.entries)))

-- a merge moves behind what gave way
pub given_kept : (it : BlocksState) (from count : ℕ) (by : Option EntryState) (jobs : List OpenState) → AreBelow it.made it.entries → it.factor ≤ most_factor → IsGiven it from count by jobs
    → AreKept (it.made + length (segments_of by)) it.started it.factor (replaced from count by it.entries) (map (with_merge (shifted from count (length (segments_of by)))) jobs)
given_kept it from count by jobs below factor given =
    let more = it.made + length (segments_of by) in
    let now = replaced from count by it.entries in
    let shift = shifted from count (length (segments_of by)) in
    let ids = each (λ (e : EntryState). e.id < it.made) it.entries below.ids in
    let ids_now : AllByRecursion (λ (e : EntryState). e.id < more) now = all_replaced (λ (e : EntryState). e.id < more) from count by it.entries (all_weaker (λ (e : EntryState). e.id < it.made) (λ (e : EntryState). e.id < more) (λ e less. omega (arith, less)) it.entries ids) (new_id by given.id) in
    let whole_now = all_replaced IsWhole from count by it.entries (each IsWhole it.entries below.whole) given.whole in
    let kept : AllByRecursion (IsKeptOrMade it.entries it.made) now = all_replaced (IsKeptOrMade it.entries it.made) from count by it.entries (each (IsKeptOrMade it.entries it.made) it.entries (all_kept it.made it.entries)) (new_made by given.id) in
    let long : length now ≡ length it.entries - count + length (segments_of by) = long_now in
    let ranges : ranges_of (segments_kept now) (merges_in (map (with_merge shift) jobs)) ≡ ranges_of (segments_kept it.entries) (merges_in jobs) =
    ap (λ ms. ranges_of (segments_kept now) ms) (merges_changed shift jobs)
    ∙ ap (λ xs. ranges_of xs (map shift (merges_in jobs))) (replaced_segments from count by it.entries)
    ∙ shifted_ranges from count (segments_kept it.entries) (segments_of by) (merges_in jobs) (length it.entries) (omega (arith, given.within, length-map it.entries segment_kept)) given.clear given.open_are.within in
    record {
      below = record { ids = all_index (λ (e : EntryState). e.id < more) now ids_now; whole = all_index IsWhole now whole_now };
      open_are = subst (λ ms. AreOpen (length now) it.started ms) (sym (merges_changed shift jobs))
          (subst (λ n. AreOpen n it.started (map shift (merges_in jobs))) (sym long) (shifted_open from count (length (segments_of by)) (length it.entries) it.started (merges_in jobs) given.within given.clear given.open_are));
      over = over_moved it.made it.entries now jobs (map (with_merge shift) jobs) below.ids (all_index (IsKeptOrMade it.entries it.made) now kept) (parts_changed shift jobs) ranges given.over;
      factor_is = factor;
    }
  where
    new_id : (o : Option EntryState) → IfSome o (λ entry. entry.id ≡ it.made) → IfSome o (λ entry. entry.id < it.made + length (segments_of o))
    new_id None h = tt
    new_id (Some entry) h = omega (arith, h)

    new_made : (o : Option EntryState) → IfSome o (λ entry. entry.id ≡ it.made) → IfSome o (IsKeptOrMade it.entries it.made)
    new_made None h = tt
    new_made (Some entry) h = inr (omega (arith, h))

    long_by : (o : Option EntryState) → length (entries_by o) ≡ length (segments_of o)
    long_by None = refl
    long_by (Some entry) = refl

    long_now : length (replaced from count by it.entries) ≡ length it.entries - count + length (segments_of by)
    long_now =
        omega (
          arith,
          ap length (replaced_is from count by it.entries),
          length-append (take from it.entries) (entries_by by ++ drop (from + count) it.entries),
          length-append (entries_by by) (drop (from + count) it.entries),
          length-take from it.entries,
          length-drop (from + count) it.entries,
          long_by by,
          given.within,
        )

-- the layout afterwards
pub given_layout : (it : BlocksState) (from count : ℕ) (by : Option EntryState) (jobs : List OpenState) → IsGiven it from count by jobs
    → layout_of (record it { entries = replaced from count by it.entries; made = it.made + length (segments_of by); jobs = map (with_merge (shifted from count (length (segments_of by)))) jobs }) ≡ remade from count (layout_of (record it { jobs = jobs }))
given_layout it from count by jobs given =
    let new : segments_of by ≡ segment_of it.made (live_of_range from count (layout_of it)) = given.segments ∙ ap (segment_of it.made) (sym (live_range from count it.entries)) in
    rw (replaced_segments from count by it.entries, merges_changed (shifted from count (length (segments_of by))) jobs, new) refl

-- ---- a merge is finished

found_all : {A : Type 0} (P : A → Type 0) (test : A → Bool) (xs : List A) (x : A) → find test xs ≡ Some x → AllByRecursion P xs → P x
found_all P test [] x found all = absurd (cc (found))
found_all P test (y ∷ xs) x found all =
    split (test y)
    (λ is. subst P (same (sym (stops is) ∙ found)) all.0)
    (λ isnt. found_all P test xs x (sym (goes isnt) ∙ found) all.1)
  where
    same : Some y ≡ Some x → y ≡ x
    same e = cc (e)

    stops : test y ≡ true → find test (y ∷ xs) ≡ Some y
    stops is = rw is refl

    goes : test y ≡ false → find test (y ∷ xs) ≡ find test xs
    goes isnt = rw isnt refl

-- the job of a merge that is open
pub record IsOpen (it : BlocksState) (id : ℕ) (merge : OpenMerge) : Type 0 where
  pub job : OpenState
  pub has : HasJob it.entries it.jobs id job
  pub merge_is : job.merge ≡ merge
  pub named : merge_named id (layout_of it) ≡ Some merge

open_job : (it : BlocksState) (id : ℕ) (merge : OpenMerge) → AreKept it.made it.started it.factor it.entries it.jobs → merge_named id (layout_of it) ≡ Some merge → IsOpen it id merge
open_job it id merge kept named =
    let own = job_of id it.jobs merge named in
    let over = found_all (IsJobOver it.entries) (is_named id) it.jobs own.job own.found kept.over in
    let range = take own.job.merge.count (drop own.job.merge.from it.entries) in
    let within = found_all (IsWithin (length it.entries)) (has_merge_id id) (merges_in it.jobs) merge named kept.open_are.within in
    record {
      job = own.job;
      has = record {
        named = own.found;
        within = omega (arith, within.within, ap (λ (x : OpenMerge). x.from) own.merge_is, ap (λ (x : OpenMerge). x.count) own.merge_is);
        same = are_later range own.job.parts over.ids
            (all_weaker (ComesLater it.entries) (ComesLater range) (λ part later. all_take (IsLaterOf part) own.job.merge.count (drop own.job.merge.from it.entries) (all_drop (IsLaterOf part) own.job.merge.from it.entries later)) own.job.parts over.later);
      };
      merge_is = own.merge_is;
      named = named;
    }

-- the job of a merge that a step is taken of
pub stepped_job : (it : BlocksState) (id : ℕ) → AreKept it.made it.started it.factor it.entries it.jobs → step_fault id (layout_of it) ≡ None → (merge : OpenMerge) × IsOpen it id merge
stepped_job it id kept none = at (merge_named id (layout_of it)) refl none
  where
    at : (o : Option OpenMerge) → merge_named id (layout_of it) ≡ o → unknown_fault o ≡ None → (merge : OpenMerge) × IsOpen it id merge
    at None e f = absurd (cc (f))
    at (Some m) e f = (m, open_job it id m kept e)

-- the job of a merge that can be finished
pub record IsFinished (it : BlocksState) (id : ℕ) (merge : OpenMerge) : Type 0 where
  pub job : OpenState
  pub has : HasJob it.entries it.jobs id job
  pub done : job.merge.left ≡ 0
  pub merge_is : job.merge ≡ merge
  pub named : merge_named id (layout_of it) ≡ Some merge

pub finished_job : (it : BlocksState) (id : ℕ) → AreKept it.made it.started it.factor it.entries it.jobs → finish_fault id (layout_of it) ≡ None → (merge : OpenMerge) × IsFinished it id merge
finished_job it id kept none = at (merge_named id (layout_of it)) refl none
  where
    done : (m : OpenMerge) → left_fault (Some m) ≡ None → m.left ≡ 0
    done m e = split (m.left == 0) (λ is. eqb-true m.left 0 is) (λ isnt. let some : left_fault (Some m) ≡ Some (not_done m.left) = rw isnt refl in absurd (bad (sym some ∙ e)))
      where
        bad : Some (not_done m.left) ≡ None → ⊥
        bad h = cc (h)

    of : (m : OpenMerge) → merge_named id (layout_of it) ≡ Some m → left_fault (Some m) ≡ None → IsFinished it id m
    of m named e =
        let own = open_job it id m kept named in
        record { job = own.job; has = own.has; done = ap (λ (x : OpenMerge). x.left) own.merge_is ∙ done m e; merge_is = own.merge_is; named = own.named }

    at : (o : Option OpenMerge) → merge_named id (layout_of it) ≡ o → left_fault o ≡ None → (merge : OpenMerge) × IsFinished it id merge
    at None e f = absurd (no f)
      where
        no : Some unknown ≡ None → ⊥
        no h = cc (h)
    at (Some m) e f = (m, of m e f)

pub finish_given : (it : BlocksState) (id from count : ℕ) (merge : OpenMerge) (by : Option EntryState) → AreKept it.made it.started it.factor it.entries it.jobs → IsFinished it id merge → from ≡ merge.from → count ≡ merge.count
    → IfSome by (λ entry. entry.id ≡ it.made) → IfSome by IsWhole → segments_of by ≡ segment_of it.made (live_in_all (take count (drop from it.entries))) → IsGiven it from count by (filter (is_other_than id) it.jobs)
finish_given it id from count merge by kept end at long own whole segments =
    let closed = closed_kept it id kept in
    let clear = others_clear id 1 (it.started + 1) (merges_in it.jobs) merge kept.open_are.apart kept.open_are.ids end.named in
    record {
      within = omega (arith, at, long, end.has.within, ap (λ (x : OpenMerge). x.from) end.merge_is, ap (λ (x : OpenMerge). x.count) end.merge_is);
      id = own;
      whole = whole;
      clear = subst (AllByRecursion (IsClear from count)) (sym (merges_without id it.jobs)) (rw (at, long) clear);
      open_are = closed.open_are;
      over = closed.over;
      segments = segments;
    }

pub finish_layout : (it : BlocksState) (id : ℕ) → layout_of (record it { jobs = filter (is_other_than id) it.jobs }) ≡ closed id (layout_of it)
finish_layout it id = rw (merges_without id it.jobs) refl

-- a merge that is named has that id
named_id : (id : ℕ) (ms : List OpenMerge) (m : OpenMerge) → find (has_merge_id id) ms ≡ Some m → m.id ≡ id
named_id id [] m found = absurd (cc (found))
named_id id (n ∷ ms) m found =
    split (has_merge_id id n)
    (λ is. eqb-true m.id id (subst (λ (x : OpenMerge). has_merge_id id x ≡ true) (same n (sym (rw is refl) ∙ found)) is))
    (λ isnt. named_id id ms m (sym (rw isnt refl) ∙ found))
  where
    same : (x : OpenMerge) → Some x ≡ Some m → x ≡ m
    same x e = cc (e)

-- the layout after a merge is finished
pub finished_layout : (it : BlocksState) (id from count : ℕ) (merge : OpenMerge) (by : Option EntryState) → IsGiven it from count by (filter (is_other_than id) it.jobs) → from ≡ merge.from → count ≡ merge.count → merge_named id (layout_of it) ≡ Some merge
    → layout_of (record it { entries = replaced from count by it.entries; made = it.made + length (segments_of by); jobs = map (with_merge (shifted from count (length (segments_of by)))) (filter (is_other_than id) it.jobs) }) ≡ finished merge (layout_of it)
finished_layout it id from count merge by given at long named =
    given_layout it from count by (filter (is_other_than id) it.jobs) given
    ∙ ap (remade from count) (finish_layout it id)
    ∙ ap (λ (n : ℕ). remade n count (closed id (layout_of it))) at
    ∙ ap (λ (n : ℕ). remade merge.from n (closed id (layout_of it))) long
    ∙ ap (λ (n : ℕ). remade merge.from merge.count (closed n (layout_of it))) (sym (named_id id (merges_in it.jobs) merge named))

pub same_end : (it : BlocksState) (id : ℕ) (merge other : OpenMerge) → IsFinished it id other → merge_named id (layout_of it) ≡ Some merge → IsFinished it id merge
same_end it id merge other end named = subst (IsFinished it id) (same (sym end.named ∙ named)) end
  where
    same : Some other ≡ Some merge → other ≡ merge
    same e = cc (e)

pub force_given : (it : BlocksState) (from count : ℕ) (by : Option EntryState) → AreKept it.made it.started it.factor it.entries it.jobs → 0 < count → from + count ≤ length it.entries → find (shares from count) (merges_in it.jobs) ≡ None
    → IfSome by (λ entry. entry.id ≡ it.made) → IfSome by IsWhole → segments_of by ≡ segment_of it.made (live_in_all (take count (drop from it.entries))) → IsGiven it from count by it.jobs
force_given it from count by kept some within none own whole segments = record {
  within = within;
  id = own;
  whole = whole;
  clear = none_clear from count (length it.entries) (merges_in it.jobs) none some kept.open_are.within;
  open_are = kept.open_are;
  over = kept.over;
  segments = segments;
}

pub remade_relaid : (it now : BlocksState) (from count : ℕ) (merges : List OpenMerge) → now.made < most_made → layout_of now ≡ remade from count (record (layout_of it) { merges = merges }) → IsRelaid it now
remade_relaid it now from count merges made is = record {
  blocks = λ next are. subst (λ (l : Layout BlockState). AreBlocks l next) (sym is)
      (remade_blocks from count (record (layout_of it) { merges = merges }) next (omega (arith, made, ap (λ (l : Layout BlockState). l.made) is)) (merges_blocks (layout_of it) merges it.started (factor_of it.factor) next are));
  live = ap live_items is ∙ remade_keeps from count (record (layout_of it) { merges = merges });
}

-- where the end of a merge leads to
pub record IsEnded (it now : BlocksState) (merge : OpenMerge) : Type 0 where
  pub layout : layout_of now ≡ finished merge (layout_of it)
  pub relaid : IsRelaid it now

pub finish_ended : (it now : BlocksState) (id from count : ℕ) (merge : OpenMerge) (by : Option EntryState) → IsGiven it from count by (filter (is_other_than id) it.jobs) → IsFinished it id merge → from ≡ merge.from → count ≡ merge.count → now.made < most_made
    → now ≡ record it { entries = replaced from count by it.entries; made = it.made + length (segments_of by); jobs = map (with_merge (shifted from count (length (segments_of by)))) (filter (is_other_than id) it.jobs) } → IsEnded it now merge
finish_ended it now id from count merge by given end at long made is =
    let others = filter (is_other_than id) it.jobs in
    record {
      layout = ap layout_of is ∙ finished_layout it id from count merge by given at long end.named;
      relaid = remade_relaid it now from count (merges_in others) made (ap layout_of is ∙ given_layout it from count by others given);
    }
