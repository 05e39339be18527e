-- Entries whose neighbours give way, as segments of blocks.
use Rattle.std.proofs.Common.{◌≡◌, ◌≢◌, ◌⊎◌, inl, inr, ◌↔◌, ℕ, zero, suc, ◌+◌, ◌-◌, ◌<◌, ◌≤◌, ◌^◌, List, [], ◌∷◌, ◌++◌, length, map, take, drop, get_or, slice_index_or, Contains, Option, Some, None, IfSome, IsNone, refl, sym, ap, subst, ◌∙◌, append_assoc, append-nil, arith}
use Rattle.std.specs.List.{All, AllByRecursion, flat_map, take-map, drop-map}
use Rattle.std.proofs.lemmas.List.{drop_more, length-map, map-append}
use Rattle.std.proofs.lemmas.List.Elements.{All-append, All-cons, All-head, All-nil, All-tail}
use Rattle.std.proofs.lemmas.List.Concat.{flat_map-append}
use Rattle.std.proofs.lemmas.List.Sums.{sum_by-append}
use Rattle.flattener.specs.Block.{BlockState}
use Rattle.flattener.specs.Fits.{SegmentFits}
use Rattle.layout.proofs.Merging.{AreDistinct, all_first, segment_id}
use Rattle.layout.specs.Layout.{Marked, SegmentOf, alive, live_in, segment_of}
use Rattle.mapping.specs.Mapping.{Mapping}
use Rattle.merge_jobs.specs.Job.{live_in_all, segment_kept, segments_kept}
use Rattle.merge_policy.specs.Runs.{AreRuns, IsRunOf, given_way, range_of}
use Rattle.merge_policy.specs.declared.runs.Run.{Run}
use Rattle.segment.specs.Live.{EntryState}
use Rattle.segment_builder.specs.Blocks.{block_objects, blocks_in, live_blocks, objects_of}
use Rattle.segment_view.specs.Views.{IsNewId}
use Rattle.view_merge.specs.Given.{AreFitting, IsKeptOrMade, segments_of, settled_segments}

-- ---- one entry

pub segment_some : (id : ℕ) (live : List BlockState) (entry : EntryState) → entry.id ≡ id → blocks_in entry ≡ map alive live → (live ≡ [] → ⊥) → segments_of (Some entry) ≡ segment_of id live
segment_some id [] entry own blocks some = absurd (some refl)
segment_some id (block ∷ live) entry own blocks some =
    ap (λ (n : ℕ). (let s : SegmentOf BlockState = record { id = n; items = blocks_in entry } in s) ∷ []) own
    ∙ ap (λ (ms : List (Marked BlockState)). (let s : SegmentOf BlockState = record { id = id; items = ms } in s) ∷ []) blocks

pub segment_none : (id : ℕ) (live : List BlockState) → live ≡ [] → [] ≡ segment_of id live
segment_none id live none = ap (segment_of id) (sym none)

-- ---- ranges

live_each : (entries : List EntryState) → flat_map live_in (segments_kept entries) ≡ live_in_all entries
live_each [] = refl
live_each (entry ∷ entries) = ap (λ bs. live_blocks entry ++ bs) (live_each entries)

pub range_kept : (run : Run) (entries : List EntryState) → range_of run (segments_kept entries) ≡ segments_kept (take (run.last + 1 - run.first) (drop run.first entries))
range_kept run entries = ap (take (run.last + 1 - run.first)) (drop-map segment_kept run.first entries) ∙ take-map segment_kept (run.last + 1 - run.first) (drop run.first entries)

pub range_live : (run : Run) (entries : List EntryState) → flat_map live_in (range_of run (segments_kept entries)) ≡ live_in_all (take (run.last + 1 - run.first) (drop run.first entries))
range_live run entries = ap (flat_map live_in) (range_kept run entries) ∙ live_each (take (run.last + 1 - run.first) (drop run.first entries))

few_prefix : (n : ℕ) (entries : List EntryState) → objects_of (live_in_all (take n entries)) ≤ objects_of (live_in_all entries)
few_prefix zero entries = omega arith
few_prefix (suc n) [] = omega arith
few_prefix (suc n) (entry ∷ entries) =
    omega (arith, few_prefix n entries, sum_by-append block_objects (live_blocks entry) (live_in_all (take n entries)), sum_by-append block_objects (live_blocks entry) (live_in_all entries))

few_rest : (n : ℕ) (entries : List EntryState) → objects_of (live_in_all (drop n entries)) ≤ objects_of (live_in_all entries)
few_rest zero entries = omega arith
few_rest (suc n) [] = omega arith
few_rest (suc n) (entry ∷ entries) = omega (arith, few_rest n entries, sum_by-append block_objects (live_blocks entry) (live_in_all entries))

-- a range has no more objects than all
pub few_range : (from count : ℕ) (entries : List EntryState) → objects_of (live_in_all (take count (drop from entries))) ≤ objects_of (live_in_all entries)
few_range from count entries = omega (arith, few_prefix count (drop from entries), few_rest from entries)

pub fit_drop : (m : Mapping) (n : ℕ) (entries : List EntryState) → AreFitting m entries → AreFitting m (drop n entries)
fit_drop m zero entries fit = fit
fit_drop m (suc n) [] fit = fit
fit_drop m (suc n) (entry ∷ entries) fit = fit_drop m n entries (All-tail (λ (e : EntryState). SegmentFits m e.columns) entry entries fit)

pub fit_take : (m : Mapping) (n : ℕ) (entries : List EntryState) → AreFitting m entries → AreFitting m (take n entries)
fit_take m zero entries fit = All-nil (λ (e : EntryState). SegmentFits m e.columns)
fit_take m (suc n) [] fit = fit
fit_take m (suc n) (entry ∷ entries) fit =
    All-cons (λ (e : EntryState). SegmentFits m e.columns) entry (take n entries) (All-head (λ (e : EntryState). SegmentFits m e.columns) entry entries fit) (fit_take m n entries (All-tail (λ (e : EntryState). SegmentFits m e.columns) entry entries fit))

pub fit_range : (m : Mapping) (from count : ℕ) (entries : List EntryState) → AreFitting m entries → AreFitting m (take count (drop from entries))
fit_range m from count entries fit = fit_take m count (drop from entries) (fit_drop m from entries fit)

-- ---- an entry more

pub put_segments : (view : List EntryState) (entry : EntryState) (way : List (SegmentOf BlockState)) → segments_of (Some entry) ≡ way → segments_kept (view ++ entry ∷ []) ≡ segments_kept view ++ way
put_segments view entry way is = map-append segment_kept view (entry ∷ []) ∙ ap (λ ss. segments_kept view ++ ss) is

pub no_segments : (view : List EntryState) (way : List (SegmentOf BlockState)) → [] ≡ way → segments_kept view ≡ segments_kept view ++ way
no_segments view way is = sym (append-nil (segments_kept view)) ∙ ap (λ ss. segments_kept view ++ ss) is

-- ids that are distinct
distinct_new : (view : List EntryState) (id : ℕ) (more : List ℕ) → AreDistinct (map segment_id (segments_kept view) ++ id ∷ more) → IsNewId view id
distinct_new [] id more own = All-nil (λ (e : EntryState). e.id ≢ id)
distinct_new (e ∷ view) id more own =
    All-cons (λ (x : EntryState). x.id ≢ id) e view (here (map segment_id (segments_kept view)) own.0) (distinct_new view id more own.1)
  where
    here : (ns : List ℕ) → AllByRecursion (λ other. e.id ≢ other) (ns ++ id ∷ more) → e.id ≢ id
    here [] all = all.0
    here (n ∷ ns) all = here ns all.1

pub new_id : (view : List EntryState) (entry : EntryState) (way : List (SegmentOf BlockState)) → segments_of (Some entry) ≡ way → AreDistinct (map segment_id (segments_kept view ++ way)) → IsNewId view entry.id
new_id view entry way is own =
    distinct_new view entry.id []
    (subst AreDistinct (map-append segment_id (segments_kept view) (segment_kept entry ∷ [])) (subst (λ ss. AreDistinct (map segment_id (segments_kept view ++ ss))) (sym is) own))

pub kept_more : (entries view : List EntryState) (made : ℕ) (entry : EntryState) → IsKeptOrMade entries made entry → All (IsKeptOrMade entries made) view → All (IsKeptOrMade entries made) (view ++ entry ∷ [])
kept_more entries view made entry is all = All-append (IsKeptOrMade entries made) view (entry ∷ []) all (All-cons (IsKeptOrMade entries made) entry [] is (All-nil (IsKeptOrMade entries made)))

pub fit_more : (m : Mapping) (view : List EntryState) (entry : EntryState) → SegmentFits m entry.columns → AreFitting m view → AreFitting m (view ++ entry ∷ [])
fit_more m view entry fits fit = All-append (λ (e : EntryState). SegmentFits m e.columns) view (entry ∷ []) fit (All-cons (λ (e : EntryState). SegmentFits m e.columns) entry [] fits (All-nil (λ (e : EntryState). SegmentFits m e.columns)))

-- a run of one segment that stays
pub one_range : (entries : List EntryState) (run : Run) (entry d : EntryState) → run.first ≡ run.last → run.last < length entries → entry ≡ get_or entries run.first d → segments_of (Some entry) ≡ range_of run (segments_kept entries)
one_range entries run entry d same within is =
    let one : run.last + 1 - run.first ≡ 1 = omega (arith, same) in
    let here : run.first < length entries = omega (arith, same, within) in
    sym (range_kept run entries ∙ ap (λ n. segments_kept (take n (drop run.first entries))) one ∙ ap (λ es. segments_kept (take 1 es)) (drop_more entries run.first d here) ∙ ap (λ (e : EntryState). segment_kept e ∷ []) (sym is))

pub contains_at : (entries : List EntryState) (index : ℕ) (entry d : EntryState) → index < length entries → entry ≡ get_or entries index d → Contains entries entry
contains_at entries index entry d within is = (index, within, other_default entries index entry d within ∙ sym is)
  where
    other_default : (es : List EntryState) (i : ℕ) (c e : EntryState) → i < length es → slice_index_or es i c ≡ get_or es i e
    other_default [] i c e h = absurd (omega (arith, h))
    other_default (x ∷ es) zero c e h = refl
    other_default (x ∷ es) (suc i) c e h = other_default es i c e (omega (arith, h))

-- ---- run by run

pub record IsSettling (entries : List EntryState) (made : ℕ) (runs : List Run) (index : ℕ) (view : List EntryState) : Type 0 where
  pub count : ℕ
  pub from : ℕ
  pub runs_left : AreRuns count from (drop index runs) (length entries)
  pub few : made + count < 2 ^ 128
  pub segments : segments_kept view ++ settled_segments made (drop index runs) (segments_kept entries) ≡ settled_segments made runs (segments_kept entries)
  pub kept : All (IsKeptOrMade entries made) view
  pub fits : (m : Mapping) → AreFitting m entries → AreFitting m view

pub settling_first : (entries : List EntryState) (made : ℕ) (runs : List Run) (view : List EntryState) → view ≡ [] → (count : ℕ) × (AreRuns count 0 runs (length entries) × (made + count < 2 ^ 128)) → IsSettling entries made runs 0 view
settling_first entries made runs view none are = rw none (record {
  count = are.0;
  from = 0;
  runs_left = are.1.0;
  few = are.1.1;
  segments = refl;
  kept = All-nil (IsKeptOrMade entries made);
  fits = λ m fit. All-nil (λ (e : EntryState). SegmentFits m e.columns);
})

runs_end : (count from end : ℕ) (runs : List Run) → AreRuns count from runs end → from ≤ end
runs_end count from end [] are = are
runs_end count from end (run ∷ runs) are = omega (arith, are.0, are.1.0, runs_end count (run.last + 1) end runs are.1.1.1)

-- what is so of the next run
pub record IsNextRun (entries : List EntryState) (made : ℕ) (runs : List Run) (index : ℕ) (view : List EntryState) (run : Run) : Type 0 where
  pub order : run.first ≤ run.last
  pub within : run.last < length entries
  pub some : (count : ℕ) × (IsRunOf count run run.made × (made + count < 2 ^ 128))
  pub ids : AreDistinct (map segment_id (settled_segments made runs (segments_kept entries))) → AreDistinct (map segment_id (segments_kept view ++ given_way made run.made (range_of run (segments_kept entries))))

distinct_first : (xs ys : List ℕ) → AreDistinct (xs ++ ys) → AreDistinct xs
distinct_first [] ys own = tt
distinct_first (x ∷ xs) ys own = (all_first (λ other. x ≢ other) xs ys own.0, distinct_first xs ys own.1)

pub next_run : (entries : List EntryState) (made : ℕ) (runs : List Run) (index : ℕ) (view : List EntryState) (run d : Run) → IsSettling entries made runs index view → index < length runs → run ≡ get_or runs index d → IsNextRun entries made runs index view run
next_run entries made runs index view run d is within at =
    let more : drop index runs ≡ run ∷ drop (index + 1) runs = drop_more runs index d within ∙ ap (λ (r : Run). r ∷ drop (index + 1) runs) (sym at) in
    let are = subst (λ rs. AreRuns is.count is.from rs (length entries)) more is.runs_left in
    let way = given_way made run.made (range_of run (segments_kept entries)) in
    let rest = settled_segments made (drop (index + 1) runs) (segments_kept entries) in
    let all : (segments_kept view ++ way) ++ rest ≡ settled_segments made runs (segments_kept entries) =
    append_assoc (segments_kept view) way rest ∙ sym (ap (λ rs. segments_kept view ++ settled_segments made rs (segments_kept entries)) more) ∙ is.segments in
    record {
      order = are.1.0;
      within = omega (arith, runs_end is.count (run.last + 1) (length entries) (drop (index + 1) runs) are.1.1.1);
      some = (is.count, (are.1.1.0, is.few));
      ids = λ own. distinct_first (map segment_id (segments_kept view ++ way)) (map segment_id rest) (subst AreDistinct (map-append segment_id (segments_kept view ++ way) rest) (subst (λ ss. AreDistinct (map segment_id ss)) (sym all) own));
    }

pub settling_next : (entries : List EntryState) (made : ℕ) (runs : List Run) (index : ℕ) (view now : List EntryState) (run d : Run) → IsSettling entries made runs index view → index < length runs → run ≡ get_or runs index d
    → segments_kept now ≡ segments_kept view ++ given_way made run.made (range_of run (segments_kept entries)) → (All (IsKeptOrMade entries made) view → All (IsKeptOrMade entries made) now)
    → ((m : Mapping) → AreFitting m entries → AreFitting m view → AreFitting m now) → IsSettling entries made runs (index + 1) now
settling_next entries made runs index view now run d is within at segments kept fits =
    let more : drop index runs ≡ run ∷ drop (index + 1) runs = drop_more runs index d within ∙ ap (λ (r : Run). r ∷ drop (index + 1) runs) (sym at) in
    let are = subst (λ rs. AreRuns is.count is.from rs (length entries)) more is.runs_left in
    let way = given_way made run.made (range_of run (segments_kept entries)) in
    let rest = settled_segments made (drop (index + 1) runs) (segments_kept entries) in
    record {
      count = is.count;
      from = run.last + 1;
      runs_left = are.1.1.1;
      few = is.few;
      segments = ap (λ ss. ss ++ rest) segments ∙ append_assoc (segments_kept view) way rest ∙ sym (ap (λ rs. segments_kept view ++ settled_segments made rs (segments_kept entries)) more) ∙ is.segments;
      kept = kept is.kept;
      fits = λ m fit. fits m fit (is.fits m fit);
    }
