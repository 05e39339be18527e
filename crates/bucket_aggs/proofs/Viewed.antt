-- The documents of a view with scores, entry by entry.
use Rattle.std.proofs.Common.{◌≡◌, ℕ, zero, suc, ◌+◌, ◌<◌, ◌≤◌, Bool, List, [], ◌∷◌, ◌++◌, length, map, drop, get_or, sum_by, Option, is_some, refl, sym, ap, subst, ◌∙◌, arith}
use Rattle.std.proofs.lemmas.List.{get_or_default}
use Rattle.std.proofs.lemmas.List.Sums.{sum_by-append}
use Rattle.mapping_body.specs.declared.kind.Kind.{Kind}
use Rattle.query_eval.specs.Found.{AreLong}
use Rattle.segment.specs.Flat.{FlatDocument, flat_of}
use Rattle.segment.specs.Live.{EntryState}
use Rattle.segment_parts.specs.Text.{marked_places}
use Rattle.segment_parts.specs.declared.columns.Columns.{Columns}
use Rattle.tree_objects.specs.declared.field_value.FieldValue.{FieldValue}
use Rattle.bucket_aggs.specs.Counts.{AreCounts, AreKeys, KeysAscend, Weighed, flats_in, flats_of_view, shows, weight}
use Rattle.bucket_aggs.specs.declared.rows.CountRow.{CountRow}
use Rattle.bucket_aggs.proofs.Rowed.{one_if}

abbrev pub Scores : Type 0
Scores = List (Option ℕ)

abbrev pub View : Type 0
View = List EntryState

pub long_view : (view : View) (scores : List Scores) → AreLong view scores → length scores ≡ length view
long_view [] [] long = refl
long_view [] (s ∷ scores) long = absurd long
long_view (e ∷ view) [] long = absurd long
long_view (e ∷ view) (s ∷ scores) long = omega (arith, long_view view scores long.1)

-- ---- the documents of the entries from a place on

abbrev pub flats_from : ℕ → View → List Scores → List FlatDocument
flats_from at view scores = flats_of_view (drop at view) (drop at scores)

-- the documents of an entry
abbrev pub own_flats : Columns → List Bool → List FlatDocument
own_flats columns flags = map (flat_of columns) (marked_places 0 flags)

-- the scores of an entry
abbrev pub scores_at : ℕ → List Scores → Scores
scores_at at scores = get_or scores at []

pub there_at : (at : ℕ) (view : View) (scores : List Scores) → AreLong view scores → at < length view → scores_at at scores ≡ get_or scores at (scores_at at scores)
there_at at view scores long low = get_or_default scores at [] (scores_at at scores) (omega (arith, low, long_view view scores long))

pub flats_step : (at : ℕ) (view : View) (scores : List Scores) (e : EntryState) (s : Scores) (columns : Columns) (flags : List Bool) → AreLong view scores → at < length view → e ≡ get_or view at e → s ≡ get_or scores at s → columns ≡ e.columns → flags ≡ map is_some s
    → flats_from at view scores ≡ own_flats columns flags ++ flats_from (at + 1) view scores
flats_step at [] scores e s columns flags long low here own is set = absurd (omega (arith, low))
flats_step at (x ∷ view) [] e s columns flags long low here own is set = absurd long
flats_step zero (x ∷ view) (y ∷ scores) e s columns flags long low here own is set =
    ap (λ (z : EntryState). flats_in z.columns y ++ flats_of_view view scores) (sym here)
    ∙ ap (λ (z : Scores). flats_in e.columns z ++ flats_of_view view scores) (sym own)
    ∙ ap (λ (c : Columns). own_flats c (map is_some s) ++ flats_of_view view scores) (sym is)
    ∙ ap (λ (b : List Bool). own_flats columns b ++ flats_of_view view scores) (sym set)
flats_step (suc at) (x ∷ view) (y ∷ scores) e s columns flags long low here own is set =
    let next : suc at + 1 ≡ suc (at + 1) = omega arith in
    rw next (flats_step at view scores e s columns flags long.1 (omega (arith, low)) here own is set)

pub flats_end : (at : ℕ) (view : View) (scores : List Scores) → length view ≤ at → flats_from at view scores ≡ []
flats_end zero [] scores past = refl
flats_end (suc at) [] scores past = refl
flats_end zero (x ∷ view) scores past = absurd (omega (arith, past))
flats_end (suc at) (x ∷ view) [] past = nothing at view (omega (arith, past))
  where
    nothing : (at : ℕ) (view : View) → length view ≤ at → flats_of_view (drop at view) [] ≡ []
    nothing zero [] past = refl
    nothing (suc at) [] past = refl
    nothing zero (e ∷ view) past = absurd (omega (arith, past))
    nothing (suc at) (e ∷ view) past = nothing at view (omega (arith, past))
flats_end (suc at) (x ∷ view) (y ∷ scores) past = flats_end at view scores (omega (arith, past))

-- ---- sums over them

module _ (f : FlatDocument → ℕ) (at : ℕ) (view : View) (scores : List Scores) where
  abbrev pub Adds : ℕ → Type 0
  Adds done = done + sum_by f (flats_from at view scores) ≡ sum_by f (flats_of_view view scores)

pub adds_start : (f : FlatDocument → ℕ) (view : View) (scores : List Scores) → Adds f 0 view scores 0
adds_start f view scores = omega arith

pub adds_step : (f : FlatDocument → ℕ) (at : ℕ) (view : View) (scores : List Scores) (own : List FlatDocument) (old new : ℕ) → flats_from at view scores ≡ own ++ flats_from (at + 1) view scores → Adds f at view scores old → new ≡ old + sum_by f own → Adds f (at + 1) view scores new
adds_step f at view scores own old new step was is = omega (arith, was, is, ap (sum_by f) step, sum_by-append f own (flats_from (at + 1) view scores))

pub adds_end : (f : FlatDocument → ℕ) (at : ℕ) (view : View) (scores : List Scores) (done : ℕ) → length view ≤ at → Adds f at view scores done → done ≡ sum_by f (flats_of_view view scores)
adds_end f at view scores done past was = omega (arith, was, ap (sum_by f) (flats_end at view scores past))

-- ---- counts of values

pub record Counting (kind : Kind) (f at : ℕ) (view : View) (scores : List Scores) (rows : List CountRow) : Type 0 where
  pub weighs : (v : FieldValue) → Adds (one_if (shows kind f v)) at view scores (weight v rows)
  pub keys : AreKeys kind rows

pub counting_start : (kind : Kind) (f : ℕ) (view : View) (scores : List Scores) (rows : List CountRow) → rows ≡ [] → Counting kind f 0 view scores rows
counting_start kind f view scores rows is = subst (Counting kind f 0 view scores) (sym is) (record { weighs = λ v. omega arith; keys = tt })

pub counting_step : (kind : Kind) (f at : ℕ) (view : View) (scores : List Scores) (own : List FlatDocument) (old new : List CountRow) → flats_from at view scores ≡ own ++ flats_from (at + 1) view scores → Counting kind f at view scores old → Weighed kind f own old new → (AreKeys kind old → AreKeys kind new) → Counting kind f (at + 1) view scores new
counting_step kind f at view scores own old new step was more keys = record {
  weighs = λ v. adds_step (one_if (shows kind f v)) at view scores own (weight v old) (weight v new) step (was.weighs v) (more.each v);
  keys = keys was.keys;
}

pub counting_end : (kind : Kind) (f at : ℕ) (view : View) (scores : List Scores) (rows made : List CountRow) → length view ≤ at → Counting kind f at view scores rows → KeysAscend made → ((v : FieldValue) → weight v made ≡ weight v rows) → (AreKeys kind rows → AreKeys kind made) → AreCounts kind f (flats_of_view view scores) made
counting_end kind f at view scores rows made past was ascend same keys = record {
  ascend = ascend;
  keys = keys was.keys;
  counts = λ v. same v ∙ adds_end (one_if (shows kind f v)) at view scores (weight v rows) past (was.weighs v);
}
