-- A cursor over scores, by the walk that it keeps.
use Rattle.std.proofs.Common.{◌≡◌, ℕ, zero, suc, subst, ◌+◌, ◌-◌, ◌<◌, ◌≤◌, Bool, true, false, List, [], ◌∷◌, length, take, drop, get_or, max, Option, Some, None, IfSome, IfNone, is_some, sym, ap, ◌∙◌, arith, drop-drop, length-drop, zero-add}
use Rattle.std.specs.List.{position_from, flat_map}
use Rattle.std.specs.Option.{option_to_list}
use Rattle.std.proofs.lemmas.List.{get_or-drop}
use Rattle.block_bits.specs.Flags.{is_marked}
use Rattle.block_bits.specs.Places.{next_place}
use Rattle.block_bits.specs.Walks.{Walking}
use Rattle.block_join.specs.declared.scores.Form.{Form}
use Rattle.block_join.specs.Kept.{shown, kept_score, marks, IsPlaced, IsRead, AreKept, IsStanding}
use Rattle.block_join.specs.Scores.{Standing, between}
use Rattle.block_join.proofs.Firsts.{NoneIn, FirstAt, first_at, none_at, none_before, passed_over, first_within}
use Rattle.block_join.proofs.Shown.{length_shown, shown_next, shown_drop, marks_add, marks_parts, marks_none, marks_first, none_between, first_between}

-- the documents from `from` on
pub shown_from : (f : ℕ → ℕ) (flags : List Bool) (from : ℕ) → drop from (shown f 0 flags) ≡ shown f (marks (take from flags)) (drop from flags)
shown_from f flags from =
    shown_drop f 0 from flags ∙ ap (λ at. shown f at (drop from flags)) (zero-add (marks (take from flags)))

-- the next document that hits is the set's next one
pub next_shown : (f : ℕ → ℕ) (flags : List Bool) (from : ℕ) → next_place is_some from (shown f 0 flags) ≡ next_place is_marked from flags
next_shown f flags from =
    ap (position_from is_some from) (shown_from f flags from) ∙ shown_next f (marks (take from flags)) from (drop from flags)

-- ---- a document before the end

passed_marks : (from k : ℕ) (flags : List Bool) → NoneIn is_marked k (drop from flags) → marks (take (from + k) flags) ≡ marks (take from flags)
passed_marks from k flags none = omega (arith, marks_add from k flags, marks_none k (drop from flags) none)

first_set : (k : ℕ) (flags : List Bool) → FirstAt is_marked k flags → get_or flags k false ≡ true
first_set zero [] first = absurd first
first_set zero (flag ∷ flags) first = first
first_set (suc k) [] first = absurd first
first_set (suc k) (flag ∷ flags) first = first_set k flags first.1

pub record Read (flags : List Bool) (scores : Form) (from doc : ℕ) : Type 0 where
  pub later : from ≤ doc
  pub within : doc < length flags
  pub marked : marks (take (doc + 1) flags) ≡ marks (take from flags) + 1
  pub own : marks (take from flags) < marks flags
  pub here : marks (take doc flags) ≡ marks (take from flags)
  pub set : get_or flags doc false ≡ true
  pub scores_are : (end : ℕ) → doc < end → between (shown (kept_score scores) 0 flags) from end ≡ kept_score scores (marks (take from flags)) ∷ between (shown (kept_score scores) 0 flags) (doc + 1) end

pub reads : (flags : List Bool) (scores : Form) (from doc : ℕ) → next_place is_marked from flags ≡ Some doc → Read flags scores from doc
reads flags scores from doc e =
    let found = first_at is_marked from (drop from flags) doc e in
    let k = found.ahead in
    let f = kept_score scores in
    let rest = drop from flags in
    let next : doc + 1 ≡ from + suc k = omega (arith, found.place) in
    let one : marks (take (suc k) rest) ≡ 1 = marks_first k rest found.first in
    let one_more : marks (take from flags) + 1 ≡ suc (marks (take from flags)) = omega arith in
    let marked : marks (take (doc + 1) flags) ≡ marks (take from flags) + 1 = ap (λ n. marks (take n flags)) next ∙ marks_add from (suc k) flags ∙ ap (λ n. marks (take from flags) + n) one in
    record {
      later = omega (arith, found.place);
      within = omega (arith, found.place, first_within is_marked k rest found.first, length-drop from flags);
      marked = marked;
      own = omega (arith, marks_parts (doc + 1) flags, marked);
      here = ap (λ n. marks (take n flags)) found.place ∙ passed_marks from k flags (none_before is_marked k k rest found.first (omega arith));
      set = ap (λ n. get_or flags n false) found.place ∙ sym (get_or-drop from flags k false) ∙ first_set k rest found.first;
      scores_are = λ end h.
          let long : end - from ≡ (end - (doc + 1)) + suc k = omega (arith, found.place, h) in
          let behind : drop (doc + 1) (shown f 0 flags) ≡ shown f (suc (marks (take from flags))) (drop (suc k) rest) =
          shown_from f flags (doc + 1) ∙ ap (λ n. shown f n (drop (doc + 1) flags)) (marked ∙ one_more)
          ∙ ap (shown f (suc (marks (take from flags)))) (ap (λ n. drop n flags) next ∙ sym (drop-drop (suc k) from flags)) in
          ap (λ (ss : List (Option ℕ)). flat_map option_to_list (take (end - from) ss)) (shown_from f flags from)
          ∙ first_between f (marks (take from flags)) k (end - from) (end - (doc + 1)) rest found.first long
          ∙ ap (λ (ss : List (Option ℕ)). f (marks (take from flags)) ∷ flat_map option_to_list (take (end - (doc + 1)) ss)) (sym behind);
    }

pub place_known : (scores : Form) (from doc at : ℕ) (flags : List Bool) → IsPlaced scores at (marks (take from flags)) → AreKept flags scores → Read flags scores from doc → IsRead flags scores at doc
place_known scores from doc at flags placed are read = record {
  are = are;
  placed = rw read.here placed;
  set = read.set;
}

pub stands_behind : (set : List Bool) (old new : Walking) (ahead : Option ℕ) (scores : Form) (from doc at : ℕ) → Read old.documents scores from doc → old.documents ≡ set → AreKept old.documents scores
    → new.documents ≡ old.documents → ahead ≡ next_place is_marked (doc + 1) old.documents → IfSome ahead (λ next. new.from ≡ next + 1)
    → IsPlaced scores at (marks (take from old.documents) + 1) → IsStanding set new ahead scores (doc + 1) at
stands_behind set old new ahead scores from doc at read own are same next behind placed = record {
  own = same ∙ own;
  scores_are = rw same are;
  within = rw same (omega (arith, read.within));
  next = rw same next;
  behind = behind;
  placed = rw (same, read.marked) placed;
}

-- ---- none before the end

pub record Passed (flags : List Bool) (scores : Form) (from end : ℕ) : Type 0 where
  pub next : next_place is_marked end flags ≡ next_place is_marked from flags
  pub marked : marks (take end flags) ≡ marks (take from flags)
  pub scores_are : between (shown (kept_score scores) 0 flags) from end ≡ []

pub passes : (flags : List Bool) (scores : Form) (from end : ℕ) → from ≤ end → NoneIn is_marked (end - from) (drop from flags) → Passed flags scores from end
passes flags scores from end h none =
    let sum : from + (end - from) ≡ end = omega arith in
    let f = kept_score scores in
    record {
      next = ap (λ n. position_from is_marked n (drop n flags)) (sym sum) ∙ ap (position_from is_marked (from + (end - from))) (sym (drop-drop (end - from) from flags))
          ∙ passed_over is_marked from (end - from) (drop from flags) none;
      marked =
          let parts : marks (take (from + (end - from)) flags) ≡ marks (take from flags) = omega (arith, marks_add from (end - from) flags, marks_none (end - from) (drop from flags) none) in
          ap (λ n. marks (take n flags)) (sym sum) ∙ parts;
      scores_are = ap (λ (ss : List (Option ℕ)). flat_map option_to_list (take (end - from) ss)) (shown_from f flags from) ∙ none_between f (marks (take from flags)) (end - from) (drop from flags) none;
    }

pub passes_all : (flags : List Bool) (scores : Form) (from end : ℕ) → from ≤ end → next_place is_marked from flags ≡ None → Passed flags scores from end
passes_all flags scores from end h e = passes flags scores from end h (none_at is_marked from (drop from flags) (end - from) e)

pub passes_some : (flags : List Bool) (scores : Form) (from end doc : ℕ) → from ≤ end → next_place is_marked from flags ≡ Some doc → end ≤ doc → Passed flags scores from end
passes_some flags scores from end doc h e late =
    let found = first_at is_marked from (drop from flags) doc e in
    passes flags scores from end h (none_before is_marked (end - from) found.ahead (drop from flags) found.first (omega (arith, found.place)))

pub stands_at : (set : List Bool) (walk : Walking) (ahead : Option ℕ) (scores : Form) (from end at : ℕ) → IsStanding set walk ahead scores from at → end ≤ length walk.documents
    → Passed walk.documents scores from end → IsStanding set walk ahead scores end at
stands_at set walk ahead scores from end at it within passed = record {
  own = it.own;
  scores_are = it.scores_are;
  within = within;
  next = it.next ∙ sym passed.next;
  behind = it.behind;
  placed = rw passed.marked it.placed;
}

-- ---- the walk

pub walk_documents : (old new : Walking) (found : Option ℕ) → IfSome found (λ at. new ≡ record { documents = old.documents; from = at + 1 })
    → IfNone found (new ≡ record { documents = old.documents; from = length old.documents }) → new.documents ≡ old.documents
walk_documents old new None some none = ap (λ (it : Walking). it.documents) none
walk_documents old new (Some at) some none = ap (λ (it : Walking). it.documents) some

pub walk_behind : (old new : Walking) (found : Option ℕ) → IfSome found (λ at. new ≡ record { documents = old.documents; from = at + 1 }) → IfSome found (λ next. new.from ≡ next + 1)
walk_behind old new None some = tt
walk_behind old new (Some at) some = ap (λ (it : Walking). it.from) some

pub ahead_within : (flags : List Bool) (scores : Form) (from : ℕ) (ahead : Option ℕ) → ahead ≡ next_place is_marked from flags
    → IfSome ahead (λ doc. (from ≤ doc) × (doc < length (shown (kept_score scores) 0 flags)))
ahead_within flags scores from None e = tt
ahead_within flags scores from (Some doc) e =
    let read = reads flags scores from doc (sym e) in (read.later, omega (arith, read.within, length_shown (kept_score scores) 0 flags))

-- ---- the view

pub view_long : (flags : List Bool) (scores : Form) (from : ℕ) (view : Standing) → record { scores = shown (kept_score scores) 0 flags; from = from } ≡ view → length view.scores ≡ length flags
view_long flags scores from view e = subst (λ (it : Standing). length it.scores ≡ length flags) e (length_shown (kept_score scores) 0 flags)

pub view_from : (flags : List Bool) (scores : Form) (from : ℕ) (view : Standing) → record { scores = shown (kept_score scores) 0 flags; from = from } ≡ view → from ≡ view.from
view_from flags scores from view e = ap (λ (it : Standing). it.from) e

-- ---- what lies before the end passed over

pub leaps_to : (set : List Bool) (old skipped new : Walking) (ahead : Option ℕ) (scores : Form) (end at : ℕ) → old.documents ≡ set → AreKept old.documents scores → end ≤ length old.documents → old.from ≤ end
    → skipped ≡ record { documents = old.documents; from = max old.from end } → ahead ≡ next_place is_marked skipped.from skipped.documents
    → IfSome ahead (λ at. new ≡ record { documents = skipped.documents; from = at + 1 }) → IfNone ahead (new ≡ record { documents = skipped.documents; from = length skipped.documents })
    → IsPlaced scores at (marks (take end set)) → IsStanding set new ahead scores end at
leaps_to set old skipped new ahead scores end at own are within low skip next found ended placed =
    let documents : skipped.documents ≡ old.documents = ap (λ (w : Walking). w.documents) skip in
    let from : skipped.from ≡ end = omega (arith, ap (λ (w : Walking). w.from) skip, low) in
    let new_documents : new.documents ≡ old.documents = walk_documents skipped new ahead found ended ∙ documents in
    record {
      own = new_documents ∙ own;
      scores_are = rw new_documents are;
      within = rw new_documents within;
      next = rw new_documents (next ∙ ap (λ n. next_place is_marked n skipped.documents) from ∙ ap (λ (flags : List Bool). next_place is_marked end flags) documents);
      behind = walk_behind skipped new ahead found;
      placed = rw (new_documents ∙ own) placed;
    }
