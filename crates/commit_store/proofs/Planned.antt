-- What is so of the segments of a commit that is prepared for a view.
use Rattle.std.proofs.Common.{◌≡◌, ◌≢◌, ℕ, zero, suc, ◌+◌, ◌==◌, ◌<◌, ◌≤◌, inl, inr, cond, Bool, true, false, not, List, [], ◌∷◌, ◌++◌, length, map, filter, find, count_by, get_or, drop, Option, None, Some, option_map, unwrap_or, refl, sym, ◌∙◌, ap, subst, arith}
use Rattle.std.specs.List.{AllByRecursion, cons_option, filter_map}
use Rattle.std.proofs.lemmas.Bool.{eqb-true, eq-eqb, false≢true}
use Rattle.std.proofs.lemmas.List.Sums.{sum_by-cons}
use Rattle.std.proofs.lemmas.Option.{none-some}
use Rattle.extent_pool.specs.Placing.{fit, placed, in_front_of, with_taken}
use Rattle.extent_pool.specs.declared.extent.Extent.{Extent}
use Rattle.segment.specs.Live.{EntryState}
use Rattle.segment_parts.specs.Text.{segment_text}
use Rattle.segment_view.specs.Views.{HaveOwnIds}
use Rattle.commit_store.specs.declared.known.KnownSegment.{KnownSegment}
use Rattle.commit_store.specs.Known.{known_extents}
use Rattle.commit_store.specs.Preparing.{PlannedSegment, IsAsKnown, entry_or, extent_or, extents_left, has_id, is_at, known_as, moves, new_sizes, planned, planned_as, size_unless, stays}

-- ---- what is known under an id

pub known_id_is : (known : List KnownSegment) (id : ℕ) (own : KnownSegment) → known_as known id ≡ Some own → own.entry.id ≡ id
known_id_is [] id own found = absurd (none-some own found)
known_id_is (it ∷ known) id own found = by_id (has_id id it) refl (known_id_is known id own)
  where
    by_id : (same : Bool) → has_id id it ≡ same → (known_as known id ≡ Some own → own.entry.id ≡ id) → own.entry.id ≡ id
    by_id true same more =
        let is : it ≡ own = ap (λ (one : Option KnownSegment). unwrap_or one it) (ap (λ (b : Bool). cond b (Some it) (known_as known id)) (sym same) ∙ found) in
        ap (λ (one : KnownSegment). one.entry.id) (sym is) ∙ eqb-true it.entry.id id same
    by_id false same more = more (ap (λ (b : Bool). cond b (Some it) (known_as known id)) (sym same) ∙ found)

pub entry_id_is : (known : List KnownSegment) (entry : EntryState) → (entry_or entry (known_as known entry.id)).id ≡ entry.id
entry_id_is known entry = by_known (known_as known entry.id) refl
  where
    by_known : (own : Option KnownSegment) → known_as known entry.id ≡ own → (entry_or entry own).id ≡ entry.id
    by_known None same = refl
    by_known (Some own) same = known_id_is known entry.id own same

-- each segment is as the store knows it, or new
pub all_as_known : (known : List KnownSegment) (view : List EntryState) (extents : List Extent)
    → AllByRecursion (λ (segment : PlannedSegment). IsAsKnown segment (known_as known segment.entry.id)) (planned known view extents)
all_as_known known [] extents = tt
all_as_known known (entry ∷ view) extents =
    (by_known (known_as known entry.id) refl, all_as_known known view (extents_left (known_as known entry.id) extents))
  where
    by_known : (own : Option KnownSegment) → known_as known entry.id ≡ own → IsAsKnown (planned_as entry own extents) (known_as known (entry_or entry own).id)
    by_known None same = subst (IsAsKnown (planned_as entry None extents)) (sym same) refl
    by_known (Some own) same =
        subst (λ (id : ℕ). IsAsKnown (planned_as entry (Some own) extents) (known_as known id)) (sym (known_id_is known entry.id own same))
        (subst (IsAsKnown (planned_as entry (Some own) extents)) (sym same) (refl, refl))

-- ---- ids

planned_ids : (known : List KnownSegment) (view : List EntryState) (extents : List Extent)
    → map (λ (entry : EntryState). entry.id) (map (λ (segment : PlannedSegment). segment.entry) (planned known view extents)) ≡ map (λ (entry : EntryState). entry.id) view
planned_ids known [] extents = refl
planned_ids known (entry ∷ view) extents =
    ap (λ (id : ℕ). id ∷ map (λ (it : EntryState). it.id) (map (λ (segment : PlannedSegment). segment.entry) (planned known view (extents_left (known_as known entry.id) extents)))) (entry_id_is known entry)
    ∙ ap (λ (ids : List ℕ). entry.id ∷ ids) (planned_ids known view (extents_left (known_as known entry.id) extents))

id_at : (entries : List EntryState) (i : ℕ) (d : EntryState) → (get_or entries i d).id ≡ get_or (map (λ (it : EntryState). it.id) entries) i d.id
id_at [] i d = refl
id_at (entry ∷ entries) zero d = refl
id_at (entry ∷ entries) (suc i) d = id_at entries i d

same_length : (ones others : List EntryState) → map (λ (it : EntryState). it.id) ones ≡ map (λ (it : EntryState). it.id) others → length ones ≡ length others
same_length [] [] same = refl
same_length [] (other ∷ others) same = absurd (omega (arith, ap length same))
same_length (one ∷ ones) [] same = absurd (omega (arith, ap length same))
same_length (one ∷ ones) (other ∷ others) same = ap suc (same_length ones others (ap (drop 1) same))

-- entries with the ids of a view have ids of their own
pub own_ids : (ones others : List EntryState) → map (λ (it : EntryState). it.id) ones ≡ map (λ (it : EntryState). it.id) others → HaveOwnIds others → HaveOwnIds ones
own_ids ones others same own = λ i j d before within equal.
    let long = same_length ones others same in
    own i j d before (omega (arith, long, within))
    (id_at others i d ∙ ap (λ (ids : List ℕ). get_or ids i d.id) (sym same) ∙ sym (id_at ones i d) ∙ equal
    ∙ id_at ones j d ∙ ap (λ (ids : List ℕ). get_or ids j d.id) same ∙ sym (id_at others j d))

pub planned_own_ids : (known : List KnownSegment) (view : List EntryState) (extents : List Extent) → HaveOwnIds view
    → HaveOwnIds (map (λ (segment : PlannedSegment). segment.entry) (planned known view extents))
planned_own_ids known view extents own =
    own_ids (map (λ (segment : PlannedSegment). segment.entry) (planned known view extents)) view (planned_ids known view extents) own

-- ---- new extents

front_is : (limit : ℕ) (taken : List Extent) (first : Option Extent) (rest : Option (List Extent)) (extents : List Extent) → in_front_of first rest ≡ Some extents
    → (extent : Extent) × (more : List Extent) × (first ≡ Some extent) × (rest ≡ Some more) × (extents ≡ extent ∷ more)
front_is limit taken None rest extents same = absurd (none-some extents same)
front_is limit taken (Some extent) None extents same = absurd (none-some extents same)
front_is limit taken (Some extent) (Some more) extents same = (extent, more, refl, refl, ap (λ (it : Option (List Extent)). unwrap_or it extents) (sym same))

-- the segments that move are the new ones, in order
pub moved_are : (known : List KnownSegment) (limit : ℕ) (view : List EntryState) (taken extents : List Extent) → placed limit taken (new_sizes known view) ≡ Some extents
    → map (λ (segment : PlannedSegment). segment.extent) (filter moves (planned known view extents)) ≡ extents
moved_are known limit [] taken extents same = ap (λ (it : Option (List Extent)). unwrap_or it extents) same
moved_are known limit (entry ∷ view) taken extents same =
    by_known (known_as known entry.id) (same_sizes (known_as known entry.id) refl) (moved_are known limit view)
  where
    same_sizes : (own : Option KnownSegment) → known_as known entry.id ≡ own → placed limit taken (cons_option (size_unless entry own) (new_sizes known view)) ≡ Some extents
    same_sizes own is = ap (λ (it : Option KnownSegment). placed limit taken (cons_option (size_unless entry it) (new_sizes known view))) (sym is) ∙ same

    by_known : (own : Option KnownSegment) → placed limit taken (cons_option (size_unless entry own) (new_sizes known view)) ≡ Some extents
        → ((taken extents : List Extent) → placed limit taken (new_sizes known view) ≡ Some extents → map (λ (segment : PlannedSegment). segment.extent) (filter moves (planned known view extents)) ≡ extents)
        → map (λ (segment : PlannedSegment). segment.extent) (filter moves (planned_as entry own extents ∷ planned known view (extents_left own extents))) ≡ extents
    by_known (Some own) places more =
        ap (λ (it : Bool). map (λ (segment : PlannedSegment). segment.extent) (cond (not it) (planned_as entry (Some own) extents ∷ filter moves (planned known view extents)) (filter moves (planned known view extents))))
        (eq-eqb own.extent.at own.extent.at refl)
        ∙ more taken extents places
    by_known None places more =
        let front = front_is limit taken (fit limit taken (length (segment_text entry.columns))) (placed limit (with_taken (fit limit taken (length (segment_text entry.columns))) taken) (new_sizes known view)) extents places in
        subst (λ (it : List Extent). map (λ (segment : PlannedSegment). segment.extent) (filter moves (planned_as entry None it ∷ planned known view (extents_left None it))) ≡ it) (sym front.4)
        (ap (λ (it : List Extent). front.0 ∷ it)
        (more (with_taken (fit limit taken (length (segment_text entry.columns))) taken) front.1 front.3))

-- ---- extents, of what is new and of what stays

-- what is so of each known segment is so of the one under an id
pub known_one : (P : KnownSegment → Type 0) (known : List KnownSegment) (id : ℕ) (own : KnownSegment) → AllByRecursion P known → known_as known id ≡ Some own → P own
known_one P [] id own all found = absurd (none-some own found)
known_one P (it ∷ known) id own all found = by_id (has_id id it) refl (known_one P known id own all.1)
  where
    by_id : (same : Bool) → has_id id it ≡ same → (known_as known id ≡ Some own → P own) → P own
    by_id true same more = subst P (ap (λ (one : Option KnownSegment). unwrap_or one it) (ap (λ (b : Bool). cond b (Some it) (known_as known id)) (sym same) ∙ found)) all.0
    by_id false same more = more (ap (λ (b : Bool). cond b (Some it) (known_as known id)) (sym same) ∙ found)

pub known_all : (P : Extent → Type 0) (known : List KnownSegment) (id : ℕ) (own : KnownSegment) → AllByRecursion P (known_extents known) → known_as known id ≡ Some own → P own.extent
known_all P [] id own all found = absurd (none-some own found)
known_all P (it ∷ known) id own all found = by_id (has_id id it) refl (known_all P known id own all.1)
  where
    by_id : (same : Bool) → has_id id it ≡ same → (known_as known id ≡ Some own → P own.extent) → P own.extent
    by_id true same more =
        let is : it ≡ own = ap (λ (one : Option KnownSegment). unwrap_or one it) (ap (λ (b : Bool). cond b (Some it) (known_as known id)) (sym same) ∙ found) in
        subst (λ (one : KnownSegment). P one.extent) is all.0
    by_id false same more = more (ap (λ (b : Bool). cond b (Some it) (known_as known id)) (sym same) ∙ found)

pub planned_all : (P : Extent → Type 0) (known : List KnownSegment) (limit : ℕ) (view : List EntryState) (taken extents : List Extent)
    → placed limit taken (new_sizes known view) ≡ Some extents → AllByRecursion P extents → AllByRecursion P (known_extents known)
    → AllByRecursion P (map (λ (segment : PlannedSegment). segment.extent) (planned known view extents))
planned_all P known limit [] taken extents same new old = tt
planned_all P known limit (entry ∷ view) taken extents same new old =
    by_known (known_as known entry.id) refl (λ taken extents same new. planned_all P known limit view taken extents same new old)
  where
    by_known : (own : Option KnownSegment) → known_as known entry.id ≡ own
        → ((taken extents : List Extent) → placed limit taken (new_sizes known view) ≡ Some extents → AllByRecursion P extents
        → AllByRecursion P (map (λ (segment : PlannedSegment). segment.extent) (planned known view extents)))
        → AllByRecursion P (map (λ (segment : PlannedSegment). segment.extent) (planned_as entry own extents ∷ planned known view (extents_left own extents)))
    by_known (Some own) is more = (
      known_all P known entry.id own old is,
      more taken extents (ap (λ (it : Option KnownSegment). placed limit taken (cons_option (size_unless entry it) (new_sizes known view))) (sym is) ∙ same) new,
    )
    by_known None is more =
        let size : ℕ = length (segment_text entry.columns) in
        let front = front_is limit taken (fit limit taken size) (placed limit (with_taken (fit limit taken size) taken) (new_sizes known view)) extents
        (ap (λ (it : Option KnownSegment). placed limit taken (cons_option (size_unless entry it) (new_sizes known view))) (sym is) ∙ same) in
        let all : AllByRecursion P (front.0 ∷ front.1) = subst (AllByRecursion P) front.4 new in
        subst (λ (it : List Extent). AllByRecursion P (map (λ (segment : PlannedSegment). segment.extent) (planned_as entry None it ∷ planned known view (extents_left None it)))) (sym front.4)
        (all.0, more (with_taken (fit limit taken size) taken) front.1 front.3 all.1)

-- the extents that entries of a view have already
abbrev extent_known : Option KnownSegment → Option Extent
extent_known own = option_map (λ (it : KnownSegment). it.extent) own

abbrev staying : List KnownSegment → List EntryState → List Extent
staying known view = filter_map (λ (entry : EntryState). extent_known (known_as known entry.id)) view

one_more : (test : Extent → Bool) (first : Extent) (others : List Extent) → count_by test (first ∷ others) ≡ cond (test first) 1 0 + count_by test others
one_more test first others = sum_by-cons (λ (it : Extent). cond (test it) 1 0) first others

planned_count : (test : Extent → Bool) (known : List KnownSegment) (limit : ℕ) (view : List EntryState) (taken extents : List Extent) → placed limit taken (new_sizes known view) ≡ Some extents
    → count_by test (map (λ (segment : PlannedSegment). segment.extent) (planned known view extents)) ≡ count_by test extents + count_by test (staying known view)
planned_count test known limit [] taken extents same =
    let none : extents ≡ [] = sym (ap (λ (it : Option (List Extent)). unwrap_or it extents) same) in
    ap (λ (it : List Extent). count_by test it + 0) (sym none)
planned_count test known limit (entry ∷ view) taken extents same = by_known (known_as known entry.id) refl (planned_count test known limit view)
  where
    by_known : (own : Option KnownSegment) → known_as known entry.id ≡ own
        → ((taken extents : List Extent) → placed limit taken (new_sizes known view) ≡ Some extents
        → count_by test (map (λ (segment : PlannedSegment). segment.extent) (planned known view extents)) ≡ count_by test extents + count_by test (staying known view))
        → count_by test (map (λ (segment : PlannedSegment). segment.extent) (planned_as entry own extents ∷ planned known view (extents_left own extents)))
        ≡ count_by test extents + count_by test (cons_option (extent_known own) (staying known view))
    by_known (Some own) is whole =
        let more = whole taken extents (ap (λ (it : Option KnownSegment). placed limit taken (cons_option (size_unless entry it) (new_sizes known view))) (sym is) ∙ same) in
        let here = one_more test own.extent (map (λ (segment : PlannedSegment). segment.extent) (planned known view extents)) in
        let there = one_more test own.extent (staying known view) in
        omega (arith, more, here, there)
    by_known None is whole =
        let size : ℕ = length (segment_text entry.columns) in
        let front = front_is limit taken (fit limit taken size) (placed limit (with_taken (fit limit taken size) taken) (new_sizes known view)) extents
        (ap (λ (it : Option KnownSegment). placed limit taken (cons_option (size_unless entry it) (new_sizes known view))) (sym is) ∙ same) in
        let more = whole (with_taken (fit limit taken size) taken) front.1 front.3 in
        let here = one_more test front.0 (map (λ (segment : PlannedSegment). segment.extent) (planned known view front.1)) in
        let there = one_more test front.0 front.1 in
        subst (λ (it : List Extent). count_by test (map (λ (segment : PlannedSegment). segment.extent) (planned_as entry None it ∷ planned known view (extents_left None it))) ≡ count_by test it + count_by test (staying known view))
        (sym front.4) (omega (arith, more, here, there))

-- no entry of a view has this id
abbrev HasNot : ℕ → List EntryState → Type 0
HasNot id view = AllByRecursion (λ (entry : EntryState). entry.id ≢ id) view

-- each entry has another id than those behind it
abbrev pub HaveIds : List EntryState → Type 0
HaveIds [] = Unit {0}
HaveIds (entry ∷ view) = HasNot entry.id view × HaveIds view

own_first : (entry : EntryState) (view : List EntryState) → HaveOwnIds (entry ∷ view) → (rest : List EntryState) (from : ℕ)
    → ((i : ℕ) (d : EntryState) → i < length rest → get_or rest i d ≡ get_or view (from + i) d) → from + length rest ≤ length view → HasNot entry.id rest
own_first entry view own [] from at within = tt
own_first entry view own (it ∷ rest) from at within = (
  λ same. own 0 (suc from) it (omega arith) (omega (arith, within))
      (sym same ∙ ap (λ (one : EntryState). one.id) (at 0 it (omega arith) ∙ ap (λ (n : ℕ). get_or view n it) (let e : from + 0 ≡ from = omega arith in e))),
  own_first entry view own rest (from + 1)
      (λ i d less. at (suc i) d (omega (arith, less)) ∙ ap (λ (n : ℕ). get_or view n d) (let e : from + suc i ≡ from + 1 + i = omega arith in e))
      (omega (arith, within)),
)

pub ids_by_recursion : (view : List EntryState) → HaveOwnIds view → HaveIds view
ids_by_recursion [] own = tt
ids_by_recursion (entry ∷ view) own = (
  own_first entry view own view 0 (λ i d less. ap (λ (n : ℕ). get_or view n d) (let e : i ≡ 0 + i = omega arith in e)) (omega arith),
  ids_by_recursion view (λ i j d before within. own (suc i) (suc j) d (omega (arith, before)) (omega (arith, within))),
)

skipped : (it : KnownSegment) (known : List KnownSegment) (view : List EntryState) → HasNot it.entry.id view → staying (it ∷ known) view ≡ staying known view
skipped it known [] none = refl
skipped it known (entry ∷ view) none = by_id (has_id entry.id it) refl (skipped it known view none.1)
  where
    by_id : (same : Bool) → has_id entry.id it ≡ same → staying (it ∷ known) view ≡ staying known view → staying (it ∷ known) (entry ∷ view) ≡ staying known (entry ∷ view)
    by_id true same more = absurd (none.0 (sym (eqb-true it.entry.id entry.id same)))
    by_id false same more =
        ap (λ (b : Bool). cons_option (extent_known (cond b (Some it) (known_as known entry.id))) (staying (it ∷ known) view)) same
        ∙ ap (cons_option (extent_known (known_as known entry.id))) more

not_other : (it : KnownSegment) (id : ℕ) → has_id id it ≡ true → (view : List EntryState) → HasNot id view → HasNot it.entry.id view
not_other it id same view none = subst (λ (n : ℕ). HasNot n view) (sym (eqb-true it.entry.id id same)) none

more_stay : (test : Extent → Bool) (own : Option Extent) (rest : List Extent) → count_by test rest ≤ count_by test (cons_option own rest)
more_stay test None rest = omega arith
more_stay test (Some extent) rest = omega (arith, one_more test extent rest)

with_one : (test : Extent → Bool) (own : Option Extent) (ones others : List Extent) (n : ℕ) → count_by test ones ≤ n + count_by test others
    → count_by test (cons_option own ones) ≤ n + count_by test (cons_option own others)
with_one test None ones others n fewer = fewer
with_one test (Some extent) ones others n fewer = omega (arith, fewer, one_more test extent ones, one_more test extent others)

-- one known segment more is one extent more that stays, at most
stays_more : (test : Extent → Bool) (it : KnownSegment) (known : List KnownSegment) (view : List EntryState) → HaveIds view
    → count_by test (staying (it ∷ known) view) ≤ cond (test it.extent) 1 0 + count_by test (staying known view)
stays_more test it known [] ids = omega arith
stays_more test it known (entry ∷ view) ids = by_id (has_id entry.id it) refl (stays_more test it known view ids.1)
  where
    by_id : (same : Bool) → has_id entry.id it ≡ same → count_by test (staying (it ∷ known) view) ≤ cond (test it.extent) 1 0 + count_by test (staying known view)
        → count_by test (staying (it ∷ known) (entry ∷ view)) ≤ cond (test it.extent) 1 0 + count_by test (staying known (entry ∷ view))
    by_id true same more =
        let is : staying (it ∷ known) (entry ∷ view) ≡ it.extent ∷ staying known view
        = ap (λ (b : Bool). cons_option (extent_known (cond b (Some it) (known_as known entry.id))) (staying (it ∷ known) view)) same
        ∙ ap (λ (rest : List Extent). it.extent ∷ rest) (skipped it known view (not_other it entry.id same view ids.0)) in
        omega (arith, ap (count_by test) is, one_more test it.extent (staying known view), more_stay test (extent_known (known_as known entry.id)) (staying known view))
    by_id false same more =
        subst (λ (own : List Extent). count_by test own ≤ cond (test it.extent) 1 0 + count_by test (staying known (entry ∷ view)))
        (sym (ap (λ (b : Bool). cons_option (extent_known (cond b (Some it) (known_as known entry.id))) (staying (it ∷ known) view)) same))
        (with_one test (extent_known (known_as known entry.id)) (staying (it ∷ known) view) (staying known view) (cond (test it.extent) 1 0) more)

none_stay : (test : Extent → Bool) (view : List EntryState) → count_by test (staying [] view) ≡ 0
none_stay test [] = refl
none_stay test (entry ∷ view) = none_stay test view

stays_fewer : (test : Extent → Bool) (known : List KnownSegment) (view : List EntryState) → HaveIds view → count_by test (staying known view) ≤ count_by test (known_extents known)
stays_fewer test [] view ids = omega (arith, none_stay test view)
stays_fewer test (it ∷ known) view ids =
    omega (arith, stays_more test it known view ids, stays_fewer test known view ids, one_more test it.extent (known_extents known))

-- of the planned extents no more pass a test than of the new ones and of all that the store knows
pub planned_fewer : (test : Extent → Bool) (known : List KnownSegment) (limit : ℕ) (view : List EntryState) (taken extents : List Extent) → HaveIds view
    → placed limit taken (new_sizes known view) ≡ Some extents
    → count_by test (map (λ (segment : PlannedSegment). segment.extent) (planned known view extents)) ≤ count_by test extents + count_by test (known_extents known)
planned_fewer test known limit view taken extents ids same =
    omega (arith, planned_count test known limit view taken extents same, stays_fewer test known view ids)
