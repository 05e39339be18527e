-- Open merges beside entries: each keeps its neighbours while others give way and roots die.
use Rattle.std.proofs.Common.{◌≡◌, ◌≢◌, inl, inr, ℕ, zero, suc, ◌<◌, Bool, true, false, List, [], ◌∷◌, length, map, take, drop, set, get_or, slice_get, slice_index_or, Contains, Some, refl, sym, ap, subst, ◌∙◌, arith}
use Rattle.std.specs.List.{All, AllByRecursion, AllZip, find, take-map, drop-map}
use Rattle.std.proofs.lemmas.List.Elements.{All-head, All-tail}
use Rattle.layout.proofs.Merging.{AreDistinct, AreUnder, HaveIds, all_weaker, range_of, ranges_of, segment_id}
use Rattle.layout.specs.Layout.{OpenMerge}
use Rattle.merge_jobs.specs.Job.{AreLater, IsLater, segment_kept, segments_kept}
use Rattle.merge_jobs.specs.Open.{OpenState, is_named, merges_in, parts_in}
use Rattle.segment.specs.Live.{EntryState}
use Rattle.segment_view.specs.Views.{HaveOwnIds, is_live_root, with_dead}
use Rattle.view_merge.specs.Given.{IsKeptOrMade}
use Rattle.index_core.specs.Found.{AreBelow, AreKept, ComesLater, HasJob, IsJobOver, IsLaterOf, entry_id}
use Rattle.layout.specs.Merges.{AreOpen}

-- ---- lists

pub each : {A : Type 0} (P : A → Type 0) (xs : List A) → All P xs → AllByRecursion P xs
each P [] all = tt
each P (x ∷ xs) all = (All-head P x xs all, each P xs (All-tail P x xs all))

pub one_of : {A : Type 0} (P : A → Type 0) (xs : List A) (x : A) → AllByRecursion P xs → Contains xs x → P x
one_of P [] x all (k, within, at) = absurd (omega (arith, within))
one_of P (y ∷ xs) x all (zero, within, at) = subst P at all.0
one_of P (y ∷ xs) x all (suc k, within, at) = one_of P xs x all.1 (k, omega (arith, within), at)

pub all_drop : {A : Type 0} (P : A → Type 0) (n : ℕ) (xs : List A) → AllByRecursion P xs → AllByRecursion P (drop n xs)
all_drop P zero xs all = all
all_drop P (suc n) [] all = tt
all_drop P (suc n) (x ∷ xs) all = all_drop P n xs all.1

pub all_take : {A : Type 0} (P : A → Type 0) (n : ℕ) (xs : List A) → AllByRecursion P xs → AllByRecursion P (take n xs)
all_take P zero xs all = tt
all_take P (suc n) [] all = tt
all_take P (suc n) (x ∷ xs) all = (all.0, all_take P n xs all.1)

all_same : {A : Type 0} (P : ℕ → Type 0) (f : A → ℕ) (xs : List A) → AllByRecursion P (map f xs) → AllByRecursion (λ x. P (f x)) xs
all_same P f [] all = tt
all_same P f (x ∷ xs) all = (all.0, all_same P f xs all.1)

all_mapped : {A : Type 0} (P : ℕ → Type 0) (f : A → ℕ) (xs : List A) → AllByRecursion (λ x. P (f x)) xs → AllByRecursion P (map f xs)
all_mapped P f [] all = tt
all_mapped P f (x ∷ xs) all = (all.0, all_mapped P f xs all.1)

-- ---- ids

pub ids_kept : (entries : List EntryState) → map segment_id (segments_kept entries) ≡ map entry_id entries
ids_kept [] = refl
ids_kept (entry ∷ entries) = ap (λ ns. entry.id ∷ ns) (ids_kept entries)

pub range_kept : (entries : List EntryState) (m : OpenMerge) → map segment_id (range_of (segments_kept entries) m) ≡ map entry_id (take m.count (drop m.from entries))
range_kept entries m =
    ap (λ xs. map segment_id (take m.count xs)) (drop-map segment_kept m.from entries)
    ∙ ap (map segment_id) (take-map segment_kept m.count (drop m.from entries))
    ∙ ids_kept (take m.count (drop m.from entries))

pairs_first : (x : EntryState) (xs : List EntryState) → HaveOwnIds (x ∷ xs) → AllByRecursion (λ (y : EntryState). x.id ≢ y.id) xs
pairs_first x [] own = tt
pairs_first x (y ∷ xs) own = (own 0 1 x (omega arith) (omega arith), pairs_first x xs (λ i j d less within. skipped i j d less within))
  where
    skipped : (i j : ℕ) (d : EntryState) → i < j → j < length (x ∷ xs) → (slice_index_or (x ∷ xs) i d).id ≢ (slice_index_or (x ∷ xs) j d).id
    skipped i zero d less within = absurd (omega (arith, less))
    skipped zero (suc j) d less within = own zero (suc (suc j)) d (omega arith) (omega (arith, within))
    skipped (suc i) (suc j) d less within = own (suc (suc i)) (suc (suc j)) d (omega (arith, less)) (omega (arith, within))

pub own_ids : (entries : List EntryState) → HaveOwnIds entries → AreDistinct (map entry_id entries)
own_ids [] own = tt
own_ids (entry ∷ entries) own =
    (all_mapped (λ n. entry.id ≢ n) entry_id entries (pairs_first entry entries own), own_ids entries (λ i j d less within. own (suc i) (suc j) d (omega (arith, less)) (omega (arith, within))))

pub have_ids : (made : ℕ) (entries : List EntryState) → HaveOwnIds entries → All (λ (entry : EntryState). entry.id < made) entries → HaveIds (segments_kept entries) made
have_ids made entries own below = record {
  distinct = subst AreDistinct (sym (ids_kept entries)) (own_ids entries own);
  under = subst (AreUnder made) (sym (ids_kept entries)) (all_mapped (λ n. n < made) entry_id entries (each (λ (entry : EntryState). entry.id < made) entries below));
}

-- ---- other entries

-- the ids of a merge's parts are those of segments
parts_under : (made : ℕ) (entries : List EntryState) (job : OpenState) → All (λ (entry : EntryState). entry.id < made) entries → IsJobOver entries job → AllByRecursion (λ (part : EntryState). part.id < made) job.parts
parts_under made entries job below over =
    let all = all_take (λ (entry : EntryState). entry.id < made) job.merge.count (drop job.merge.from entries) (all_drop (λ (entry : EntryState). entry.id < made) job.merge.from entries (each (λ (entry : EntryState). entry.id < made) entries below)) in
    all_same (λ n. n < made) entry_id job.parts (subst (AreUnder made) (sym over.ids) (all_mapped (λ n. n < made) entry_id (take job.merge.count (drop job.merge.from entries)) all))

-- entries that are these, or were made later, come later as these do
pub still_later : (made : ℕ) (entries now : List EntryState) (part : EntryState) → part.id < made → All (IsKeptOrMade entries made) now → ComesLater entries part → ComesLater now part
still_later made entries now part less kept later = all_weaker (IsKeptOrMade entries made) (IsLaterOf part) one now (each (IsKeptOrMade entries made) now kept)
  where
    one : (entry : EntryState) → IsKeptOrMade entries made entry → IsLaterOf part entry
    one entry (inl here) = one_of (IsLaterOf part) entries entry later here
    one entry (inr new) = λ same. absurd (omega (arith, new, same, less))

both_later : (made : ℕ) (entries now : List EntryState) (parts : List EntryState) → All (IsKeptOrMade entries made) now → AllByRecursion (λ (part : EntryState). part.id < made) parts → AllByRecursion (ComesLater entries) parts → AllByRecursion (ComesLater now) parts
both_later made entries now [] kept under later = tt
both_later made entries now (part ∷ parts) kept under later = (still_later made entries now part under.0 kept later.0, both_later made entries now parts kept under.1 later.1)

heads : {A : Type 0} (x y : A) (xs ys : List A) → x ∷ xs ≡ y ∷ ys → x ≡ y
heads x y xs ys e = cc (e)

tails : {A : Type 0} (x y : A) (xs ys : List A) → x ∷ xs ≡ y ∷ ys → xs ≡ ys
tails x y xs ys e = cc (e)

-- merges are over other entries where these have the same segments in each range
pub over_moved : (made : ℕ) (entries now : List EntryState) (jobs moved : List OpenState) → All (λ (entry : EntryState). entry.id < made) entries → All (IsKeptOrMade entries made) now
    → map parts_in moved ≡ map parts_in jobs → ranges_of (segments_kept now) (merges_in moved) ≡ ranges_of (segments_kept entries) (merges_in jobs) → AllByRecursion (IsJobOver entries) jobs → AllByRecursion (IsJobOver now) moved
over_moved made entries now [] [] below kept parts ranges over = tt
over_moved made entries now [] (job ∷ moved) below kept parts ranges over = absurd (cc (parts))
over_moved made entries now (job ∷ jobs) [] below kept parts ranges over = absurd (cc (parts))
over_moved made entries now (job ∷ jobs) (next ∷ moved) below kept parts ranges over =
    let same : next.parts ≡ job.parts = heads next.parts job.parts (map parts_in moved) (map parts_in jobs) parts in
    let range : range_of (segments_kept now) next.merge ≡ range_of (segments_kept entries) job.merge = heads (range_of (segments_kept now) next.merge) (range_of (segments_kept entries) job.merge) (ranges_of (segments_kept now) (merges_in moved)) (ranges_of (segments_kept entries) (merges_in jobs)) ranges in (
      record {
        ids = ap (map entry_id) same ∙ over.0.ids ∙ sym (range_kept entries job.merge) ∙ ap (map segment_id) (sym range) ∙ range_kept now next.merge;
        later = subst (AllByRecursion (ComesLater now)) (sym same) (both_later made entries now job.parts kept (parts_under made entries job below over.0) over.0.later);
      },
      over_moved made entries now jobs moved below kept (tails next.parts job.parts (map parts_in moved) (map parts_in jobs) parts)
          (tails (range_of (segments_kept now) next.merge) (range_of (segments_kept entries) job.merge) (ranges_of (segments_kept now) (merges_in moved)) (ranges_of (segments_kept entries) (merges_in jobs)) ranges) over.1,
    )

-- merges are over entries in which roots died
pub over_died : (entries now : List EntryState) (jobs : List OpenState) → AllZip IsLater entries now → AllByRecursion (IsJobOver entries) jobs → AllByRecursion (IsJobOver now) jobs
over_died entries now [] died over = tt
over_died entries now (job ∷ jobs) died over =
    (record { ids = over.0.ids ∙ same_range job.merge.count job.merge.from entries now died; later = all_weaker (ComesLater entries) (ComesLater now) (λ part later. died_later part entries now died later) job.parts over.0.later }, over_died entries now jobs died over.1)
  where
    then_later : (part entry next : EntryState) → IsLater part entry → IsLater entry next → IsLater part next
    then_later part entry next one two = record { id = two.id ∙ one.id; columns = two.columns ∙ one.columns; live = λ root is. one.live root (two.live root is) }

    died_later : (part : EntryState) (es ns : List EntryState) → AllZip IsLater es ns → ComesLater es part → ComesLater ns part
    died_later part [] [] zip later = tt
    died_later part [] (n ∷ ns) zip later = absurd zip
    died_later part (e ∷ es) [] zip later = absurd zip
    died_later part (e ∷ es) (n ∷ ns) zip later = (λ same. then_later part e n (later.0 (sym zip.0.id ∙ same)) zip.0, died_later part es ns zip.1 later.1)

    same_ids : (es ns : List EntryState) → AllZip IsLater es ns → map entry_id es ≡ map entry_id ns
    same_ids [] [] zip = refl
    same_ids [] (n ∷ ns) zip = absurd zip
    same_ids (e ∷ es) [] zip = absurd zip
    same_ids (e ∷ es) (n ∷ ns) zip = rw (zip.0.id, same_ids es ns zip.1) refl

    same_range : (count from : ℕ) (es ns : List EntryState) → AllZip IsLater es ns → map entry_id (take count (drop from es)) ≡ map entry_id (take count (drop from ns))
    same_range count from es ns zip =
        sym (take-map entry_id count (drop from es)) ∙ ap (take count) (sym (drop-map entry_id from es)) ∙ ap (λ xs. take count (drop from xs)) (same_ids es ns zip) ∙ ap (take count) (drop-map entry_id from ns) ∙ take-map entry_id count (drop from ns)

-- ---- what stands in a range

pub are_later : (entries parts : List EntryState) → map entry_id parts ≡ map entry_id entries → AllByRecursion (ComesLater entries) parts → AreLater parts entries
are_later entries parts same later = zipped parts entries same (all_weaker (ComesLater entries) (ComesLater entries) (λ part l. l) parts later)
  where
    zipped : (ps es : List EntryState) → map entry_id ps ≡ map entry_id es → AllByRecursion (ComesLater es) ps → AreLater ps es
    zipped [] [] e all = tt
    zipped [] (x ∷ es) e all = absurd (cc (e))
    zipped (p ∷ ps) [] e all = absurd (cc (e))
    zipped (p ∷ ps) (x ∷ es) e all = (
      all.0.0 (sym (heads p.id x.id (map entry_id ps) (map entry_id es) e)),
      zipped ps es (tails p.id x.id (map entry_id ps) (map entry_id es) e) (all_weaker (ComesLater (x ∷ es)) (ComesLater es) (λ part l. l.1) ps all.1),
    )

-- the parts of the merge with an id are the entries of its range, later on
pub range_later : (view : List EntryState) (jobs : List OpenState) (id : ℕ) (own job : OpenState) (range : ℕ × ℕ) (entries : List EntryState) → HasJob view jobs id own → find (is_named id) jobs ≡ Some job → range ≡ (job.merge.from, job.merge.count)
    → entries ≡ take range.1 (drop range.0 view) → AreLater job.parts entries
range_later view jobs id own job range entries has named is at =
    let same : own ≡ job = some_is own job (sym has.named ∙ named) in
    let later = subst (λ (j : OpenState). AreLater j.parts (take j.merge.count (drop j.merge.from view))) same has.same in
    subst (AreLater job.parts) (sym at) (subst (λ (r : ℕ × ℕ). AreLater job.parts (take r.1 (drop r.0 view))) (sym is) later)
  where
    some_is : (x y : OpenState) → Some x ≡ Some y → x ≡ y
    some_is x y e = cc (e)

-- ---- a root dies

flag_died : (marks : List Bool) (root at : ℕ) → slice_index_or (set marks root false) at false ≡ true → slice_index_or marks at false ≡ true
flag_died [] root at is = is
flag_died (mark ∷ marks) zero zero is = absurd (cc (is))
flag_died (mark ∷ marks) zero (suc at) is = is
flag_died (mark ∷ marks) (suc root) zero is = is
flag_died (mark ∷ marks) (suc root) (suc at) is = flag_died marks root at is

pub same_later : (entries : List EntryState) → AllZip IsLater entries entries
same_later [] = tt
same_later (entry ∷ entries) = (record { id = refl; columns = refl; live = λ root is. is }, same_later entries)

pub died_at : (entries : List EntryState) (index root : ℕ) (entry : EntryState) → slice_get entries index ≡ Some entry → AllZip IsLater entries (set entries index (with_dead root entry))
died_at [] index root entry at = absurd (cc (at))
died_at (e ∷ entries) zero root entry at =
    let same : e ≡ entry = some_entry e entry at in
    (record { id = ap entry_id (sym same); columns = ap (λ (x : EntryState). x.columns) (sym same); live = λ r is. subst (λ (x : EntryState). is_live_root r x ≡ true) (sym same) (flag_died entry.live.roots root r is) }, same_later entries)
  where
    some_entry : (x y : EntryState) → Some x ≡ Some y → x ≡ y
    some_entry x y h = cc (h)
died_at (e ∷ entries) (suc index) root entry at = (record { id = refl; columns = refl; live = λ r is. is }, died_at entries index root entry at)

pub zip_long : (entries now : List EntryState) → AllZip IsLater entries now → length now ≡ length entries
zip_long [] [] zip = refl
zip_long [] (n ∷ now) zip = absurd zip
zip_long (e ∷ entries) [] zip = absurd zip
zip_long (e ∷ entries) (n ∷ now) zip = omega (arith, zip_long entries now zip.1)

pub kept_died : (made started factor : ℕ) (entries now : List EntryState) (jobs : List OpenState) → AllZip IsLater entries now → AreBelow made now → AreKept made started factor entries jobs → AreKept made started factor now jobs
kept_died made started factor entries now jobs died below is = record {
  below = below;
  open_are = subst (λ n. AreOpen n started (merges_in jobs)) (sym (zip_long entries now died)) is.open_are;
  over = over_died entries now jobs died is.over;
  factor_is = is.factor_is;
}

-- ---- entries by their ids

-- an entry with the id of a part is that part
abbrev pub IsItself : EntryState → EntryState → Type 0
IsItself part entry = entry.id ≡ part.id → entry ≡ part

pub own_same : (entries : List EntryState) → AreDistinct (map entry_id entries) → AllByRecursion (λ (part : EntryState). AllByRecursion (IsItself part) entries) entries
own_same [] distinct = tt
own_same (entry ∷ entries) distinct = ((λ same. refl, others entries distinct.0), each_other entries entries distinct.0 (own_same entries distinct.1))
  where
    others : (es : List EntryState) → AllByRecursion (λ n. entry.id ≢ n) (map entry_id es) → AllByRecursion (IsItself entry) es
    others [] apart = tt
    others (e ∷ es) apart = (λ same. absurd (apart.0 (sym same)), others es apart.1)

    each_other : (parts es : List EntryState) → AllByRecursion (λ n. entry.id ≢ n) (map entry_id parts) → AllByRecursion (λ (part : EntryState). AllByRecursion (IsItself part) es) parts
        → AllByRecursion (λ (part : EntryState). AllByRecursion (IsItself part) (entry ∷ es)) parts
    each_other [] es apart same = tt
    each_other (p ∷ parts) es apart same = ((λ is. absurd (apart.0 is), same.0), each_other parts es apart.1 same.1)

-- entries that are these or were made later, and have the same ids, are these
pub same_view : (made : ℕ) (entries now : List EntryState) → HaveOwnIds entries → All (λ (entry : EntryState). entry.id < made) entries → All (IsKeptOrMade entries made) now → map entry_id now ≡ map entry_id entries → now ≡ entries
same_view made entries now own below kept same =
    by now entries (each (IsKeptOrMade entries made) now kept) (own_same entries (own_ids entries own)) (each (λ (entry : EntryState). entry.id < made) entries below) same
  where
    by : (ns es : List EntryState) → AllByRecursion (IsKeptOrMade entries made) ns → AllByRecursion (λ (part : EntryState). AllByRecursion (IsItself part) entries) es → AllByRecursion (λ (entry : EntryState). entry.id < made) es → map entry_id ns ≡ map entry_id es → ns ≡ es
    by [] [] kept is under e = refl
    by [] (x ∷ es) kept is under e = absurd (cc (e))
    by (n ∷ ns) [] kept is under e = absurd (cc (e))
    by (n ∷ ns) (x ∷ es) kept is under e =
        let id = heads n.id x.id (map entry_id ns) (map entry_id es) e in
        let rest = by ns es kept.1 is.1 under.1 (tails n.id x.id (map entry_id ns) (map entry_id es) e) in
        rw (one kept.0 is.0 under.0 id, rest) refl
      where
        one : IsKeptOrMade entries made n → AllByRecursion (IsItself x) entries → x.id < made → n.id ≡ x.id → n ≡ x
        one (inl here) is less id = one_of (IsItself x) entries n is here id
        one (inr new) is less id = absurd (omega (arith, new, less, id))

-- entries at one place have the same id, where the lists have the same ids
pub ids_at : (ones others : List EntryState) (i : ℕ) (x y : EntryState) → map entry_id ones ≡ map entry_id others → i < length ones → x ≡ get_or ones i x → y ≡ get_or others i y → x.id ≡ y.id
ids_at [] others i x y same within at there = absurd (omega (arith, within))
ids_at (one ∷ ones) [] i x y same within at there = absurd (cc (same))
ids_at (one ∷ ones) (other ∷ others) zero x y same within at there =
    ap entry_id at ∙ heads one.id other.id (map entry_id ones) (map entry_id others) same ∙ ap entry_id (sym there)
ids_at (one ∷ ones) (other ∷ others) (suc i) x y same within at there =
    ids_at ones others i x y (tails one.id other.id (map entry_id ones) (map entry_id others) same) (omega (arith, within)) at there
