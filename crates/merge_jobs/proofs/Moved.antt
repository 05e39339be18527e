-- Merges one after the other, as they are moved or changed.
use Rattle.std.proofs.Common.{◌≡◌, ℕ, zero, suc, ◌+◌, ◌-◌, ◌==◌, ◌<◌, true, false, cond, List, [], ◌∷◌, ◌++◌, length, map, filter, take, drop, set, get_or, slice_get, Option, Some, None, refl, sym, ap, subst, ◌∙◌, arith, eqb-true}
use Rattle.std.specs.List.{find}
use Rattle.std.proofs.lemmas.Bool.{eqb-false}
use Rattle.std.proofs.lemmas.List.{drop_more}
use Rattle.layout.proofs.Goes.{split}
use Rattle.layout.proofs.Looked.{find_passes}
use Rattle.layout.specs.Ascending.{Ascend}
use Rattle.layout.specs.Layout.{OpenMerge}
use Rattle.layout.specs.Merges.{advanced_if, merge_id}
use Rattle.merge_jobs.specs.Open.{OpenState, at_rows, is_named, is_other_than, merge_shown, merges_in, merges_shown, parts_in, placeless, with_merge}
use Rattle.merge_jobs.specs.declared.rows.MergeRow.{MergeRow}
use Rattle.merge_jobs.proofs.Keyed.{changed_if, map_same, one_changed, one_out}

-- ---- one after the other

pub next_set : {A : Type 0} (f : A → A) (old now : List A) (index : ℕ) (x y d : A) → now ≡ map f (take index old) ++ drop index old → index < length now → x ≡ get_or now index d → y ≡ f x → set now index y ≡ map f (take (index + 1) old) ++ drop (index + 1) old
next_set {A = A} f old now index x y d is within at put =
    ap (set now index) put ∙ ap (λ z. set now index (f z)) at ∙ ap (λ zs. set zs index (f (get_or zs index d))) is ∙ step old index (subst (λ zs. index < length zs) is within)
  where
    step : (xs : List A) (i : ℕ) → i < length (map f (take i xs) ++ drop i xs) → set (map f (take i xs) ++ drop i xs) i (f (get_or (map f (take i xs) ++ drop i xs) i d)) ≡ map f (take (i + 1) xs) ++ drop (i + 1) xs
    step [] zero h = absurd (omega (arith, h))
    step [] (suc i) h = absurd (omega (arith, h))
    step (z ∷ xs) zero h = refl
    step (z ∷ xs) (suc i) h = let next : suc i + 1 ≡ suc (i + 1) = omega arith in rw next (ap (λ zs. f z ∷ zs) (step xs i (omega (arith, h))))

pub next_length : {A : Type 0} (f : A → A) (old : List A) (index : ℕ) → length (map f (take index old) ++ drop index old) ≡ length old
next_length f [] zero = refl
next_length f [] (suc index) = refl
next_length f (x ∷ old) zero = refl
next_length f (x ∷ old) (suc index) = omega (arith, next_length f old index)

abbrev pub put_at : OpenState → ℕ → OpenState
put_at job from = record job { merge = record job.merge { from = from } }

at_none : (jobs : List OpenState) → at_rows jobs [] ≡ jobs
at_none [] = refl
at_none (job ∷ jobs) = refl

pub no_rows : (jobs : List OpenState) → jobs ≡ at_rows jobs []
no_rows jobs = sym (at_none jobs)

pub at_length : (jobs : List OpenState) (rows : List MergeRow) → length (at_rows jobs rows) ≡ length jobs
at_length [] rows = refl
at_length (job ∷ jobs) [] = refl
at_length (job ∷ jobs) (row ∷ rows) = omega (arith, at_length jobs rows)

pub at_next : (old : List OpenState) (rows : List MergeRow) (index : ℕ) (d : OpenState) (r : MergeRow) → index < length rows → index < length old
    → set (at_rows old (take index rows)) index (put_at (get_or (at_rows old (take index rows)) index d) (get_or rows index r).from) ≡ at_rows old (take (index + 1) rows)
at_next [] rows index d r h k = absurd (omega (arith, k))
at_next (job ∷ old) [] index d r h k = absurd (omega (arith, h))
at_next (job ∷ old) (row ∷ rows) zero d r h k = ap (λ js. put_at job row.from ∷ js) (sym (at_none old))
at_next (job ∷ old) (row ∷ rows) (suc index) d r h k =
    let next : suc index + 1 ≡ suc (index + 1) = omega arith in
    rw next (ap (λ js. put_at job row.from ∷ js) (at_next old rows index d r (omega (arith, h)) (omega (arith, k))))

heads : {A : Type 0} (x y : A) (xs ys : List A) → x ∷ xs ≡ y ∷ ys → x ≡ y
heads x y xs ys e = cc (e)

tails : {A : Type 0} (x y : A) (xs ys : List A) → x ∷ xs ≡ y ∷ ys → xs ≡ ys
tails x y xs ys e = cc (e)

-- merges at the places of rows that are theirs are those of the rows
pub placed_merges : (jobs : List OpenState) (rows : List MergeRow) → map placeless (merges_shown rows) ≡ map placeless (merges_in jobs) → merges_in (at_rows jobs rows) ≡ merges_shown rows
placed_merges [] [] same = refl
placed_merges [] (row ∷ rows) same = absurd (cc (same))
placed_merges (job ∷ jobs) [] same = absurd (cc (same))
placed_merges (job ∷ jobs) (row ∷ rows) same =
    let first = heads (placeless (merge_shown row)) (placeless job.merge) (map placeless (merges_shown rows)) (map placeless (merges_in jobs)) same in
    let rest = tails (placeless (merge_shown row)) (placeless job.merge) (map placeless (merges_shown rows)) (map placeless (merges_in jobs)) same in
    ap (λ (m : OpenMerge). record m { from = row.from } ∷ merges_in (at_rows jobs rows)) (sym first) ∙ ap (λ ms. merge_shown row ∷ ms) (placed_merges jobs rows rest)

pub placed_parts : (jobs : List OpenState) (rows : List MergeRow) → map parts_in (at_rows jobs rows) ≡ map parts_in jobs
placed_parts [] rows = refl
placed_parts (job ∷ jobs) [] = refl
placed_parts (job ∷ jobs) (row ∷ rows) = ap (λ ps. job.parts ∷ ps) (placed_parts jobs rows)

-- ---- the one with an id

get_here : {A : Type 0} (xs : List A) (index : ℕ) (d : A) → index < length xs → slice_get xs index ≡ Some (get_or xs index d)
get_here [] index d h = absurd (omega (arith, h))
get_here (x ∷ xs) zero d h = refl
get_here (x ∷ xs) (suc index) d h = get_here xs index d (omega (arith, h))

pub named_is : (id : ℕ) (job : OpenState) → job.merge.id ≡ id → is_named id job ≡ true
named_is id job same = split (is_named id job) (λ yes. yes) (λ no. absurd (eqb-false job.merge.id id no same))

-- what is found is what stands here
pub found_here : (id index : ℕ) (jobs : List OpenState) (job : OpenState) → index < length jobs → job ≡ get_or jobs index job → is_named id job ≡ true → find (is_named id) (drop index jobs) ≡ find (is_named id) jobs
    → slice_get jobs index ≡ find (is_named id) jobs
found_here id index jobs job within at named left =
    get_here jobs index job within ∙ ap (λ (j : OpenState). Some j) (sym at) ∙ sym (stops job (drop (index + 1) jobs) named)
    ∙ ap (λ (j : OpenState). find (is_named id) (j ∷ drop (index + 1) jobs)) at ∙ ap (find (is_named id)) (sym (drop_more jobs index job within)) ∙ left
  where
    stops : (j : OpenState) (js : List OpenState) → is_named id j ≡ true → find (is_named id) (j ∷ js) ≡ Some j
    stops j js is = rw is refl

abbrev pub id_in : OpenState → ℕ
id_in job = job.merge.id

ids_in : (jobs : List OpenState) → map merge_id (merges_in jobs) ≡ map id_in jobs
ids_in [] = refl
ids_in (job ∷ jobs) = ap (λ ns. job.merge.id ∷ ns) (ids_in jobs)

pub ascend_ids : (jobs : List OpenState) (low end : ℕ) → Ascend low (map merge_id (merges_in jobs)) end → Ascend low (map id_in jobs) end
ascend_ids jobs low end is = subst (λ ns. Ascend low ns end) (ids_in jobs) is

abbrev pub walked : ℕ → OpenState → OpenState
walked roots job = record job { merge = record job.merge { left = job.merge.left - roots } }

one_walked : (id roots : ℕ) (job : OpenState) → changed_if id_in (walked roots) id job ≡ with_merge (advanced_if id roots) job
one_walked id roots job = elim (job.merge.id == id) as (λ b. cond b (walked roots job) job ≡ record job { merge = cond b (record job.merge { left = job.merge.left - roots }) job.merge }) [
  | true ↦ refl
  | false ↦ refl
]

-- where a merge is found
pub record IsAt (id index : ℕ) (jobs : List OpenState) : Type 0 where
  pub job : OpenState
  pub here : slice_get jobs index ≡ Some job
  pub own : id_in job ≡ id

pub found_at : (id index : ℕ) (jobs : List OpenState) → index < length jobs → slice_get jobs index ≡ find (is_named id) jobs → IsAt id index jobs
found_at id index jobs within found = at (slice_get jobs index) refl
  where
    none_past : (xs : List OpenState) (i : ℕ) → i < length xs → slice_get xs i ≡ None → ⊥
    none_past [] i h e = omega (arith, h)
    none_past (x ∷ xs) zero h e = cc (e)
    none_past (x ∷ xs) (suc i) h e = none_past xs i (omega (arith, h)) e

    at : (o : Option OpenState) → slice_get jobs index ≡ o → IsAt id index jobs
    at None e = absurd (none_past jobs index within e)
    at (Some job) e = record { job = job; here = e; own = eqb-true job.merge.id id (find_passes (is_named id) jobs job (sym found ∙ e)) }

pub walked_at : (id roots index end : ℕ) (jobs : List OpenState) (at : IsAt id index jobs) → Ascend 1 (map merge_id (merges_in jobs)) end → set jobs index (walked roots at.job) ≡ map (with_merge (advanced_if id roots)) jobs
walked_at id roots index end jobs at ids =
    one_changed id_in (walked roots) jobs 1 end index id at.job (ascend_ids jobs 1 end ids) at.here at.own
    ∙ map_same (changed_if id_in (walked roots) id) (with_merge (advanced_if id roots)) (one_walked id roots) jobs

pub closed_at : (id index end : ℕ) (jobs : List OpenState) (at : IsAt id index jobs) → Ascend 1 (map merge_id (merges_in jobs)) end → take index jobs ++ drop (index + 1) jobs ≡ filter (is_other_than id) jobs
closed_at id index end jobs at ids = one_out id_in jobs 1 end index id at.job (ascend_ids jobs 1 end ids) at.here at.own

-- ---- rows

pub shown_at : (rows : List MergeRow) (index : ℕ) (d : MergeRow) → merge_shown (get_or rows index d) ≡ get_or (merges_shown rows) index (merge_shown d)
shown_at [] index d = refl
shown_at (row ∷ rows) zero d = refl
shown_at (row ∷ rows) (suc index) d = shown_at rows index d
