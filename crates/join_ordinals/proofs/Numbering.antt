-- Ids that get ordinals, root by root and entry by entry.
use Rattle.std.proofs.Common.{◌≡◌, ℕ, zero, suc, ◌+◌, ◌<◌, ◌≤◌, false, List, [], ◌∷◌, ◌++◌, length, map, get_or, take, slice_get, Option, Some, None, refl, sym, ap, subst, ◌∙◌, inl, inr, arith, length-append}
use Rattle.std.specs.Prelude.{Vec}
use Rattle.std.proofs.lemmas.Bool.{cases_lt}
use Rattle.segment.specs.Live.{EntryState, IsLiveOver}
use Rattle.segment_view.specs.Views.{is_live_root}
use Rattle.std.specs.List.{range_with_len}
use Rattle.std.proofs.lemmas.List.FromFn.{length-map-range_with_len, get_or-map-range_with_len}
use Rattle.join_ordinals.specs.Ordinals.{AreRelations, AreRows, IsNumbered, flat, ordinal_at, ordinal_in, own_relation}
use Rattle.join_ordinals.specs.Rows.{IsRow, Keep, id_by, rows_seen}
use Rattle.join_ordinals.specs.declared.rows.Whose.{Whose}
use Rattle.join_ordinals.specs.declared.rows.Whose.TheVariants.{Own, Parent}

-- ---- lists

module _ {A : Type 0} where
  pub get_left : (xs ys : List A) (k : ℕ) → k < length xs → slice_get (xs ++ ys) k ≡ slice_get xs k
  get_left [] ys k below = absurd (omega (arith, below))
  get_left (x ∷ xs) ys zero below = refl
  get_left (x ∷ xs) ys (suc k) below = get_left xs ys k (omega (arith, below))

  pub get_end : (xs : List A) (x : A) (k : ℕ) → k ≡ length xs → slice_get (xs ++ x ∷ []) k ≡ Some x
  get_end [] x zero is = refl
  get_end [] x (suc k) is = absurd (omega (arith, is))
  get_end (y ∷ xs) x zero is = absurd (omega (arith, is))
  get_end (y ∷ xs) x (suc k) is = get_end xs x k (omega (arith, is))

  pub get_past : (xs : List A) (k : ℕ) → length xs ≤ k → slice_get xs k ≡ None
  get_past [] k past = refl
  get_past (x ∷ xs) zero past = absurd (omega (arith, past))
  get_past (x ∷ xs) (suc k) past = get_past xs k (omega (arith, past))

  pub get_within : (xs : List A) (k : ℕ) (x : A) → slice_get xs k ≡ Some x → k < length xs
  get_within [] k x is = absurd (let no : ⊥ = cc in no)
  get_within (y ∷ xs) zero x is = omega arith
  get_within (y ∷ xs) (suc k) x is = omega (arith, get_within xs k x is)

  pub or_past : (xs : List A) (k : ℕ) (d : A) → length xs ≤ k → get_or xs k d ≡ d
  or_past [] k d past = refl
  or_past (x ∷ xs) zero d past = absurd (omega (arith, past))
  or_past (x ∷ xs) (suc k) d past = or_past xs k d (omega (arith, past))

  pub take_more : (xs : List A) (k : ℕ) (x : A) → k < length xs → x ≡ get_or xs k x → take (k + 1) xs ≡ take k xs ++ x ∷ []
  take_more [] k x below is = absurd (omega (arith, below))
  take_more (y ∷ xs) zero x below is = ap (λ (z : A). z ∷ []) (sym is)
  take_more (y ∷ xs) (suc k) x below is =
      let same : suc k + 1 ≡ suc (k + 1) = omega arith in rw same (ap (λ (l : List A). y ∷ l) (take_more xs k x (omega (arith, below)) is))

pub seen_more : {A : Type 0} (rows : List (Vec (Option ℕ) A)) (row : Vec (Option ℕ) A) → rows_seen (rows ++ row ∷ []) ≡ rows_seen rows ++ row.items ∷ []
seen_more [] row = refl
seen_more (r ∷ rows) row = ap (λ (l : List (List (Option ℕ))). r.items ∷ l) (seen_more rows row)

-- ---- ids that are only ever added

pub keep_same : (ids : List (List ℕ)) → Keep ids ids
keep_same ids = λ n id is. is

pub keep_more : (old new : List (List ℕ)) (id : List ℕ) → new ≡ old ++ id ∷ [] → Keep old new
keep_more old new id is = λ n one here. ap (λ (ids : List (List ℕ)). slice_get ids n) is ∙ get_left old (id ∷ []) n (get_within old n one here) ∙ here

pub keep_on : (old mid new : List (List ℕ)) → Keep old mid → Keep mid new → Keep old new
keep_on old mid new one two = λ n id is. two n id (one n id is)

pub numbered_on : (old new : List (List ℕ)) (id : Option (List ℕ)) (ordinal : Option ℕ) → Keep old new → IsNumbered old id ordinal → IsNumbered new id ordinal
numbered_on old new None None keep is = tt
numbered_on old new None (Some n) keep is = absurd is
numbered_on old new (Some id) None keep is = absurd is
numbered_on old new (Some id) (Some n) keep is = keep n id is

-- ---- a row

pub row_start : (ids : List (List ℕ)) (id_of : ℕ → Option (List ℕ)) → IsRow ids id_of []
row_start ids id_of = record { numbered = λ root below. absurd (omega (arith, below)) }

pub row_more : (old new : List (List ℕ)) (id_of : ℕ → Option (List ℕ)) (row : List (Option ℕ)) (root : ℕ) (ordinal : Option ℕ) → IsRow old id_of row → Keep old new → root ≡ length row → IsNumbered new (id_of root) ordinal → IsRow new id_of (row ++ ordinal ∷ [])
row_more old new id_of row root ordinal was keep is own = record {
  numbered = λ k below. elim (cases_lt k (length row)) [
    | inl left ↦ subst (λ (o : Option (Option ℕ)). IsNumbered new (id_of k) (flat o)) (sym (get_left row (ordinal ∷ []) k left)) (numbered_on old new (id_of k) (flat (slice_get row k)) keep (was.numbered k left))
    | inr past ↦
        let end : k ≡ length row = omega (arith, past, below, length-append row (ordinal ∷ [])) in
        let same : root ≡ k = omega (arith, is, end) in
        subst (λ (o : Option (Option ℕ)). IsNumbered new (id_of k) (flat o)) (sym (get_end row ordinal k end)) (subst (λ (n : ℕ). IsNumbered new (id_of n) ordinal) same own)
  ];
}

-- ---- an entry

no_id : (whose : Whose) (entry : EntryState) (root : ℕ) → is_live_root root entry ≡ false → id_by whose entry root ≡ None
no_id Own entry root dead = rw dead refl
no_id Parent entry root dead = rw dead refl

pub whole_row : (ids : List (List ℕ)) (whose : Whose) (entry : EntryState) (row : List (Option ℕ)) (root : ℕ) → IsLiveOver entry.columns entry.live → length row ≡ length entry.columns.roots → IsRow ids (id_by whose entry) row
    → IsNumbered ids (id_by whose entry root) (flat (slice_get row root))
whole_row ids whose entry row root live long is = elim (cases_lt root (length row)) [
  | inl below ↦ is.numbered root below
  | inr past ↦
      let dead : is_live_root root entry ≡ false = or_past entry.live.roots root false (omega (arith, past, long, live.roots)) in
      rw (no_id whose entry root dead, get_past row root past) tt
]

-- ---- the entries

pub rows_start : (ids : List (List ℕ)) (id_of : EntryState → ℕ → Option (List ℕ)) → AreRows ids id_of [] []
rows_start ids id_of = record { entries = refl; numbered = λ place root entry is. absurd (let no : ⊥ = cc in no) }

pub rows_on : (old new : List (List ℕ)) (id_of : EntryState → ℕ → Option (List ℕ)) (view : List EntryState) (rows : List (List (Option ℕ))) → Keep old new → AreRows old id_of view rows → AreRows new id_of view rows
rows_on old new id_of view rows keep was = record {
  entries = was.entries;
  numbered = λ place root entry is. numbered_on old new (id_of entry root) (ordinal_at rows place root) keep (was.numbered place root entry is);
}

pub rows_more : (old new : List (List ℕ)) (id_of : EntryState → ℕ → Option (List ℕ)) (view : List EntryState) (rows : List (List (Option ℕ))) (entry : EntryState) (row : List (Option ℕ))
    → AreRows old id_of view rows → Keep old new → ((root : ℕ) → IsNumbered new (id_of entry root) (flat (slice_get row root))) → AreRows new id_of (view ++ entry ∷ []) (rows ++ row ∷ [])
rows_more old new id_of view rows entry row was keep own = record {
  entries = omega (arith, was.entries, length-append rows (row ∷ []), length-append view (entry ∷ []));
  numbered = λ place root e is. elim (cases_lt place (length view)) [
    | inl left ↦
        let before : slice_get view place ≡ Some e = sym (get_left view (entry ∷ []) place left) ∙ is in
        subst (λ (r : Option (List (Option ℕ))). IsNumbered new (id_of e root) (ordinal_in r root)) (sym (get_left rows (row ∷ []) place (omega (arith, left, was.entries))))
        (numbered_on old new (id_of e root) (ordinal_at rows place root) keep (was.numbered place root e before))
    | inr past ↦
        let end : place ≡ length view = omega (arith, past, get_within (view ++ entry ∷ []) place e is, length-append view (entry ∷ [])) in
        let same : Some entry ≡ Some e = sym (get_end view entry place end) ∙ is in
        let same_entry : entry ≡ e = cc in
        subst (λ (r : Option (List (Option ℕ))). IsNumbered new (id_of e root) (ordinal_in r root)) (sym (get_end rows row place (omega (arith, end, was.entries))))
        (subst (λ (x : EntryState). IsNumbered new (id_of x root) (flat (slice_get row root))) same_entry (own root))
  ];
}

-- ---- relations

pub relations_start : AreRelations [] []
relations_start = record { entries = refl; known = λ place root entry is. absurd (let no : ⊥ = cc in no) }

pub whole_relations : (entry : EntryState) (row : List (Option ℕ)) (root : ℕ) → IsLiveOver entry.columns entry.live → row ≡ map (own_relation entry) (range_with_len 0 (length entry.columns.roots)) → flat (slice_get row root) ≡ own_relation entry root
whole_relations entry row root live is =
    let long : length row ≡ length entry.columns.roots = ap length is ∙ length-map-range_with_len (own_relation entry) 0 (length entry.columns.roots) in
    elim (cases_lt root (length row)) [
      | inl below ↦
          ap flat
          (got row root None below
          ∙ ap Some (ap (λ (l : List (Option ℕ)). get_or l root None) is ∙ get_or-map-range_with_len (own_relation entry) 0 (length entry.columns.roots) root root None (omega (arith, below, long)) (omega arith)))
      | inr past ↦
          let dead : is_live_root root entry ≡ false = or_past entry.live.roots root false (omega (arith, past, long, live.roots)) in
          rw (get_past row root past, dead) refl
    ]
  where
    got : (xs : List (Option ℕ)) (k : ℕ) (d : Option ℕ) → k < length xs → slice_get xs k ≡ Some (get_or xs k d)
    got [] k d below = absurd (omega (arith, below))
    got (x ∷ xs) zero d below = refl
    got (x ∷ xs) (suc k) d below = got xs k d (omega (arith, below))

pub relations_more : (view : List EntryState) (rows : List (List (Option ℕ))) (entry : EntryState) (row : List (Option ℕ))
    → AreRelations view rows → ((root : ℕ) → flat (slice_get row root) ≡ own_relation entry root) → AreRelations (view ++ entry ∷ []) (rows ++ row ∷ [])
relations_more view rows entry row was own = record {
  entries = omega (arith, was.entries, length-append rows (row ∷ []), length-append view (entry ∷ []));
  known = λ place root e is. elim (cases_lt place (length view)) [
    | inl left ↦
        let before : slice_get view place ≡ Some e = sym (get_left view (entry ∷ []) place left) ∙ is in
        ap (λ (r : Option (List (Option ℕ))). ordinal_in r root) (get_left rows (row ∷ []) place (omega (arith, left, was.entries))) ∙ was.known place root e before
    | inr past ↦
        let end : place ≡ length view = omega (arith, past, get_within (view ++ entry ∷ []) place e is, length-append view (entry ∷ [])) in
        let same : Some entry ≡ Some e = sym (get_end view entry place end) ∙ is in
        let same_entry : entry ≡ e = cc in
        ap (λ (r : Option (List (Option ℕ))). ordinal_in r root) (get_end rows row place (omega (arith, end, was.entries)))
        ∙ own root ∙ ap (λ (x : EntryState). own_relation x root) same_entry
  ];
}
