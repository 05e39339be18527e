-- The paths of fields and the names of relations are different, whatever bodies add.
use Rattle.std.proofs.Common.{◌≡◌, ℕ, zero, suc, ◌+◌, ◌-◌, ◌<◌, ◌≤◌, inl, inr, List, [], ◌∷◌, ◌++◌, map, filter, not, length, get_or, refl, sym, ap, ◌∙◌, subst, arith, Bool, true, false, Option, Some, None, is_some, bytes_eq}
use Rattle.std.proofs.lemmas.Bool.{cases_lt, false≢true}
use Rattle.std.proofs.lemmas.List.{length-append, map-append, length-map, get_or_append_left, get_or-append_right}
use Rattle.std.proofs.lemmas.Slice.Eq.{bytes_eq-Decides}
use Rattle.std.specs.List.{AllByRecursion}
use Rattle.std.specs.List.Sorted.{IsStrictlySortedBy}
use Rattle.tree_json.specs.Value.{JsonValue}
use Rattle.mapping_body.specs.Body.{properties_of}
use Rattle.mapping_growth.specs.Fields.{Draft, draft_of, draft_paths, drafts_added, drafts_from, drafts_of}
use Rattle.mapping_body.specs.Names.{AreAscending, in_byte_order, is_among, place_of}
use Rattle.mapping_body.specs.Order.{AreDistinct, name_at}
use Rattle.mapping_body.specs.Pairs.{Pair, pairs_of}
use Rattle.mapping_growth.specs.Relations.{Relation, names_added, names_in_pairs, relation_by, relation_names, relations_added, relations_from, relations_of}
use Rattle.mapping_body.proofs.Ascending.{ascend_filter, place_by_same}
use Rattle.mapping_body.proofs.Puts.{AreAscending-in_byte_order}
use Rattle.mapping_body.proofs.Ordered.{none_at}
use Rattle.mapping_growth.proofs.Pairs.{names_by}
use Rattle.mapping_body.proofs.Walks.{split}

-- the names that are not among others
abbrev pub AreOutside : List (List ℕ) → List (List ℕ) → Type 0
AreOutside known names = AllByRecursion (λ (name : List ℕ). is_among known name ≡ false) names

outside_at : (known names : List (List ℕ)) (i : ℕ) → AreOutside known names → i < length names → is_among known (name_at names i) ≡ false
outside_at known [] i out h = absurd (omega arith)
outside_at known (x ∷ names) zero out h = out.0
outside_at known (x ∷ names) (suc i) out h = outside_at known names i out.1 (omega arith)

no_place : (o : Option ℕ) → is_some o ≡ false → o ≡ None
no_place None h = refl
no_place (Some n) h = absurd (false≢true (sym h))

-- a name that isn't among others is none of them
outside_not : (known : List (List ℕ)) (name : List ℕ) (i : ℕ) → is_among known name ≡ false → i < length known → name_at known i ≡ name → ⊥
outside_not known name i out h same =
    let differs = none_at name known 0 i (no_place (place_of name known) out) h in
    absurd (false≢true (sym differs ∙ (bytes_eq-Decides (name_at known i) name).1 same))

pub distinct_behind : (known names : List (List ℕ)) → AreDistinct known → AreAscending names → AreOutside known names → AreDistinct (known ++ names)
distinct_behind known names distinct up out a b h k same =
    let long = length-append known names in
    elim (cases_lt a (length known)) [
      | inl first ↦ elim (cases_lt b (length known)) [
        | inl second ↦ distinct a b first second (sym (get_or_append_left known names [] a first) ∙ same ∙ get_or_append_left known names [] b second)
        | inr past ↦
            let inside : b - length known < length names = omega (arith, long, k, past) in
            absurd (outside_not known (name_at names (b - length known)) a (outside_at known names (b - length known) out inside) first
            (sym (get_or_append_left known names [] a first) ∙ same ∙ get_or-append_right known names (length known) b [] refl past))
      ]
      | inr past_a ↦
          let inside_a : a - length known < length names = omega (arith, long, h, past_a) in
          elim (cases_lt b (length known)) [
            | inl second ↦
                absurd (outside_not known (name_at names (a - length known)) b (outside_at known names (a - length known) out inside_a) second
                (sym (get_or_append_left known names [] b second) ∙ sym same ∙ get_or-append_right known names (length known) a [] refl past_a))
            | inr past_b ↦
                let inside_b : b - length known < length names = omega (arith, long, k, past_b) in
                let e = place_by_same names (a - length known) (b - length known) up inside_a inside_b
                (sym (get_or-append_right known names (length known) a [] refl past_a) ∙ same ∙ get_or-append_right known names (length known) b [] refl past_b) in
                omega (arith, e, past_a, past_b)
          ]
    ]

not_false : (b : Bool) → not b ≡ true → b ≡ false
not_false true h = cc
not_false false h = refl

outside_filter : {T : Type 0} (name : T → List ℕ) (known : List (List ℕ)) (xs : List T) → AreOutside known (map name (filter (λ x. not (is_among known (name x))) xs))
outside_filter name known [] = tt
outside_filter name known (x ∷ xs) =
    split (not (is_among known (name x)))
    (λ held. rw held (not_false (is_among known (name x)) held, outside_filter name known xs))
    (λ failed. rw failed (outside_filter name known xs))

map_itself : (names : List (List ℕ)) → map (λ name. name) names ≡ names
map_itself [] = refl
map_itself (x ∷ names) = ap (λ (rest : List (List ℕ)). x ∷ rest) (map_itself names)

-- ---- fields

pub added_ascend : (g : ℕ) (known : List (List ℕ)) (v : JsonValue) → AreAscending (draft_paths (drafts_added g known v))
added_ascend g known v =
    ascend_filter (λ d. d.path) (λ d. not (is_among known d.path)) (in_byte_order (λ d. d.path) (map (draft_of g) (properties_of v)))
    (AreAscending-in_byte_order (λ d. d.path) (map (draft_of g) (properties_of v)))

pub added_outside : (g : ℕ) (known : List (List ℕ)) (v : JsonValue) → AreOutside known (draft_paths (drafts_added g known v))
added_outside g known v = outside_filter (λ d. d.path) known (in_byte_order (λ d. d.path) (map (draft_of g) (properties_of v)))

distinct_none : AreDistinct []
distinct_none a b h k same = absurd (omega arith)

paths_behind : (g : ℕ) (known : List Draft) (v : JsonValue) → AreDistinct (draft_paths known) → AreDistinct (draft_paths (known ++ drafts_added g (draft_paths known) v))
paths_behind g known v distinct =
    subst (λ (names : List (List ℕ)). AreDistinct names) (sym (map-append (λ d. d.path) known (drafts_added g (draft_paths known) v)))
    (distinct_behind (draft_paths known) (draft_paths (drafts_added g (draft_paths known) v)) distinct (added_ascend g (draft_paths known) v) (added_outside g (draft_paths known) v))

paths_from : (g : ℕ) (known : List Draft) (bs : List JsonValue) → AreDistinct (draft_paths known) → AreDistinct (draft_paths (drafts_from g known bs))
paths_from g known [] distinct = distinct
paths_from g known (b ∷ bs) distinct = paths_from (g + 1) (known ++ drafts_added g (draft_paths known) b) bs (paths_behind g known b distinct)

pub paths_distinct : (bs : List JsonValue) → AreDistinct (draft_paths (drafts_of bs))
unfolding drafts_of
paths_distinct bs = paths_from 1 [] bs distinct_none

-- ---- relations

pub names_ascend : (known : List (List ℕ)) (ps : List Pair) → AreAscending (names_added known ps)
names_ascend known ps =
    subst (λ (names : List (List ℕ)). AreAscending names) (map_itself (names_added known ps))
    (ascend_filter (λ name. name) (λ name. not (is_among known name)) (in_byte_order (λ name. name) (names_in_pairs ps)) (AreAscending-in_byte_order (λ name. name) (names_in_pairs ps)))

names_outside : (known : List (List ℕ)) (ps : List Pair) → AreOutside known (names_added known ps)
names_outside known ps =
    subst (λ (names : List (List ℕ)). AreOutside known names) (map_itself (names_added known ps)) (outside_filter (λ name. name) known (in_byte_order (λ name. name) (names_in_pairs ps)))

pub names_with : (g : ℕ) (known : List Relation) (ps : List Pair) → relation_names (known ++ relations_added g known ps) ≡ relation_names known ++ names_added (relation_names known) ps
names_with g known ps =
    map-append (λ r. r.name) known (relations_added g known ps)
    ∙ ap (λ (names : List (List ℕ)). relation_names known ++ names) (names_by g ps (relation_names known ++ names_added (relation_names known) ps) (names_added (relation_names known) ps))

names_from : (g : ℕ) (known : List Relation) (bs : List JsonValue) → AreDistinct (relation_names known) → AreDistinct (relation_names (relations_from g known bs))
names_from g known [] distinct = distinct
names_from g known (b ∷ bs) distinct =
    names_from (g + 1) (known ++ relations_added g known (pairs_of b)) bs
    (subst (λ (names : List (List ℕ)). AreDistinct names) (sym (names_with g known (pairs_of b)))
    (distinct_behind (relation_names known) (names_added (relation_names known) (pairs_of b)) distinct (names_ascend (relation_names known) (pairs_of b)) (names_outside (relation_names known) (pairs_of b))))

pub names_distinct : (bs : List JsonValue) → AreDistinct (relation_names (relations_of bs))
unfolding relations_of
names_distinct bs = names_from 1 [] bs distinct_none

pub filter_ascends : (t : List ℕ → Bool) (names : List (List ℕ)) → AreAscending names → AreAscending (filter t names)
filter_ascends t names up =
    subst (λ (ns : List (List ℕ)). AreAscending ns) (map_itself (filter t names))
    (ascend_filter (λ name. name) t names (subst (λ (ns : List (List ℕ)). AreAscending ns) (sym (map_itself names)) up))
