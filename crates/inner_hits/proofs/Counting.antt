-- An object that is found by counting.
use Rattle.std.proofs.Common.{◌≡◌, ℕ, zero, suc, ◌+◌, ◌<◌, ◌≤◌, List as Seq, [], ◌∷◌, ◌++◌, length, get_or, drop, slice_get, Option, Some, None, refl, sym, ap, subst, ◌∙◌, arith}
use Rattle.std.proofs.lemmas.List.{drop_all, drop_more, length-append}
use Rattle.std.proofs.lemmas.List.Elements.{filter-append}
use Rattle.tree_json.specs.Value.{Elements, element, elements_of, JsonValue, Members, is_object, object, member_of}
use Rattle.tree_json.specs.View.{values, view}
use Rattle.tree_json.specs.declared.value.Json.{Json}
use Rattle.tree_objects.specs.Object.{items, items_in}
use Rattle.flattener.specs.Walked.{behind_name, first_name, names_behind, names_left}
use Rattle.flattener.proofs.Gathers.{items_end, items_end_text, items_end_whole, items_member, items_without, size_found}
use Rattle.mapping_body.proofs.Walks.{size_at, member_size_at}
use Rattle.inner_hits.specs.Along.{IsCounted, objects_along, objects_in}

get_front : {A : Type 0} (xs ys : Seq A) (k : ℕ) (x : A) → slice_get xs k ≡ Some x → slice_get (xs ++ ys) k ≡ Some x
get_front [] ys k x is = absurd (let no : ⊥ = cc in no)
get_front (y ∷ xs) ys zero x is = is
get_front (y ∷ xs) ys (suc k) x is = get_front xs ys k x is

get_behind : {A : Type 0} (xs ys : Seq A) (k : ℕ) → slice_get (xs ++ ys) (length xs + k) ≡ slice_get ys k
get_behind [] ys k = let e : 0 + k ≡ k = omega arith in rw e refl
get_behind (x ∷ xs) ys k = let e : suc (length xs) + k ≡ suc (length xs + k) = omega arith in rw e (get_behind xs ys k)

-- past all objects there is none
pub none_left : (objects : Seq JsonValue) (old new : ℕ) → old ≡ length objects + new → None ≡ slice_get objects old
none_left [] old new is = refl
none_left (o ∷ objects) old new is =
    let e : old ≡ suc (length objects + new) = omega (arith, is) in
    rw e (none_left objects (length objects + new) new refl)

-- what is found among the elements that are left is found among all
pub record GoesOn (names : Seq (Seq ℕ)) (all : Elements) (first : ℕ) (rest : Elements) (left : ℕ) : Type 0 where
  pub on : (new : ℕ) (found : Option JsonValue) → IsCounted (objects_in rest names) left new found → IsCounted (objects_in all names) first new found

pub begins : (names : Seq (Seq ℕ)) (all : Elements) (first : ℕ) → GoesOn names all first all first
begins names all first = record { on = λ new found is. is }

pub goes_on : (names : Seq (Seq ℕ)) (all : Elements) (first : ℕ) (d : JsonValue) (rest : Elements) (left next : ℕ) → GoesOn names all first (element d rest) left → IsCounted (objects_along d names) left next None → GoesOn names all first rest next
goes_on names all first d rest left next goes none = record {
  on = λ new found is. goes.on new found (further found new is);
}
  where
    parts : objects_in (element d rest) names ≡ objects_along d names ++ objects_in rest names
    parts = filter-append is_object (items d names) (items_in rest names)

    further : (found : Option JsonValue) (new : ℕ) → IsCounted (objects_in rest names) next new found → IsCounted (objects_in (element d rest) names) left new found
    further None new is =
        let long : length (objects_in (element d rest) names) ≡ length (objects_along d names) + length (objects_in rest names) = ap length parts ∙ length-append (objects_along d names) (objects_in rest names) in
        omega (arith, long, is, none)
    further (Some v) new is =
        let at : slice_get (objects_along d names ++ objects_in rest names) (length (objects_along d names) + next) ≡ Some v = get_behind (objects_along d names) (objects_in rest names) next ∙ is in
        ap (λ (l : Seq JsonValue). slice_get l left) parts ∙ ap (slice_get (objects_along d names ++ objects_in rest names)) none ∙ at

pub found_here : (names : Seq (Seq ℕ)) (all : Elements) (first : ℕ) (d : JsonValue) (rest : Elements) (left new next : ℕ) (v : JsonValue) → GoesOn names all first (element d rest) left → IsCounted (objects_along d names) left new (Some v) → IsCounted (objects_in all names) first next (Some v)
found_here names all first d rest left new next v goes is =
    goes.on next (Some v)
    (ap (λ (l : Seq JsonValue). slice_get l left) (filter-append is_object (items d names) (items_in rest names))
    ∙ get_front (objects_along d names) (objects_in rest names) left v is)

-- the next element
pub next_in : (names : Seq (Seq ℕ)) (all : Elements) (elements : Seq Json) (k : ℕ) (item : Json) (first left : ℕ) → k < length elements → item ≡ get_or elements k item → GoesOn names all first (elements_of (values (drop k elements))) left
    → GoesOn names all first (element (view item) (elements_of (values (drop (k + 1) elements)))) left
next_in names all elements k item first left low is goes = subst (λ (l : Seq Json). GoesOn names all first (elements_of (values l)) left) (drop_more elements k item low ∙ ap (λ (x : Json). x ∷ drop (k + 1) elements) (sym is)) goes

pub none_in : (names : Seq (Seq ℕ)) (all : Elements) (elements : Seq Json) (k : ℕ) (first left : ℕ) → length elements ≤ k → GoesOn names all first (elements_of (values (drop k elements))) left → IsCounted (objects_in all names) first left None
none_in names all elements k first left past goes = (subst (λ (l : Seq Json). GoesOn names all first (elements_of (values l)) left) (drop_all k elements past) goes).on left None (omega arith)

pub counted_member : (ms : Members) (path : Seq ℕ) (d : JsonValue) (old new : ℕ) (found : Option JsonValue) → member_of ms (first_name path) ≡ Some d → IsCounted (objects_along d (names_left (behind_name path))) old new found → IsCounted (objects_along (object ms) (names_behind path)) old new found
counted_member ms path d old new found there is = rw (items_member ms path d there) is

pub counted_without : (ms : Members) (path : Seq ℕ) (old : ℕ) → member_of ms (first_name path) ≡ None → IsCounted (objects_along (object ms) (names_behind path)) old old None
counted_without ms path old none = rw (items_without ms path none) (omega arith)

pub ruleset counting = (begins, goes_on, found_here, none_in, counted_member, counted_without, size_found, size_at, member_size_at, items_end, items_end_whole, items_end_text)
