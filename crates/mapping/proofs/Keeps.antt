-- A further body leaves what stands under each number.
use Rattle.std.proofs.Common.{◌≡◌, ℕ, ◌+◌, Bool, true, false, if◌then◌else◌, List, [], ◌∷◌, ◌++◌, length, map, get_or, refl, ap, ◌∙◌, subst, sym}
use Rattle.std.proofs.lemmas.List.{get_or_append_left, map-append}
use Rattle.std.proofs.lemmas.List.Elements.{filter-append}
use Rattle.std.proofs.lemmas.List.Folds.{list_all-append}
use Rattle.std.specs.List.{AllByRecursion, list_all}
use Rattle.tree_json.specs.Value.{JsonValue}
use Rattle.mapping_growth.specs.Bodies.{AreBodies}
use Rattle.mapping_body.specs.Body.{is_body, is_nested}
use Rattle.mapping_growth.specs.Fields.{Draft, draft_paths, drafts_added, drafts_of}
use Rattle.mapping_body.specs.Names.{lies_above, names_between}
use Rattle.mapping_body.specs.Pairs.{pairs_of}
use Rattle.mapping_growth.specs.Relations.{relations_added, relations_of}
use Rattle.mapping_growth.proofs.Adding.{drafts_more, relations_more}
use Rattle.mapping_body.proofs.Walks.{split}
use Rattle.mapping.specs.Growth.{KeepsNumbers}
use Rattle.mapping.specs.Mapping.{Field, Scope, mapping_of, field_by, fields_by, nearest, nested_among, no_field, no_relation, root_scope, scope_by, scope_paths, scopes_by}
use Rattle.mapping.proofs.Above.{joint}
use Rattle.mapping.proofs.InTurn.{AreInTurn, HaveAbove, StandsBefore, founded}
use Rattle.mapping.proofs.Nearest.{nearest_from, nearest_is, nearest_last}

-- ---- paths behind that don't lie above

nearest_more : (xs ys : List (List ℕ)) (path : List ℕ) (found at : ℕ) → AllByRecursion (λ (y : List ℕ). lies_above y path ≡ false) ys → nearest_from found at (xs ++ ys) path ≡ nearest_from found at xs path
nearest_more [] [] path found at none = refl
nearest_more [] (y ∷ ys) path found at none =
    ap (λ (over : Bool). nearest_from (if over then at else found) (at + 1) ys path) none.0 ∙ nearest_more [] ys path found (at + 1) none.1
nearest_more (x ∷ xs) ys path found at none = nearest_more xs ys path (if lies_above x path then at else found) (at + 1) none

pub behind_all : {A : Type 0} (P : A → Type 0) (xs ys : List A) → AllByRecursion P (xs ++ ys) → AllByRecursion P ys
behind_all P [] ys all = all
behind_all P (x ∷ xs) ys all = behind_all P xs ys all.1

abbrev pub AreBefore : List Draft → List Draft → Type 0
AreBefore ys xs = AllByRecursion (λ (x : Draft). AllByRecursion (StandsBefore x) ys) xs

pub before_news : (xs ys : List Draft) → AreInTurn (xs ++ ys) → AreBefore ys xs
before_news [] ys turn = tt
before_news (x ∷ xs) ys turn = (behind_all (StandsBefore x) xs ys turn.0, before_news xs ys turn.1)

none_over : (x : Draft) (ys : List Draft) → AllByRecursion (StandsBefore x) ys → AllByRecursion (λ (y : List ℕ). lies_above y x.path ≡ false) (draft_paths (nested_among ys))
none_over x [] all = tt
none_over x (y ∷ ys) all =
    split (is_nested y.kind)
    (λ held. rw held (all.0.not_below, none_over x ys all.1))
    (λ failed. rw failed (none_over x ys all.1))

-- ---- one field and one scope

pub paths_more : (ds news : List Draft) → scope_paths (ds ++ news) ≡ scope_paths ds ++ draft_paths (nested_among news)
paths_more ds news =
    ap (λ (rest : List (List ℕ)). [] ∷ rest)
    (ap draft_paths (filter-append (λ d. is_nested d.kind) ds news) ∙ map-append (λ d. d.path) (nested_among ds) (nested_among news))

nearest_kept : (ds news : List Draft) (x : Draft) → AllByRecursion (StandsBefore x) news → nearest (scope_paths (ds ++ news)) x.path ≡ nearest (scope_paths ds) x.path
nearest_kept ds news x all =
    ap (λ (paths : List (List ℕ)). nearest paths x.path) (paths_more ds news)
    ∙ nearest_is (scope_paths ds ++ draft_paths (nested_among news)) x.path
    ∙ nearest_more (scope_paths ds) (draft_paths (nested_among news)) x.path 0 0 (none_over x news all)
    ∙ sym (nearest_is (scope_paths ds) x.path)

abbrev field_with : Draft → ℕ → Field
field_with d home = record { path = d.path; kind = d.kind; home = home; since = d.since }

field_kept : (ds news : List Draft) (x : Draft) → AllByRecursion (StandsBefore x) news → field_by (scope_paths (ds ++ news)) x ≡ field_by (scope_paths ds) x
field_kept ds news x all = ap (field_with x) (nearest_kept ds news x all)

abbrev scope_with : Draft → ℕ → List ℕ → Scope
scope_with d around above = record {
  path = d.path;
  around = around;
  names = names_between above d.path;
  in_parent = d.in_parent;
  in_root = d.in_root;
  since = d.since;
}

above_kept : (ds news : List Draft) (x : Draft) → lies_above [] x.path ≡ true → AllByRecursion (StandsBefore x) news
    → get_or (scope_paths (ds ++ news)) (nearest (scope_paths (ds ++ news)) x.path) [] ≡ get_or (scope_paths ds) (nearest (scope_paths ds) x.path) []
above_kept ds news x some all =
    ap (λ (n : ℕ). get_or (scope_paths (ds ++ news)) n []) (nearest_kept ds news x all)
    ∙ ap (λ (paths : List (List ℕ)). get_or paths (nearest (scope_paths ds) x.path) []) (paths_more ds news)
    ∙ get_or_append_left (scope_paths ds) (draft_paths (nested_among news)) [] (nearest (scope_paths ds) x.path) (nearest_last (draft_paths (nested_among ds)) x.path some).in_range

scope_kept : (ds news : List Draft) (x : Draft) → lies_above [] x.path ≡ true → AllByRecursion (StandsBefore x) news → scope_by (scope_paths (ds ++ news)) x ≡ scope_by (scope_paths ds) x
scope_kept ds news x some all =
    ap (λ (n : ℕ). scope_with x n (get_or (scope_paths (ds ++ news)) (nearest (scope_paths (ds ++ news)) x.path) [])) (nearest_kept ds news x all)
    ∙ ap (scope_with x (nearest (scope_paths ds) x.path)) (above_kept ds news x some all)

-- ---- all of them

fields_kept : (ds news xs : List Draft) → AreBefore news xs → map (field_by (scope_paths (ds ++ news))) xs ≡ map (field_by (scope_paths ds)) xs
fields_kept ds news [] all = refl
fields_kept ds news (x ∷ xs) all = rw (field_kept ds news x all.0, fields_kept ds news xs all.1) refl

scopes_kept : (names : List (List ℕ)) (ds news xs : List Draft) → HaveAbove names xs → AreBefore news xs
    → map (scope_by (scope_paths (ds ++ news))) (nested_among xs) ≡ map (scope_by (scope_paths ds)) (nested_among xs)
scopes_kept names ds news [] have all = refl
scopes_kept names ds news (x ∷ xs) have all =
    split (is_nested x.kind)
    (λ held. rw held (rw (scope_kept ds news x have.0.0 all.0, scopes_kept names ds news xs have.1 all.1) refl))
    (λ failed. rw failed (scopes_kept names ds news xs have.1 all.1))

pub fields_more : (ds news : List Draft) → AreBefore news ds → fields_by (ds ++ news) ≡ fields_by ds ++ map (field_by (scope_paths (ds ++ news))) news
fields_more ds news all =
    map-append (field_by (scope_paths (ds ++ news))) ds news
    ∙ ap (λ (fs : List Field). fs ++ map (field_by (scope_paths (ds ++ news))) news) (fields_kept ds news ds all)

pub scopes_more : (names : List (List ℕ)) (ds news : List Draft) → HaveAbove names ds → AreBefore news ds → scopes_by (ds ++ news) ≡ scopes_by ds ++ map (scope_by (scope_paths (ds ++ news))) (nested_among news)
scopes_more names ds news have all =
    ap (λ (ss : List Scope). root_scope ∷ ss)
    (ap (map (scope_by (scope_paths (ds ++ news)))) (filter-append (λ d. is_nested d.kind) ds news)
    ∙ map-append (scope_by (scope_paths (ds ++ news))) (nested_among ds) (nested_among news)
    ∙ ap (λ (ss : List Scope). ss ++ map (scope_by (scope_paths (ds ++ news))) (nested_among news)) (scopes_kept names ds news ds have all))

pub numbers_keep : (bs : List JsonValue) (v : JsonValue) (on later : Bool) → AreBodies bs → is_body v ≡ true → KeepsNumbers (mapping_of bs on) (mapping_of (bs ++ v ∷ []) later)
numbers_keep bs v on later are is =
    let ds : List Draft = drafts_of bs in
    let news : List Draft = drafts_added (length bs + 1) (draft_paths (drafts_of bs)) v in
    let forms : list_all is_body (bs ++ v ∷ []) ≡ true = list_all-append is_body bs (v ∷ []) ∙ joint (list_all is_body bs) (list_all is_body (v ∷ [])) are.forms (joint (is_body v) true is refl) in
    let turn : AreInTurn (drafts_of bs ++ drafts_added (length bs + 1) (draft_paths (drafts_of bs)) v) = subst AreInTurn (drafts_more bs v) (founded (bs ++ v ∷ []) forms).turn in
    let all : AreBefore news ds = before_news ds news turn in
    record {
      fields = λ f h.
          ap (λ (made : List Draft). get_or (fields_by made) f no_field) (drafts_more bs v)
          ∙ ap (λ (fs : List Field). get_or fs f no_field) (fields_more ds news all)
          ∙ get_or_append_left (fields_by ds) (map (field_by (scope_paths (ds ++ news))) news) no_field f h;
      scopes = λ n h.
          ap (λ (made : List Draft). get_or (scopes_by made) n root_scope) (drafts_more bs v)
          ∙ ap (λ (ss : List Scope). get_or ss n root_scope) (scopes_more (draft_paths ds) ds news (founded bs are.forms).above all)
          ∙ get_or_append_left (scopes_by ds) (map (scope_by (scope_paths (ds ++ news))) (nested_among news)) root_scope n h;
      relations = λ r h.
          ap (λ rs. get_or rs r no_relation) (relations_more bs v)
          ∙ get_or_append_left (relations_of bs) (relations_added (length bs + 1) (relations_of bs) (pairs_of v)) no_relation r h;
    }
