-- A chain leads from the document of an object to the documents of the objects that it leads to from the object.
use Rattle.std.specs.Prelude.{◌≡◌, ℕ, zero, suc, ◌+◌, ◌<◌, ◌≤◌, ◌==◌, Bool, true, false, List, [], ◌∷◌, ◌++◌, length, map, filter, get_or, take, drop, Option, Some, None, is_some, ⊤, refl}
use Rattle.std.specs.List.{AllByRecursion, filter_map, flat_map}
use Rattle.std.proofs.Common.{arith, ap, sym, subst, ◌∙◌, append_assoc}
use Rattle.std.proofs.Math.ListN.{get_or-map}
use Rattle.std.proofs.lemmas.Bool.{false≢true}
use Rattle.std.proofs.lemmas.List.{drop-map, get_or-drop, length-map, map-append, take-map}
use Rattle.block_bits.specs.Blocks.{documents_of, has_scope}
use Rattle.flattener.specs.StandsFor.{Marked, ViewStandsFor}
use Rattle.mapping.specs.Mapping.{Mapping, IsAbove}
use Rattle.query_ast.specs.Clause.{Clause}
use Rattle.query_ast.specs.Hit.{hit}
use Rattle.query_ast.specs.Resolved.{IsChain}
use Rattle.query_ast.specs.SortKey.{chain_objects, passes}
use Rattle.query_ast.specs.declared.sort.Chain.{Chain}
use Rattle.query_eval.specs.Found.{live_trees}
use Rattle.segment.specs.Live.{EntryState}
use Rattle.tree_joins.specs.Seen.{at_scope, if_live, scopes_of, scored, seen}
use Rattle.tree_objects.specs.Object.{Object, below, scope}
use Rattle.tree_objects.specs.Tree.{Tree}
use Rattle.view_objects.specs.declared.hit.Hit.{Hit}
use Rattle.view_objects.specs.Hits.{document_object, hit_object, hits_between, hits_from, object_at, start_before}
use Rattle.nested_sort.specs.Filters.{AreFound, filter_at, filter_of}
use Rattle.nested_sort.specs.Inside.{chain_docs, filters_left, marked_from, marked_within, passing}
use Rattle.nested_sort.proofs.Alike.{by_test}
use Rattle.nested_sort.proofs.Documents.{Document, Stands, document_live, documents, documents_are, live_documents, made_live, map_map, no_document, object_is, scopes_are, seen_if, stands_if, stands_low, there}

-- ---- hits are marked documents

marks_of_hits : {A : Type 0} (f : ℕ → A) (place k : ℕ) (scores : List (Option ℕ)) → map (λ (hit : Hit). f hit.doc) (hits_from place k scores) ≡ map f (marked_from k (map is_some scores))
marks_of_hits f place k [] = refl
marks_of_hits f place k (None ∷ scores) = marks_of_hits f place (k + 1) scores ∙ ap (λ n. map f (marked_from n (map is_some scores))) (let e : k + 1 ≡ suc k = omega arith in e)
marks_of_hits f place k (Some s ∷ scores) =
    ap (λ rest. f k ∷ rest) (marks_of_hits f place (k + 1) scores ∙ ap (λ n. map f (marked_from n (map is_some scores))) (let e : k + 1 ≡ suc k = omega arith in e))

marks_within : (start end : ℕ) (scores : List (Option ℕ)) → marked_within start end (map is_some scores) ≡ marked_from start (map is_some (drop start (take end scores)))
marks_within start end scores = ap (marked_from start) (ap (drop start) (take-map is_some end scores) ∙ drop-map is_some start (take end scores))

-- the objects that are given something
firsts : (given : Object → Option ℕ) (os : List Object) → map (λ (pair : Object × ℕ). pair.0) (filter_map (scored given) os) ≡ filter (λ o. is_some (given o)) os
firsts given [] = refl
firsts given (o ∷ os) = by (given o) refl (firsts given os)
  where
    by : (s : Option ℕ) → given o ≡ s → map (λ (pair : Object × ℕ). pair.0) (filter_map (scored given) os) ≡ filter (λ o. is_some (given o)) os → map (λ (pair : Object × ℕ). pair.0) (filter_map (scored given) (o ∷ os)) ≡ filter (λ o. is_some (given o)) (o ∷ os)
    by None e rest = rw e rest
    by (Some s) e rest = rw e (ap (λ zs. o ∷ zs) rest)

-- ---- flags that are part of others

abbrev IsPart : List Bool → List Bool → Type 0
IsPart [] [] = ⊤
IsPart [] (y ∷ ys) = ⊥
IsPart (x ∷ xs) [] = ⊥
IsPart (x ∷ xs) (y ∷ ys) = (x ≡ true → y ≡ true) × IsPart xs ys

part_take : (k : ℕ) (xs ys : List Bool) → IsPart xs ys → IsPart (take k xs) (take k ys)
part_take zero xs ys part = tt
part_take (suc k) [] [] part = tt
part_take (suc k) [] (y ∷ ys) part = absurd part
part_take (suc k) (x ∷ xs) [] part = absurd part
part_take (suc k) (x ∷ xs) (y ∷ ys) part = (part.0, part_take k xs ys part.1)

part_drop : (k : ℕ) (xs ys : List Bool) → IsPart xs ys → IsPart (drop k xs) (drop k ys)
part_drop zero xs ys part = part
part_drop (suc k) [] [] part = tt
part_drop (suc k) [] (y ∷ ys) part = absurd part
part_drop (suc k) (x ∷ xs) [] part = absurd part
part_drop (suc k) (x ∷ xs) (y ∷ ys) part = part_drop k xs ys part.1

fewer_marks : (k : ℕ) (xs ys : List Bool) → IsPart xs ys → length (marked_from k xs) ≤ length (marked_from k ys)
fewer_marks k [] [] part = omega arith
fewer_marks k [] (y ∷ ys) part = absurd part
fewer_marks k (x ∷ xs) [] part = absurd part
fewer_marks k (true ∷ xs) (true ∷ ys) part = let more = fewer_marks (suc k) xs ys part.1 in omega arith
fewer_marks k (true ∷ xs) (false ∷ ys) part = absurd (false≢true (part.0 refl))
fewer_marks k (false ∷ xs) (true ∷ ys) part = let more = fewer_marks (suc k) xs ys part.1 in omega arith
fewer_marks k (false ∷ xs) (false ∷ ys) part = fewer_marks (suc k) xs ys part.1

same_marks : (k : ℕ) (xs ys : List Bool) → IsPart xs ys → length (marked_from k xs) ≡ length (marked_from k ys) → marked_from k xs ≡ marked_from k ys
same_marks k [] [] part same = refl
same_marks k [] (y ∷ ys) part same = absurd part
same_marks k (x ∷ xs) [] part same = absurd part
same_marks k (true ∷ xs) (true ∷ ys) part same = ap (λ rest. k ∷ rest) (same_marks (suc k) xs ys part.1 (omega arith))
same_marks k (true ∷ xs) (false ∷ ys) part same = absurd (false≢true (part.0 refl))
same_marks k (false ∷ xs) (true ∷ ys) part same = absurd (let fewer = fewer_marks (suc k) xs ys part.1 in omega arith)
same_marks k (false ∷ xs) (false ∷ ys) part same = same_marks (suc k) xs ys part.1 same

-- ---- marked documents have their flags

marks_have : (k : ℕ) (part all : List Bool) → ((j : ℕ) → get_or part j false ≡ true → get_or all (k + j) false ≡ true) → AllByRecursion (λ doc. get_or all doc false ≡ true) (marked_from k part)
marks_have k [] all agree = tt
marks_have k (true ∷ part) all agree = (
  subst (λ n. get_or all n false ≡ true) (let e : k + 0 ≡ k = omega arith in e) (agree 0 refl),
  marks_have (suc k) part all (λ j is. subst (λ n. get_or all n false ≡ true) (let e : k + suc j ≡ suc k + j = omega arith in e) (agree (suc j) is)),
)
marks_have k (false ∷ part) all agree =
    marks_have (suc k) part all (λ j is. subst (λ n. get_or all n false ≡ true) (let e : k + suc j ≡ suc k + j = omega arith in e) (agree (suc j) is))

taken_has : (end : ℕ) (flags : List Bool) (k : ℕ) → get_or (take end flags) k false ≡ true → get_or flags k false ≡ true
taken_has zero flags k is = absurd (false≢true is)
taken_has (suc end) [] k is = is
taken_has (suc end) (flag ∷ flags) zero is = is
taken_has (suc end) (flag ∷ flags) (suc k) is = taken_has end flags k is

within_have : (start end : ℕ) (flags : List Bool) → AllByRecursion (λ doc. get_or flags doc false ≡ true) (marked_within start end flags)
within_have start end flags = marks_have start (drop start (take end flags)) flags (λ j is. taken_has end flags (start + j) (sym (get_or-drop start (take end flags) j false) ∙ is))

all_weaker : {A : Type 0} (P Q : A → Type 0) → ((a : A) → P a → Q a) → (xs : List A) → AllByRecursion P xs → AllByRecursion Q xs
all_weaker P Q weaker [] all = tt
all_weaker P Q weaker (x ∷ xs) all = (weaker x all.0, all_weaker P Q weaker xs all.1)

pub all_append : {A : Type 0} (P : A → Type 0) (xs ys : List A) → AllByRecursion P xs → AllByRecursion P ys → AllByRecursion P (xs ++ ys)
all_append P [] ys one other = other
all_append P (x ∷ xs) ys one other = (one.0, all_append P xs ys one.1 other)

-- the law of what stands inside a document
abbrev pub InsideLaw : Mapping → Type 0
InsideLaw m = (n p : ℕ) (owner given : Object → Option ℕ) (trees : List (List (Marked Tree))) (place doc score : ℕ) → IsAbove m n p → get_or (seen m (at_scope n owner) (get_or trees place [])) doc None ≡ Some score
    → map (hit_object m trees) (hits_between place (start_before n doc (scopes_of m (get_or trees place []))) doc (seen m (at_scope p given) (get_or trees place []))) ≡ filter_map (scored given) (below m (object_at m trees place doc) p)

module _ (m : Mapping) (law : InsideLaw m) where
  -- ---- one step, in one entry

  abbrev pub object : List (Marked Tree) → ℕ → Object
  object trees doc = document_object m trees doc

  step_found : (trees : List (Marked Tree)) (n p doc : ℕ) (given : Object → Option ℕ) → IsAbove m n p → Stands m trees n doc
      → map (object trees) (marked_within (start_before n doc (scopes_of m trees)) doc (map is_some (seen m (at_scope p given) trees))) ≡ filter (λ o. is_some (given o)) (below m (object trees doc) p)
  step_found trees n p doc given above stands =
      let start = start_before n doc (scopes_of m trees) in
      let scores = seen m (at_scope p given) trees in
      ap (map (object trees)) (marks_within start doc scores)
      ∙ sym (marks_of_hits (object trees) 0 start (drop start (take doc scores)))
      ∙ sym (map_map (λ (pair : Object × ℕ). pair.0) (λ (hit : Hit). (object trees hit.doc, hit.score)) (hits_from 0 start (drop start (take doc scores))))
      ∙ ap (map (λ (pair : Object × ℕ). pair.0)) (at_entry 0 start (drop start (take doc scores)) ∙ law n p (there m) given (trees ∷ []) 0 doc 0 above (seen_if m trees n doc stands))
      ∙ firsts given (below m (object trees doc) p)
    where
      at_entry : (place k : ℕ) (scores : List (Option ℕ)) → map (λ (hit : Hit). (object trees hit.doc, hit.score)) (hits_from 0 k scores) ≡ map (hit_object m (trees ∷ [])) (hits_from 0 k scores)
      at_entry place k [] = refl
      at_entry place k (None ∷ scores) = at_entry place (k + 1) scores
      at_entry place k (Some s ∷ scores) = ap (λ rest. (object trees k, s) ∷ rest) (at_entry place (k + 1) scores)

  -- those of a scope have a score where all are live
  scope_flags : (trees : List (Marked Tree)) (p : ℕ) → documents_of (scopes_of m trees) p ≡ map is_some (seen m (at_scope p (there m)) (map (made_live m) trees))
  scope_flags trees p =
      ap (map (has_scope p)) (scopes_are m trees)
      ∙ map_map (has_scope p) (λ (d : Document). scope d.1) (documents m trees)
      ∙ by (documents m trees)
      ∙ sym (ap (map is_some) (documents_are m (if_live (at_scope p (there m))) (map (made_live m) trees) ∙ ap (map (λ (d : Document). if_live (at_scope p (there m)) d.0 d.1)) (live_documents m trees)))
    where
      own : (o : Object) → has_scope p (scope o) ≡ is_some (at_scope p (there m) o)
      own o = by_test (scope o == p) (λ yes. rw yes refl) (λ no. rw no refl)

      by : (ds : List Document) → map (λ (d : Document). has_scope p (scope d.1)) ds ≡ map is_some (map (λ (d : Document). if_live (at_scope p (there m)) d.0 d.1) (map (document_live m) ds))
      by [] = refl
      by (d ∷ ds) = ap (λ flag. flag ∷ map (λ (d : Document). has_scope p (scope d.1)) ds) (own d.1) ∙ ap (λ rest. is_some (at_scope p (there m) d.1) ∷ rest) (by ds)

  live_part : (trees : List (Marked Tree)) (p : ℕ) → IsPart (map is_some (seen m (at_scope p (there m)) trees)) (map is_some (seen m (at_scope p (there m)) (map (made_live m) trees)))
  live_part trees p =
      subst (λ flags. IsPart (map is_some flags) (map is_some (seen m (at_scope p (there m)) (map (made_live m) trees)))) (sym (documents_are m (if_live (at_scope p (there m))) trees))
      (subst (λ flags. IsPart (map is_some (map (λ (d : Document). if_live (at_scope p (there m)) d.0 d.1) (documents m trees))) (map is_some flags))
      (sym (documents_are m (if_live (at_scope p (there m))) (map (made_live m) trees) ∙ ap (map (λ (d : Document). if_live (at_scope p (there m)) d.0 d.1)) (live_documents m trees)))
      (by (documents m trees)))
    where
      weaker : (live : Bool) (o : Object) → is_some (if_live (at_scope p (there m)) live o) ≡ true → is_some (at_scope p (there m) o) ≡ true
      weaker true o is = is
      weaker false o is = absurd (false≢true is)

      by : (ds : List Document) → IsPart (map is_some (map (λ (d : Document). if_live (at_scope p (there m)) d.0 d.1) ds)) (map is_some (map (λ (d : Document). if_live (at_scope p (there m)) d.0 d.1) (map (document_live m) ds)))
      by [] = tt
      by (d ∷ ds) = (weaker d.0 d.1, by ds)

  live_scopes : (trees : List (Marked Tree)) → scopes_of m (map (made_live m) trees) ≡ scopes_of m trees
  live_scopes trees =
      scopes_are m (map (made_live m) trees)
      ∙ ap (map (λ (d : Document). scope d.1)) (live_documents m trees)
      ∙ map_map (λ (d : Document). scope d.1) (document_live m) (documents m trees)
      ∙ sym (scopes_are m trees)

  live_object : (trees : List (Marked Tree)) (doc : ℕ) → object (map (made_live m) trees) doc ≡ object trees doc
  live_object trees doc =
      object_is m (map (made_live m) trees) doc
      ∙ ap (λ ds. (get_or ds doc no_document).1) (live_documents m trees)
      ∙ by (documents m trees) doc
      ∙ sym (object_is m trees doc)
    where
      by : (ds : List Document) (k : ℕ) → (get_or (map (document_live m) ds) k no_document).1 ≡ (get_or ds k no_document).1
      by [] k = refl
      by (d ∷ ds) zero = refl
      by (d ∷ ds) (suc k) = by ds k

  live_stands : (trees : List (Marked Tree)) (n doc : ℕ) → Stands m trees n doc → Stands m (map (made_live m) trees) n doc
  live_stands trees n doc s = record {
    live = ap (λ ds. (get_or ds doc no_document).0) (live_documents m trees) ∙ lives (documents m trees) doc (stands_low m trees n doc s);
    at = ap (λ ds. scope (get_or ds doc no_document).1 == n) (live_documents m trees) ∙ ap (λ o. scope o == n) (by (documents m trees) doc) ∙ s.at;
  }
    where
      lives : (ds : List Document) (k : ℕ) → k < length ds → (get_or (map (document_live m) ds) k no_document).0 ≡ true
      lives [] k low = absurd (omega arith)
      lives (d ∷ ds) zero low = refl
      lives (d ∷ ds) (suc k) low = lives ds k (omega arith)

      by : (ds : List Document) (k : ℕ) → (get_or (map (document_live m) ds) k no_document).1 ≡ (get_or ds k no_document).1
      by [] k = refl
      by (d ∷ ds) zero = refl
      by (d ∷ ds) (suc k) = by ds k

  -- inside a live document all are live
  scope_marks : (trees : List (Marked Tree)) (n p doc : ℕ) → IsAbove m n p → Stands m trees n doc
      → marked_within (start_before n doc (scopes_of m trees)) doc (documents_of (scopes_of m trees) p) ≡ marked_within (start_before n doc (scopes_of m trees)) doc (map is_some (seen m (at_scope p (there m)) trees))
  scope_marks trees n p doc above stands =
      let start = start_before n doc (scopes_of m trees) in
      let own = map is_some (seen m (at_scope p (there m)) trees) in
      let all = map is_some (seen m (at_scope p (there m)) (map (made_live m) trees)) in
      let part : IsPart (drop start (take doc own)) (drop start (take doc all)) = part_drop start (take doc own) (take doc all) (part_take doc own all (live_part trees p)) in
      let here : map (object trees) (marked_within start doc own) ≡ filter (λ o. is_some (there m o)) (below m (object trees doc) p) = step_found trees n p doc (there m) above stands in
      let there_too : map (object (map (made_live m) trees)) (marked_within start doc all) ≡ filter (λ o. is_some (there m o)) (below m (object trees doc) p) =
      ap (λ scopes. map (object (map (made_live m) trees)) (marked_within (start_before n doc scopes) doc all)) (sym (live_scopes trees))
      ∙ step_found (map (made_live m) trees) n p doc (there m) above (live_stands trees n doc stands)
      ∙ ap (λ o. filter (λ o. is_some (there m o)) (below m o p)) (live_object trees doc) in
      let count : length (marked_within start doc own) ≡ length (marked_within start doc all) =
      sym (length-map (marked_within start doc own) (object trees))
      ∙ ap length (here ∙ sym there_too)
      ∙ length-map (marked_within start doc all) (object (map (made_live m) trees)) in
      ap (marked_within start doc) (scope_flags trees p)
      ∙ sym (same_marks start (drop start (take doc own)) (drop start (take doc all)) part count)

  marks_stand : (trees : List (Marked Tree)) (p start end : ℕ) (given : Object → Option ℕ) → AllByRecursion (Stands m trees p) (marked_within start end (map is_some (seen m (at_scope p given) trees)))
  marks_stand trees p start end given =
      all_weaker (λ doc. get_or (map is_some (seen m (at_scope p given) trees)) doc false ≡ true) (Stands m trees p) (λ doc is. by doc (get_or (seen m (at_scope p given) trees) doc None) refl (sym (get_or-map is_some (seen m (at_scope p given) trees) doc None) ∙ is))
      (marked_within start end (map is_some (seen m (at_scope p given) trees))) (within_have start end (map is_some (seen m (at_scope p given) trees)))
    where
      by : (doc : ℕ) (s : Option ℕ) → get_or (seen m (at_scope p given) trees) doc None ≡ s → is_some (get_or (seen m (at_scope p given) trees) doc None) ≡ true → Stands m trees p doc
      by doc None e is = absurd (false≢true (sym (ap is_some e) ∙ is))
      by doc (Some s) e is = stands_if m trees p doc given s e

  -- ---- the whole chain

  module _ (view : List EntryState) (trees : List (List (Marked Tree))) (stand : ViewStandsFor m view trees) (place : ℕ) where
    abbrev pub entry : List (Marked Tree)
    entry = get_or trees place []

    abbrev pub live : List Tree
    live = live_trees trees

    record Step (n p doc : ℕ) (filter_of_step : Option Clause) (found : List (List (List (Option ℕ)))) : Type 0 where
      pub objects : map (object entry) (marked_within (start_before n doc (scopes_of m entry)) doc (passing place (scopes_of m entry) p filter_of_step found)) ≡ filter (passes m live filter_of_step) (below m (object entry doc) p)
      pub stands : AllByRecursion (Stands m entry p) (marked_within (start_before n doc (scopes_of m entry)) doc (passing place (scopes_of m entry) p filter_of_step found))

    step : (n p doc : ℕ) (filter_of_step : Option Clause) (more : List (ℕ × Clause)) (found : List (List (List (Option ℕ)))) → IsAbove m n p → AreFound m view (filter_at p filter_of_step ++ more) found → Stands m entry n doc → Step n p doc filter_of_step found
    step n p doc None more found above are stands =
        let same = scope_marks entry n p doc above stands in
        record {
          objects = ap (map (object entry)) same ∙ step_found entry n p doc (there m) above stands;
          stands = subst (AllByRecursion (Stands m entry p)) (sym same) (marks_stand entry p (start_before n doc (scopes_of m entry)) doc (there m));
        }
    step n p doc (Some c) more [] above are stands = absurd are
    step n p doc (Some c) more (scores ∷ found) above are stands =
        let given : Object → Option ℕ = λ o. hit m live c o in
        let is : get_or scores place [] ≡ seen m (at_scope p given) entry = ap (λ l. get_or l place []) (are.0.are trees stand) ∙ get_or-map (seen m (at_scope p given)) trees place [] in
        record {
          objects = ap (λ l. map (object entry) (marked_within (start_before n doc (scopes_of m entry)) doc (map is_some l))) is ∙ step_found entry n p doc given above stands;
          stands = subst (λ l. AllByRecursion (Stands m entry p) (marked_within (start_before n doc (scopes_of m entry)) doc (map is_some l))) (sym is) (marks_stand entry p (start_before n doc (scopes_of m entry)) doc given);
        }

    left_is : (p : ℕ) (filter_of_step : Option Clause) (more : List (ℕ × Clause)) (found : List (List (List (Option ℕ)))) → AreFound m view (filter_at p filter_of_step ++ more) found → AreFound m view more (filters_left filter_of_step found)
    left_is p None more found are = are
    left_is p (Some c) more [] are = absurd are
    left_is p (Some c) more (scores ∷ found) are = are.1

    -- the objects of the documents, each of which is one of the entry's
    pub record Reached (docs : List ℕ) (objects : List Object) : Type 0 where
      pub are : map (object entry) docs ≡ objects
      pub low : AllByRecursion (λ doc. doc < length (documents m entry)) docs

    reached_flat : (docs_of : ℕ → List ℕ) (objects_of : Object → List Object) (p : ℕ) (docs : List ℕ) → ((doc : ℕ) → Stands m entry p doc → Reached (docs_of doc) (objects_of (object entry doc))) → AllByRecursion (Stands m entry p) docs
        → Reached (flat_map docs_of docs) (flat_map objects_of (map (object entry) docs))
    reached_flat docs_of objects_of p [] each stands = record { are = refl; low = tt }
    reached_flat docs_of objects_of p (doc ∷ docs) each stands =
        let one = each doc stands.0 in
        let rest = reached_flat docs_of objects_of p docs each stands.1 in
        record {
          are = map-append (object entry) (docs_of doc) (flat_map docs_of docs)
              ∙ ap (λ os. os ++ map (object entry) (flat_map docs_of docs)) one.are
              ∙ ap (λ os. objects_of (object entry doc) ++ os) rest.are;
          low = all_append (λ doc. doc < length (documents m entry)) (docs_of doc) (flat_map docs_of docs) one.low rest.low;
        }

    pub chain_is : (chain : List Chain) (n doc : ℕ) (more : List (ℕ × Clause)) (found : List (List (List (Option ℕ)))) → IsChain m n chain → AreFound m view (flat_map filter_of chain ++ more) found → Stands m entry n doc
        → Reached (chain_docs place (scopes_of m entry) chain found n doc) (chain_objects m live chain (object entry doc))
    chain_is [] n doc more found is are stands = record { are = refl; low = (stands_low m entry n doc stands, tt) }
    chain_is (s ∷ chain) n doc more found is are stands =
        let own : AreFound m view (filter_at s.scope s.filter ++ (flat_map filter_of chain ++ more)) found = subst (λ fs. AreFound m view fs found) (append_assoc (filter_of s) (flat_map filter_of chain) more) are in
        let one = step n s.scope doc s.filter (flat_map filter_of chain ++ more) found is.0.0 own stands in
        let docs = marked_within (start_before n doc (scopes_of m entry)) doc (passing place (scopes_of m entry) s.scope s.filter found) in
        let all = reached_flat (chain_docs place (scopes_of m entry) chain (filters_left s.filter found) s.scope) (chain_objects m live chain) s.scope docs
        (λ doc stands. chain_is chain s.scope doc more (filters_left s.filter found) is.2 (left_is s.scope s.filter (flat_map filter_of chain ++ more) found own) stands) one.stands in
        record { are = all.are ∙ ap (flat_map (chain_objects m live chain)) one.objects; low = all.low }
