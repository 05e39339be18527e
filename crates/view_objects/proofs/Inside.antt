-- Inside a document stand the documents of the objects below its own.
use Rattle.std.proofs.Common.{◌≡◌, ℕ, zero, suc, ◌+◌, ◌-◌, ◌<◌, ◌≤◌, ◌==◌, List as Seq, [], ◌∷◌, ◌++◌, length, map, flat_map, get_or, take, drop, zip, Bool, true, false, cond, Option, Some, None, is_some, refl, sym, ap, subst, ◌∙◌, arith, append_assoc}
use Rattle.std.proofs.Math.ListN.{get_or-map}
use Rattle.std.proofs.lemmas.Bool.{false≢true}
use Rattle.std.proofs.lemmas.List.{append-nil, drop-map, length-map, length-take-le, map-append, take-append-drop, take-map}
use Rattle.std.specs.List.{cons_option, filter_map}
use Rattle.std.specs.Option.{option_map_or, option_or, option_to_list}
use Rattle.block_bits.specs.Blocks.{has_scope}
use Rattle.block_bits.specs.Places.{last_place}
use Rattle.block_join.specs.Joins.{joined}
use Rattle.flattener.specs.StandsFor.{Marked}
use Rattle.mapping.specs.Mapping.{Mapping}
use Rattle.tree_joins.specs.Seen.{at_scope, gathered, if_live, scope_mark, scopes_of, scored, seen, some_of}
use Rattle.tree_objects.specs.Object.{Object, below, scope}
use Rattle.tree_objects.specs.Tree.{Tree}
use Rattle.view_objects.specs.Hits.{any_object, hit_object, hits_between, hits_from, no_object, object_at, objects_in, start_before}
use Rattle.view_objects.proofs.Hits.{by_test, chosen, Document, documents_are, documents_of, entry_hits, map_map, object_of, placed, read_in, told}

-- ---- lists

full : {A : Type 0} → Option (Seq A) → Seq A
full None = []
full (Some xs) = xs

full_is : {A : Type 0} (xs : Seq A) → full (some_of xs) ≡ xs
unfolding full
full_is [] = refl
full_is (x ∷ xs) = refl

some_of_same : {A : Type 0} (xs ys : Seq A) → some_of xs ≡ some_of ys → xs ≡ ys
some_of_same xs ys same = sym (full_is xs) ∙ ap full same ∙ full_is ys

map_same : {A B : Type 0} (f g : A → B) → ((x : A) → f x ≡ g x) → (xs : Seq A) → map f xs ≡ map g xs
map_same f g same [] = refl
map_same f g same (x ∷ xs) = ap (λ y. y ∷ map f xs) (same x) ∙ ap (λ zs. g x ∷ zs) (map_same f g same xs)

zip_maps : {A B C : Type 0} (f : A → B) (g : A → C) (xs : Seq A) → zip (map f xs) (map g xs) ≡ map (λ x. (f x, g x)) xs
zip_maps f g [] = refl
zip_maps f g (x ∷ xs) = ap (λ zs. (f x, g x) ∷ zs) (zip_maps f g xs)

found_at : {A : Type 0} (f : A → Option ℕ) (xs : Seq A) (k s : ℕ) (d : A) → get_or (map f xs) k None ≡ Some s → (k < length xs) × (f (get_or xs k d) ≡ Some s)
found_at f [] k s d found = absurd (false≢true (ap is_some found))
found_at f (x ∷ xs) zero s d found = (omega arith, found)
found_at f (x ∷ xs) (suc k) s d found = let more = found_at f xs k s d found in (omega (arith, more.0), more.1)

-- ---- the last place of a test

abbrev Within : ℕ → ℕ → Option ℕ → Type 0
Within k count None = Unit {0}
Within k count (Some q) = (k ≤ q) × (q < k + count)

within_more : (k count : ℕ) (found : Option ℕ) (here : Bool) → Within (k + 1) count found → Within k (suc count) (option_or found (cond here (Some k) None))
within_more k count None true h = (omega arith, omega arith)
within_more k count None false h = tt
within_more k count (Some q) here h = (omega (arith, h.0), omega (arith, h.1))

within : {X : Type 0} (test : X → Bool) (k : ℕ) (xs : Seq X) → Within k (length xs) (last_place test k xs)
within test k [] = tt
within test k (x ∷ xs) = within_more k (length xs) (last_place test (k + 1) xs) (test x) (within test (k + 1) xs)

-- ---- what a document of a scope answers to

-- what documents tell, each with its scope
abbrev words : {A : Type 0} → ℕ × Seq A → Seq A
words {A} doc = doc.1

abbrev numbers : {A : Type 0} → Seq (ℕ × Seq A) → Seq ℕ
numbers {A} docs = map (λ (doc : ℕ × Seq A). doc.0) docs

module _ {A : Type 0} (to : ℕ) where
  abbrev told_since : Seq A → Seq (ℕ × Seq A) → Seq A
  told_since since [] = since
  told_since since (doc ∷ docs) = told_since (cond (doc.0 == to) [] (since ++ doc.1)) docs

  answers_at : {B : Type 0} (answer : Seq A → B) (other : B) (since : Seq A) (docs : Seq (ℕ × Seq A)) (k : ℕ) (none : B) (d : ℕ × Seq A) → k < length docs → ((get_or docs k d).0 == to) ≡ true
      → get_or (joined answer other to since docs) k none ≡ answer (told_since since (take k docs))
  answers_at answer other since [] k none d low here = absurd (omega (arith, low))
  answers_at answer other since (doc ∷ docs) zero none d low here = rw here refl
  answers_at answer other since (doc ∷ docs) (suc k) none d low here = answers_at answer other (cond (doc.0 == to) [] (since ++ doc.1)) docs k none d (omega (arith, low)) here

  abbrev since_last : Seq A → ℕ → Seq (ℕ × Seq A) → Option ℕ → Seq A
  since_last since k docs None = since ++ flat_map words docs
  since_last since k docs (Some q) = flat_map words (drop (q + 1 - k) docs)

  since_step : (since : Seq A) (k : ℕ) (doc : ℕ × Seq A) (docs : Seq (ℕ × Seq A)) (found : Option ℕ) → Within (k + 1) (length docs) found
      → since_last (cond (doc.0 == to) [] (since ++ doc.1)) (k + 1) docs found ≡ since_last since k (doc ∷ docs) (option_or found (cond (doc.0 == to) (Some k) None))
  since_step since k doc docs None h =
      by_test (doc.0 == to)
      (λ held. let e : k + 1 - k ≡ 1 = omega arith in rw held (rw e refl))
      (λ failed. rw failed (append_assoc since doc.1 (flat_map words docs)))
  since_step since k doc docs (Some q) h =
      let e : q + 1 - k ≡ suc (q + 1 - (k + 1)) = omega (arith, h.0) in
      rw e refl

  told_range : (docs : Seq (ℕ × Seq A)) (k : ℕ) (since : Seq A) → told_since since docs ≡ since_last since k docs (last_place (has_scope to) k (numbers docs))
  told_range [] k since = sym (append-nil since)
  told_range (doc ∷ docs) k since =
      told_range docs (k + 1) (cond (doc.0 == to) [] (since ++ doc.1))
      ∙ since_step since k doc docs (last_place (has_scope to) (k + 1) (numbers docs)) (subst (λ count. Within (k + 1) count (last_place (has_scope to) (k + 1) (numbers docs))) (length-map docs (λ (doc : ℕ × Seq A). doc.0)) (within (has_scope to) (k + 1) (numbers docs)))

  from_start : (docs : Seq (ℕ × Seq A)) (found : Option ℕ) → since_last [] 0 docs found ≡ flat_map words (drop (option_map_or (λ previous. previous + 1) found 0) docs)
  from_start docs None = refl
  from_start docs (Some q) = let e : q + 1 - 0 ≡ q + 1 = omega arith in rw e refl

  in_range : (docs : Seq (ℕ × Seq A)) (k : ℕ) → told_since [] (take k docs) ≡ flat_map words (drop (start_before to k (numbers docs)) (take k docs))
  in_range docs k =
      told_range (take k docs) 0 []
      ∙ from_start (take k docs) (last_place (has_scope to) 0 (numbers (take k docs)))
      ∙ ap (λ (found : Seq ℕ). flat_map words (drop (option_map_or (λ previous. previous + 1) (last_place (has_scope to) 0 found) 0) (take k docs))) (sym (take-map (λ (doc : ℕ × Seq A). doc.0) k docs))

start_within : (to k : ℕ) (scopes : Seq ℕ) → start_before to k scopes ≤ length (take k scopes)
start_within to k scopes = bounded (last_place (has_scope to) 0 (take k scopes)) (within (has_scope to) 0 (take k scopes))
  where
    bounded : (found : Option ℕ) → Within 0 (length (take k scopes)) found → option_map_or (λ previous. previous + 1) found 0 ≤ length (take k scopes)
    bounded None h = omega arith
    bounded (Some q) h = omega (arith, h.1)

-- ---- one entry

live_there : (here there : Bool) (score : Option ℕ) (s : ℕ) → cond here (cond there score None) None ≡ Some s → (here ≡ true) × (there ≡ true)
live_there true true score s found = (refl, refl)
live_there true false score s found = absurd (false≢true (ap is_some found))
live_there false there score s found = absurd (false≢true (ap is_some found))

module _ (m : Mapping) (n p : ℕ) (owner given : Object → Option ℕ) where
  abbrev no_document : Document
  no_document = (false, no_object)

  abbrev picked : Document → Option (Object × ℕ)
  picked d = chosen m p given d

  abbrev entry : Document → ℕ × Seq (Object × ℕ)
  entry d = (scope d.1, option_to_list (picked d))

  same_choice : (live : Bool) (o : Object) → if_live (at_scope p (scored given)) live o ≡ picked (live, o)
  same_choice true o = by_test (scope o == p) (λ held. rw held refl) (λ failed. rw failed refl)
  same_choice false o = refl

  heard : (trees : Seq (Marked Tree)) → zip (scopes_of m trees) (map option_to_list (seen m (at_scope p (scored given)) trees)) ≡ map entry (documents_of m trees)
  heard trees =
      ap (λ scopes. zip scopes (map option_to_list (seen m (at_scope p (scored given)) trees))) (documents_are m scope_mark trees)
      ∙ ap (λ lists. zip (map (λ (d : Document). scope d.1) (documents_of m trees)) lists)
      (ap (map option_to_list) (documents_are m (if_live (at_scope p (scored given))) trees)
      ∙ map_map option_to_list (λ (d : Document). if_live (at_scope p (scored given)) d.0 d.1) (documents_of m trees)
      ∙ map_same (λ (d : Document). option_to_list (if_live (at_scope p (scored given)) d.0 d.1)) (λ (d : Document). option_to_list (picked d)) (λ d. ap option_to_list (same_choice d.0 d.1)) (documents_of m trees))
      ∙ zip_maps (λ (d : Document). scope d.1) (λ (d : Document). option_to_list (picked d)) (documents_of m trees)

  put : (x : Option (Object × ℕ)) (xs : Seq (Object × ℕ)) → option_to_list x ++ xs ≡ cons_option x xs
  put None xs = refl
  put (Some x) xs = refl

  picked_words : (ds : Seq Document) → flat_map (words {A = Object × ℕ}) (map entry ds) ≡ filter_map picked ds
  picked_words [] = refl
  picked_words (d ∷ ds) = ap (λ zs. option_to_list (picked d) ++ zs) (picked_words ds) ∙ put (picked d) (filter_map picked ds)

  -- what stands in the range of a document that has something is what the objects below its own are given
  module _ (trees : Seq (Marked Tree)) (doc score : ℕ) (hit : get_or (seen m (at_scope n owner) trees) doc None ≡ Some score)
      (law : joined some_of None n [] (zip (scopes_of m trees) (map option_to_list (seen m (at_scope p (scored given)) trees))) ≡ seen m (at_scope n (gathered m some_of p (scored given))) trees) where
    abbrev documents : Seq Document
    documents = documents_of m trees

    abbrev own : Document
    own = get_or documents doc no_document

    abbrev start : ℕ
    start = start_before n doc (scopes_of m trees)

    abbrev range : Seq Document
    range = drop start (take doc documents)

    is_hit : (doc < length documents) × (if_live (at_scope n owner) own.0 own.1 ≡ Some score)
    is_hit = found_at (λ (d : Document). if_live (at_scope n owner) d.0 d.1) documents doc score no_document (ap (λ scores. get_or scores doc None) (sym (documents_are m (if_live (at_scope n owner)) trees)) ∙ hit)

    is_there : (own.0 ≡ true) × ((scope own.1 == n) ≡ true)
    is_there = live_there own.0 (scope own.1 == n) (owner own.1) score is_hit.1

    own_entry : get_or (map entry documents) doc (entry no_document) ≡ entry own
    own_entry = get_or-map entry documents doc no_document

    scopes_are : numbers {A = Object × ℕ} (map entry documents) ≡ scopes_of m trees
    scopes_are = map_map (λ (d : ℕ × Seq (Object × ℕ)). d.0) entry documents ∙ sym (documents_are m scope_mark trees)

    -- the range of entries is that of documents
    ranged : drop start (take doc (map entry documents)) ≡ map entry range
    ranged = ap (drop start) (take-map entry doc documents) ∙ drop-map entry start (take doc documents)

    answered : get_or (joined some_of None n [] (map entry documents)) doc None ≡ some_of (filter_map picked range)
    answered =
        answers_at n some_of None [] (map entry documents) doc None (entry no_document)
        (subst (λ count. doc < count) (sym (length-map documents entry)) is_hit.0)
        (ap (λ (e : ℕ × Seq (Object × ℕ)). e.0 == n) own_entry ∙ is_there.1)
        ∙ ap some_of
        (in_range n (map entry documents) doc
        ∙ ap (λ scopes. flat_map (words {A = Object × ℕ}) (drop (start_before n doc scopes) (take doc (map entry documents)))) scopes_are
        ∙ ap (flat_map (words {A = Object × ℕ})) ranged
        ∙ picked_words range)

    gathers : get_or (seen m (at_scope n (gathered m some_of p (scored given))) trees) doc None ≡ some_of (filter_map (scored given) (below m own.1 p))
    gathers =
        ap (λ (lists : Seq (Option (Seq (Object × ℕ)))). get_or lists doc None) (documents_are m (if_live (at_scope n (gathered m some_of p (scored given)))) trees)
        ∙ get_or-map (λ (d : Document). if_live (at_scope n (gathered m some_of p (scored given))) d.0 d.1) documents doc no_document
        ∙ there own.0 own.1 is_there.0 is_there.1
      where
        there : (live : Bool) (o : Object) → live ≡ true → (scope o == n) ≡ true → if_live (at_scope n (gathered m some_of p (scored given))) live o ≡ some_of (filter_map (scored given) (below m o p))
        there live o held same = rw held (rw same refl)

    found_below : filter_map picked range ≡ filter_map (scored given) (below m own.1 p)
    found_below =
        some_of_same (filter_map picked range) (filter_map (scored given) (below m own.1 p))
        (sym answered
        ∙ ap (λ docs. get_or (joined some_of None n [] docs) doc None) (sym (heard trees))
        ∙ ap (λ (lists : Seq (Option (Seq (Object × ℕ)))). get_or lists doc None) law
        ∙ gathers)

    -- ---- the hits in the range

    short : start ≤ length (take doc documents)
    short =
        let low : start ≤ length (take doc (scopes_of m trees)) = start_within n doc (scopes_of m trees) in
        let same : length (take doc (scopes_of m trees)) ≡ length (take doc documents) =
        ap (λ scopes. length (take doc scopes)) (documents_are m scope_mark trees)
        ∙ ap length (take-map (λ (d : Document). scope d.1) doc documents)
        ∙ length-map (take doc documents) (λ (d : Document). scope d.1) in
        subst (λ count. start ≤ count) same low

    parts : map object_of documents ≡ map object_of (take start (take doc documents)) ++ (map object_of range ++ map object_of (drop doc documents))
    parts =
        ap (map object_of) (sym (take-append-drop doc documents))
        ∙ map-append object_of (take doc documents) (drop doc documents)
        ∙ ap (λ zs. zs ++ map object_of (drop doc documents)) (ap (map object_of) (sym (take-append-drop start (take doc documents))) ∙ map-append object_of (take start (take doc documents)) range)
        ∙ append_assoc (map object_of (take start (take doc documents))) (map object_of range) (map object_of (drop doc documents))

    front : length (map object_of (take start (take doc documents))) ≡ start
    front = length-map (take start (take doc documents)) object_of ∙ length-take-le start (take doc documents) short

    pub hits_inside : (place : ℕ) → map (read_in (objects_in m trees)) (hits_between place start doc (seen m (at_scope p given) trees)) ≡ filter_map (scored given) (below m own.1 p)
    hits_inside place =
        ap (λ scores. map (read_in (objects_in m trees)) (hits_from place start (drop start (take doc scores)))) (documents_are m (if_live (at_scope p given)) trees)
        ∙ ap (λ scores. map (read_in (objects_in m trees)) (hits_from place start scores)) (ap (drop start) (take-map (told m p given) doc documents) ∙ drop-map (told m p given) start (take doc documents))
        ∙ entry_hits m p given (objects_in m trees) (map object_of (take start (take doc documents))) (map object_of (drop doc documents)) place start range front (documents_are m any_object trees ∙ parts)
        ∙ found_below

    pub own_object : get_or (objects_in m trees) doc no_object ≡ own.1
    own_object = ap (λ objects. get_or objects doc no_object) (documents_are m any_object trees) ∙ get_or-map object_of documents doc no_document

  pub below_found : (all : Seq (Seq (Marked Tree))) (place doc score : ℕ) → get_or (seen m (at_scope n owner) (get_or all place [])) doc None ≡ Some score
      → joined some_of None n [] (zip (scopes_of m (get_or all place [])) (map option_to_list (seen m (at_scope p (scored given)) (get_or all place [])))) ≡ seen m (at_scope n (gathered m some_of p (scored given))) (get_or all place [])
      → map (hit_object m all) (hits_between place (start_before n doc (scopes_of m (get_or all place []))) doc (seen m (at_scope p given) (get_or all place []))) ≡ filter_map (scored given) (below m (object_at m all place doc) p)
  below_found all place doc score hit law =
      let trees = get_or all place [] in
      let start = start_before n doc (scopes_of m trees) in
      placed m p given all place start (drop start (take doc (seen m (at_scope p given) trees)))
      ∙ hits_inside trees doc score hit law place
      ∙ ap (λ o. filter_map (scored given) (below m o p)) (sym (own_object trees doc score hit law))
