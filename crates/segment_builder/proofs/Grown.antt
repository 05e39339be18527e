-- What is taken apart, document by document: what each document adds, and what it carries at a key.
use Rattle.std.proofs.Common.{◌≡◌, ℕ, zero, suc, ◌+◌, ◌<◌, ◌==◌, true, false, List, [], ◌∷◌, ◌++◌, length, map, slice_get, Some, refl, sym, ap, ◌∙◌, append_assoc, append-nil, arith, eq-eqb, length-append}
use Rattle.std.specs.Ordering.{eq_by_cmp}
use Rattle.std.specs.declared.cmp.Ordering.{Ordering}
use Rattle.std.proofs.lemmas.List.{map-append}
use Rattle.doc_values.specs.Values.{values_of}
use Rattle.segment.specs.Flat.{FlatDocument}
use Rattle.segment_builder.specs.Entries.{EntriesState, flats_in, with_document, with_documents, with_blocks}
use Rattle.segment_builder.specs.Groups.{of_key}
use Rattle.segment_builder.specs.Parts.{tagged}
use Rattle.flattener.specs.Block.{BlockState}
use Rattle.segment_builder.proofs.Keys.{split}
use Rattle.segment_builder.proofs.Merged.{IsExact, find}

scopes_add : (flats : List FlatDocument) (it : EntriesState) → (with_documents it flats).scopes ≡ it.scopes ++ map (λ (flat : FlatDocument). flat.scope) flats
scopes_add [] it = sym (append-nil it.scopes)
scopes_add (flat ∷ flats) it = scopes_add flats (with_document it flat) ∙ append_assoc it.scopes (flat.scope ∷ []) (map (λ (other : FlatDocument). other.scope) flats)

pub scopes_of_blocks : (blocks : List BlockState) (it : EntriesState) → (with_blocks it blocks).scopes ≡ it.scopes ++ map (λ (flat : FlatDocument). flat.scope) (flats_in blocks)
scopes_of_blocks [] it = sym (append-nil it.scopes)
scopes_of_blocks (block ∷ blocks) it =
    let rest : (with_blocks (with_documents it block.flats) blocks).scopes ≡ (with_documents it block.flats).scopes ++ map (λ (flat : FlatDocument). flat.scope) (flats_in blocks) = scopes_of_blocks blocks (with_documents it block.flats) in
    let first = scopes_add block.flats it in
    rest ∙ ap (λ xs. xs ++ map (λ (flat : FlatDocument). flat.scope) (flats_in blocks)) first
    ∙ append_assoc it.scopes (map (λ (flat : FlatDocument). flat.scope) block.flats) (map (λ (flat : FlatDocument). flat.scope) (flats_in blocks))
    ∙ ap (λ xs. it.scopes ++ xs) (sym (map-append (λ (flat : FlatDocument). flat.scope) block.flats (flats_in blocks)))

count_add : (flats : List FlatDocument) (it : EntriesState) → length (with_documents it flats).scopes ≡ length it.scopes + length flats
count_add [] it = omega arith
count_add (flat ∷ flats) it = omega (arith, count_add flats (with_document it flat), length-append it.scopes (flat.scope ∷ []))

-- what each document adds, where the first has the number `doc`
module _ {E : Type 0} (tag : ℕ → FlatDocument → List E) where
  abbrev pub by_doc : ℕ → List FlatDocument → List E
  by_doc doc [] = []
  by_doc doc (flat ∷ flats) = tag doc flat ++ by_doc (doc + 1) flats

  by_doc_append : (doc : ℕ) (flats others : List FlatDocument) → by_doc doc (flats ++ others) ≡ by_doc doc flats ++ by_doc (doc + length flats) others
  by_doc_append doc [] others = let e : doc + 0 ≡ doc = omega arith in rw e refl
  by_doc_append doc (flat ∷ flats) others =
      let e : doc + length (flat ∷ flats) ≡ doc + 1 + length flats = omega arith in
      rw (e, by_doc_append (doc + 1) flats others) (sym (append_assoc (tag doc flat) (by_doc (doc + 1) flats) (by_doc (doc + 1 + length flats) others)))

  module _ (part : EntriesState → List E)
      (step : (it : EntriesState) (flat : FlatDocument) → part (with_document it flat) ≡ part it ++ tag (length it.scopes) flat) where
    documents_add : (flats : List FlatDocument) (it : EntriesState) → part (with_documents it flats) ≡ part it ++ by_doc (length it.scopes) flats
    documents_add [] it = sym (append-nil (part it))
    documents_add (flat ∷ flats) it =
        let next : length (it.scopes ++ flat.scope ∷ []) ≡ length it.scopes + 1 = length-append it.scopes (flat.scope ∷ []) in
        documents_add flats (with_document it flat)
        ∙ ap (λ n. part (with_document it flat) ++ by_doc n flats) next
        ∙ ap (λ xs. xs ++ by_doc (length it.scopes + 1) flats) (step it flat)
        ∙ append_assoc (part it) (tag (length it.scopes) flat) (by_doc (length it.scopes + 1) flats)

    pub blocks_add : (blocks : List BlockState) (it : EntriesState) → part (with_blocks it blocks) ≡ part it ++ by_doc (length it.scopes) (flats_in blocks)
    blocks_add [] it = sym (append-nil (part it))
    blocks_add (block ∷ blocks) it =
        let count : length (with_documents it block.flats).scopes ≡ length it.scopes + length block.flats = count_add block.flats it in
        blocks_add blocks (with_documents it block.flats)
        ∙ ap (λ n. part (with_documents it block.flats) ++ by_doc n (flats_in blocks)) count
        ∙ ap (λ xs. xs ++ by_doc (length it.scopes + length block.flats) (flats_in blocks)) (documents_add block.flats it)
        ∙ append_assoc (part it) (by_doc (length it.scopes) block.flats) (by_doc (length it.scopes + length block.flats) (flats_in blocks))
        ∙ ap (λ xs. part it ++ xs) (sym (by_doc_append (length it.scopes) block.flats (flats_in blocks)))

-- ---- at a key

module _ {K P : Type 0} (cmp : K → K → Ordering) where
  pub of_append : (key : K) (xs ys : List (K × P)) → of_key cmp key (xs ++ ys) ≡ of_key cmp key xs ++ of_key cmp key ys
  of_append key [] ys = refl
  of_append key (x ∷ xs) ys =
      split (eq_by_cmp cmp key x.0)
      (λ is. rw (is, of_append key xs ys) refl)
      (λ isnt. rw (isnt, of_append key xs ys) refl)

same_doc : (n : ℕ) → (n == n) ≡ true
same_doc n = eq-eqb n n refl

module _ {K X : Type 0} (cmp : K → K → Ordering) (o : IsExact cmp) (get : FlatDocument → List (K × List X)) (key : K) where
  abbrev tags : ℕ → FlatDocument → List (K × (ℕ × List X))
  tags doc flat = tagged doc (get flat)

  -- entries of the document itself come first
  found_here : (n : ℕ) (entries : List (K × List X)) (rest : List (ℕ × List X)) → values_of n rest ≡ [] → values_of n (of_key cmp key (tagged n entries) ++ rest) ≡ find cmp o key entries
  found_here n [] rest none = none
  found_here n (entry ∷ entries) rest none =
      split (eq_by_cmp cmp key entry.0)
      (λ is. rw (is, same_doc n) refl)
      (λ isnt. rw isnt (found_here n entries rest none))

  -- and those of another document are passed over
  passed : (d n : ℕ) (entries : List (K × List X)) (rest : List (ℕ × List X)) → (n == d) ≡ false → values_of d (of_key cmp key (tagged n entries) ++ rest) ≡ values_of d rest
  passed d n [] rest apart = refl
  passed d n (entry ∷ entries) rest apart =
      split (eq_by_cmp cmp key entry.0)
      (λ is. rw (is, apart) (passed d n entries rest apart))
      (λ isnt. rw isnt (passed d n entries rest apart))

  apart_from : (n d : ℕ) → d < n → (n == d) ≡ false
  apart_from n d less = split (n == d) (λ is. absurd (grind (arith, is, less))) (λ isnt. isnt)

  apart_to : (n d : ℕ) → n < d → (n == d) ≡ false
  apart_to n d less = split (n == d) (λ is. absurd (grind (arith, is, less))) (λ isnt. isnt)

  none_before : (d n : ℕ) (flats : List FlatDocument) → d < n → values_of d (of_key cmp key (by_doc tags n flats)) ≡ []
  none_before d n [] less = refl
  none_before d n (flat ∷ flats) less =
      ap (values_of d) (of_append cmp key (tags n flat) (by_doc tags (n + 1) flats))
      ∙ passed d n (get flat) (of_key cmp key (by_doc tags (n + 1) flats)) (apart_from n d less)
      ∙ none_before d (n + 1) flats (omega arith)

  pub at_doc : (n d : ℕ) (flats : List FlatDocument) (flat : FlatDocument) → slice_get flats d ≡ Some flat → values_of (n + d) (of_key cmp key (by_doc tags n flats)) ≡ find cmp o key (get flat)
  at_doc n d [] flat is = absurd (cc (is))
  at_doc n zero (first ∷ flats) flat is =
      let here : first ≡ flat = cc (is) in
      let e : n + zero ≡ n = omega arith in
      rw (e, of_append cmp key (tags n first) (by_doc tags (n + 1) flats))
      (found_here n (get first) (of_key cmp key (by_doc tags (n + 1) flats)) (none_before n (n + 1) flats (omega arith)) ∙ ap (λ f. find cmp o key (get f)) here)
  at_doc n (suc d) (first ∷ flats) flat is =
      let e : n + suc d ≡ n + 1 + d = omega arith in
      rw (e, of_append cmp key (tags n first) (by_doc tags (n + 1) flats))
      (passed (n + 1 + d) n (get first) (of_key cmp key (by_doc tags (n + 1) flats)) (apart_to n (n + 1 + d) (omega arith)) ∙ at_doc (n + 1) d flats flat is)
