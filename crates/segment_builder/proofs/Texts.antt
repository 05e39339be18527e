-- Text fields: groups of documents as sets, and as entries that carry one thing.
use Rattle.std.proofs.Common.{◌≡◌, ℕ, ◌<◌, ◌==◌, Bool, true, false, ◌||◌, List, [], ◌∷◌, ◌++◌, length, map, set, get_or, replicate, refl, sym, ap, ◌∙◌, arith, length-set, get_or-set_same, get_or-set_other, eqb-true, eq-eqb}
use Rattle.std.specs.List.{AllByRecursion, filter, list_any}
use Rattle.std.specs.Ordering.{nat_cmp, eq_by_cmp}
use Rattle.std.proofs.lemmas.List.{get_or-replicate, length-replicate, map-append}
use Rattle.doc_values.specs.Values.{values_of}
use Rattle.segment.specs.Flat.{FlatDocument, has_some}
use Rattle.segment_builder.specs.Columns.{with_marks, marks_of}
use Rattle.segment_builder.specs.Groups.{of_key, in_groups}
use Rattle.segment_builder.specs.Parts.{tagged, fields_with}
use Rattle.segment_builder.proofs.Keys.{split}
use Rattle.segment_builder.proofs.Merged.{at_document, keys}
use Rattle.segment_builder.proofs.Orders.{nat_order}

abbrev is_doc : ℕ → ℕ → Bool
is_doc d doc = doc == d

or_true : (b : Bool) → (b || true) ≡ true
or_true true = refl
or_true false = refl

or_false : (b : Bool) → (b || false) ≡ b
or_false true = refl
or_false false = refl

marked : (docs : List ℕ) (flags : List Bool) (d : ℕ) → d < length flags → get_or (with_marks flags docs) d false ≡ (get_or flags d false || list_any (is_doc d) docs)
marked [] flags d inside = sym (or_false (get_or flags d false))
marked (doc ∷ docs) flags d inside =
    let later : get_or (with_marks (set flags doc true) docs) d false ≡ (get_or (set flags doc true) d false || list_any (is_doc d) docs) = marked docs (set flags doc true) d (omega (arith, inside, length-set flags doc true)) in
    later ∙ split (doc == d)
    (λ is.
    let same : doc ≡ d = eqb-true doc d is in
    let set_it : get_or (set flags doc true) d false ≡ true = rw same (get_or-set_same flags d true false inside) in
    rw (set_it, is) (sym (or_true (get_or flags d false))))
    (λ isnt.
    let other : get_or (set flags doc true) d false ≡ get_or flags d false = get_or-set_other flags doc d true false (λ same. (let e : (doc == d) ≡ true = eq-eqb doc d (sym same) in let never : true ≡ false = sym e ∙ isnt in cc (never))) in
    rw (other, isnt) refl)

length_marked : (docs : List ℕ) (flags : List Bool) → length (with_marks flags docs) ≡ length flags
length_marked [] flags = refl
length_marked (doc ∷ docs) flags = length_marked docs (set flags doc true) ∙ length-set flags doc true

pub length_marks : (documents : ℕ) (docs : List ℕ) → length (marks_of documents docs) ≡ documents
length_marks documents docs = length_marked docs (replicate documents false) ∙ length-replicate documents false

pub marks_at : (documents d : ℕ) (docs : List ℕ) → d < documents → get_or (marks_of documents docs) d false ≡ list_any (is_doc d) docs
marks_at documents d docs inside =
    let long : length (replicate documents false) ≡ documents = length-replicate documents false in
    let none : get_or (replicate documents false) d false ≡ false = get_or-replicate documents d false false inside in
    marked docs (replicate documents false) d (omega (arith, inside, long)) ∙ rw none refl

-- ---- as entries

abbrev pub text_member : ℕ → ℕ × List ℕ
text_member doc = (doc, 0 ∷ [])

abbrev pub text_entry : ℕ × ℕ → ℕ × (ℕ × List ℕ)
text_entry entry = (entry.0, text_member entry.1)

abbrev pub text_group : ℕ × List ℕ → ℕ × List (ℕ × List ℕ)
text_group group = (group.0, map text_member group.1)

abbrev pub text_get : FlatDocument → List (ℕ × List ℕ)
text_get flat = map (λ field. (field, 0 ∷ [])) flat.texts

pub of_texts : (key : ℕ) (entries : List (ℕ × ℕ)) → of_key nat_cmp key (map text_entry entries) ≡ map text_member (of_key nat_cmp key entries)
of_texts key [] = refl
of_texts key (entry ∷ entries) =
    split (eq_by_cmp nat_cmp key entry.0)
    (λ is. rw (is, of_texts key entries) refl)
    (λ isnt. rw (isnt, of_texts key entries) refl)

pub in_texts : (key : ℕ) (groups : List (ℕ × List ℕ)) → in_groups nat_cmp key (map text_group groups) ≡ map text_member (in_groups nat_cmp key groups)
in_texts key [] = refl
in_texts key (group ∷ groups) =
    split (eq_by_cmp nat_cmp key group.0)
    (λ is. rw (is, in_texts key groups) (sym (map-append text_member group.1 (in_groups nat_cmp key groups))))
    (λ isnt. rw (isnt, in_texts key groups) refl)

text_tags : (doc : ℕ) (fields : List ℕ) → map text_entry (fields_with doc fields) ≡ tagged doc (map (λ field. (field, 0 ∷ [])) fields)
text_tags doc [] = refl
text_tags doc (field ∷ fields) = ap (λ rest. (field, (doc, 0 ∷ [])) ∷ rest) (text_tags doc fields)

pub text_step : (doc : ℕ) (texts : List (ℕ × ℕ)) (fields : List ℕ) → map text_entry (texts ++ fields_with doc fields) ≡ map text_entry texts ++ tagged doc (map (λ field. (field, 0 ∷ [])) fields)
text_step doc texts fields = map-append text_entry texts (fields_with doc fields) ∙ ap (λ rest. map text_entry texts ++ rest) (text_tags doc fields)

-- whether a group has a document
has_doc : (d field : ℕ) (docs : List ℕ) → has_some (field, values_of d (map text_member docs)) ≡ list_any (is_doc d) docs
has_doc d field [] = refl
has_doc d field (doc ∷ docs) =
    split (doc == d)
    (λ is. rw is refl)
    (λ isnt. rw isnt (has_doc d field docs))

pub texts_at : (documents d : ℕ) → d < documents → (groups : List (ℕ × List ℕ))
    → map (λ (column : ℕ × List Bool). column.0) (filter (λ (column : ℕ × List Bool). get_or column.1 d false) (map (λ (group : ℕ × List ℕ). (group.0, marks_of documents group.1)) groups))
    ≡ map (λ (entry : ℕ × List ℕ). entry.0) (at_document nat_cmp nat_order d (map text_group groups))
texts_at documents d inside [] = refl
texts_at documents d inside (group ∷ groups) =
    let flag : get_or (marks_of documents group.1) d false ≡ list_any (is_doc d) group.1 = marks_at documents d group.1 inside in
    let some : has_some (group.0, values_of d (map text_member group.1)) ≡ list_any (is_doc d) group.1 = has_doc d group.0 group.1 in
    split (list_any (is_doc d) group.1)
    (λ is. rw (flag ∙ is, some ∙ is) (ap (λ rest. group.0 ∷ rest) (texts_at documents d inside groups)))
    (λ isnt. rw (flag ∙ isnt, some ∙ isnt) (texts_at documents d inside groups))

pub fields_back : (fields : List ℕ) → map (λ (entry : ℕ × List ℕ). entry.0) (map (λ field. (field, 0 ∷ [])) fields) ≡ fields
fields_back [] = refl
fields_back (field ∷ fields) = ap (λ rest. field ∷ rest) (fields_back fields)

pub texts_some : (fields : List ℕ) → AllByRecursion (λ (entry : ℕ × List ℕ). has_some entry ≡ true) (map (λ field. (field, 0 ∷ [])) fields)
texts_some [] = tt
texts_some (field ∷ fields) = (refl, texts_some fields)

pub text_keys : (groups : List (ℕ × List ℕ)) → keys (map text_group groups) ≡ keys groups
text_keys [] = refl
text_keys (group ∷ groups) = ap (λ rest. group.0 ∷ rest) (text_keys groups)
