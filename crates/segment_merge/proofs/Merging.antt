-- Columns that are merged of entries have at each key what the live documents of the entries carry there.
use Rattle.std.proofs.Common.{◌≡◌, ℕ, ℤ, ◌+◌, ◌-◌, ◌<◌, Bool, Contains, List, [], ◌∷◌, ◌++◌, length, map, get_or, refl, sym, ap, subst, ◌∙◌, arith}
use Rattle.std.specs.List.{All, AllByRecursion, flat_map, range_with_len}
use Rattle.block_bits.specs.Blocks.{documents_of}
use Rattle.std.specs.Ordering.{eq_by_cmp, nat_cmp}
use Rattle.std.specs.declared.cmp.Ordering.{Ordering}
use Rattle.std.proofs.lemmas.List.{length-map, map-append, map-id}
use Rattle.std.proofs.lemmas.List.Elements.{All-from_recursion, recursion_from_All}
use Rattle.std.proofs.lemmas.List.FromFn.{length-map-range_with_len}
use Rattle.flattener.specs.Block.{BlockState}
use Rattle.flattener.specs.Fits.{IsRootOf, SegmentFits}
use Rattle.flattener.specs.Small.{IsSmall}
use Rattle.mapping.specs.Mapping.{Mapping, kind_at}
use Rattle.segment.specs.Flat.{FlatDocument, flat_of, flat_root, flats_of, roots_of}
use Rattle.segment.specs.Live.{EntryState}
use Rattle.segment.specs.Lists.{terms_of}
use Rattle.segment_parts.specs.Text.{marked_places}
use Rattle.segment_parts.specs.declared.columns.Columns.{Columns}
use Rattle.term_table.specs.Terms.{term_cmp}
use Rattle.segment_builder.specs.Blocks.{blocks_of, live_blocks}
use Rattle.segment_builder.specs.ByKey.{AreByKey, SayAtKeys, terms_of_kind}
use Rattle.segment_builder.specs.Columns.{column_terms, named, named_row}
use Rattle.segment_builder.specs.Entries.{EntriesState, flats_in, no_entries, with_blocks}
use Rattle.segment_builder.specs.Form.{IsFit, IsOrdered}
use Rattle.segment_builder.specs.Given.{AreGiven}
use Rattle.segment_builder.specs.Groups.{in_groups, of_key}
use Rattle.segment_builder.specs.Made.{all_terms}
use Rattle.segment_builder.specs.Parts.{entries_from, fields_with, tagged, texts_from}
use Rattle.segment_builder.specs.Terms.{row_group}
use Rattle.segment_merge.specs.Mergeable.{AreMergeable, IsKnown}
use Rattle.segment_merge.specs.Merged.{IsMerged, from_each, kept, kept_keywords, kept_numbers, kept_places, kept_terms, kept_texts, live_count, live_scopes}
use Rattle.segment_merge.proofs.Carried.{fit, ordered, small}
use Rattle.segment_merge.proofs.Kept.{each_document, given}
use Rattle.segment_merge.proofs.LiveDocuments.{IsWhole, all_count, all_documents, all_roots_are, all_scopes, live_flats, root_in, scope_in}
use Rattle.segment_merge.proofs.Renumbered.{entries_append, in_append, kept_as, kept_in, of_append, of_kept, places_in, places_kept, where_count}
use Rattle.segment_merge.proofs.Cases.{split}

-- what blocks and segments of them are, as it is proved where segments are built
pub record Laws : Type 0 where
  pub flats : (m : Mapping) (columns : Columns) → SegmentFits m columns → flats_in (blocks_of columns) ≡ flats_of columns
  pub fits : (m : Mapping) (columns : Columns) → SegmentFits m columns → AllByRecursion (λ (block : BlockState). IsRootOf m block.root block.flats) (blocks_of columns)
  pub roots : (m : Mapping) (columns : Columns) → SegmentFits m columns → map (λ (block : BlockState). block.root) (blocks_of columns) ≡ roots_of columns
  pub scopes : (blocks : List BlockState) → (with_blocks no_entries blocks).scopes ≡ map (λ (flat : FlatDocument). flat.scope) (flats_in blocks)
  pub terms : (m : Mapping) (blocks : List BlockState) → AllByRecursion (λ (block : BlockState). IsRootOf m block.root block.flats) blocks → All IsOrdered (flats_in blocks) → All IsSmall (flats_in blocks) → All IsFit (flats_in blocks)
      → (term : ℕ × List ℕ) → of_key term_cmp term (all_terms (with_blocks no_entries blocks)) ≡ of_key term_cmp term (entries_from (terms_of_kind (kind_at m term.0)) 0 (flats_in blocks))
  pub numbers : (blocks : List BlockState) → (with_blocks no_entries blocks).numbers ≡ entries_from (λ (flat : FlatDocument). flat.numbers) 0 (flats_in blocks)
  pub keywords : (blocks : List BlockState) → (with_blocks no_entries blocks).keywords ≡ entries_from (λ (flat : FlatDocument). flat.keywords) 0 (flats_in blocks)
  pub texts : (blocks : List BlockState) → (with_blocks no_entries blocks).texts ≡ texts_from 0 (flats_in blocks)

-- ---- entries, one behind the other

module _ {K X P : Type 0} (cmp : K → K → Ordering) (get : FlatDocument → List (K × X)) (key : K) (f : ℕ × X → P) (part : ℕ → EntryState → List (K × List P)) where
  -- what a part has at the key is what the live documents of its entry carry there
  abbrev pub IsPart : EntryState → Type 0
  IsPart entry = (base : ℕ) → in_groups cmp key (part base entry) ≡ map f (kept base entry.live.docs (of_key cmp key (entries_from get 0 (flats_of entry.columns))))

  pub from_all : (entries : List EntryState) (base : ℕ) → AllByRecursion IsWhole entries → AllByRecursion IsPart entries
      → in_groups cmp key (from_each part base entries) ≡ map f (of_key cmp key (entries_from get base (flat_map live_flats entries)))
  from_all [] base whole parts = refl
  from_all (entry ∷ entries) base whole parts =
      let own : List FlatDocument = live_flats entry in
      let rest : List FlatDocument = flat_map live_flats entries in
      let next : base + live_count entry ≡ base + length own = omega (arith, whole.0.count) in
      in_append cmp key (part base entry) (from_each part (base + live_count entry) entries)
      ∙ ap (λ first. first ++ in_groups cmp key (from_each part (base + live_count entry) entries)) (parts.0 base ∙ ap (map f) (of_kept cmp get key base entry.live.docs (flats_of entry.columns)))
      ∙ ap (λ more. map f (of_key cmp key (entries_from get base own)) ++ more) (from_all entries (base + live_count entry) whole.1 parts.1)
      ∙ ap (λ n. map f (of_key cmp key (entries_from get base own)) ++ map f (of_key cmp key (entries_from get n rest))) next
      ∙ sym (map-append f (of_key cmp key (entries_from get base own)) (of_key cmp key (entries_from get (base + length own) rest)))
      ∙ ap (map f) (sym (of_append cmp key (entries_from get base own) (entries_from get (base + length own) rest)) ∙ ap (of_key cmp key) (sym (entries_append get base own rest)))

-- ---- text fields as pairs

abbrev pub text_pairs : FlatDocument → List (ℕ × ℕ)
text_pairs flat = map (λ field. (field, field)) flat.texts

abbrev doc_in : ℕ × ℕ → ℕ
doc_in row = row.0

fields_paired : (key doc : ℕ) (fields : List ℕ) → of_key nat_cmp key (fields_with doc fields) ≡ map doc_in (of_key nat_cmp key (tagged doc (map (λ field. (field, field)) fields)))
fields_paired key doc [] = refl
fields_paired key doc (field ∷ fields) =
    split (eq_by_cmp nat_cmp key field)
    (λ is. rw (is, fields_paired key doc fields) refl)
    (λ isnt. rw (isnt, fields_paired key doc fields) refl)

texts_paired : (key n : ℕ) (flats : List FlatDocument) → of_key nat_cmp key (texts_from n flats) ≡ map doc_in (of_key nat_cmp key (entries_from text_pairs n flats))
texts_paired key n [] = refl
texts_paired key n (flat ∷ flats) =
    of_append nat_cmp key (fields_with n flat.texts) (texts_from (n + 1) flats)
    ∙ ap (λ first. first ++ of_key nat_cmp key (texts_from (n + 1) flats)) (fields_paired key n flat.texts)
    ∙ ap (λ rest. map doc_in (of_key nat_cmp key (tagged n (text_pairs flat))) ++ rest) (texts_paired key (n + 1) flats)
    ∙ sym (map-append doc_in (of_key nat_cmp key (tagged n (text_pairs flat))) (of_key nat_cmp key (entries_from text_pairs (n + 1) flats)))
    ∙ ap (map doc_in) (sym (of_append nat_cmp key (tagged n (text_pairs flat)) (entries_from text_pairs (n + 1) flats)))

-- ---- one entry

module _ (laws : Laws) (m : Mapping) (entry : EntryState) (known : IsKnown entry) (fits : SegmentFits m entry.columns) where
  abbrev own_blocks : List BlockState
  own_blocks = blocks_of entry.columns

  abbrev live : List Bool
  live = entry.live.docs

  flats_same : flats_in own_blocks ≡ flats_of entry.columns
  flats_same = laws.flats m entry.columns fits

  pub entry_whole : IsWhole entry
  entry_whole = record {
    marks = known.marks;
    flats = flats_same;
    roots = laws.roots m entry.columns fits;
    count = where_count entry.live.docs (flats_of entry.columns) (known.live.documents ∙ sym (length-map-range_with_len (flat_of entry.columns) 0 entry.columns.documents));
  }

  each_of : (Q : FlatDocument → Type 0) → ((doc : ℕ) → Q (flat_of entry.columns doc)) → All Q (flats_of entry.columns)
  each_of Q all = All-from_recursion Q (flats_of entry.columns) (each_document Q entry.columns all)

  all_ordered : All IsOrdered (flats_of entry.columns)
  all_ordered = each_of IsOrdered (λ doc. ordered entry.columns known.agree doc)

  all_small : All IsSmall (flats_of entry.columns)
  all_small = each_of IsSmall (λ doc. small entry.columns known.agree doc)

  all_fit : All IsFit (flats_of entry.columns)
  all_fit = each_of IsFit (λ doc. fit entry.columns known.agree doc)

  says : SayAtKeys (with_blocks no_entries own_blocks) entry.columns
  says = known.say m fits all_ordered all_small all_fit

  pub terms_part : (term : ℕ × List ℕ) → IsPart term_cmp (terms_of_kind (kind_at m term.0)) term (λ (row : ℕ × List ℕ). row) kept_terms entry
  terms_part term base =
      let get : FlatDocument → List ((ℕ × List ℕ) × List ℕ) = terms_of_kind (kind_at m term.0) in
      kept_in base live term_cmp term (map row_group entry.columns.terms)
      ∙ ap (kept base live)
      (says.terms_are term
      ∙ laws.terms m own_blocks (laws.fits m entry.columns fits) (subst (All IsOrdered) (sym flats_same) all_ordered) (subst (All IsSmall) (sym flats_same) all_small) (subst (All IsFit) (sym flats_same) all_fit) term
      ∙ ap (λ fs. of_key term_cmp term (entries_from get 0 fs)) flats_same)
      ∙ sym (map-id (kept base live (of_key term_cmp term (entries_from get 0 (flats_of entry.columns)))))

  pub numbers_part : (field : ℕ) → IsPart nat_cmp (λ (flat : FlatDocument). flat.numbers) field (λ (row : ℕ × List ℤ). row) kept_numbers entry
  numbers_part field base =
      kept_in base live nat_cmp field entry.columns.numbers
      ∙ ap (kept base live) (says.numbers_are field ∙ ap (of_key nat_cmp field) (laws.numbers own_blocks ∙ ap (entries_from (λ (flat : FlatDocument). flat.numbers) 0) flats_same))
      ∙ sym (map-id (kept base live (of_key nat_cmp field (entries_from (λ (flat : FlatDocument). flat.numbers) 0 (flats_of entry.columns)))))

  pub keywords_part : (field : ℕ) → IsPart nat_cmp (λ (flat : FlatDocument). flat.keywords) field (named_row field) kept_keywords entry
  keywords_part field base =
      kept_in base live nat_cmp field (map (column_terms (terms_of entry.columns)) entry.columns.ordinals)
      ∙ ap (kept base live) (says.keywords_are field)
      ∙ kept_as (named field) base live (of_key nat_cmp field (with_blocks no_entries own_blocks).keywords)
      ∙ ap (λ es. map (named_row field) (kept base live (of_key nat_cmp field es))) (laws.keywords own_blocks ∙ ap (entries_from (λ (flat : FlatDocument). flat.keywords) 0) flats_same)

  pub texts_part : (field : ℕ) → IsPart nat_cmp text_pairs field doc_in kept_texts entry
  texts_part field base =
      places_in nat_cmp (marked_places 0) base live field entry.columns.present
      ∙ ap (kept_places base live) (says.texts_are field ∙ ap (of_key nat_cmp field) (laws.texts own_blocks ∙ ap (texts_from 0) flats_same) ∙ texts_paired field 0 (flats_of entry.columns))
      ∙ places_kept base live (of_key nat_cmp field (entries_from text_pairs 0 (flats_of entry.columns)))

-- ---- all entries

pub whole_entries : (laws : Laws) (m : Mapping) (entries : List EntryState) → All IsKnown entries → All (λ (entry : EntryState). SegmentFits m entry.columns) entries → AllByRecursion IsWhole entries
whole_entries laws m entries known fit = recursion_from_All IsWhole entries (λ k d h. entry_whole laws m (get_or entries k d) (known k d h) (fit k d h))

module _ (laws : Laws) (m : Mapping) (entries : List EntryState) (known : All IsKnown entries) (mergeable : AreMergeable m entries) where
  abbrev pub blocks : List BlockState
  blocks = flat_map live_blocks entries

  abbrev pub it : EntriesState
  it = with_blocks no_entries blocks

  -- what holds of each entry that is known and fits
  each_known : (P : EntryState → Type 0) → ((entry : EntryState) → IsKnown entry → SegmentFits m entry.columns → P entry) → AllByRecursion P entries
  each_known P all = recursion_from_All P entries (λ k d h. all (get_or entries k d) (known k d h) (mergeable.fit k d h))

  whole : AllByRecursion IsWhole entries
  whole = whole_entries laws m entries known mergeable.fit

  pub blocks_given : AreGiven m blocks
  blocks_given = given entries (λ k d h. (known k d h).agree) laws.flats laws.fits m mergeable.numbered mergeable.fit mergeable.few mergeable.some

  documents_live : flats_in blocks ≡ flat_map live_flats entries
  documents_live = all_documents entries whole

  scopes_live : it.scopes ≡ live_scopes entries
  scopes_live = laws.scopes blocks ∙ ap (map scope_in) documents_live ∙ sym (all_scopes entries)

  module _ (columns : Columns) (merged : IsMerged entries columns) where
    terms_are : (term : ℕ × List ℕ) → in_groups term_cmp term (map row_group columns.terms) ≡ of_key term_cmp term (all_terms it)
    terms_are term =
        let get : FlatDocument → List ((ℕ × List ℕ) × List ℕ) = terms_of_kind (kind_at m term.0) in
        merged.terms.same term
        ∙ from_all term_cmp get term (λ (row : ℕ × List ℕ). row) kept_terms entries 0 whole
        (each_known (IsPart term_cmp get term (λ (row : ℕ × List ℕ). row) kept_terms) (λ entry own fits. terms_part laws m entry own fits term))
        ∙ map-id (of_key term_cmp term (entries_from get 0 (flat_map live_flats entries)))
        ∙ ap (λ fs. of_key term_cmp term (entries_from get 0 fs)) (sym documents_live)
        ∙ sym (laws.terms m blocks blocks_given.roots blocks_given.ordered blocks_given.small blocks_given.fit term)

    numbers_are : (field : ℕ) → in_groups nat_cmp field columns.numbers ≡ of_key nat_cmp field it.numbers
    numbers_are field =
        let get : FlatDocument → List (ℕ × List ℤ) = λ (flat : FlatDocument). flat.numbers in
        merged.numbers.same field
        ∙ from_all nat_cmp get field (λ (row : ℕ × List ℤ). row) kept_numbers entries 0 whole
        (each_known (IsPart nat_cmp get field (λ (row : ℕ × List ℤ). row) kept_numbers) (λ entry own fits. numbers_part laws m entry own fits field))
        ∙ map-id (of_key nat_cmp field (entries_from get 0 (flat_map live_flats entries)))
        ∙ ap (of_key nat_cmp field) (ap (entries_from get 0) (sym documents_live) ∙ sym (laws.numbers blocks))

    keywords_are : (field : ℕ) → in_groups nat_cmp field (map (column_terms (terms_of columns)) columns.ordinals) ≡ map (named_row field) (of_key nat_cmp field it.keywords)
    keywords_are field =
        let get : FlatDocument → List (ℕ × List (List ℕ)) = λ (flat : FlatDocument). flat.keywords in
        merged.ordinals.same field
        ∙ from_all nat_cmp get field (named_row field) kept_keywords entries 0 whole
        (each_known (IsPart nat_cmp get field (named_row field) kept_keywords) (λ entry own fits. keywords_part laws m entry own fits field))
        ∙ ap (λ es. map (named_row field) (of_key nat_cmp field es)) (ap (entries_from get 0) (sym documents_live) ∙ sym (laws.keywords blocks))

    texts_are : (field : ℕ) → in_groups nat_cmp field merged.texts ≡ of_key nat_cmp field it.texts
    texts_are field =
        merged.text_groups.same field
        ∙ from_all nat_cmp text_pairs field doc_in kept_texts entries 0 whole
        (each_known (IsPart nat_cmp text_pairs field doc_in kept_texts) (λ entry own fits. texts_part laws m entry own fits field))
        ∙ sym (texts_paired field 0 (flat_map live_flats entries))
        ∙ ap (of_key nat_cmp field) (ap (texts_from 0) (sym documents_live) ∙ sym (laws.texts blocks))

    pub by_key : AreByKey it columns
    by_key = record {
      documents = merged.documents ∙ sym (ap length (laws.scopes blocks) ∙ length-map (flats_in blocks) scope_in ∙ ap length documents_live ∙ all_count entries whole);
      scopes = merged.scopes ∙ ap (λ ss. map (documents_of ss) (range_with_len 0 (length columns.scopes))) (sym scopes_live);
      within = subst (All (λ scope. scope < length columns.scopes)) (sym scopes_live) merged.within;
      greatest = subst (λ ss. 0 < length ss → Contains ss (length columns.scopes - 1)) (sym scopes_live) merged.greatest;
      texts = merged.texts;
      present = merged.present;
      keys = record { terms_are = terms_are; numbers_are = numbers_are; keywords_are = keywords_are; texts_are = texts_are };
      terms_ordered = merged.terms.ordered;
      numbers_ordered = merged.numbers.ordered;
      keywords_ordered = merged.ordinals.ordered;
      texts_ordered = merged.text_groups.ordered;
    }

    pub roots_are : roots_of columns ≡ map root_in blocks
    roots_are = ap (map flat_root) merged.roots ∙ all_roots_are entries whole
