-- Columns that are made of blocks are those of one segment.
use Rattle.std.proofs.Common.{◌≡◌, ℕ, zero, suc, ◌+◌, ◌-◌, ◌<◌, ◌≤◌, ◌^◌, Bool, true, false, cond, List, [], ◌∷◌, ◌++◌, length, map, get_or, slice_index_or, count_by, Contains, refl, sym, ap, subst, ◌∙◌, arith, eq-eqb, length-append}
use Rattle.std.specs.List.{All, AllByRecursion, filter, range_with_len}
use Rattle.std.proofs.lemmas.List.{length-map, get_or-map, map-append}
use Rattle.std.proofs.lemmas.List.Elements.{All-from_recursion, All-map}
use Rattle.std.proofs.lemmas.List.FromFn.{get_or-map-range_with_len}
use Rattle.block_bits.specs.Blocks.{documents_of, has_scope}
use Rattle.block_bits.specs.Flags.{is_marked}
use Rattle.flattener.specs.Block.{BlockState}
use Rattle.flattener.specs.Fits.{IsDocument, IsJoinOf, IsRootOf, is_root}
use Rattle.flattener.specs.Flat.{has_numbers, is_keyword, is_text}
use Rattle.flattener.specs.Small.{IsSmall}
use Rattle.mapping.specs.Mapping.{Mapping, kind_at}
use Rattle.mapping_body.specs.declared.kind.Kind.{Kind}
use Rattle.mapping_body.specs.declared.kind.Kind.TheVariants.{Text, Keyword, Long, Boolean, Date, Object as Plain, Nested, Join as Joining}
use Rattle.segment.specs.Agree.{AreColumns, AreRooted, IsId, HasParentId, IsStored}
use Rattle.segment.specs.Fields.{AreByField}
use Rattle.segment.specs.Flat.{FlatDocument, FlatRoot, flat_root, roots_of}
use Rattle.segment.specs.Marks.{count-mark}
use Rattle.segment.specs.Parts.{IsHead, IsPresence, IsNumberColumn, IsOrdinalColumn, root_flags}
use Rattle.segment_parts.specs.declared.columns.Columns.{Columns}
use Rattle.stored_sources.specs.Stands.{AreRoots, IsJoin}
use Rattle.stored_sources.specs.declared.root.Join.{Join}
use Rattle.stored_sources.specs.declared.root.Join.TheVariants.{Unjoined, Named, Child}
use Rattle.stored_sources.specs.declared.root.Root.{Root}
use Rattle.term_table.specs.Part.{AreRows}
use Rattle.segment_builder.specs.Entries.{EntriesState, flats_in, no_entries, with_blocks}
use Rattle.segment_builder.specs.Form.{IsFit, IsOrdered}
use Rattle.segment_builder.specs.Given.{AreGiven, IsNumbered}
use Rattle.segment_builder.specs.Made.{IsMade}
use Rattle.segment_builder.specs.Roots.{FitsRoot, FitRoots}
use Rattle.segment_builder.proofs.Agreed.{have_fields, have_terms, marked_one}
use Rattle.segment_builder.proofs.Among.{each_along}
use Rattle.segment_builder.proofs.Cut.{EndsBlock, ends_block}
use Rattle.segment_builder.proofs.InOrder.{each_then}
use Rattle.segment_builder.proofs.Keys.{split}
use Rattle.segment_builder.proofs.Parted.{count, scopes_are}
use Rattle.segment_builder.proofs.Shown.{each_by}
use Rattle.segment_builder.proofs.Sorted.{each_append}
use Rattle.segment_builder.proofs.Written.{Kinds, AreApart, AreOfKind, IsWritten, written}

-- ---- the kinds of a mapping's fields

abbrev pub kinds_of : Mapping → Kinds
kinds_of m = record { bound = length m.fields; num = λ f. has_numbers (kind_at m f); key = λ f. is_keyword (kind_at m f); word = λ f. is_text (kind_at m f) }

text_alone : (kind : Kind) → is_text kind ≡ true → (is_keyword kind ≡ false) × (has_numbers kind ≡ false)
text_alone Text is = (refl, refl)
text_alone Keyword is = absurd (cc (is))
text_alone Long is = absurd (cc (is))
text_alone Boolean is = absurd (cc (is))
text_alone Date is = absurd (cc (is))
text_alone Plain is = absurd (cc (is))
text_alone Nested is = absurd (cc (is))
text_alone Joining is = absurd (cc (is))

keyword_alone : (kind : Kind) → is_keyword kind ≡ true → (is_text kind ≡ false) × (has_numbers kind ≡ false)
keyword_alone Text is = absurd (cc (is))
keyword_alone Keyword is = (refl, refl)
keyword_alone Long is = absurd (cc (is))
keyword_alone Boolean is = absurd (cc (is))
keyword_alone Date is = absurd (cc (is))
keyword_alone Plain is = absurd (cc (is))
keyword_alone Nested is = absurd (cc (is))
keyword_alone Joining is = absurd (cc (is))

number_alone : (kind : Kind) → has_numbers kind ≡ true → (is_text kind ≡ false) × (is_keyword kind ≡ false)
number_alone Text is = absurd (cc (is))
number_alone Keyword is = absurd (cc (is))
number_alone Long is = (refl, refl)
number_alone Boolean is = (refl, refl)
number_alone Date is = (refl, refl)
number_alone Plain is = absurd (cc (is))
number_alone Nested is = absurd (cc (is))
number_alone Joining is = absurd (cc (is))

pub apart_of : (m : Mapping) → AreApart (kinds_of m)
apart_of m = record {
  word_key = λ f is. (text_alone (kind_at m f) is).0;
  word_num = λ f is. (text_alone (kind_at m f) is).1;
  key_word = λ f is. (keyword_alone (kind_at m f) is).0;
  key_num = λ f is. (keyword_alone (kind_at m f) is).1;
  num_word = λ f is. (number_alone (kind_at m f) is).0;
  num_key = λ f is. (number_alone (kind_at m f) is).1;
}

of_kind : (m : Mapping) (g : ℕ) (flat : FlatDocument) → IsDocument m g flat → AreOfKind (kinds_of m) flat
of_kind m g flat is = record {
  numbers = λ i d h. record { below = (is.numbers i d h).in_range; kind = (is.numbers i d h).kind };
  keywords = λ i d h. record { below = (is.keywords i d h).in_range; kind = (is.keywords i d h).kind };
  words = λ i d h. record { below = (is.words i d h).in_range; kind = (is.words i d h).kind };
  texts = λ i d h. record { below = (is.texts i d h).in_range; kind = (is.texts i d h).kind };
}

kinds_in : (m : Mapping) (blocks : List BlockState) → AllByRecursion (λ (block : BlockState). IsRootOf m block.root block.flats) blocks → AllByRecursion (AreOfKind (kinds_of m)) (flats_in blocks)
kinds_in m [] all = tt
kinds_in m (block ∷ blocks) all =
    each_append (AreOfKind (kinds_of m)) block.flats (flats_in blocks)
    (each_by (AreOfKind (kinds_of m)) block.flats (λ i d h. of_kind m block.root.generation (get_or block.flats i d) (all.0.documents i d h)))
    (kinds_in m blocks all.1)

pub written_by : (m : Mapping) (blocks : List BlockState) → AllByRecursion (λ (block : BlockState). IsRootOf m block.root block.flats) blocks → All IsOrdered (flats_in blocks) → All IsSmall (flats_in blocks) → All IsFit (flats_in blocks) → AllByRecursion (IsWritten (kinds_of m)) (flats_in blocks)
written_by m blocks roots ordered small fit =
    let kinds : All (AreOfKind (kinds_of m)) (flats_in blocks) = All-from_recursion (AreOfKind (kinds_of m)) (flats_in blocks) (kinds_in m blocks roots) in
    each_by (IsWritten (kinds_of m)) (flats_in blocks) (λ i d h. written (kinds_of m) (get_or (flats_in blocks) i d) (ordered i d h) (small i d h) (fit i d h) (kinds i d h))

pub all_written : (m : Mapping) (blocks : List BlockState) → AreGiven m blocks → AllByRecursion (IsWritten (kinds_of m)) (flats_in blocks)
all_written m blocks given = written_by m blocks given.roots given.ordered given.small given.fit

pub few_documents : (m : Mapping) (blocks : List BlockState) → AreGiven m blocks → length (flats_in blocks) < 2 ^ 32
few_documents m blocks given = omega (arith, given.few)

-- ---- scopes of documents

scopes_in : (m : Mapping) (blocks : List BlockState) → AllByRecursion (λ (block : BlockState). IsRootOf m block.root block.flats) blocks → AllByRecursion (λ (flat : FlatDocument). flat.scope < length m.scopes) (flats_in blocks)
scopes_in m [] all = tt
scopes_in m (block ∷ blocks) all =
    each_append (λ (flat : FlatDocument). flat.scope < length m.scopes) block.flats (flats_in blocks)
    (each_by (λ (flat : FlatDocument). flat.scope < length m.scopes) block.flats (λ i d h. (all.0.documents i d h).scope))
    (scopes_in m blocks all.1)

pub scopes_below : (m : Mapping) (it : EntriesState) (blocks : List BlockState) → it ≡ with_blocks no_entries blocks → AreGiven m blocks → All (λ scope. scope + 1 < 2 ^ 32) it.scopes
scopes_below m it blocks is given =
    subst (All (λ scope. scope + 1 < 2 ^ 32)) (sym (scopes_are it blocks is))
    (All-map (λ scope. scope + 1 < 2 ^ 32) (λ (flat : FlatDocument). flat.scope) (flats_in blocks)
    (All-from_recursion (λ (flat : FlatDocument). flat.scope + 1 < 2 ^ 32) (flats_in blocks)
    (each_then (λ (flat : FlatDocument). flat.scope < length m.scopes) (λ (flat : FlatDocument). flat.scope + 1 < 2 ^ 32) (λ flat below. omega (arith, below, given.numbered.scopes)) (flats_in blocks) (scopes_in m blocks given.roots))))

-- ---- roots among documents

abbrev root_mark : FlatDocument → Bool
root_mark flat = has_scope 0 flat.scope

roots_counted : (flats : List FlatDocument) (rest : List Bool) → count_by is_marked (map root_mark flats ++ rest) ≡ length (filter is_root flats) + count_by is_marked rest
roots_counted [] rest = omega arith
roots_counted (flat ∷ flats) rest =
    let more : count_by is_marked (root_mark flat ∷ (map root_mark flats ++ rest)) ≡ cond (root_mark flat) 1 0 + count_by is_marked (map root_mark flats ++ rest) = count-mark (root_mark flat) (map root_mark flats ++ rest) in
    split (is_root flat)
    (λ root. rw root (omega (arith, more, (rw root at more), roots_counted flats rest)))
    (λ other. rw other (omega (arith, (rw other at more), roots_counted flats rest)))

blocks_counted : (m : Mapping) (blocks : List BlockState) → AllByRecursion (λ (block : BlockState). IsRootOf m block.root block.flats) blocks → count_by is_marked (map root_mark (flats_in blocks)) ≡ length blocks
blocks_counted m [] all = refl
blocks_counted m (block ∷ blocks) all =
    let parts : map root_mark (flats_in (block ∷ blocks)) ≡ map root_mark block.flats ++ map root_mark (flats_in blocks) = map-append root_mark block.flats (flats_in blocks) in
    ap (count_by is_marked) parts ∙ omega (arith, roots_counted block.flats (map root_mark (flats_in blocks)), all.0.one_root, blocks_counted m blocks all.1)

-- the last document is a root
abbrev pub EndsSo : List FlatDocument → Type 0
EndsSo [] = ⊥
EndsSo (flat ∷ []) = flat.scope ≡ 0
EndsSo (flat ∷ next ∷ flats) = EndsSo (next ∷ flats)

block_ends : (flats : List FlatDocument) → EndsBlock flats → EndsSo flats
block_ends [] ends = ends
block_ends (flat ∷ []) ends = ends
block_ends (flat ∷ next ∷ flats) ends = block_ends (next ∷ flats) ends.1

ends_behind : (xs ys : List FlatDocument) → EndsSo ys → EndsSo (xs ++ ys)
ends_behind [] ys ends = ends
ends_behind (x ∷ []) [] ends = absurd ends
ends_behind (x ∷ []) (y ∷ ys) ends = ends
ends_behind (x ∷ next ∷ xs) ys ends = ends_behind (next ∷ xs) ys ends

none_behind : (xs : List FlatDocument) → EndsSo xs → EndsSo (xs ++ [])
none_behind [] ends = ends
none_behind (x ∷ []) ends = ends
none_behind (x ∷ next ∷ xs) ends = none_behind (next ∷ xs) ends

flats_end : (m : Mapping) (block : BlockState) (blocks : List BlockState) → AllByRecursion (λ (b : BlockState). IsRootOf m b.root b.flats) (block ∷ blocks) → EndsSo (flats_in (block ∷ blocks))
flats_end m block [] all = none_behind block.flats (block_ends block.flats (ends_block m block.root block.flats all.0))
flats_end m block (next ∷ blocks) all = ends_behind block.flats (flats_in (next ∷ blocks)) (flats_end m next blocks all.1)

last_mark : (flats : List FlatDocument) → EndsSo flats → (1 ≤ length flats) × (get_or (map root_mark flats) (length flats - 1) false ≡ true)
last_mark [] ends = absurd ends
last_mark (flat ∷ []) ends =
    let place : length (flat ∷ []) - 1 ≡ zero = omega arith in
    (omega arith, rw place (eq-eqb flat.scope 0 ends))
last_mark (flat ∷ next ∷ flats) ends =
    let rest = last_mark (next ∷ flats) ends in
    let place : length (flat ∷ next ∷ flats) - 1 ≡ suc (length (next ∷ flats) - 1) = omega arith in
    (omega arith, rw place rest.1)

pub some_documents : (m : Mapping) (blocks : List BlockState) → AreGiven m blocks → EndsSo (flats_in blocks)
some_documents m [] given = absurd (omega (arith, given.some))
some_documents m (block ∷ blocks) given = flats_end m block blocks given.roots

few_blocks : (m : Mapping) (blocks : List BlockState) → AllByRecursion (λ (block : BlockState). IsRootOf m block.root block.flats) blocks → length blocks ≤ length (flats_in blocks)
few_blocks m [] all = omega arith
few_blocks m (block ∷ blocks) all =
    let own = last_mark block.flats (block_ends block.flats (ends_block m block.root block.flats all.0)) in
    omega (arith, own.0, few_blocks m blocks all.1, length-append block.flats (flats_in blocks))

-- ---- what is stored of roots

join_fits : (m : Mapping) (g : ℕ) (join : Join) → length m.relations < 2 ^ 32 → IsJoinOf m g join → HasParentId join → IsJoin join
join_fits m g Unjoined few is parent = tt
join_fits m g (Named relation) few is parent = omega (arith, few, is.in_range)
join_fits m g (Child relation id) few is parent = (omega (arith, few, is.in_range), omega (arith, parent.1))

root_fits : (m : Mapping) (root : FlatRoot) (flats : List FlatDocument) → IsNumbered m → IsRootOf m root flats → FitsRoot root
root_fits m root flats numbered is = record {
  id = omega (arith, is.id.1);
  number = omega (arith, is.number);
  generation = omega (arith, is.last, numbered.bodies);
  source = omega (arith, ap length is.source.2, is.source.1.1);
  join = join_fits m root.generation root.join numbered.relations is.join is.parent;
}

each_root : (m : Mapping) (blocks : List BlockState) → IsNumbered m → AllByRecursion (λ (block : BlockState). IsRootOf m block.root block.flats) blocks → AllByRecursion FitsRoot (map (λ (block : BlockState). block.root) blocks)
each_root m [] numbered all = tt
each_root m (block ∷ blocks) numbered all = (root_fits m block.root block.flats numbered all.0, each_root m blocks numbered all.1)

pub fit_roots : (m : Mapping) (blocks : List BlockState) → AreGiven m blocks → FitRoots (map (λ (block : BlockState). block.root) blocks)
fit_roots m blocks given = record {
  fewer = omega (arith, length-map blocks (λ (block : BlockState). block.root), few_blocks m blocks given.roots, given.few);
  each = each_root m blocks given.numbered given.roots;
}

stored : (m : Mapping) (root : Root) (own : FlatRoot) (flats : List FlatDocument) → flat_root root ≡ own → IsRootOf m own flats → IsStored root
stored m root own flats same is = record {
  id = subst IsId (sym (ap (λ (r : FlatRoot). r.id) same)) is.id;
  parent = subst HasParentId (sym (ap (λ (r : FlatRoot). r.join) same)) is.parent;
  source = omega (arith, ap (λ (r : FlatRoot). length r.source) same, ap length is.source.2, is.source.1.1);
}

-- ---- all of it

module _ (m : Mapping) (blocks : List BlockState) (it : EntriesState) (columns : Columns) (given : AreGiven m blocks) (is : it ≡ with_blocks no_entries blocks) (made : IsMade it columns) where
  many : columns.documents ≡ length (flats_in blocks)
  many = made.documents ∙ count it blocks is

  end : (1 ≤ length (flats_in blocks)) × (get_or (map root_mark (flats_in blocks)) (length (flats_in blocks) - 1) false ≡ true)
  end = last_mark (flats_in blocks) (some_documents m blocks given)

  set_is : (scope : ℕ) → scope < length columns.scopes → slice_index_or columns.scopes scope [] ≡ documents_of it.scopes scope
  set_is scope inside = ap (λ sets. get_or sets scope []) made.scopes ∙ get_or-map-range_with_len (documents_of it.scopes) 0 (length columns.scopes) scope scope [] inside (omega arith)

  some_scopes : 1 ≤ length columns.scopes
  some_scopes = let first : get_or it.scopes 0 0 < length columns.scopes = made.within 0 0 (omega (arith, count it blocks is, end.0)) in omega (arith, first)

  roots_are_marked : root_flags columns.scopes ≡ map root_mark (flats_in blocks)
  roots_are_marked =
      set_is 0 (omega (arith, some_scopes)) ∙ ap (λ ss. documents_of ss 0) (scopes_are it blocks is) ∙ twice (flats_in blocks)
    where
      twice : (fs : List FlatDocument) → map (has_scope 0) (map (λ (flat : FlatDocument). flat.scope) fs) ≡ map root_mark fs
      twice [] = refl
      twice (f ∷ fs) = ap (λ rest. root_mark f ∷ rest) (twice fs)

  sets_long : All (λ (flags : List Bool). length flags ≡ columns.documents) columns.scopes
  sets_long =
      subst (All (λ (flags : List Bool). length flags ≡ columns.documents)) (sym made.scopes)
      (All-map (λ (flags : List Bool). length flags ≡ columns.documents) (documents_of it.scopes) (range_with_len 0 (length columns.scopes)) (λ i d h. length-map it.scopes (has_scope (get_or (range_with_len 0 (length columns.scopes)) i d)) ∙ sym made.documents))

  head : length columns.scopes < 2 ^ 32 → IsHead columns.documents columns.scopes
  head fewer = record {
    numbered = omega (arith, many, given.few);
    some_documents = omega (arith, many, end.0);
    some = some_scopes;
    fewer = fewer;
    long = sets_long;
  }

  greatest : 1 ≤ count_by is_marked (slice_index_or columns.scopes (length columns.scopes - 1) [])
  greatest =
      let there : Contains it.scopes (length columns.scopes - 1) = made.greatest (omega (arith, count it blocks is, end.0)) in
      let last : ℕ = length columns.scopes - 1 in
      let marked : get_or (documents_of it.scopes last) there.0 false ≡ true = get_or-map (has_scope last) it.scopes there.0 last false there.1 ∙ eq-eqb (get_or it.scopes there.0 last) last there.2 in
      subst (λ (flags : List Bool). 1 ≤ count_by is_marked flags) (sym (set_is last (omega (arith, some_scopes)))) (marked_one (documents_of it.scopes last) there.0 marked)

  rooted : roots_of columns ≡ map (λ (block : BlockState). block.root) blocks → AreRooted columns
  rooted roots = record {
    scopes = (it.scopes, record { sets = made.scopes; in_range = made.within }, sym made.documents);
    last = ap (λ flags. get_or flags (columns.documents - 1) false) roots_are_marked ∙ ap (λ n. get_or (map root_mark (flats_in blocks)) (n - 1) false) many ∙ end.1;
    greatest = greatest;
    stored =
        All-from_recursion IsStored columns.roots
        (each_along flat_root (λ (block : BlockState). block.root) (λ (block : BlockState). IsRootOf m block.root block.flats) IsStored (λ root block same own. stored m root block.root block.flats same own) columns.roots blocks roots given.roots);
  }

  pub columns_agree : roots_of columns ≡ map (λ (block : BlockState). block.root) blocks → AreRoots columns.roots → AreRows columns.terms → AreByField IsOrdinalColumn columns.ordinals → AreByField IsNumberColumn columns.numbers → AreByField (IsPresence columns.documents) columns.present
      → length columns.scopes < 2 ^ 32 → AreColumns columns
  columns_agree roots roots_fit terms ordinals numbers present fewer = record {
    parts = record {
      head = head fewer;
      roots_are = roots_fit;
      rooted =
          sym (length-map columns.roots flat_root) ∙ ap length roots ∙ length-map blocks (λ (block : BlockState). block.root)
          ∙ sym (ap (count_by is_marked) roots_are_marked ∙ blocks_counted m blocks given.roots);
      terms_are = terms;
      ordinals_are = ordinals;
      numbers_are = numbers;
      present_are = present;
    };
    rooted = rooted roots;
    fields = have_fields (kinds_of m) (apart_of m) it blocks is (all_written m blocks given) columns made terms.ascending many;
    terms = have_terms (kinds_of m) (apart_of m) it blocks is (all_written m blocks given) columns made terms.ascending many;
  }
