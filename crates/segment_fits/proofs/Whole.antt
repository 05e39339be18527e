-- A segment fits a mapping exactly where what is tested of it holds, given sources that are read back.
use Rattle.std.proofs.Common.{◌≡◌, ℕ, ◌+◌, ◌-◌, ◌<◌, ◌≤◌, ◌^◌, List, [], ◌∷◌, length, get_or, Option, None, IsSomeAnd, refl, sym, ap, subst, ◌∙◌, arith, eqb-true}
use Rattle.std.specs.List.{All, AllByRecursion, flat_map}
use Rattle.std.proofs.lemmas.List.{get_or-map, map-append}
use Rattle.std.proofs.lemmas.List.Elements.{All-from_recursion, recursion_from_All}
use Rattle.std.proofs.lemmas.List.FromFn.{get_or-map-range_with_len, length-map-range_with_len}
use Rattle.block_bits.specs.Blocks.{IsBlocks}
use Rattle.block_bits.specs.Scopes.{IsScopeTree, enclosing}
use Rattle.block_bits.specs.Seen.{scopes_seen}
use Rattle.flattener.specs.Fits.{AreRootsOf, IsDocument, IsJoinOf, IsRootOf, IsSource, SegmentFits, parents_of}
use Rattle.flattener.proofs.Nested.{enclosing_is, scopes_tree}
use Rattle.mapping.specs.IsMapping.{IsMapping}
use Rattle.mapping.specs.Mapping.{Mapping, around_of}
use Rattle.segment.specs.Flat.{FlatDocument, FlatRoot, flat_of, flat_root, flats_of, roots_of}
use Rattle.segment_parts.specs.Agree.{AreColumns, HasParentId, IsId}
use Rattle.segment_parts.specs.declared.columns.Columns.{Columns}
use Rattle.stored_sources.specs.Roots.{no_root, root_of}
use Rattle.tree_json.specs.Text.{compact}
use Rattle.tree_json.specs.Value.{JsonValue}
use Rattle.segment_fits.specs.Sources.{AreReadBack}
use Rattle.segment_fits.specs.Tested.{first_parents, generation_at, AreRootsKnown, IsTested}
use Rattle.segment_fits.proofs.Documents.{to_documents, to_known, to_shown}
use Rattle.segment_fits.proofs.Flags.{r0, before, count, flat_at, flats_long, generation_is, root_within, roots_long, scopes_within, AreScoped}
use Rattle.segment_fits.proofs.Marked.{marked_some}
use Rattle.segment_fits.proofs.Nesting.{blocks_alike, blocks_both}
use Rattle.segment_fits.proofs.Under.{scopes_of, roots_before, root_count, no_document, last_is_root, under_at, under_by, with_block, cut, AreOwn, AreUnder, IsCut, IsFront, IsUnderAt, LastIsRoot}

-- ---- the scopes around, by a mapping and by its first scopes alone

module _ (m : Mapping) (is : IsMapping m) (count : ℕ) (some : 0 < count) (few : count ≤ length m.scopes) where
  first_is : (scope : ℕ) → scope < count → enclosing (first_parents m count) scope ≡ around_of m scope
  first_is scope h = get_or-map-range_with_len (around_of m) 0 count scope scope None h (omega arith)

  same_first : (scope : ℕ) → scope < count → enclosing (parents_of m) scope ≡ enclosing (first_parents m count) scope
  same_first scope h = enclosing_is m scope (omega (arith, h, few)) ∙ sym (first_is scope h)

  pub first_tree : IsScopeTree (first_parents m count)
  first_tree = record {
    root = first_is 0 some;
    nested = λ scope positive h.
        let within : scope < count = omega (arith, h, length-map-range_with_len (around_of m) 0 count) in
        let whole : scope < length (parents_of m) = omega (arith, within, few, length-map-range_with_len (around_of m) 0 (length m.scopes)) in
        subst (λ (o : Option ℕ). IsSomeAnd o (λ outer. outer < scope)) (same_first scope within) ((scopes_tree m is).nested scope positive whole);
  }

  pub to_all : (scopes : List ℕ) → All (λ (scope : ℕ). scope < count) scopes → IsBlocks (first_parents m count) scopes → IsBlocks (parents_of m) scopes
  to_all scopes each blocks = blocks_alike count (first_parents m count) (parents_of m) scopes (record { tree = first_tree; same = same_first }) each blocks

  pub to_first : (scopes : List ℕ) → All (λ (scope : ℕ). scope < count) scopes → IsBlocks (parents_of m) scopes → IsBlocks (first_parents m count) scopes
  to_first scopes each blocks =
      blocks_alike count (parents_of m) (first_parents m count) scopes (record { tree = scopes_tree m is; same = λ scope h. sym (same_first scope h) }) each blocks

-- ---- what is so of a root by itself

pub record IsKnown (m : Mapping) (root : FlatRoot) : Type 0 where
  pub number : root.number ≤ 2 ^ 62
  pub first : 1 ≤ root.generation
  pub last : root.generation ≤ length m.bodies
  pub join : IsJoinOf m root.generation root.join

pub record IsWhole (m : Mapping) (root : FlatRoot) : Type 0 where
  pub id : IsId root.id
  pub parent : HasParentId root.join
  pub known : IsKnown m root
  pub source : (value : JsonValue) × IsSource value × (root.source ≡ compact value)

abbrev Under : Mapping → FlatRoot → FlatDocument → Type 0
Under m root flat = IsDocument m root.generation flat

-- ---- from roots with their documents

known_of : (m : Mapping) (roots : List FlatRoot) (blocks : List (List FlatDocument)) → AreRootsOf m roots blocks → AllByRecursion (IsKnown m) roots
known_of m [] blocks are = tt
known_of m (root ∷ roots) [] are = absurd are
known_of m (root ∷ roots) (flats ∷ more) are = (record { number = are.0.number; first = are.0.first; last = are.0.last; join = are.0.join }, known_of m roots more are.1)

abbrev joined : List (List FlatDocument) → List FlatDocument
joined blocks = flat_map (λ (flats : List FlatDocument). flats) blocks

block_ends : (m : Mapping) (root : FlatRoot) (flats : List FlatDocument) → IsRootOf m root flats → LastIsRoot flats
block_ends m root flats is = last_is_root flats is.nested.last

under_of : (m : Mapping) (roots : List FlatRoot) (blocks : List (List FlatDocument)) → AreRootsOf m roots blocks → AreUnder (Under m) r0 (joined blocks) roots
under_of m [] [] are = tt
under_of m [] (flats ∷ more) are = absurd are
under_of m (root ∷ roots) [] are = absurd are
under_of m (root ∷ roots) (flats ∷ more) are =
    with_block (Under m) r0 flats (joined more) root roots (block_ends m root flats are.0) are.0.one_root
    (recursion_from_All (IsDocument m root.generation) flats are.0.documents) (under_of m roots more are.1)

no_blocks : (parents : List (Option ℕ)) → IsBlocks parents []
no_blocks parents = record {
  enclosed = λ doc outer h e. absurd (omega (arith, h));
  last = λ doc h. absurd (omega (arith, h));
}

nested_of : (m : Mapping) (roots : List FlatRoot) (blocks : List (List FlatDocument)) → AreRootsOf m roots blocks → IsBlocks (parents_of m) (scopes_of (joined blocks))
nested_of m [] [] are = no_blocks (parents_of m)
nested_of m [] (flats ∷ more) are = absurd are
nested_of m (root ∷ roots) [] are = absurd are
nested_of m (root ∷ roots) (flats ∷ more) are =
    subst (IsBlocks (parents_of m)) (sym (map-append (λ (flat : FlatDocument). flat.scope) flats (joined more)))
    (blocks_both (parents_of m) (scopes_of flats) (scopes_of (joined more)) are.0.nested (nested_of m roots more are.1))

-- ---- to roots with their documents

roots_from : (m : Mapping) (tree : IsScopeTree (parents_of m)) (roots : List FlatRoot) (blocks : List (List FlatDocument)) → AllByRecursion (IsWhole m) roots → AreOwn (Under m) r0 (parents_of m) tree roots blocks → AreRootsOf m roots blocks
roots_from m tree [] [] whole are = tt
roots_from m tree [] (flats ∷ more) whole are = absurd are
roots_from m tree (root ∷ roots) [] whole are = absurd are
roots_from m tree (root ∷ roots) (flats ∷ more) whole are = (
  record {
    id = whole.0.id;
    parent = whole.0.parent;
    number = whole.0.known.number;
    first = whole.0.known.first;
    last = whole.0.known.last;
    join = whole.0.known.join;
    source = whole.0.source;
    documents = All-from_recursion (IsDocument m root.generation) flats are.0.each;
    nested = are.0.nested;
    one_root = are.0.one_root;
  },
  roots_from m tree roots more whole.1 are.1,
)

-- ---- a segment

module _ (m : Mapping) (is : IsMapping m) (c : Columns) (own : AreColumns c) (sets : AreScoped c) (scoped : (doc : ℕ) → doc < c.documents → (flat_of c doc).scope < length c.scopes) (seen : scopes_seen c.scopes ≡ scopes_of (flats_of c)) where
  abbrev flats : List FlatDocument
  flats = flats_of c

  long : length flats ≡ c.documents
  long = flats_long c own sets

  each_within : All (λ (scope : ℕ). scope < length c.scopes) (scopes_of flats)
  each_within = scopes_within c own sets scoped

  -- ---- what is tested, of a segment that fits

  module _ (fits : SegmentFits m c) where
    under : AreUnder (Under m) r0 flats (roots_of c)
    under = subst (λ (fs : List FlatDocument). AreUnder (Under m) r0 fs (roots_of c)) (sym fits.flats) (under_of m (roots_of c) fits.blocks fits.roots)

    document : (doc : ℕ) → doc < c.documents → IsDocument m (generation_at c doc) (flat_of c doc)
    document doc h =
        let at : IsDocument m (get_or (roots_of c) (roots_before doc flats) r0).generation (get_or flats doc no_document) = under_at (Under m) r0 flats (roots_of c) under doc (omega (arith, h, long)) in
        subst (λ (g : ℕ). IsDocument m g (flat_of c doc)) (generation_is c own sets doc h) (subst (IsDocument m (get_or (roots_of c) (roots_before doc flats) r0).generation) (flat_at c own sets doc no_document h) at)

    roots_known : AreRootsKnown m c
    roots_known root h =
        let long : root < length (roots_of c) = omega (arith, h, roots_long c own sets) in
        let at : get_or (roots_of c) root r0 ≡ flat_root (root_of c.roots root) = get_or-map flat_root c.roots root no_root r0 h in
        let known : IsKnown m (flat_root (root_of c.roots root)) = subst (IsKnown m) at (All-from_recursion (IsKnown m) (roots_of c) (known_of m (roots_of c) fits.blocks fits.roots) root r0 long) in
        record { number = known.number; first = known.first; last = known.last; join = known.join }

    few_scopes : length c.scopes ≤ length m.scopes
    few_scopes =
        let last = length c.scopes - 1 in
        let some = marked_some (get_or c.scopes last []) own.rooted.greatest in
        let within : last < length c.scopes = omega (arith, own.parts.head.some) in
        let inside : some.0 < c.documents = omega (arith, some.1, own.parts.head.long last [] within) in
        let scope : (flat_of c some.0).scope ≡ last = eqb-true (flat_of c some.0).scope last (sym (sets last some.0 within inside) ∙ some.2) in
        omega (arith, scope, (document some.0 inside).scope)

    nested : IsBlocks (parents_of m) (scopes_of flats)
    nested = subst (λ (fs : List FlatDocument). IsBlocks (parents_of m) (scopes_of fs)) (sym fits.flats) (nested_of m (roots_of c) fits.blocks fits.roots)

    pub tested : IsTested m c
    tested = record {
      roots = roots_known;
      nested = record {
        few = few_scopes;
        blocks = subst (IsBlocks (first_parents m (length c.scopes))) (sym seen) (to_first m is (length c.scopes) own.parts.head.some few_scopes (scopes_of flats) each_within nested);
      };
      scopes = to_known m c own document;
      shown = to_shown m c own document;
    }

  -- ---- a segment that is tested, and whose sources are read back, fits

  module _ (tests : IsTested m c) (read : AreReadBack c) where
    in_mapping : (doc : ℕ) → doc < c.documents → (flat_of c doc).scope < length m.scopes
    in_mapping doc h = omega (arith, scoped doc h, tests.nested.few)

    nested_all : IsBlocks (parents_of m) (scopes_of flats)
    nested_all = to_all m is (length c.scopes) own.parts.head.some tests.nested.few (scopes_of flats) each_within (subst (IsBlocks (first_parents m (length c.scopes))) seen tests.nested.blocks)

    under_all : AreUnder (Under m) r0 flats (roots_of c)
    under_all = under_by (Under m) r0 flats (roots_of c) each
      where
        each : (doc : ℕ) → doc < length flats → IsUnderAt (Under m) r0 flats (roots_of c) doc
        each doc h =
            let inside : doc < c.documents = omega (arith, h, long) in
            let one : IsDocument m (generation_at c doc) (flat_of c doc) = to_documents m c own tests.scopes in_mapping tests.shown doc inside in (
              omega (arith, before c own sets doc, root_within c own sets doc inside, roots_long c own sets),
              subst (λ (g : ℕ). IsDocument m g (get_or flats doc no_document)) (sym (generation_is c own sets doc inside)) (subst (IsDocument m (generation_at c doc)) (sym (flat_at c own sets doc no_document inside)) one),
            )

    root_whole : (k : ℕ) (d : FlatRoot) → k < length (roots_of c) → IsWhole m (get_or (roots_of c) k d)
    root_whole k d h =
        let inside : k < length c.roots = omega (arith, h, roots_long c own sets) in
        let root = root_of c.roots k in
        let at : get_or (roots_of c) k d ≡ flat_root root = get_or-map flat_root c.roots k no_root d inside in
        let known = tests.roots k inside in
        let stored = own.rooted.stored k no_root inside in
        let back = read k no_root inside in
        let short : length (compact back.object) ≤ 16_777_216 = omega (arith, ap length back.is.text, stored.source) in
        subst (IsWhole m) (sym at) (record {
          id = stored.id;
          parent = stored.parent;
          known = record { number = known.number; first = known.first; last = known.last; join = known.join };
          source = (back.object, (back.is.is, short), back.is.text);
        })

    made : (fs : List FlatDocument) → fs ≡ flats → IsCut (Under m) r0 (parents_of m) (scopes_tree m is) fs (roots_of c)
    made [] e = absurd (omega (arith, ap length e, long, own.parts.head.some_documents))
    made (flat ∷ fs) e =
        cut (Under m) r0 (parents_of m) (scopes_tree m is) flat fs [] (roots_of c)
        (last_is_root (flat ∷ fs) (subst (λ (xs : List FlatDocument). (doc : ℕ) → doc + 1 ≡ length (scopes_of xs) → get_or (scopes_of xs) doc 0 ≡ 0) (sym e) nested_all.last))
        tt (front_of (roots_of c))
        (subst (λ (xs : List FlatDocument). AreUnder (Under m) r0 xs (roots_of c)) (sym e) under_all)
        (ap root_count e ∙ count c own sets)
        (subst (λ (xs : List FlatDocument). IsBlocks (parents_of m) (scopes_of xs)) (sym e) nested_all)
      where
        front_of : (roots : List FlatRoot) → IsFront (Under m) r0 (parents_of m) (scopes_tree m is) [] roots
        front_of [] = tt
        front_of (root ∷ roots) = tt

    pub segment_fits : SegmentFits m c
    segment_fits =
        let it = made flats refl in
        record {
          blocks = it.blocks;
          flats = it.joined;
          roots = roots_from m (scopes_tree m is) (roots_of c) it.blocks (recursion_from_All (IsWhole m) (roots_of c) root_whole) it.are;
        }
