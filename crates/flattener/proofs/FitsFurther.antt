-- A segment that fits a mapping fits it with further bodies.
use Rattle.std.proofs.Common.{◌≡◌, ℕ, zero, suc, ◌<◌, ◌≤◌, ◌==◌, ◌&&◌, ◌||◌, Bool, List, [], ◌∷◌, length, map, Some, None, if◌then◌else◌, refl, sym, ap, ◌∙◌, inl, inr, arith}
use Rattle.std.specs.List.{All, AllByRecursion}
use Rattle.std.proofs.lemmas.List.{length-append}
use Rattle.std.proofs.lemmas.List.Elements.{All-from_recursion, recursion_from_All}
use Rattle.block_bits.specs.Blocks.{IsBlocks, scope_at as scope_of}
use Rattle.block_bits.specs.Scopes.{enclosing, is_above_within}
use Rattle.block_bits.proofs.Above.{falls, split_option}
use Rattle.mapping_body.specs.declared.kind.Kind.{Kind}
use Rattle.mapping.specs.Growth.{HasFurtherBodies}
use Rattle.mapping.specs.IsMapping.{IsMapping}
use Rattle.mapping.specs.Mapping.{Mapping, Field, Scope, home_of, included, outer, reaches, scope_at, shows}
use Rattle.segment.specs.Flat.{FlatDocument, FlatRoot, roots_of}
use Rattle.segment_parts.specs.declared.columns.Columns.{Columns}
use Rattle.stored_sources.specs.declared.root.Join.{Join}
use Rattle.stored_sources.specs.declared.root.Join.TheVariants.{Unjoined, Named, Child}
use Rattle.tree_objects.proofs.Further.{within, field_same, scope_same, outer_same, outer_within}
use Rattle.flattener.specs.Fits.{AreRootsOf, IsDocument, IsFieldAt, IsJoinOf, IsRelation, IsRootOf, SegmentFits, parents_of}
use Rattle.flattener.proofs.Nested.{enclosing_is, scopes_tree}

-- ---- where fields are shown

reaches_same : (m m2 : Mapping) (left n s : ℕ) → IsMapping m → HasFurtherBodies m m2 → n < length m.scopes → reaches m2 left n s ≡ reaches m left n s
reaches_same m m2 zero n s is has h = refl
reaches_same m m2 (suc left) n s is has h =
    let further = reaches_same m m2 left (outer m n) s is has (outer_within m n is h) in
    ap (λ (scope : Scope). n == s || ((scope.in_parent && reaches m2 left scope.around s) || (scope.in_root && s == 0))) (scope_same m m2 n has h)
    ∙ ap (λ (shown : Bool). n == s || (((scope_at m n).in_parent && shown) || ((scope_at m n).in_root && s == 0))) further

included_same : (m m2 : Mapping) (f s : ℕ) → IsMapping m → HasFurtherBodies m m2 → f < length m.fields → included m2 f s ≡ included m f s
unfolding included
included_same m m2 f s is has h =
    ap (λ (field : Field). reaches m2 field.home field.home s) (field_same m m2 f has h)
    ∙ reaches_same m m2 (home_of m f) (home_of m f) s is has ((is.home f h).in_range)

shows_same : (m m2 : Mapping) (g f s : ℕ) → IsMapping m → HasFurtherBodies m m2 → f < length m.fields → shows m2 g f s ≡ shows m g f s
shows_same m m2 g f s is has h = rw (field_same m m2 f has h, included_same m m2 f s is has h) refl

fields_long : (m m2 : Mapping) → HasFurtherBodies m m2 → length m.fields ≤ length m2.fields
fields_long m m2 has = omega (arith, ap length has.fields.is, length-append m.fields has.fields.more)

scopes_long : (m m2 : Mapping) → HasFurtherBodies m m2 → length m.scopes ≤ length m2.scopes
scopes_long m m2 has = omega (arith, ap length has.scopes.is, length-append m.scopes has.scopes.more)

relations_long : (m m2 : Mapping) → HasFurtherBodies m m2 → length m.relations ≤ length m2.relations
relations_long m m2 has = omega (arith, ap length has.relations.is, length-append m.relations has.relations.more)

field_fits : (m m2 : Mapping) (g : ℕ) (test : Kind → Bool) (n f : ℕ) → IsMapping m → HasFurtherBodies m m2 → IsFieldAt m g test n f → IsFieldAt m2 g test n f
field_fits m m2 g test n f is has fits = record {
  in_range = omega (arith, fits.in_range, fields_long m m2 has);
  kind = ap (λ (field : Field). test field.kind) (field_same m m2 f has fits.in_range) ∙ fits.kind;
  shown = shows_same m m2 g f n is has fits.in_range ∙ fits.shown;
}

document_fits : (m m2 : Mapping) (g : ℕ) (flat : FlatDocument) → IsMapping m → HasFurtherBodies m m2 → IsDocument m g flat → IsDocument m2 g flat
document_fits m m2 g flat is has fits = record {
  scope = omega (arith, fits.scope, scopes_long m m2 has);
  known = rw (scope_same m m2 flat.scope has fits.scope) fits.known;
  numbers = λ i d h. field_fits m m2 g _ flat.scope _ is has (fits.numbers i d h);
  keywords = λ i d h. field_fits m m2 g _ flat.scope _ is has (fits.keywords i d h);
  words = λ i d h. field_fits m m2 g _ flat.scope _ is has (fits.words i d h);
  texts = λ i d h. field_fits m m2 g _ flat.scope _ is has (fits.texts i d h);
}

relation_fits : (m m2 : Mapping) (g r : ℕ) → HasFurtherBodies m m2 → IsRelation m g r → IsRelation m2 g r
relation_fits m m2 g r has fits = record {
  in_range = omega (arith, fits.in_range, relations_long m m2 has);
  known = rw (within _ _ m.relations m2.relations _ r has.relations fits.in_range) fits.known;
}

join_fits : (m m2 : Mapping) (g : ℕ) (join : Join) → HasFurtherBodies m m2 → IsJoinOf m g join → IsJoinOf m2 g join
join_fits m m2 g Unjoined has fits = tt
join_fits m m2 g (Named r) has fits = relation_fits m m2 g r has fits
join_fits m m2 g (Child r parent) has fits = relation_fits m m2 g r has fits

-- ---- blocks

enclosing_same : (m m2 : Mapping) (n : ℕ) → HasFurtherBodies m m2 → n < length m.scopes → enclosing (parents_of m2) n ≡ enclosing (parents_of m) n
enclosing_same m m2 n has h =
    enclosing_is m2 n (omega (arith, h, scopes_long m m2 has))
    ∙ ap (λ (around : ℕ). if n == 0 then None else Some around) (outer_same m m2 n has h) ∙ sym (enclosing_is m n h)

above_same : (m m2 : Mapping) (steps upper lower : ℕ) → IsMapping m → HasFurtherBodies m m2 → lower < length m.scopes
    → is_above_within (parents_of m2) steps upper lower ≡ is_above_within (parents_of m) steps upper lower
above_same m m2 zero upper lower is has h = refl
above_same m m2 (suc steps) upper lower is has h =
    let same = enclosing_same m m2 lower has h in
    elim (split_option (enclosing (parents_of m) lower)) [
      | inl none ↦ rw (same, none) refl
      | inr some ↦
          let fall = falls (parents_of m) lower some.0 (scopes_tree m is) some.1 in
          rw (same, some.1) (ap (λ b. (some.0 == upper) || b) (above_same m m2 steps upper some.0 is has (omega (arith, h, fall.0))))
    ]

blocks_fit : (m m2 : Mapping) (scopes : List ℕ) → IsMapping m → HasFurtherBodies m m2 → All (λ (s : ℕ). s < length m.scopes) scopes → IsBlocks (parents_of m) scopes → IsBlocks (parents_of m2) scopes
blocks_fit m m2 scopes is has each blocks = record {
  enclosed = λ doc sought h e.
      let same : enclosing (parents_of m) (scope_of scopes doc) ≡ Some sought = sym (enclosing_same m m2 (scope_of scopes doc) has (each doc 0 h)) ∙ e in
      let found = blocks.enclosed doc sought h same in
      let fall = falls (parents_of m) (scope_of scopes doc) sought (scopes_tree m is) same in
      let in_range : scope_of scopes doc < length m.scopes = each doc 0 h in (
        found.0,
        record {
          later = found.1.later;
          within = found.1.within;
          of_outer = found.1.of_outer;
          first = λ between past before. above_same m m2 sought (scope_of scopes between) sought is has (omega (arith, in_range, fall.0)) ∙ found.1.first between past before;
        },
      );
  last = blocks.last;
}

-- ---- roots

each_scope : (m : Mapping) (g : ℕ) (flats : List FlatDocument) → AllByRecursion (IsDocument m g) flats → AllByRecursion (λ (s : ℕ). s < length m.scopes) (map (λ (flat : FlatDocument). flat.scope) flats)
each_scope m g [] each = tt
each_scope m g (flat ∷ flats) each = (each.0.scope, each_scope m g flats each.1)

scopes_in_range : (m : Mapping) (g : ℕ) (flats : List FlatDocument) → All (IsDocument m g) flats → All (λ (s : ℕ). s < length m.scopes) (map (λ (flat : FlatDocument). flat.scope) flats)
scopes_in_range m g flats each = All-from_recursion (λ (s : ℕ). s < length m.scopes) _ (each_scope m g flats (recursion_from_All (IsDocument m g) flats each))

root_fits : (m m2 : Mapping) (root : FlatRoot) (flats : List FlatDocument) → IsMapping m → HasFurtherBodies m m2 → IsRootOf m root flats → IsRootOf m2 root flats
root_fits m m2 root flats is has fits = record {
  id = fits.id;
  parent = fits.parent;
  number = fits.number;
  first = fits.first;
  last = omega (arith, fits.last, has.bodies);
  join = join_fits m m2 root.generation root.join has fits.join;
  source = fits.source;
  documents = λ i d h. document_fits m m2 root.generation _ is has (fits.documents i d h);
  nested = blocks_fit m m2 (map (λ (flat : FlatDocument). flat.scope) flats) is has (scopes_in_range m root.generation flats fits.documents) fits.nested;
  one_root = fits.one_root;
}

roots_fit : (m m2 : Mapping) (roots : List FlatRoot) (blocks : List (List FlatDocument)) → IsMapping m → HasFurtherBodies m m2 → AreRootsOf m roots blocks → AreRootsOf m2 roots blocks
roots_fit m m2 [] [] is has fits = tt
roots_fit m m2 [] (flats ∷ more) is has fits = fits
roots_fit m m2 (root ∷ roots) [] is has fits = fits
roots_fit m m2 (root ∷ roots) (flats ∷ more) is has fits = (root_fits m m2 root flats is has fits.0, roots_fit m m2 roots more is has fits.1)

pub segment_fits_further : (m m2 : Mapping) (columns : Columns) → IsMapping m → HasFurtherBodies m m2 → SegmentFits m columns → SegmentFits m2 columns
segment_fits_further m m2 columns is has fits = record {
  blocks = fits.blocks;
  flats = fits.flats;
  roots = roots_fit m m2 (roots_of columns) fits.blocks is has fits.roots;
}
