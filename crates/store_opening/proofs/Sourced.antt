-- Sources that are read back, of roots and of blocks.
use Rattle.std.proofs.Common.{◌≡◌, ◌≢◌, ℕ, zero, suc, ◌+◌, ◌%◌, ◌/◌, ◌==◌, ◌<◌, ◌≤◌, nat_lt, ℤ, pos, negsuc, Bool, true, false, cond, List, [], ◌∷◌, ◌++◌, map, drop, get_or, All, refl, sym, ◌∙◌, ap, subst, arith}
use Rattle.std.specs.Fmt.{digits, digit_glyph, digits_onto, decimal, signed_decimal}
use Rattle.std.specs.List.{AllByRecursion}
use Rattle.std.proofs.lemmas.Bool.{cond_both}
use Rattle.std.proofs.lemmas.List.Elements.{All-nil, All-cons, All-head, All-tail}
use Rattle.flattener.specs.Block.{BlockState}
use Rattle.flattener.specs.Fits.{IsRootOf, IsSource, SegmentFits}
use Rattle.mapping.specs.Mapping.{Mapping}
use Rattle.segment.specs.Flat.{FlatRoot, flat_root, roots_of}
use Rattle.segment_builder.specs.Blocks.{blocks_of}
use Rattle.segment_fits.specs.Sources.{AreReadBack, IsReadBack}
use Rattle.segment_parts.specs.declared.columns.Columns.{Columns}
use Rattle.stored_sources.specs.declared.root.Root.{Root}
use Rattle.tree_json.specs.Text.{bool_text, compact, quoted}
use Rattle.tree_json.specs.Value.{JsonValue, null, bool, whole, text, list, object, is_object}
use Rattle.commit_store.specs.Saying.{HasSource, HaveSources}

-- ---- an object's text begins as no other

glyph_low : (d : ℕ) → d < 10 → digit_glyph false d < 100
glyph_low d few = grind (arith, few)

first_digit : (k n : ℕ) (acc : List ℕ) → get_or acc 0 0 < 100 → get_or (digits_onto k 10 false n acc) 0 0 < 100
first_digit zero n acc low = low
first_digit (suc k) n acc low =
    let glyph : digit_glyph false (n % 10) < 100 = glyph_low (n % 10) (omega arith) in
    cond_both (n / 10 == 0) (digit_glyph false (n % 10) ∷ acc) (digits_onto k 10 false (n / 10) (digit_glyph false (n % 10) ∷ acc)) (λ (xs : List ℕ). get_or xs 0 0 < 100)
    (λ last. glyph) (λ more. first_digit k (n / 10) (digit_glyph false (n % 10) ∷ acc) glyph)

first_decimal : (n : ℕ) → get_or (decimal n) 0 0 < 100
unfolding digits
first_decimal n = first_digit 64 n [] (omega arith)

by_first : (v : JsonValue) → get_or (compact v) 0 0 ≡ 123 → is_object v ≡ true
unfolding quoted
by_first null is = absurd (omega (arith, is))
by_first (bool true) is = absurd (omega (arith, is))
by_first (bool false) is = absurd (omega (arith, is))
by_first (whole (pos n)) is = absurd (omega (arith, is, first_decimal n))
by_first (whole (negsuc n)) is = absurd (omega (arith, is))
by_first (text s) is = absurd (omega (arith, is))
by_first (list ds) is = absurd (omega (arith, is))
by_first (object ms) is = refl

first_of : (v : JsonValue) → is_object v ≡ true → get_or (compact v) 0 0 ≡ 123
first_of null is = absurd (cc (is))
first_of (bool b) is = absurd (cc (is))
first_of (whole z) is = absurd (cc (is))
first_of (text s) is = absurd (cc (is))
first_of (list ds) is = absurd (cc (is))
first_of (object ms) is = refl

object_by_text : (v w : JsonValue) → is_object w ≡ true → compact v ≡ compact w → is_object v ≡ true
object_by_text v w is same = by_first v (ap (λ (bytes : List ℕ). get_or bytes 0 0) same ∙ first_of w is)

-- ---- the laws of blocks

-- the blocks of a segment that fits a mapping are roots with their documents, and the segment's roots in order
pub record BlockLaws : Type 0 where
  pub roots : (m : Mapping) (columns : Columns) → SegmentFits m columns → AllByRecursion (λ (block : BlockState). IsRootOf m block.root block.flats) (blocks_of columns)
  pub same : (m : Mapping) (columns : Columns) → SegmentFits m columns → map (λ (block : BlockState). block.root) (blocks_of columns) ≡ roots_of columns

head_of : (x y : FlatRoot) (xs ys : List FlatRoot) → x ∷ xs ≡ y ∷ ys → x ≡ y
head_of x y xs ys same = cc (same)

-- ---- both ways

have_sources : (blocks : List BlockState) (roots : List Root) → map (λ (block : BlockState). block.root) blocks ≡ map flat_root roots
    → All (λ (root : Root). IsReadBack root.source) roots → All HasSource blocks
have_sources [] roots same read = All-nil HasSource
have_sources (block ∷ blocks) [] same read = absurd (cc (same))
have_sources (block ∷ blocks) (root ∷ roots) same read =
    let first : block.root ≡ flat_root root = head_of block.root (flat_root root) (map (λ (it : BlockState). it.root) blocks) (map flat_root roots) same in
    let own : IsReadBack block.root.source
    = subst (λ (it : FlatRoot). IsReadBack it.source) (sym first) (All-head (λ (it : Root). IsReadBack it.source) root roots read) in
    All-cons HasSource block blocks (record { source = own.object; text = own.is.text; reads = own.reads })
    (have_sources blocks roots (ap (drop 1) same) (All-tail (λ (it : Root). IsReadBack it.source) root roots read))

pub sources_of : BlockLaws → (m : Mapping) (columns : Columns) → SegmentFits m columns → AreReadBack columns → HaveSources columns
sources_of laws m columns fits read = have_sources (blocks_of columns) columns.roots (laws.same m columns fits) read

read_back : (m : Mapping) (blocks : List BlockState) (roots : List Root) → map (λ (block : BlockState). block.root) blocks ≡ map flat_root roots
    → AllByRecursion (λ (block : BlockState). IsRootOf m block.root block.flats) blocks → All HasSource blocks → All (λ (root : Root). IsReadBack root.source) roots
read_back m blocks [] same are sources = All-nil (λ (root : Root). IsReadBack root.source)
read_back m [] (root ∷ roots) same are sources = absurd (cc (same))
read_back m (block ∷ blocks) (root ∷ roots) same are sources =
    let first : block.root ≡ flat_root root = head_of block.root (flat_root root) (map (λ (it : BlockState). it.root) blocks) (map flat_root roots) same in
    let own : HasSource block = All-head HasSource block blocks sources in
    let given = are.0.source in
    let is : is_object own.source ≡ true = object_by_text own.source given.0 given.1.0 (sym own.text ∙ given.2) in
    let back : IsReadBack block.root.source = record { object = own.source; is = record { is = is; text = own.text }; reads = own.reads } in
    All-cons (λ (it : Root). IsReadBack it.source) root roots (subst (λ (it : FlatRoot). IsReadBack it.source) first back)
    (read_back m blocks roots (ap (drop 1) same) are.1 (All-tail HasSource block blocks sources))

pub read_of : BlockLaws → (m : Mapping) (columns : Columns) → SegmentFits m columns → HaveSources columns → AreReadBack columns
read_of laws m columns fits sources = read_back m (blocks_of columns) columns.roots (laws.same m columns fits) (laws.roots m columns fits) sources
