-- When a segment is that of trees: what the comparison of bytes says.
use Rattle.std.proofs.Common.{◌≡◌, ◌↔◌, ℕ, IsTrue, Bool, false, List, length, map, sym, ap, subst, ◌∙◌, arith}
use Rattle.std.proofs.lemmas.Bool.{false≢true}
use Rattle.std.proofs.lemmas.List.{length-map}
use Rattle.flattener.specs.Block.{BlockState, block_of}
use Rattle.mapping.specs.Mapping.{Mapping}
use Rattle.segment.specs.Encoding.{IsEncoding}
use Rattle.segment.specs.Flat.{FlatRoot, flat_root, roots_of}
use Rattle.segment.specs.Live.{EntryState, IsLiveOver}
use Rattle.segment_builder.specs.Blocks.{blocks_of}
use Rattle.segment_parts.specs.Heads.{OneSet}
use Rattle.segment_parts.specs.Text.{segment_text}
use Rattle.segment_parts.specs.Whole.{segment_once}
use Rattle.segment_parts.specs.declared.columns.Columns.{Columns}
use Rattle.store_check.specs.Held.{IsHeld}
use Rattle.store_check.specs.Made.{AreOfNoTrees, AreOfTrees}
use Rattle.store_check.proofs.Marked.{held_from_trees, trees_from_held}
use Rattle.store_check.proofs.Rows.{AreMade, roots_kept}

-- the roots of the blocks of columns
abbrev pub AreRootsIn : Columns → List FlatRoot → Type 0
AreRootsIn columns roots = map (λ (block : BlockState). block.root) (blocks_of columns) ≡ roots

pub not_of : (m : Mapping) (columns : Columns) (roots : List FlatRoot) → AreRootsIn columns roots → AreOfNoTrees m roots → IsTrue false ↔ AreOfTrees m columns
not_of m columns roots own never = (
  λ no. absurd (false≢true no),
  λ of. absurd (never of.trees of.sound (sym own ∙ (ap (map (λ (block : BlockState). block.root)) of.blocks ∙ roots_kept m of.trees))),
)

pub of_built : OneSet → (m : Mapping) (one made : Columns) (roots : List FlatRoot) (blocks : List BlockState) (bytes bytes' : List ℕ) (same : Bool)
    → AreRootsIn one roots → AreMade m roots blocks → blocks_of made ≡ blocks → (blocks_of one ≡ blocks_of made → one ≡ made) → IsEncoding made bytes → IsEncoding one bytes'
    → IsTrue same ↔ (bytes ≡ bytes') → IsTrue same ↔ AreOfTrees m one
of_built one_set m one made roots blocks bytes bytes' same own are built once encoding encoding' compared = (
  λ yes.
      let text : segment_text made ≡ segment_text one = sym encoding.text ∙ (compared.0 yes ∙ encoding'.text) in
      let e : made ≡ one = segment_once one_set made one encoding.are.parts encoding'.are.parts text in
      record { trees = are.trees; sound = are.sound; blocks = ap blocks_of (sym e) ∙ (built ∙ are.are) },
  λ of.
      let trees : of.trees ≡ are.trees = are.only of.trees of.sound (sym own ∙ (ap (map (λ (block : BlockState). block.root)) of.blocks ∙ roots_kept m of.trees)) in
      let blocks_same : blocks_of one ≡ blocks_of made = of.blocks ∙ (ap (map (block_of m)) trees ∙ (sym are.are ∙ sym built)) in
      compared.1 (encoding.text ∙ (ap segment_text (sym (once blocks_same)) ∙ sym encoding'.text)),
)

held_at : (m : Mapping) (entry : EntryState) (is : Bool) → AreRootsIn entry.columns (roots_of entry.columns) → IsLiveOver entry.columns entry.live
    → IsTrue is ↔ AreOfTrees m entry.columns → IsTrue is ↔ IsHeld m entry
held_at m entry is own live of =
    let many : length (map (λ (block : BlockState). block.root) (blocks_of entry.columns)) ≡ length (roots_of entry.columns) = ap length own in
    let long : length (blocks_of entry.columns) ≡ length entry.live.roots =
    omega (arith, many, length-map (blocks_of entry.columns) (λ (block : BlockState). block.root), length-map entry.columns.roots flat_root, live.roots) in (
      λ yes. held_from_trees m entry (of.0 yes),
      λ held. of.1 (trees_from_held m entry long held),
    )

pub held_where : (m : Mapping) (entry : EntryState) (columns : Columns) (is : Bool) → columns ≡ entry.columns → AreRootsIn columns (roots_of columns) → IsLiveOver entry.columns entry.live
    → IsTrue is ↔ AreOfTrees m columns → IsTrue is ↔ IsHeld m entry
held_where m entry columns is same own live of =
    held_at m entry is (subst (λ (it : Columns). AreRootsIn it (roots_of it)) same own) live (subst (λ (it : Columns). IsTrue is ↔ AreOfTrees m it) same of)
