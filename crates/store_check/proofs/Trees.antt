-- Which tree a root may be of.
use Rattle.std.proofs.Common.{◌≡◌, ℕ, ◌<◌, ◌≤◌, ◌^◌, true, ◌⊎◌, List, length, sym, ap, subst, ◌∙◌, arith, Some, None, inl, inr}
use Rattle.flattener.specs.Block.{BlockState, block_of, block_refusal, root_of_tree, tree_given}
use Rattle.flattener.specs.Fits.{IsGiven, most_source}
use Rattle.flattener.specs.declared.refusal.FlattenRefusal.{FlattenRefusal}
use Rattle.flattener.specs.declared.refusal.FlattenRefusal.TheVariants as why
use Rattle.mapping.specs.Mapping.{Mapping}
use Rattle.segment.specs.Flat.{FlatRoot}
use Rattle.tree_json.specs.Levels.{levels, most_levels}
use Rattle.tree_json.specs.Reading.{reading, value, bad_json, fraction}
use Rattle.tree_json.specs.Text.{compact}
use Rattle.tree_json.specs.Value.{JsonValue, is_object}
use Rattle.tree_objects.specs.Tree.{Tree}
use Rattle.store_check.specs.Held.{IsSound}
use Rattle.store_check.specs.Made.{IsBlockOf, IsOfNoTree}

-- ---- what a root keeps of its tree

source_kept : (m : Mapping) (root : FlatRoot) (tree : Tree) → root ≡ root_of_tree m tree → root.source ≡ compact tree.source
unfolding root_of_tree
source_kept m root tree same = ap (λ (it : FlatRoot). it.source) same

id_kept : (m : Mapping) (root : FlatRoot) (tree : Tree) → root ≡ root_of_tree m tree → root.id ≡ tree.id
unfolding root_of_tree
id_kept m root tree same = ap (λ (it : FlatRoot). it.id) same

number_kept : (m : Mapping) (root : FlatRoot) (tree : Tree) → root ≡ root_of_tree m tree → root.number ≡ tree.number
unfolding root_of_tree
number_kept m root tree same = ap (λ (it : FlatRoot). it.number) same

generation_kept : (m : Mapping) (root : FlatRoot) (tree : Tree) → root ≡ root_of_tree m tree → root.generation ≡ tree.generation
unfolding root_of_tree
generation_kept m root tree same = ap (λ (it : FlatRoot). it.generation) same

value_once : (one other : JsonValue) → value one ≡ value other → one ≡ other
value_once one other same = cc (same)

source_read : (m : Mapping) (root : FlatRoot) (source : JsonValue) (tree : Tree) → reading root.source ≡ value source → IsSound m tree → root ≡ root_of_tree m tree → tree.source ≡ source
source_read m root source tree reads sound same =
    value_once tree.source source (sym sound.reads ∙ (ap reading (sym (source_kept m root tree same)) ∙ reads))

-- ---- no tree

pub unread : (m : Mapping) (root : FlatRoot) → ((source : JsonValue) → reading root.source ≡ value source → ⊥) → IsOfNoTree m root
unread m root never tree sound same = never tree.source (ap reading (source_kept m root tree same) ∙ sound.reads)

pub unread_bad : (m : Mapping) (root : FlatRoot) → reading root.source ≡ bad_json → IsOfNoTree m root
unread_bad m root bad = unread m root (λ source reads. absurd (let never : bad_json ≡ value source = sym bad ∙ reads in cc (never)))

pub unread_fraction : (m : Mapping) (root : FlatRoot) → reading root.source ≡ fraction → IsOfNoTree m root
unread_fraction m root bad = unread m root (λ source reads. absurd (let never : fraction ≡ value source = sym bad ∙ reads in cc (never)))

pub cannot : (m : Mapping) (root : FlatRoot) (source : JsonValue) (number generation : ℕ) → reading root.source ≡ value source → number ≡ root.number → generation ≡ root.generation
    → ((is_object source ≡ true) × (1 ≤ generation) × (generation ≤ length m.bodies) × (number ≤ 2 ^ 62) → ⊥) → IsOfNoTree m root
cannot m root source number generation reads numbered generated never tree sound same =
    let is : tree.source ≡ source = source_read m root source tree reads sound same in
    let known : root.generation ≡ tree.generation = generation_kept m root tree same in
    let counted : root.number ≡ tree.number = number_kept m root tree same in
    never (
      ap is_object (sym is) ∙ sound.given.source.0,
      omega (arith, generated, known, sound.given.first),
      omega (arith, generated, known, sound.given.last),
      omega (arith, numbered, counted, sound.number),
    )

given_same : (tree : Tree) (id : List ℕ) (number : ℕ) (source : JsonValue) (generation : ℕ) → tree.id ≡ id → tree.number ≡ number → tree.source ≡ source → tree.generation ≡ generation
    → tree ≡ tree_given id number source generation
given_same tree id number source generation ids numbers sources generations =
    ap (λ (it : List ℕ). tree_given it tree.number tree.source tree.generation) ids
    ∙ (ap (λ (it : ℕ). tree_given id it tree.source tree.generation) numbers
    ∙ (ap (λ (it : JsonValue). tree_given id number it tree.generation) sources
    ∙ ap (λ (it : ℕ). tree_given id number source it) generations))

tree_is : (m : Mapping) (root : FlatRoot) (source : JsonValue) (id : List ℕ) (number generation : ℕ) (tree : Tree) → reading root.source ≡ value source
    → id ≡ root.id → number ≡ root.number → generation ≡ root.generation → IsSound m tree → root ≡ root_of_tree m tree → tree ≡ tree_given id number source generation
tree_is m root source id number generation tree reads ids numbers generations sound same =
    given_same tree id number source generation
    (sym (id_kept m root tree same) ∙ sym ids)
    (sym (number_kept m root tree same) ∙ sym numbers)
    (source_read m root source tree reads sound same)
    (sym (generation_kept m root tree same) ∙ sym generations)

-- why a source has no block
abbrev pub IsRefused : Mapping → Tree → FlattenRefusal → Type 0
IsRefused m tree e = ((e ≡ why.SourceTooLong) × (most_source < length (compact tree.source))) ⊎ (block_refusal m tree ≡ Some e)

refused_by : (m : Mapping) (tree : Tree) (e : FlattenRefusal) → IsSound m tree → IsRefused m tree e → ⊥
refused_by m tree e sound (inl is) = omega (arith, is.1, sound.given.source.1)
refused_by m tree e sound (inr is) = absurd (let never : None ≡ Some e = sym sound.accepted ∙ is in cc (never))

pub refused : (m : Mapping) (root : FlatRoot) (source : JsonValue) (id : List ℕ) (number generation : ℕ) (e : FlattenRefusal) → reading root.source ≡ value source
    → id ≡ root.id → number ≡ root.number → generation ≡ root.generation → IsRefused m (tree_given id number source generation) e → IsOfNoTree m root
refused m root source id number generation e reads ids numbers generations is tree sound same =
    let own : tree ≡ tree_given id number source generation = tree_is m root source id number generation tree reads ids numbers generations sound same in
    refused_by m tree e sound (subst (λ (it : Tree). IsRefused m it e) (sym own) is)

-- ---- the one tree

pub made : (m : Mapping) (root : FlatRoot) (source : JsonValue) (id : List ℕ) (number generation : ℕ) (block : BlockState) → reading root.source ≡ value source
    → id ≡ root.id → number ≡ root.number → generation ≡ root.generation
    → IsGiven m (tree_given id number source generation) → number ≤ 2 ^ 62 → block ≡ block_of m (tree_given id number source generation)
    → (levels source ≤ most_levels → reading block.root.source ≡ value source) → levels source ≤ most_levels
    → block_refusal m (tree_given id number source generation) ≡ None → IsBlockOf m root block
unfolding root_of_tree
made m root source id number generation block reads ids numbers generations given small is back few accepted =
    let kept : block.root.source ≡ compact source = ap (λ (it : BlockState). it.root.source) is in
    record {
      tree = tree_given id number source generation;
      sound = record { given = given; number = small; reads = ap reading (sym kept) ∙ back few; accepted = accepted };
      is = is;
      only = λ other sound same. tree_is m root source id number generation other reads ids numbers generations sound same;
    }
