-- The content that a commit says.
use Rattle.std.proofs.Common.{◌≡◌, Bool, List, [], ◌∷◌, ◌++◌, map, Option, None, Some, refl, sym, ap, subst, ◌∙◌, append-nil}
use Rattle.std.specs.List.{flat_map}
use Rattle.commit_store.specs.Preparing.{SaysView}
use Rattle.commit_store.specs.Saying.{StoreCommit, mapping_said}
use Rattle.flattener.specs.Block.{BlockState}
use Rattle.index_core.specs.Kept.{IndexState, layout_kept, segments_kept}
use Rattle.layout.specs.Layout.{live_in, live_items}
use Rattle.machine.specs.State.{Content, State}
use Rattle.mapping.specs.Mapping.{Mapping, mapping_of}
use Rattle.tree_json.specs.Reading.{Reading, bad_json, fraction, value}
use Rattle.tree_json.specs.Value.{JsonValue}
use Rattle.tree_objects.specs.Tree.{Tree}
use Rattle.index_trees.specs.Content.{AreBlocksOf, IsBlockOf, IsContentOf, live_said}
use Rattle.index_trees.specs.Faithful.{AreFaithful, block_in, tree_in}
use Rattle.index_trees.proofs.Blocks.{blocks_of_trees, live_blocks, live_of_view, live_trees}

-- ---- of an index

pub content_is : (m : Mapping) (index : IndexState) (state : State) (c : StoreCommit) → AreFaithful (Some m) index state → index.buffer ≡ [] → SaysView m index.next index.entries c
    → m ≡ mapping_of m.bodies m.dynamic → IsContentOf (Some c) state.content
content_is m index state c f sealed says own =
    let its = live_items f.stands.indexed in
    let blocks : live_said c ≡ map (block_in m) its
    = live_of_view m index.next index.entries c says
    ∙ sym (append-nil (flat_map live_in (segments_kept index.entries)))
    ∙ ap (λ (buffer : List BlockState). flat_map live_in (segments_kept index.entries) ++ buffer) (sym sealed)
    ∙ live_blocks m (layout_kept index) state.layout f.stands in
    let trees : state.content.live ≡ map (tree_in m) its = sym f.laid ∙ live_trees m (layout_kept index) state.layout f.stands in
    let mapping : m ≡ mapping_said c.says
    = own ∙ ap (λ (bodies : List JsonValue). mapping_of bodies m.dynamic) (sym says.bodies) ∙ ap (λ (dynamic : Bool). mapping_of c.says.bodies dynamic) (sym says.dynamic) in
    record {
      mapping = f.mapped ∙ ap Some mapping;
      next = f.next ∙ sym says.next_is;
      live = subst (λ (bs : List BlockState). AreBlocksOf bs state.content.live) (sym blocks) (subst (AreBlocksOf (map (block_in m) its)) (sym trees) (blocks_of_trees m its));
    }

-- ---- one at most

abbrev value_in : JsonValue → Reading → JsonValue
value_in none (value v) = v
value_in none bad_json = none
value_in none fraction = none

same_tree : (block : BlockState) (one other : Tree) → IsBlockOf block one → IsBlockOf block other → one ≡ other
same_tree block one other is are =
    let id : one.id ≡ other.id = sym is.id ∙ are.id in
    let number : one.number ≡ other.number = sym is.number ∙ are.number in
    let generation : one.generation ≡ other.generation = sym is.generation ∙ are.generation in
    let source : one.source ≡ other.source = ap (value_in one.source) (sym is.reads ∙ are.reads) in
    λ i. record { id = id i; number = number i; source = source i; generation = generation i }

same_trees : (blocks : List BlockState) (ones others : List Tree) → AreBlocksOf blocks ones → AreBlocksOf blocks others → ones ≡ others
same_trees [] [] [] is are = refl
same_trees [] [] (other ∷ others) is are = absurd are
same_trees [] (one ∷ ones) others is are = absurd is
same_trees (block ∷ blocks) [] others is are = absurd is
same_trees (block ∷ blocks) (one ∷ ones) [] is are = absurd are
same_trees (block ∷ blocks) (one ∷ ones) (other ∷ others) is are =
    ap (λ (tree : Tree). tree ∷ ones) (same_tree block one other is.0 are.0) ∙ ap (λ (trees : List Tree). other ∷ trees) (same_trees blocks ones others is.1 are.1)

pub content_once : (found : Option StoreCommit) (one other : Content) → IsContentOf found one → IsContentOf found other → one ≡ other
content_once None one other is are = is ∙ sym are
content_once (Some c) one other is are =
    let mapping : one.mapping ≡ other.mapping = is.mapping ∙ sym are.mapping in
    let live : one.live ≡ other.live = same_trees (live_said c) one.live other.live is.live are.live in
    let next : one.next ≡ other.next = is.next ∙ sym are.next in
    λ i. record { mapping = mapping i; live = live i; next = next i }
