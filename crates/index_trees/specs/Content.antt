-- What a commit says, as content of the machine: its mapping, its next number, and the trees of its live blocks.
use Rattle.std.specs.Prelude.{◌≡◌, ℕ, List, [], Option, None, Some}
use Rattle.std.specs.List.{AllZip}
use Rattle.commit_store.specs.Saying.{StoreCommit, Found, entries_of, mapping_said}
use Rattle.flattener.specs.Block.{BlockState}
use Rattle.index_core.specs.Kept.{laid, made_by}
use Rattle.layout.specs.Layout.{live_items}
use Rattle.machine.specs.State.{Content}
use Rattle.tree_json.specs.Reading.{reading, value}
use Rattle.tree_json.specs.Text.{compact}
use Rattle.tree_objects.specs.Tree.{Tree}

-- what is kept of a root is that of a tree, whose source is kept as its compact text and is read back from it
pub record IsBlockOf (block : BlockState) (tree : Tree) : Type 0 where
  pub id : block.root.id ≡ tree.id
  pub number : block.root.number ≡ tree.number
  pub generation : block.root.generation ≡ tree.generation
  pub source : block.root.source ≡ compact tree.source
  pub reads : reading block.root.source ≡ value tree.source

abbrev pub AreBlocksOf : List BlockState → List Tree → Type 0
AreBlocksOf blocks trees = AllZip IsBlockOf blocks trees

-- the live blocks of a commit, in order
abbrev pub live_said : StoreCommit → List BlockState
live_said c = live_items (laid (entries_of c) [] (made_by (entries_of c)))

pub record IsContentOfCommit (c : StoreCommit) (content : Content) : Type 0 where
  pub mapping : content.mapping ≡ Some (mapping_said c.says)
  pub next : content.next ≡ c.says.next
  pub live : AreBlocksOf (live_said c) content.live

abbrev pub no_content : Content
no_content = record { mapping = None; live = []; next = 0 }

abbrev pub IsContentOf : Option StoreCommit → Content → Type 0
IsContentOf None content = content ≡ no_content
IsContentOf (Some c) content = IsContentOfCommit c content

-- the bytes open, as a store of at most so many bytes, to this content
pub record OpensTo (limit : ℕ) (content : Content) (file : List ℕ) : Type 0 where
  pub found : Option StoreCommit
  pub holds : Found limit file found
  pub is : IsContentOf found content
