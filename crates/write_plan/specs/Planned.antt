-- What is put by a source, under the mapping that the source makes of the one before.
use Rattle.std.specs.Prelude.{◌≡◌, ℕ, List, Option, unwrap_or}
use Rattle.tree_json.specs.Value.{JsonValue}
use Rattle.mapping.specs.Growth.{HasFurtherBodies}
use Rattle.mapping.specs.IsMapping.{IsMapping}
use Rattle.mapping.specs.Mapping.{Mapping}
use Rattle.tree_objects.specs.Tree.{Tree}
use Rattle.flattener.specs.Block.{block_of}
use Rattle.flattener.specs.Fits.{BlockFits, IsGiven}
use Rattle.flattener.specs.Seen.{block_seen}
use Rattle.reply_text.specs.declared.refusal.Refusal.{Refusal}
use Rattle.machine.specs.Write.{added_body, grown_by, new_tree, source_refusals}
use Rattle.write_plan.specs.Update.{IsTextOf}
use Rattle.write_plan.specs.declared.plan.Plan as declared

-- the mapping after a source was put
abbrev pub mapping_after : Mapping → JsonValue → Mapping
mapping_after m source = grown_by m (added_body m source)

-- the tree that is put
abbrev pub tree_of : Mapping → List ℕ → JsonValue → ℕ → Tree
tree_of m id source number = new_tree id source (mapping_after m source) number

-- the refusals of a source, in their order
abbrev pub refusals_of : Mapping → List ℕ → JsonValue → ℕ → List (Option Refusal)
refusals_of m id source number = source_refusals m (added_body m source) (tree_of m id source number)

-- the second mapping is the first, or has further bodies behind it
pub record IsGrownFrom (m m2 : Mapping) : Type 0 where
  pub mapping : IsMapping m2
  pub further : HasFurtherBodies m m2

-- the block is that of the tree, under the mapping that there is then
pub record IsPlanned (m : Mapping) (id : List ℕ) (source : JsonValue) (number : ℕ) (planned : declared.Plan) : Type 0 where
  pub grown : unwrap_or planned.grown m ≡ mapping_after m source
  pub later : IsGrownFrom m (mapping_after m source)
  pub given : IsGiven (mapping_after m source) (tree_of m id source number)
  pub block : block_seen planned.block ≡ block_of (mapping_after m source) (tree_of m id source number)
  pub fits : BlockFits (mapping_after m source) (block_seen planned.block)
  pub text : IsTextOf planned.block.root.source source
