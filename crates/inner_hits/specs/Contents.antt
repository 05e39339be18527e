-- Serves proofs: where an object stands in its tree, and what it holds.
use Rattle.std.specs.Prelude.{◌≡◌, ℕ, ◌+◌, ◌<◌, length, get_or, Option, Some, None}
use Rattle.block_bits.specs.Blocks.{has_scope}
use Rattle.block_bits.specs.Places.{next_place}
use Rattle.mapping.specs.Mapping.{Mapping, scope_at}
use Rattle.query_ast.specs.InnerHits.{levels_of}
use Rattle.segment_parts.specs.declared.columns.Columns.{Columns}
use Rattle.tree_json.specs.Value.{null}
use Rattle.tree_json.specs.View.{view}
use Rattle.tree_objects.specs.Object.{Object, content, inside}
use Rattle.view_objects.specs.Hits.{count_between, start_before}
use Rattle.inner_hits.specs.Along.{objects_along}
use Rattle.query_eval.specs.Folds.{scopes_in}
use Rattle.inner_hits.specs.declared.content.ChildDoc.{ChildDoc}
use Rattle.inner_hits.specs.declared.content.ObjectAt.{ObjectAt}

pub record IsLocated (m : Mapping) (o : Object) (it : ObjectAt) : Type 0 where
  pub levels : it.levels.items ≡ levels_of m o
  pub holds : view it.content.now ≡ content o

-- an object is the one with that offset at a nested path of another
pub record ChildIs (m : Mapping) (parent : Object) (n k : ℕ) (o : Object) : Type 0 where
  pub is : o ≡ inside parent n k (get_or (objects_along (content parent) (scope_at m n).names) k null)
  pub low : k < length (objects_along (content parent) (scope_at m n).names)

-- the next document of the scope around, and how many documents of the path come before inside that one
pub record IsChildOf (around n doc : ℕ) (columns : Columns) (child : ChildDoc) : Type 0 where
  pub next : next_place (has_scope around) (doc + 1) (scopes_in columns) ≡ Some child.parent
  pub offset : child.offset ≡ count_between n (start_before around child.parent (scopes_in columns)) doc (scopes_in columns)

abbrev pub IsChildDoc : ℕ → ℕ → ℕ → Columns → Option ChildDoc → Type 0
IsChildDoc around n doc columns None = next_place (has_scope around) (doc + 1) (scopes_in columns) ≡ None
IsChildDoc around n doc columns (Some child) = IsChildOf around n doc columns child
