-- Roots: the documents of scope 0, which is the last one of each block.
use Rattle.std.specs.Prelude.{ℕ, Bool, List}
use Rattle.segment_parts.specs.Text.{marked_places}
use Rattle.segment_parts.specs.Parts.{root_flags}

-- the documents of the roots, in order
unfoldable pub root_documents : List (List Bool) → List ℕ
root_documents scopes = marked_places 0 (root_flags scopes)
