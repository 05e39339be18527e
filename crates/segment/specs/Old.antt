-- The bytes of a segment before mappings grew: roots stand there without a mapping generation, and scopes without documents
-- may stand behind the last that has some.
use Rattle.std.specs.Prelude.{◌≡◌, ℕ, ◌+◌, ◌<◌, ◌^◌, Bool, false, List, [], ◌∷◌, ◌++◌, length, replicate}
use Rattle.std.specs.List.{All, flat_map}
use Rattle.part_text.specs.Text.{u32_text, counted_text}
use Rattle.stored_sources.specs.declared.root.Root.{Root}
use Rattle.stored_sources.specs.Text.{old_root_text}
use Rattle.term_table.specs.Part.{rows_text}
use Rattle.segment_parts.specs.Text.{scope_text, ordinals_text, numbers_text, present_text}
use Rattle.segment_parts.specs.Agree.{AreColumns}
use Rattle.segment_parts.specs.declared.columns.Columns.{Columns}

-- the bytes that stood first: SEG1
abbrev pub old_magic : List ℕ
old_magic = 83 ∷ 69 ∷ 71 ∷ 49 ∷ []

-- so many scopes without documents
abbrev pub no_documents : ℕ → ℕ → List (List Bool)
no_documents documents more = replicate more (replicate documents false)

-- the parts behind the roots
abbrev pub behind_roots : Columns → List ℕ
behind_roots columns = rows_text columns.terms ++ (ordinals_text columns.ordinals ++ (numbers_text columns.numbers ++ present_text columns.present))

-- what stood behind the first bytes
abbrev pub old_parts : Columns → ℕ → List ℕ
old_parts columns more =
    u32_text columns.documents ++ (counted_text u32_text scope_text (columns.scopes ++ no_documents columns.documents more)
    ++ (flat_map old_root_text columns.roots ++ behind_roots columns))

-- the parts, one behind the other, with so many scopes more than have documents
unfoldable pub old_text : Columns → ℕ → List ℕ
old_text columns more = old_magic ++ old_parts columns more

-- the bytes are these columns as they were written then; each root was indexed under the first mapping
pub record IsOldEncoding (columns : Columns) (bytes : List ℕ) : Type 0 where
  pub are : AreColumns columns
  pub first : All (λ (root : Root). root.generation ≡ 1) columns.roots
  pub more : ℕ
  pub fewer : length columns.scopes + more < 2 ^ 32
  pub text : bytes ≡ old_text columns more
