-- The rows of columns as a merge writes them, part by part: those of live documents, with their new numbers.
use Rattle.std.specs.Prelude.{◌≡◌, ℕ, ℤ, true, false, List, [], ◌∷◌, ◌++◌, map, drop, slice_get, slice_index_or, Contains, Option}
use Rattle.std.specs.List.{flat_map}
use Rattle.postings.specs.Postings.{documents}
use Rattle.segment_parts.specs.Lists.{postings_of, terms_of}
use Rattle.segment_parts.specs.declared.columns.Columns.{Columns}
use Rattle.segment_merge.specs.Merged.{kept, kept_keywords, kept_numbers, kept_texts}
use Rattle.segment_merge.specs.Numbering.{PartState}

-- what the parts give, one behind the other
abbrev pub from_parts : {X : Type 0} → (PartState → List X) → List PartState → List X
from_parts get parts = flat_map get parts

abbrev pub part_numbers : PartState → List (ℕ × List (ℕ × List ℤ))
part_numbers part = kept_numbers part.base part.entry

abbrev pub part_texts : PartState → List (ℕ × List ℕ)
part_texts part = kept_texts part.base part.entry

-- ---- rows whose values are written again

-- a number is written as it is, and an ordinal as the new one of its term
abbrev pub as_it_is : List ℕ → ℤ → ℤ
as_it_is ordinals number = number

abbrev pub renewed_ordinal : List ℕ → ℕ → ℕ
renewed_ordinal ordinals ordinal = slice_index_or ordinals ordinal 0

abbrev pub number_columns : Columns → List (ℕ × List (ℕ × List ℤ))
number_columns columns = columns.numbers

abbrev pub ordinal_columns : Columns → List (ℕ × List (ℕ × List ℕ))
ordinal_columns columns = columns.ordinals

-- rows with other values
abbrev pub with_values : {X Y : Type 0} → (X → Y) → List (ℕ × List X) → List (ℕ × List Y)
with_values {X} {Y} renew rows = map (λ (row : ℕ × List X). (row.0, map renew row.1)) rows

-- the rows of live documents, with other values
abbrev pub written_rows : {X : Type 0} → (X → X) → PartState → List (ℕ × List X) → List (ℕ × List X)
written_rows renew part rows = with_values renew (kept part.base part.entry.live.docs rows)

-- the columns of a part
abbrev pub columns_in : {X : Type 0} → (X → X) → PartState → List (ℕ × List (ℕ × List X)) → List (ℕ × List (ℕ × List X))
columns_in {X} renew part columns = map (λ (column : ℕ × List (ℕ × List X)). (column.0, written_rows renew part column.1)) columns

-- the first of lists
abbrev pub first_list : List (List ℕ) → List ℕ
first_list lists = slice_index_or lists 0 []

-- the columns of all parts, each part with its own list of new ordinals
abbrev pub columns_of_parts : {X : Type 0} → (Columns → List (ℕ × List (ℕ × List X))) → (List ℕ → X → X) → List PartState → List (List ℕ) → List (ℕ × List (ℕ × List X))
columns_of_parts columns renew [] lists = []
columns_of_parts columns renew (part ∷ parts) lists = columns_in (renew (first_list lists)) part (columns part.entry.columns) ++ columns_of_parts columns renew parts (drop 1 lists)

-- ---- new ordinals

-- The new ordinals of a part's terms: at each term that a live document has, the place of the same term among the new ones.
pub record AreNewOrdinals (terms : List (ℕ × List ℕ)) (part : PartState) (ordinals : List ℕ) : Type 0 where
  pub same : (ordinal doc : ℕ) → Contains (documents (slice_index_or (postings_of part.entry.columns) ordinal [])) doc → slice_index_or part.entry.live.docs doc false ≡ true
      → slice_get terms (slice_index_or ordinals ordinal 0) ≡ slice_get (terms_of part.entry.columns) ordinal

-- the same of all parts, each with its own list
abbrev pub AreRenewed : List (ℕ × List ℕ) → List PartState → List (List ℕ) → Type 0
AreRenewed terms [] lists = Unit {0}
AreRenewed terms (part ∷ parts) lists = AreNewOrdinals terms part (first_list lists) × AreRenewed terms parts (drop 1 lists)

-- what those columns say
abbrev pub part_keywords : PartState → List (ℕ × List (ℕ × List (Option (ℕ × List ℕ))))
part_keywords part = kept_keywords part.base part.entry

-- ---- groups

-- lists one behind the other
abbrev pub joined : {X : Type 0} → List (List X) → List X
joined lists = flat_map (λ list. list) lists

-- the lists of a group as one
abbrev pub whole : {K X : Type 0} → K × List (List X) → K × List X
whole group = (group.0, joined group.1)
