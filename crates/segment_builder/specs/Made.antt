-- What columns that are made of entries say.
use Rattle.std.specs.Prelude.{◌≡◌, ℕ, ◌-◌, ◌<◌, Bool, List, ◌++◌, length, map, Contains}
use Rattle.std.specs.List.{All, range_with_len}
use Rattle.std.specs.Ordering.{nat_cmp}
use Rattle.block_bits.specs.Blocks.{documents_of}
use Rattle.segment.specs.Lists.{terms_of}
use Rattle.segment_parts.specs.declared.columns.Columns.{Columns}
use Rattle.term_table.specs.Terms.{term_cmp}
use Rattle.segment_builder.specs.Columns.{column_terms, marks_of, named_group}
use Rattle.segment_builder.specs.Entries.{EntriesState}
use Rattle.segment_builder.specs.Groups.{AreGroups}
use Rattle.segment_builder.specs.Terms.{row_group, keyword_terms, number_terms}

-- all terms of all documents
abbrev pub all_terms : EntriesState → List ((ℕ × List ℕ) × (ℕ × List ℕ))
all_terms it = (it.words ++ keyword_terms it.keywords) ++ number_terms it.numbers

-- groups of documents as sets
abbrev pub marked_groups : ℕ → List (ℕ × List ℕ) → List (ℕ × List Bool)
marked_groups documents groups = map (λ (group : ℕ × List ℕ). (group.0, marks_of documents group.1)) groups

-- the documents of each scope up to the greatest one
pub record AreSetsOf (scopes : List ℕ) (sets : List (List Bool)) : Type 0 where
  pub are : sets ≡ map (documents_of scopes) (range_with_len 0 (length sets))
  pub within : All (λ scope. scope < length sets) scopes
  pub greatest : 0 < length scopes → Contains scopes (length sets - 1)

pub record IsMade (it : EntriesState) (columns : Columns) : Type 0 where
  pub documents : columns.documents ≡ length it.scopes
  pub scopes : columns.scopes ≡ map (documents_of it.scopes) (range_with_len 0 (length columns.scopes))
  pub within : All (λ scope. scope < length columns.scopes) it.scopes
  pub greatest : 0 < length it.scopes → Contains it.scopes (length columns.scopes - 1)
  pub rows : AreGroups term_cmp (all_terms it) (map row_group columns.terms)
  pub numbers : AreGroups nat_cmp it.numbers columns.numbers
  pub keywords : List (ℕ × List (ℕ × List (List ℕ)))
  pub keyword_groups : AreGroups nat_cmp it.keywords keywords
  pub ordinals : map (column_terms (terms_of columns)) columns.ordinals ≡ map named_group keywords
  pub texts : List (ℕ × List ℕ)
  pub text_groups : AreGroups nat_cmp it.texts texts
  pub present : columns.present ≡ marked_groups columns.documents texts
