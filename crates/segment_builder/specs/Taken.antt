-- Entries that columns can be made of: at each key the documents rise, and what they carry fits the columns.
use Rattle.std.specs.Prelude.{ℕ, ◌<◌, ◌^◌, List, length}
use Rattle.std.specs.List.{All, AllByRecursion}
use Rattle.std.specs.Ordering.{nat_cmp}
use Rattle.std.specs.declared.cmp.Ordering.{Ordering}
use Rattle.doc_values.specs.Values.{AreValues}
use Rattle.term_table.specs.Postings.{AreAscending}
use Rattle.term_table.specs.Terms.{term_cmp}
use Rattle.segment_builder.specs.Groups.{of_key}
use Rattle.segment_builder.specs.Rising.{AreRisingFrom}

-- a term, and a document with the positions of the term in it
pub record IsTermEntry (term : ℕ × List ℕ) (posting : ℕ × List ℕ) : Type 0 where
  pub field : term.0 < 2 ^ 32
  pub short : length term.1 < 2 ^ 32
  pub positions : AreAscending posting.1

-- entries of terms of so many documents
pub record AreTermEntries (documents : ℕ) (entries : List ((ℕ × List ℕ) × (ℕ × List ℕ))) : Type 0 where
  pub few : documents < 2 ^ 32
  pub rise : (term : ℕ × List ℕ) → AreRisingFrom 0 documents (of_key term_cmp term entries)
  pub each : AllByRecursion (λ (entry : (ℕ × List ℕ) × (ℕ × List ℕ)). IsTermEntry entry.0 entry.1) entries

-- a field below a bound, and a document with its values of the field
pub record IsValueEntry {X : Type 0} (cmp : X → X → Ordering) (Fits : ℕ → X → Type 0) (bound field : ℕ) (row : ℕ × List X) : Type 0 where
  pub below : field < bound
  pub values : AreValues cmp row.1
  pub fit : All (Fits field) row.1

-- entries of values of so many documents
pub record AreValueEntries {X : Type 0} (cmp : X → X → Ordering) (Fits : ℕ → X → Type 0) (documents : ℕ) (entries : List (ℕ × (ℕ × List X))) : Type 0 where
  pub bound : ℕ
  pub fields : bound < 2 ^ 32
  pub few : documents < 2 ^ 32
  pub rise : (field : ℕ) → AreRisingFrom 0 documents (of_key nat_cmp field entries)
  pub each : AllByRecursion (λ (entry : ℕ × (ℕ × List X)). IsValueEntry cmp Fits bound entry.0 entry.1) entries

-- fields below a bound, with documents below their number
pub record AreTextEntries (documents : ℕ) (entries : List (ℕ × ℕ)) : Type 0 where
  pub bound : ℕ
  pub fields : bound < 2 ^ 32
  pub each : AllByRecursion (λ (entry : ℕ × ℕ). (entry.0 < bound) × (entry.1 < documents)) entries
