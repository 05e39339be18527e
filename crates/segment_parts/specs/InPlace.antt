-- A segment's bytes with the places of its parts.
use Rattle.std.specs.Prelude.{◌≡◌, FitsSigned}
use Rattle.std.specs.List.{All}
use Rattle.std.specs.Int.{w64}
use Rattle.std.specs.Ordering.{nat_cmp, int_cmp}
use Rattle.part_text.specs.Text.{u64_text, i64_text}
use Rattle.part_text.specs.Reading.{u64_at, i64_at}
use Rattle.stored_sources.specs.Stands.{Belong}
use Rattle.doc_values.specs.Values.{IsOrdinal}
use Rattle.postings.specs.Skips.{AreSkips}
use Rattle.segment_parts.specs.Text.{segment_text}
use Rattle.segment_parts.specs.Parts.{AreParts}
use Rattle.segment_parts.specs.Kept.{columns_in, IsKept}
use Rattle.segment_parts.specs.Rows.{roots_in, terms_in, AreTermsKept}
use Rattle.segment_parts.specs.declared.columns.Columns.{Columns}
use Rattle.segment_parts.specs.declared.parts.Parts.TheInside.{Inside}

-- the columns that stand there; the bits of scopes and text fields are kept beside the bytes
abbrev pub columns_of : Inside → Columns
columns_of it = record {
  documents = it.documents;
  scopes = it.scopes;
  roots = roots_in it.bytes.items it.roots;
  terms = terms_in it.bytes.items it.terms;
  ordinals = columns_in nat_cmp u64_at it.bytes.items it.ordinals;
  numbers = columns_in int_cmp i64_at it.bytes.items it.numbers;
  present = it.present;
}

-- the bytes are the text of the columns, and the places are those of its parts
pub record IsInPlace (it : Inside) : Type 0 where
  pub are : AreParts (columns_of it)
  pub text : it.bytes.items ≡ segment_text (columns_of it)
  pub roots_kept : Belong it.bytes.items it.roots (roots_in it.bytes.items it.roots)
  pub terms_kept : AreTermsKept it.bytes.items it.terms
  pub skips_kept : AreSkips it.bytes.items it.terms it.skips
  pub ordinals_kept : All (IsKept nat_cmp IsOrdinal u64_text u64_at it.bytes.items) it.ordinals
  pub numbers_kept : All (IsKept int_cmp (FitsSigned w64) i64_text i64_at it.bytes.items) it.numbers
