-- A record and a segment, found by their bytes.
use Rattle.std.proofs.Common.{◌≡◌, ℕ, Bool, List, length, Option, Some, IfSome, sym, ◌∙◌, ap, subst}
use Rattle.extent_pool.specs.declared.extent.Extent.{Extent}
use Rattle.segment_parts.specs.declared.columns.Columns.{Columns}
use Rattle.store_text.specs.Pieces.{Stands}
use Rattle.store_text.specs.Record.{record_text, IsRecord}
use Rattle.store_text.specs.declared.record.RecordText.{RecordText}
use Rattle.store_opening.specs.Looking.{IsFound}
use Rattle.store_opening.specs.Read.{HasRecord}
use Rattle.store_opening.specs.Segments.{HasSegment, IsSegmentText}

pub record_of : (slice : List ℕ) (found : Option RecordText) (it : RecordText) → found ≡ Some it
    → IfSome found (λ x. IsRecord x × (slice ≡ record_text x)) → IsRecord it × (slice ≡ record_text it)
record_of slice found it is says = subst (λ (o : Option RecordText). IfSome o (λ x. IsRecord x × (slice ≡ record_text x))) is says

pub record_found : (file : List ℕ) (at len : ℕ) (bytes slice : List ℕ) (it : RecordText) → IsFound file at len bytes → slice ≡ bytes
    → IsRecord it × (slice ≡ record_text it) → HasRecord at len it file
record_found file at len bytes slice it found same says =
    let text : bytes ≡ record_text it = sym same ∙ says.1 in
    record {
      numbers = says.0;
      long = ap length (sym text) ∙ found.long;
      stands = subst (λ (x : List ℕ). Stands file (record { at = at; bytes = x })) text found.stands;
    }

pub segment_found : (file : List ℕ) (old : Bool) (scope_count : ℕ) (extent : Extent) (columns : Columns) (bytes : List ℕ)
    → IsFound file extent.at extent.len bytes → IsSegmentText old scope_count columns bytes → HasSegment old scope_count extent columns file
segment_found file old scope_count extent columns bytes found is = record { bytes = bytes; found = found; is = is }
