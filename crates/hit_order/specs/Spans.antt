-- How texts are kept: one behind another in one string of bytes.
use Rattle.std.specs.Prelude.{ℕ, ◌≤◌, List, length, Option, Some, None, ⊤, All}
use Rattle.std.specs.List.{slice_range}
use Rattle.hit_order.specs.declared.keys.Span.{Span}

abbrev pub text_in : List ℕ → Option Span → Option (List ℕ)
text_in bytes None = None
text_in bytes (Some span) = Some (slice_range bytes span.start span.end)

abbrev pub IsSpan : ℕ → Option Span → Type 0
IsSpan count None = ⊤
IsSpan count (Some span) = (span.start ≤ span.end) × (span.end ≤ count)

pub record AreSpans (bytes : List ℕ) (spans : List (Option Span)) : Type 0 where
  pub within : All (IsSpan (length bytes)) spans
