use Rattle.std.proofs.Common.{◌≡◌, ◌++◌, drop, length, map}
use Rattle.std.specs.List.{flat_map}
use Rattle.part_text.specs.Text.{u32_text, u64_text}
use Rattle.segment_builder.specs.Columns.{ordinal_of, terms_lent}
use Rattle.segment_builder.specs.Entries.{bytes_lent}
use Rattle.segment_builder.proofs.ordinals.put_entry.Given as goal

abbrev pub invariant-values : goal.invariant-values
invariant-values l =
    l.into.items ++ flat_map u64_text (map (λ bytes. ordinal_of (terms_lent l.terms) (l.field, bytes)) (bytes_lent (drop l.value-index l.values)))
    ≡ ((l.fn.into.items ++ u32_text l.doc) ++ u32_text (length l.values)) ++ flat_map u64_text (map (λ bytes. ordinal_of (terms_lent l.terms) (l.field, bytes)) (bytes_lent l.values))
