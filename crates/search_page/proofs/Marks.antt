-- Which documents are roots'.
use Rattle.std.proofs.Common.{◌≡◌, ℕ, ◌<◌, Bool, false, List as Seq, length, get_or, nat_eq, sym, ◌∙◌}
use Rattle.std.specs.List.{range_with_len}
use Rattle.std.proofs.lemmas.List.FromFn.{fill_by_all}
use Rattle.std.proofs.lemmas.Simd.{map-map}
use Rattle.block_bits.specs.Blocks.{has_scope}
use Rattle.segment.specs.Flat.{FlatDocument, flat_of, flats_of}
use Rattle.segment_parts.specs.declared.columns.Columns.{Columns}
use Rattle.search_page.specs.Hits.{root_marks}

abbrev scope_in : FlatDocument → ℕ
scope_in document = document.scope

-- the documents of scope 0 are the roots'
pub marks_are : (c : Columns) (flags : Seq Bool) → length flags ≡ c.documents → ((doc : ℕ) → doc < c.documents → get_or flags doc false ≡ nat_eq (flat_of c doc).scope 0) → flags ≡ root_marks c
marks_are c flags long each =
    fill_by_all (λ doc. nat_eq (flat_of c doc).scope 0) flags c.documents false long each
    ∙ sym (map-map (λ (d : FlatDocument). nat_eq d.scope 0) (flat_of c) (range_with_len 0 c.documents))
    ∙ sym (map-map (has_scope 0) scope_in (flats_of c))
