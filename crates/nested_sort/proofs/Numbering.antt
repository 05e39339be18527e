-- The sequence numbers of roots.
use Rattle.std.specs.Prelude.{◌≡◌, ◌==◌, ℕ, zero, suc, ◌<◌, ◌≤◌, ◌^◌, false, List, [], ◌∷◌, length, map, slice_index_or}
use Rattle.std.proofs.Common.{arith, ap, ◌∙◌}
use Rattle.block_bits.specs.Blocks.{documents_of}
use Rattle.flattener.specs.Fits.{AreRootsOf, SegmentFits}
use Rattle.mapping.specs.Mapping.{Mapping}
use Rattle.query_eval.specs.Folds.{scopes_in}
use Rattle.segment.specs.Flat.{FlatDocument, flat_of, flat_root}
use Rattle.segment.specs.Live.{root_of as block_root}
use Rattle.segment_parts.specs.Agree.{AreColumns}
use Rattle.segment_parts.specs.Parts.{root_flags}
use Rattle.segment_parts.specs.declared.columns.Columns.{Columns}
use Rattle.stored_sources.specs.Roots.{root_of}
use Rattle.stored_sources.specs.declared.root.Root.{Root}
use Rattle.nested_sort.specs.Documents.{number_in}
use Rattle.nested_sort.proofs.Scopes.{set_is}

flags_are : (c : Columns) → AreColumns c → ((scope doc : ℕ) → scope < length c.scopes → doc < c.documents → slice_index_or (slice_index_or c.scopes scope []) doc false ≡ ((flat_of c doc).scope == scope)) → root_flags c.scopes ≡ documents_of (scopes_in c) 0
flags_are c agree sets =
    let low : 0 < length c.scopes = let some = agree.parts.head.some in omega arith in
    set_is c 0 (slice_index_or c.scopes 0 []) (agree.parts.head.long 0 [] low) (λ doc inside. sets 0 doc low inside)

pub number_known : (c : Columns) (doc root number : ℕ) → AreColumns c → ((scope doc : ℕ) → scope < length c.scopes → doc < c.documents → slice_index_or (slice_index_or c.scopes scope []) doc false ≡ ((flat_of c doc).scope == scope))
    → root ≡ block_root (root_flags c.scopes) doc → number ≡ (root_of c.roots root).number → number ≡ number_in c doc
number_known c doc root number agree sets at is =
    is ∙ ap (λ k. (root_of c.roots k).number) at ∙ ap (λ flags. (root_of c.roots (block_root flags doc)).number) (flags_are c agree sets)

small_at : (m : Mapping) (roots : List Root) (blocks : List (List FlatDocument)) (k : ℕ) → AreRootsOf m (map flat_root roots) blocks → k < length roots → (root_of roots k).number ≤ 2 ^ 62
small_at m [] blocks k are low = absurd (omega arith)
small_at m (r ∷ roots) [] k are low = absurd are
small_at m (r ∷ roots) (b ∷ blocks) zero are low = are.0.number
small_at m (r ∷ roots) (b ∷ blocks) (suc k) are low = small_at m roots blocks k are.1 (omega arith)

pub number_small : (m : Mapping) (c : Columns) (root number : ℕ) → SegmentFits m c → root < length c.roots → number ≡ (root_of c.roots root).number → number ≤ 2 ^ 62
number_small m c root number fits low is = let small = small_at m c.roots fits.blocks root fits.roots low in omega arith
