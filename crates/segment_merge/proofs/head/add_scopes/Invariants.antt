use Rattle.std.proofs.Common.{◌≡◌, ◌+◌, ◌<◌, ◌^◌, ◌++◌, drop, map}
use Rattle.std.specs.List.{All}
use Rattle.segment.specs.Flat.{FlatDocument, flats_of}
use Rattle.segment_merge.specs.Merged.{live_scopes_in, where_marked}
use Rattle.segment_merge.proofs.head.add_scopes.Given as goal

abbrev pub invariant-docs : goal.invariant-docs
invariant-docs l =
    (l.into.items ++ where_marked (drop l.doc l.live) (drop l.doc (map (λ (flat : FlatDocument). flat.scope) (flats_of l.part.entry.columns))) ≡ l.fn.into.items ++ live_scopes_in l.part.entry)
    × All (λ scope. scope + 1 < 2 ^ 32) l.into.items
