use Rattle.std.proofs.Common.{◌≡◌, map}
use Rattle.std.specs.List.{All, range_with_len}
use Rattle.segment.specs.Ids.{id_of}
use Rattle.segment.proofs.by_id.named_roots.Given as goal

abbrev pub invariant-roots : goal.invariant-roots
invariant-roots l =
    (map (λ one. one.root) l.named.items ≡ range_with_len 0 l.root)
    × All (λ one. one.id.now ≡ id_of l.sources one.root) l.named.items
