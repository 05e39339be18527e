use Rattle.std.proofs.Common.{◌≡◌, ◌+◌, Bool, List, false, drop, slice_index_or}
use Rattle.std.specs.List.{position_or_len}
use Rattle.segment_merge.proofs.head.scope_of.Given as goal

abbrev pub invariant-sets : goal.invariant-sets
invariant-sets l =
    l.at + position_or_len (λ (set : List Bool). slice_index_or set l.doc false) (drop l.at l.sets) ≡ position_or_len (λ (set : List Bool). slice_index_or set l.doc false) l.sets
