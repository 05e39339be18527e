use Rattle.std.proofs.Common.{◌≡◌, ℕ, ◌+◌, ◌<◌, List as Seq, get_or, Less}
use denote.Ref.{Bor}
use Rattle.search_walk.proofs.Rising.{by_length}
use Rattle.search_walk.proofs.limit.are_rising.Given as goal

-- each name behind the one before it, of those so far
abbrev pub invariant-names : goal.invariant-names
invariant-names l =
    (k : ℕ) (d : Bor (Seq ℕ)) → k + 1 < l.index → by_length (get_or l.names k d).now (get_or l.names (k + 1) d).now ≡ Less
