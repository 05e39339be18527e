use Rattle.std.proofs.Common.{ℕ, List, [], ◌∷◌, sym, subst, arith}
use Rattle.bucket_aggs.specs.Counts.{Counted}
use Rattle.bucket_aggs.proofs.Ordinals.{the_only}
use Rattle.bucket_aggs.proofs.columns.count_values.Goals as goal

pub returns-then-len-eq1 : goal.returns-then-len-eq1
returns-then-len-eq1 c =
    subst (λ (ordinals : List ℕ). Counted c.args.first (ordinals ∷ []) c.args.counts.now.items c.count_one.new.counts.items)
    (sym (the_only c.args.values c.value.result (omega (arith, c.len.ensures, c.if-len-eq1.true)) c.value.ensures)) c.in_ok-count_one.ensures
