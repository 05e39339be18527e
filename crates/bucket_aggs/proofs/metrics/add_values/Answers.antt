use Rattle.std.proofs.Common.{◌+◌, ◌++◌, ◌∷◌, [], ℤ, List, sym, subst, arith, rules, w64}
use Rattle.std.proofs.lemmas.Int.{to_z-of_z}
use mir.Val.{SFits}
use Rattle.bucket_aggs.specs.Sums.{IsAdded}
use Rattle.bucket_aggs.proofs.Ordinals.{the_only}
use Rattle.bucket_aggs.proofs.Sums.{room_less}
use Rattle.bucket_aggs.proofs.metrics.add_values.Goals as goal

pub returns-then-len-eq1-clause-added : goal.returns-then-len-eq1-clause-added
returns-then-len-eq1-clause-added c = λ start zs was.
    let z : ℤ = c.value.result in
    let fits : SFits w64 z = search rules in
    subst (λ (l : List ℤ). IsAdded start (zs ++ l) c.add.new.self) (sym (the_only c.args.values z (omega (arith, c.len.ensures, c.if-len-eq1.true)) c.value.ensures))
    (subst (λ (n : ℤ). IsAdded start (zs ++ n ∷ []) c.add.new.self) (to_z-of_z w64 z fits) (c.add.ensures.added start zs was))

pub returns-then-len-eq1-clause-room : goal.returns-then-len-eq1-clause-room
returns-then-len-eq1-clause-room c = λ count room. c.add.ensures.room count (room_less (count + 1) (count + 4294967296) c.args.sums.now (omega arith) room)
