use Rattle.std.proofs.Common.{◌≡◌, ◌+◌, ◌++◌, ◌∷◌, [], ℤ, List, length, sym, ap, subst, ◌∙◌, append_assoc, arith, rules, w64}
use Rattle.std.proofs.lemmas.Int.{to_z-of_z}
use mir.Val.{SFits, of_z, to_z}
use Rattle.bucket_aggs.specs.Sums.{IsAdded}
use Rattle.bucket_aggs.proofs.Sums.{room_less}
use Rattle.bucket_aggs.proofs.metrics.add_each.Goals as goal

pub add-requires : goal.add-requires
add-requires c =
    room_less 1 (0 + length c.values.values) c.values.sums (omega (arith, ap (λ (l : List ℤ). length l) c.in-Some.ensures.some))
    (c.values.invariant.1 0 (room_less (0 + 4294967296) 4294967296 c.args.sums.now (omega arith) c.requires))

pub values-preserved : goal.values-preserved
values-preserved c = (
  λ start zs is.
      let was = c.values.invariant.0 start zs is in
      let z : ℤ = c.in-Some.number in
      let fits : SFits w64 z = search rules in
      let own : to_z w64 (of_z w64 z) ≡ z = to_z-of_z w64 z fits in
      let added : IsAdded start ((zs ++ was.0) ++ z ∷ []) c.add.new.self =
      subst (λ (n : ℤ). IsAdded start ((zs ++ was.0) ++ n ∷ []) c.add.new.self) own (c.add.ensures.added start (zs ++ was.0) was.1) in (
        was.0 ++ z ∷ [],
        subst (λ (l : List ℤ). IsAdded start l c.add.new.self) (append_assoc zs was.0 (z ∷ [])) added,
        append_assoc was.0 (z ∷ []) c.next.new.self ∙ ap (λ (l : List ℤ). was.0 ++ l) (sym c.in-Some.ensures.some) ∙ was.2,
      ),
  λ count room.
      c.add.ensures.room (count + length c.next.new.self)
      (room_less ((count + length c.next.new.self) + 1) (count + length c.values.values) c.values.sums (omega (arith, ap (λ (l : List ℤ). length l) c.in-Some.ensures.some))
      (c.values.invariant.1 count room)),
)
