use Rattle.std.proofs.Common.{◌+◌, arith, ap, replicate, subst, sym, true, ◌∙◌}
use Rattle.block_bits.specs.Flags.{difference}
use Rattle.nested_sort.specs.Near.{HaveNone}
use Rattle.nested_sort.proofs.Above.{none_added, none_at_all, none_first, none_kept}
use Rattle.nested_sort.proofs.near.documents_around.Goals.{in-Some-next_set, in_default-next_set}
use Rattle.nested_sort.proofs.near.documents_around.Goals as goal

pub inner-init : goal.inner-init
inner-init c = (
  none_first c.args.parents.now c.args.inner.now c.and_not.new.self (c.and_not.ensures ∙ ap (λ flags. difference flags c.args.parents.now) (c.in_ok-set.ensures ∙ ap (λ count. replicate count true) c.len.ensures)),
  omega arith,
)

pub inner-preserved : goal.inner-preserved
inner-preserved c =
    let next = sym c.next_set.ensures.value ∙ c.in-Some.is in (
      elim c.match-next_set-2.branch [
        | in-Some-next_set w ↦ none_added c.args.parents.now c.args.inner.now c.inner.set c.inner.from c.in-Some.doc c.inner.invariant.0 next w.in-Some-next_set.parent c.match-next_set-2.set (sym c.next_set-in-Some.ensures.value ∙ w.in-Some-next_set.is) (w.set-is ∙ w.set.ensures)
        | in_default-next_set w ↦ subst (HaveNone c.args.parents.now c.args.inner.now (c.in-Some.doc + 1)) (sym w.set-is) (none_kept c.args.parents.now c.args.inner.now c.inner.set c.inner.from c.in-Some.doc c.inner.invariant.0 next (sym c.next_set-in-Some.ensures.value ∙ w.in_default-next_set.is))
      ],
      omega (arith, c.in-Some.ensures.within),
    )

pub returns : goal.returns
returns c = none_at_all c.args.parents.now c.args.inner.now c.inner.set c.inner.from c.inner.invariant.0 (sym c.next_set.ensures.value ∙ c.in_default.is) c.requires
