use Rattle.std.proofs.Common.{◌≡◌, Bool, List, take, Some, None, sym, ap, ◌∙◌, length-take-le}
use Rattle.block_bits.specs.Flags.{is_marked}
use Rattle.block_bits.specs.Places.{next_place}
use Rattle.block_bits.specs.Walks.{Walking}
use Rattle.block_join.proofs.Filling.{filling_more, filling_ends}
use Rattle.block_join.proofs.down.give.Goals as goal

pub children-preserved : goal.children-preserved
children-preserved c =
    let from = ap (λ (it : Walking). it.from) c.in-Some.ensures.found in
    let next : next_place is_marked c.children.inside.from (take c.args.end c.args.children.now) ≡ Some c.in-Some.child =
    ap (λ (bs : List Bool). next_place is_marked c.children.inside.from (take c.args.end bs)) (sym c.children.invariant.0) ∙ sym c.next_before.ensures.value ∙ c.in-Some.is in (
      ap (λ (it : Walking). it.documents) c.in-Some.ensures.found ∙ c.children.invariant.0,
      c.push.ensures.len ∙ c.children.invariant.1,
      rw from
          (filling_more c.args.score (take c.args.end c.args.children.now) c.args.hits.now.done c.children.hits.done c.push.new.self.done c.args.start c.children.inside.from c.args.end c.in-Some.child
          c.children.invariant.2 next c.in-Some.ensures.within.1 c.in_ok-push.ensures.done),
    )

pub returns-clause-done : goal.returns-clause-done
returns-clause-done c =
    let none : next_place is_marked c.children.inside.from (take c.args.end c.args.children.now) ≡ None =
    ap (λ (bs : List Bool). next_place is_marked c.children.inside.from (take c.args.end bs)) (sym c.children.invariant.0) ∙ sym c.next_before.ensures.value ∙ c.in_default.is in
    filling_ends c.args.score (take c.args.end c.args.children.now) c.args.hits.now.done c.children.hits.done c.args.start c.children.inside.from c.args.end
    c.children.invariant.2 none (length-take-le c.args.end c.args.children.now c.requires.within)
