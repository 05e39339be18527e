use Rattle.std.proofs.Common.{◌≡◌, Some, true, false, get_or, sym, ap, ◌∙◌}
use Rattle.block_bits.specs.Flags.{cleared}
use Rattle.block_join.specs.Kept.{holder}
use Rattle.block_join.specs.Scores.{filled}
use Rattle.block_join.proofs.Holding.{holding_ends, holding_hit, holding_none, start_behind_from}
use Rattle.block_join.proofs.down.held.Goals.{then-has, else-has}
use Rattle.block_join.proofs.down.held.Goals as goal

pub clear_range-requires-clause-ordered : goal.clear_range-requires-clause-ordered
clear_range-requires-clause-ordered c =
    let next : holder c.args.parents.now c.args.hits.now c.hits.from ≡ Some c.in-Some.at = sym c.holder.ensures.value ∙ c.in-Some.is in
    elim c.if-has.branch [
      | then-has w ↦
          rw w.start-is
          (start_behind_from c.args.parents.now c.args.children.now c.args.hits.now c.hits.set c.hits.from c.in-Some.at c.start_of-inside.result c.hits.invariant c.requires.documents c.requires.inner
          next c.in-Some.ensures.within.0 c.in-Some.ensures.within.1 c.start_of-inside.ensures)
      | else-has w ↦ rw w.start-is c.in-Some.ensures.within.0
    ]

pub hits-preserved : goal.hits-preserved
hits-preserved c =
    let next : holder c.args.parents.now c.args.hits.now c.hits.from ≡ Some c.in-Some.at = sym c.holder.ensures.value ∙ c.in-Some.is in
    elim c.if-has.branch [
      | then-has w ↦
          let hit : get_or c.args.hits.now c.in-Some.at false ≡ true = sym c.has.ensures ∙ w.if-has.true in
          rw (c.clear.ensures, c.clear_range.ensures, w.start-is)
          (holding_hit c.args.parents.now c.args.children.now c.args.hits.now c.hits.set c.hits.from c.in-Some.at c.start_of-inside.result c.hits.invariant c.requires.documents c.requires.inner
          next c.in-Some.ensures.within.0 c.in-Some.ensures.within.1 c.start_of-inside.ensures hit)
      | else-has w ↦
          let miss : get_or c.args.hits.now c.in-Some.at false ≡ false = sym c.has.ensures ∙ w.if-has.false in
          rw (c.clear.ensures, c.clear_range.ensures, w.start-is)
          (holding_none c.args.parents.now c.args.children.now c.args.hits.now c.hits.set c.hits.from c.in-Some.at c.start_of-inside.result c.hits.invariant c.requires.documents c.requires.inner
          next c.in-Some.ensures.within.0 c.in-Some.ensures.within.1 c.start_of-inside.ensures miss)
    ]

pub returns-clause-held : goal.returns-clause-held
returns-clause-held c = λ scopes from to score apart is has.
    ap (filled (Some score)) (c.clear_range-2.ensures ∙ ap (λ n. cleared c.hits.from n c.hits.set) c.len-len.ensures)
    ∙ holding_ends c.args.parents.now c.args.children.now c.args.hits.now c.hits.set c.hits.from c.hits.invariant c.requires.documents c.requires.inner
    (sym c.holder.ensures.value ∙ c.in_default.is) scopes from to score apart is has
