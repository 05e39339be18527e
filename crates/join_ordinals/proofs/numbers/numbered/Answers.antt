use Rattle.std.proofs.Common.{◌≡◌, ◌<◌, ◌≤◌, List, ℕ, ap, arith, get_or, length, sym, ◌∙◌}
use Rattle.std.proofs.lemmas.List.{get_or_default}
use Rattle.join_ordinals.proofs.Renumbering.{new_number, numbering_all, old_number, one_longer}
use Rattle.join_ordinals.proofs.numbers.numbered.Goals as goal
use Rattle.join_ordinals.proofs.numbers.numbered.Goals.{then-first-len+in_ok-push, else-first-len+in_ok-push-2}

pub firsts-preserved : goal.firsts-preserved
firsts-preserved c =
    let ids = c.args.ids.now in
    let firsts : List ℕ = c.args.firsts.now in
    let numbers : List ℕ = c.firsts.numbers.items in
    let first : ℕ = get_or firsts c.firsts.first-index 0 in
    let below : length numbers < length ids = omega (arith, c.firsts-test.true, c.firsts.invariant.1, c.requires.long) in
    let is : first ≡ get_or firsts (length numbers) 0 = ap (λ (k : ℕ). get_or firsts k 0) (sym c.firsts.invariant.1) in
    elim c.if-first-len.branch [
      | then-first-len+in_ok-push w ↦
          let before : first < length numbers = omega (arith, w.if-first-len.true, c.len.ensures, c.firsts.numbers.ok.0) in (
            old_number ids numbers firsts c.firsts.count first w.index.result.now c.requires c.firsts.invariant.0 below is before (w.index.ensures ∙ get_or_default numbers first w.index.result.now 0 before) c.if-first-len.numbers.items c.if-first-len.count
                (ap (λ v. v.items) w.numbers-is ∙ w.in_ok-push.ensures.items) w.count-is,
            one_longer numbers c.if-first-len.numbers.items w.index.result.now c.firsts.first-index (ap (λ v. v.items) w.numbers-is ∙ w.in_ok-push.ensures.items) c.firsts.invariant.1,
          )
      | else-first-len+in_ok-push-2 w ↦
          let past : length numbers ≤ first = omega (arith, w.if-first-len.false, c.len.ensures, c.firsts.numbers.ok.0) in (
            new_number ids numbers firsts c.firsts.count first c.requires c.firsts.invariant.0 below is past c.if-first-len.numbers.items c.if-first-len.count
                (ap (λ v. v.items) w.numbers-is ∙ w.in_ok-push-2.ensures.items) w.count-is,
            one_longer numbers c.if-first-len.numbers.items c.firsts.count c.firsts.first-index (ap (λ v. v.items) w.numbers-is ∙ w.in_ok-push-2.ensures.items) c.firsts.invariant.1,
          )
    ]

pub returns : goal.returns
returns c =
    numbering_all c.args.ids.now c.firsts.numbers.items c.firsts.count c.firsts.invariant.0
    (omega (arith, c.firsts.invariant.1, c.firsts-test.false, c.firsts.auto.first-index-end, c.requires.long))
