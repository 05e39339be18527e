use Rattle.std.proofs.Common.{◌≡◌, ℕ, ◌+◌, ◌-◌, Bool, sym, subst, arith}
use Rattle.commit_store.specs.Moving.{IsOffered}
use Rattle.store_compact.specs.Moves.{IsOffering}
use Rattle.store_compact.proofs.Offering.{ended, may_offer, offered_kept, offered_moved, stopped}
use Rattle.store_compact.proofs.moves.offer_last.Goals as goal
use Rattle.store_compact.proofs.moves.offer_last.Goals.{then-branch, else-branch}

pub returns-in_default-clause-moved : goal.returns-in_default-clause-moved
returns-in_default-clause-moved c =
    stopped c.args.store.now c.args.most c.offers.left c.offers.count c.offers.at c.args.prepared.now c.offers.prepared c.offers.invariant c.in_default.ensures

pub offer-requires-clause-stays : goal.offer-requires-clause-stays
offer-requires-clause-stays c =
    may_offer c.args.store.now c.args.most c.offers.left c.offers.count c.offers.at c.args.prepared.now c.offers.prepared c.in-Some.last c.offers.invariant c.in-Some.ensures

pub offers-preserved : goal.offers-preserved
offers-preserved c =
    let same : c.offers.left ≡ c.offers.left - 1 + 1 = omega (arith, c.offers-test.true) in
    elim c.if-branch.branch [
      | then-branch w ↦
          offered_moved c.order_makes_no_difference.ensures.moved c.args.store.now c.args.most c.offers.left (c.offers.left - 1) c.offers.count c.if-branch.count c.offers.at c.args.prepared.now
          c.offers.prepared c.offer.new.self c.in-Some.last same w.count-is c.offers.invariant c.in-Some.ensures
          (subst (λ (moved : Bool). IsOffered moved c.in-Some.last.place c.offers.prepared c.offer.new.self) w.if-branch.true c.in_ok-offer.ensures.offered)
          c.in_ok-offer.ensures.by c.in_ok-offer.ensures.says
      | else-branch w ↦
          subst (λ (n : ℕ). IsOffering c.args.store.now c.args.most (c.offers.left - 1) n c.in-Some.last.extent.at c.args.prepared.now c.offer.new.self) (sym w.count-is)
          (offered_kept c.args.store.now c.args.most c.offers.left (c.offers.left - 1) c.offers.count c.offers.at c.args.prepared.now c.offers.prepared c.offer.new.self c.in-Some.last same
          c.offers.invariant c.in-Some.ensures
          (subst (λ (moved : Bool). IsOffered moved c.in-Some.last.place c.offers.prepared c.offer.new.self) w.if-branch.false c.in_ok-offer.ensures.offered))
    ]

pub returns-clause-moved : goal.returns-clause-moved
returns-clause-moved c =
    let done : c.offers.left ≡ 0 = omega (arith, c.offers-test.false) in
    ended c.args.store.now c.args.most c.offers.left c.offers.count c.offers.at c.args.prepared.now c.offers.prepared c.offers.invariant done
