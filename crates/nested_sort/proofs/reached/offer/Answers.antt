use Rattle.std.proofs.Common.{refl, sym, ◌∙◌}
use Rattle.nested_sort.proofs.Reaches.{kept_more, kept_passed}
use Rattle.nested_sort.proofs.reached.offer.Goals as goal

pub returns-in_ok-push : goal.returns-in_ok-push
returns-in_ok-push c = λ own direction after most all is are.
    kept_more own direction after most all c.args.kept.now.items c.push.new.self.items c.args.keys.now c.offer.new.self c.args.key c.args.hit c.requires.capped is c.in_ok-offer.ensures.narrower c.in_ok-offer.ensures.met are c.in_ok-push.ensures.items

pub returns-else-branch : goal.returns-else-branch
returns-else-branch c = λ own direction after most all is are.
    kept_passed own direction after most all c.args.kept.now.items c.args.kept.now.items c.args.keys.now c.offer.new.self c.args.key c.args.hit c.requires.capped is c.in_ok-offer.ensures.narrower c.in_ok-offer.ensures.met are (sym c.in_ok-offer.ensures.within ∙ c.if-branch.false) refl
