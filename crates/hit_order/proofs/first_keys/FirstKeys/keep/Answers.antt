use Rattle.std.proofs.Common.{◌++◌, ◌∷◌, []}
use Rattle.std.specs.Prelude.{option_map}
use Rattle.hit_order.specs.Shown.{key_shown}
use Rattle.hit_order.specs.Table.{number_or_null}
use Rattle.hit_order.proofs.Meeting.{keep_met}
use Rattle.hit_order.proofs.first_keys.FirstKeys.keep.Goals as goal

pub returns-then-len-self-clause-met : goal.returns-then-len-self-clause-met
returns-then-len-self-clause-met c =
    let s = c.self.inside in
    keep_met s.direction (option_map key_shown s.after) s.most s.bound s.keys.items c.push.new.self.items c.args.key c.args.self.now c.self.view_is c.requires.next c.in_ok-push.ensures.items

pub returns-clause-met : goal.returns-clause-met
returns-clause-met c = λ all are.
    let s = c.self.inside in
    c.narrow.ensures.met (all ++ number_or_null c.args.key ∷ [])
    (keep_met s.direction (option_map key_shown s.after) s.most s.bound s.keys.items c.push.new.self.items c.args.key c.args.self.now c.self.view_is c.requires.next c.in_ok-push.ensures.items all are)
