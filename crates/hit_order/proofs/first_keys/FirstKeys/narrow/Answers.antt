use Rattle.std.proofs.Common.{sym, subst, ◌∙◌}
use Rattle.std.specs.Prelude.{option_map}
use Rattle.hit_order.specs.Reach.{AreMet, is_near}
use Rattle.hit_order.specs.Shown.{key_shown}
use Rattle.hit_order.specs.Table.{number_or_null}
use Rattle.hit_order.proofs.Meeting.{all_near_last, keep_cut, least_of, met_fewer, met_of, narrower}
use Rattle.hit_order.proofs.Reaching.{key_order}
use Rattle.hit_order.proofs.first_keys.FirstKeys.narrow.Goals as goal

pub invariant_of-self : goal.invariant_of-self
invariant_of-self c = (all_near_last c.self.inside.direction c.in-Some.last c.cut-last.new.keys.items (least_of c.self.inside.direction c.cut-last.new.keys.items c.cut-last.result c.in-Some.last c.in-Some.is c.cut-last.ensures.least), c.cut-last.ensures.empty, c.cut-last.ensures.fits)

pub invariant_of-self-in_default : goal.invariant_of-self-in_default
invariant_of-self-in_default c =
    let s = c.self.inside in
    (c.cut-last.ensures.all (is_near s.direction (option_map number_or_null s.bound)) c.self.invariant.0, c.cut-last.ensures.empty, c.cut-last.ensures.fits)

pub returns-in-Some-clause-narrower : goal.returns-in-Some-clause-narrower
returns-in-Some-clause-narrower c =
    let s = c.self.inside in
    narrower s.direction (key_order s.direction c.rows_stand_in_order.ensures.order) (option_map key_shown s.after) s.most s.bound s.keys.items c.cut-last.new.keys.items c.in-Some.last c.args.self.now c.self.view_is
    (c.cut-last.ensures.all (is_near s.direction (option_map number_or_null s.bound)) c.self.invariant.0)
    (sym c.in-Some.is ∙ c.cut-last.ensures.last)

pub returns-in-Some-clause-met : goal.returns-in-Some-clause-met
returns-in-Some-clause-met c = λ all are.
    let s = c.self.inside in
    keep_cut s.direction (option_map key_shown s.after) s.most s.bound s.keys.items c.cut-last.new.keys.items c.in-Some.last c.cut-last.ensures.counted c.cut-last.ensures.long
    (least_of s.direction c.cut-last.new.keys.items c.cut-last.result c.in-Some.last c.in-Some.is c.cut-last.ensures.least) all
    (subst (AreMet all) (sym c.self.view_is) are)

pub returns-in_default-clause-met : goal.returns-in_default-clause-met
returns-in_default-clause-met c = λ all are.
    let s = c.self.inside in
    met_fewer all (met_of s.direction (option_map key_shown s.after) s.most s.bound s.keys.items) _ c.cut-last.ensures.counted (subst (AreMet all) (sym c.self.view_is) are)
