use Rattle.std.proofs.Common.{arith}
use Rattle.hit_order.proofs.Texts.{text_added, texts_unchanged, on_err}
use Rattle.hit_order.proofs.keys.TextKeys.push_text.Goals as goal

pub returns-in_err-push-clause-unchanged : goal.returns-in_err-push-clause-unchanged
returns-in_err-push-clause-unchanged c =
    on_err _ _ (texts_unchanged c.self.inside.bytes.items c.args.text.now c.extend_from_slice.new.self.items c.self.inside.spans.items c.push.new.self.items c.args.self.now
    c.self.invariant c.self.view_is c.in_ok-extend_from_slice.ensures.items c.in_err-push.ensures.items)

pub returns-clause-pushed : goal.returns-clause-pushed
returns-clause-pushed c =
    text_added c.self.inside.bytes.items c.args.text.now c.extend_from_slice.new.self.items c.self.inside.spans.items c.push.new.self.items c.len-start.result c.len-end.result c.args.self.now
    c.self.invariant c.self.view_is c.in_ok-extend_from_slice.ensures.items (omega arith) (omega arith) c.in_ok-push.ensures.items
