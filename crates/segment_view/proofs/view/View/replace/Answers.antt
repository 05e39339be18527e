use Rattle.segment_view.proofs.Ids.{own_view}
use Rattle.segment_view.proofs.view.View.replace.Goals as goal

pub invariant_of-self-2 : goal.invariant_of-self-2
invariant_of-self-2 c = own_view _ _ _ c.args.from c.args.count c.args.by c.self.view_is c.in_ok-replace_in.ensures.replaced c.self.invariant c.requires.new_id c.have_own_bits.ensures
