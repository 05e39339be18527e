use Rattle.std.proofs.Common.{arith}
use Rattle.source_growth.proofs.Puts.{written_ascend, written_smaller}
use Rattle.source_growth.proofs.form.+written.Goals as goal

pub object_of-written-requires : goal.object_of-written-requires
object_of-written-requires t c =
    let less = written_smaller c.args.forms.entries c.next.new.self c.forms.members.items c.in-Some.name c.in-Some.form (rw c.in-Some.ensures.steps at c.forms.invariant.2) in
    (omega (arith, less), tt)

pub object_of-of-requires-2 : goal.object_of-of-requires-2
object_of-of-requires-2 t c = written_ascend c.args.forms.entries c.forms.members.items c.len.ensures.ordered (rw c.in-None.ensures.steps.0 at c.forms.invariant.2)
