use Rattle.std.proofs.Common.{arith, refl}
use Rattle.store_opening.proofs.Grown.{none_of}
use Rattle.store_opening.proofs.Refusing.{no_head}
use Rattle.store_opening.proofs.commit.read_said.Goals as goal

pub returns-then-not-branch-clause-damaged : goal.returns-then-not-branch-clause-damaged
returns-then-not-branch-clause-damaged g c = λ refused file it m known head has.
    no_head c.record_has_one_text.ensures.once c.args.limit file c.args.at c.args.len c.in_ok-record.record (c.in_ok-record.ensures.record file known)
    (λ n own. grind (arith, c.in_ok-are_placed.ensures, c.if-not-branch.true, c.in_ok-named.ensures, c.as_slice.ensures, own.places)) it m head has

pub returns-in_default-clause-damaged : goal.returns-in_default-clause-damaged
returns-in_default-clause-damaged g c = λ refused file it m known head has.
    no_head c.record_has_one_text.ensures.once c.args.limit file c.args.at c.args.len c.in_ok-record.record (c.in_ok-record.ensures.record file known)
    (λ n own. grind (arith, c.in_ok-mapping.ensures.none (none_of c.in_ok-mapping.field-0 c.in_default.is) n, c.as_slice-2.ensures, own.mapping)) it m head has
