use Rattle.std.proofs.Common.{arith}
use Rattle.part_text.specs.Reads.{IsBytes}
use Rattle.segment_parts.specs.Once.{taken_u32, nowhere_u32}
use Rattle.segment_parts.proofs.taken.number_at.Goals as goal

pub returns-in_default-clause-nowhere : goal.returns-in_default-clause-nowhere
returns-in_default-clause-nowhere c = λ _. nowhere_u32 c.args.bytes.now c.in_default.ensures

pub returns-clause-taken : goal.returns-clause-taken
returns-clause-taken c =
    let bytes : IsBytes c.args.bytes.now = λ i. omega (arith, c.type_inv.bytes i) in
    taken_u32 c.args.bytes.now c.in-Some.number c.in-Some.rest.now bytes c.in-Some.ensures
