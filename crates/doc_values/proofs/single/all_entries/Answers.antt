use Rattle.std.proofs.Common.{◌-◌, arith, drop}
use Rattle.std.proofs.lemmas.List.{length-drop, length-take-le}
use Rattle.doc_values.proofs.single.all_entries.Goals as goal

pub returns-clause-long : goal.returns-clause-long
returns-clause-long c =
    let first = c.entry_ends-ends.result.0 in
    let end = c.entry_ends-ends.result.1 in
    omega (arith, c.entry_ends-ends.ensures.apart, length-take-le (end - first) (drop first c.args.bytes.now) (omega (arith, c.entry_ends-ends.ensures.within, length-drop first c.args.bytes.now)))
