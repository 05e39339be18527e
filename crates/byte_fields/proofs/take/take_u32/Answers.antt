use Rattle.std.proofs.Common.{rules, ◌≡◌, take, drop, length}
use Rattle.byte_fields.proofs.Spelled.{u32_from, small_part}
use Rattle.byte_fields.proofs.take.take_u32.Goals as goal

pub returns-clause-spelled : goal.returns-clause-spelled
returns-clause-spelled c =
    let here : c.in_ok-bytes.bytes.now ≡ take 4 (drop c.args.at c.args.from.now) = search rules in
    let long : length c.in_ok-bytes.bytes.now ≡ 4 = search rules in
    u32_from c.args.from.now c.in_ok-bytes.bytes.now c.args.at c.from_le_bytes.result long
    (small_part c.args.from.now c.in_ok-bytes.bytes.now c.args.at 4 c.type_inv.from here)
    c.from_le_bytes.ensures here
