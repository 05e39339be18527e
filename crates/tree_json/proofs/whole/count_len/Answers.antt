use Rattle.std.proofs.Common.{arith}
use Rattle.tree_json.proofs.Digits.{one_digit, two_digits, three_digits, four_digits}
use Rattle.tree_json.proofs.whole.count_len.Goals as goal

pub returns-in-0-to-9 : goal.returns-in-0-to-9
returns-in-0-to-9 c = one_digit c.args.number (omega (arith, c.in-0-to-9))

pub returns-in-10-to-99 : goal.returns-in-10-to-99
returns-in-10-to-99 c = two_digits c.args.number (omega (arith, c.in-10-to-99)) (omega (arith, c.in-10-to-99))

pub returns-in-100-to-999 : goal.returns-in-100-to-999
returns-in-100-to-999 c = three_digits c.args.number (omega (arith, c.in-100-to-999)) (omega (arith, c.in-100-to-999))

pub returns-in-1000-to-9999 : goal.returns-in-1000-to-9999
returns-in-1000-to-9999 c = four_digits c.args.number (omega (arith, c.in-1000-to-9999)) (omega (arith, c.in-1000-to-9999))
