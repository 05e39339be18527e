use Rattle.std.proofs.Common.{FitsSigned, w64, rules}
use Rattle.std.proofs.lemmas.List.Sorted.{length_permutation}
use Rattle.nested_sort.proofs.Middle.{ascending, median_is, no_number, own_key}
use Rattle.nested_sort.proofs.modes.median.Goals as goal

pub returns : goal.returns
returns c =
    let fits : FitsSigned w64 c.middle_of-middle.result = search rules in
    median_is c.args.values.now.items c.sort.new.self.items c.as_slice-sorted.result.now c.middle_of-middle.result fits
    (c.rows_stand_in_order.ensures.only own_key no_number ascending)
    c.in_ok-sort.ensures.sorted c.in_ok-sort.ensures.stable c.as_slice-sorted.ensures.value (length_permutation c.args.values.now.items c.sort.new.self.items c.in_ok-sort.ensures.permutation) c.middle_of-middle.ensures
