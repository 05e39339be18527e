use Rattle.std.proofs.Common.{◌+◌, ap, arith}
use Rattle.bucket_aggs.proofs.Ordinals.{left_at_start, list_alone, one_left}
use Rattle.bucket_aggs.proofs.columns.count_each.Goals as goal

pub returns : goal.returns
returns c = record {
  long = c.values.invariant.0;
  each = λ k low.
      omega (
        arith,
        c.values.invariant.1 k low,
        left_at_start (c.args.first + k) c.args.values c.requires,
        list_alone (c.args.first + k) c.args.values,
        ap (one_left (c.args.first + k) c.values.before) c.in_default.ensures.none.0,
      );
}
