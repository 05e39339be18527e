use Rattle.std.proofs.Common.{map}
use Rattle.std.proofs.lemmas.List.{drop-map}
use Rattle.std.specs.Cmp.Lexicographic.{slice_cmp}
use Rattle.std.specs.Ordering.{nat_cmp}
use Rattle.segment_builder.specs.Terms.{term_entry}
use Rattle.segment_builder.proofs.Orders.{exact_bytes}
use Rattle.segment_builder.proofs.Runs.{run_behind}
use Rattle.segment_builder.proofs.rows.run_len.Goals as goal

pub entries-init : goal.entries-init
entries-init g c =
    let seen = term_entry g.T.Term.bytes g.T.Term.positions in
    rw (← drop-map seen 1 c.args.entries.now) (run_behind (slice_cmp nat_cmp) exact_bytes.total c.args.bytes.now (map seen c.args.entries.now) c.requires).1
