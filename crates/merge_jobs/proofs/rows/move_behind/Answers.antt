use Rattle.std.proofs.Common.{◌<◌, ℕ, length, slice_index_or, ap, ◌∙◌, arith}
use Rattle.std.proofs.lemmas.List.{length-map, map-set}
use Rattle.layout.specs.Layout.{OpenMerge}
use Rattle.merge_policy.specs.Runs.{moved}
use Rattle.merge_jobs.specs.Open.{merge_shown, merges_shown}
use Rattle.merge_jobs.specs.declared.rows.MergeRow.{MergeRow}
use Rattle.merge_jobs.proofs.Moved.{next_length, next_set, shown_at}
use Rattle.merge_jobs.proofs.rows.move_behind.Goals as goal

pub rows-preserved : goal.rows-preserved
rows-preserved c =
    let items = c.rows.row-items in
    let index = c.rows.row-index in
    let d : MergeRow = record { count = 0; from = 0; left = 0; merge = 0 } in
    let row = slice_index_or items index d in
    let put : MergeRow = record { count = row.count; from = c.count_before-row.result; left = row.left; merge = row.merge } in
    let within : index < length (merges_shown items) = omega (arith, c.rows-test.true, ap length c.deref_mut-row-items.ensures.value, ap length c.rows.invariant, next_length (moved c.args.runs.now) (merges_shown c.args.rows.now.items) index, length-map c.args.rows.now.items merge_shown) in
    map-set merge_shown items index put
    ∙ next_set (moved c.args.runs.now) (merges_shown c.args.rows.now.items) (merges_shown items) index (merge_shown row) (merge_shown put) (merge_shown d) c.rows.invariant within (shown_at items index d)
    (ap (λ (n : ℕ). let m : OpenMerge = record (merge_shown row) { from = n } in m) c.count_before-row.ensures)
