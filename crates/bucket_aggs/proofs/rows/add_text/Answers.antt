use Rattle.std.proofs.Common.{◌≡◌, [], get_or, sym, ap, ◌∙◌, arith}
use Rattle.tree_objects.specs.declared.field_value.FieldValue.{FieldValue}
use Rattle.tree_objects.specs.declared.field_value.FieldValue.TheVariants.{Written}
use Rattle.bucket_aggs.specs.Counts.{count_if}
use Rattle.bucket_aggs.specs.declared.rows.CountRow.{CountRow}
use Rattle.bucket_aggs.proofs.Weights.{Rows}
use Rattle.bucket_aggs.proofs.rows.add_text.Goals as goal

pub returns-in_ok-add_at-in-Some-clause-counts : goal.returns-in_ok-add_at-in-Some-clause-counts
returns-in_ok-add_at-in-Some-clause-counts c = λ v.
    let d : CountRow = record { key = Written []; count = 0 } in
    let key : (get_or c.args.rows.now.items c.in-Some.at d).key ≡ Written c.args.text.now = ap (λ (l : Rows). (get_or l c.in-Some.at d).key) (sym c.as_slice.ensures.value) ∙ c.in-Some.ensures.key d in
    omega (arith, c.in_ok-add_at-in-Some.ensures.counts v d, ap (λ (k : FieldValue). count_if v k c.args.count) key)

pub returns-in_ok-add_at-in-Some-clause-keys : goal.returns-in_ok-add_at-in-Some-clause-keys
returns-in_ok-add_at-in-Some-clause-keys c = λ kind written are. c.in_ok-add_at-in-Some.ensures.keys kind are
