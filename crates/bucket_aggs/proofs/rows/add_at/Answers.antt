use Rattle.std.proofs.Common.{◌≡◌, get_or, sym, ap, ◌∙◌, arith}
use Rattle.std.proofs.lemmas.List.{get_or_default}
use Rattle.bucket_aggs.specs.Counts.{count_if}
use Rattle.bucket_aggs.specs.declared.rows.CountRow.{CountRow}
use Rattle.bucket_aggs.proofs.Weights.{Rows, keys_set, weight_set}
use Rattle.bucket_aggs.proofs.rows.add_at.Goals as goal

pub returns-clause-counts : goal.returns-clause-counts
returns-clause-counts c = λ v d.
    let rows : Rows = c.args.rows.now.items in
    let old : CountRow = c.index_mut-row.result.now in
    let same : get_or rows c.args.at d ≡ old = get_or_default rows c.args.at d old c.requires ∙ sym c.index_mut-row.ensures.value in
    omega (
      arith,
      weight_set v rows c.args.at old c.args.count c.in-Some.sum c.requires c.index_mut-row.ensures.value c.in-Some.ensures.1,
      ap (λ (row : CountRow). count_if v row.key c.args.count) same,
    )

pub returns-clause-keys : goal.returns-clause-keys
returns-clause-keys c = λ kind are.
    keys_set kind c.args.rows.now.items c.args.at c.index_mut-row.result.now c.args.count c.in-Some.sum c.requires c.index_mut-row.ensures.value c.in-Some.ensures.1 are
