use Rattle.std.proofs.Common.{sym, ap, ◌∙◌}
use Rattle.doc_values.specs.Values.{values_of}
use Rattle.segment_parts.proofs.Numbered.{values_of-found, values_of-missing}
use Rattle.segment_parts.proofs.search.values_of.Goals as goal

pub returns-in-Some-clause-values : goal.returns-in-Some-clause-values
returns-in-Some-clause-values g c =
    let rows = c.as_slice-rows.result.now in
    c.as_slice.ensures.values
    ∙ sym (values_of-found rows c.in-Some.at c.args.doc c.index-rows-at.result (rw c.as_slice-rows.ensures.rows c.as_slice-rows.ensures.entries.rows_are.ascending) c.in-Some.ensures.within c.in-Some.ensures.found)
    ∙ ap (values_of c.args.doc) c.as_slice-rows.ensures.rows

pub returns-in-None-clause-values : goal.returns-in-None-clause-values
returns-in-None-clause-values g c =
    sym (values_of-missing c.as_slice-rows.result.now c.args.doc c.in-None.ensures.missing)
    ∙ ap (values_of c.args.doc) c.as_slice-rows.ensures.rows
