use Rattle.std.proofs.Common.{◌++◌, ap, sym, ◌∙◌}
use Rattle.doc_values.specs.Values.{values_of}
use Rattle.nested_sort.proofs.Marked.{values_more, values_none}
use Rattle.nested_sort.proofs.inside.gather_last.Goals as goal

pub inside-preserved : goal.inside-preserved
inside-preserved g c =
    values_more (λ inside. values_of inside c.args.column.now) c.inside.from c.args.end c.in-Some.doc c.args.passing.now c.inside.values.items c.add.new.values.items _
    (sym c.next_set_before.ensures.value ∙ c.in-Some.is) c.inside.invariant (c.in_ok-add.ensures ∙ ap (λ values. c.inside.values.items ++ values) c.values.ensures.values)

pub returns : goal.returns
returns g c =
    values_none (λ inside. values_of inside c.args.column.now) c.inside.from c.args.end c.args.passing.now c.inside.values.items _
    (sym c.next_set_before.ensures.value ∙ c.in_default.is) c.inside.invariant
