use Rattle.std.proofs.Common.{rules, refl, sym, ◌∙◌}
use Rattle.std.proofs.lemmas.Cmp.{nat_cmp_total}
use Rattle.std.specs.Ordering.{nat_cmp}
use Rattle.segment_builder.proofs.InOrder.{are_groups, none_ordered}
use Rattle.segment_builder.proofs.Inserted.{gathered_all}
use Rattle.segment_builder.proofs.by_field.grouped_by_field.Goals as goal

pub entries-init : goal.entries-init
entries-init g c = (tt, tt, (λ any. search rules), none_ordered nat_cmp nat_cmp_total _ (rw c.new-groups.ensures.items refl))

pub returns : goal.returns
returns g c = are_groups nat_cmp nat_cmp_total _ _ (λ any. gathered_all any _ _ _ (sym c.entries.field-iterator.rest.ok.0 ∙ c.in-None.ensures.steps.0) (c.entries.invariant.2 any)) c.entries.invariant.3
