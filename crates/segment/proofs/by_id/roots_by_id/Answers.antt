use Rattle.std.proofs.Common.{rules, ◌∙◌, ap, map}
use Rattle.std.proofs.lemmas.Cmp.{nat_list_cmp_total}
use Rattle.std.proofs.lemmas.List.Sorted.{answers_always, ranks_by}
use Rattle.segment.specs.declared.by_id.Named.{Named}
use Rattle.segment.proofs.ById.{sorted_by_id}
use Rattle.segment.proofs.by_id.roots_by_id.Goals as goal

pub returns : goal.returns
returns c =
    sorted_by_id c.args.sources.now c.in_ok-named.named.items c.sort_by.new.self.items c.in_ok-roots_of.field-0.items c.in_ok-named.ensures.roots c.in_ok-named.ensures.ids
    c.in_ok-sort_by.ensures.permutation
    (c.in_ok-sort_by.ensures.sorted _ (ranks_by nat_list_cmp_total (λ (one : Named). one.id.now)) (answers_always _ _ _ (λ f a r h called. search rules)))
    (c.in_ok-roots_of.ensures ∙ ap (map (λ (one : Named). one.root)) c.as_slice.ensures.value)
