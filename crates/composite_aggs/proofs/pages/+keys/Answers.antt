use Rattle.std.proofs.Common.{◌++◌, ◌∷◌, [], map, sym, ap, ◌∙◌, arith}
use Rattle.std.specs.Option.{option_copied}
use Rattle.composite_aggs.specs.Composite.{combinations}
use Rattle.std.proofs.lemmas.List.{length-map}
use Rattle.composite_aggs.specs.Kept.{bucket_of}
use Rattle.composite_aggs.proofs.Steps.{cut_back, map-take, value_step}
use Rattle.composite_aggs.proofs.pages.+keys.Goals as goal

pub add_values-loop-value-preserved : goal.add_values-loop-value-preserved
add_values-loop-value-preserved t c =
    let front = map (λ v. v.now) c.args.key.now.items in
    let i = c.loop-value.value-index in
    let value = c.value-item.result in
    let seen = c.in_ok-push_value.ensures.value ∙ ap (λ l. l ++ value ∷ []) c.loop-value.invariant.1 in
    let same = seen ∙ ap (λ v. front ++ v ∷ []) c.value-item.is in (
      value_step (option_copied c.args.after) c.args.size c.args.place front c.args.values.now (combinations c.args.parts.now) i c.value-item.result (map (λ v. v.now) c.push_value.new.key.items)
          (map bucket_of c.loop-value.kept.items) (map bucket_of c.add_keys.new.kept.items) _ (omega arith) c.loop-value.invariant.0 same c.in_ok-add_keys.ensures.kept,
      cut_back c.len-depth.result front value (map (λ v. v.now) c.add_keys.new.key.items) (map (λ v. v.now) c.truncate.new.self.items)
          (c.in_ok-add_keys.ensures.key ∙ seen) (ap (map (λ v. v.now)) c.truncate.ensures.items ∙ map-take (λ v. v.now) c.len-depth.result c.add_keys.new.key.items)
          (c.loop-value.invariant.4 ∙ sym (length-map c.args.key.now.items (λ v. v.now))),
      c.in_ok-add_keys.ensures.ascending,
      c.in_ok-add_keys.ensures.short,
      c.loop-value.invariant.4,
    )
