use Rattle.std.proofs.Common.{map, refl, sym, ap, ◌∙◌, arith}
use Rattle.std.specs.Option.{option_copied}
use Rattle.composite_aggs.specs.Kept.{added_all, bucket_of}
use Rattle.composite_aggs.specs.Rows.{has_too_many, keys_of, row_keys}
use Rattle.composite_aggs.proofs.Gathered.{gathered_all}
use Rattle.composite_aggs.proofs.Steps.{few, none_more, of_row, row_step}
use Rattle.composite_aggs.proofs.pages.page.Goals as goal

pub loop-place-preserved : goal.loop-place-preserved
loop-place-preserved c =
    let i = c.loop-place.place in
    let row = c.index-rows-place.result in
    let all = of_row (option_copied c.args.after) c.args.size i row c.as_slice-in-loop-place.result.now (map (λ v. v.now) c.clear.new.self.items) (map bucket_of c.loop-place.kept.items) (map bucket_of c.add_keys.new.kept.items)
    (ap (map (λ v. v.now)) c.clear.ensures.items) c.as_slice-in-loop-place.ensures.value c.in_ok-add_keys.ensures.kept in (
      row_step (option_copied c.args.after) c.args.size i c.args.rows.now c.index-rows-place.result (map bucket_of c.loop-place.kept.items) (map bucket_of c.add_keys.new.kept.items) _ (omega arith) c.loop-place.invariant.0 (all ∙ ap (λ r. added_all (option_copied c.args.after) c.args.size i (keys_of r) (map bucket_of c.loop-place.kept.items)) c.index-rows-place.is),
      none_more has_too_many c.args.rows.now i c.index-rows-place.result (omega arith) c.loop-place.invariant.1 (ap has_too_many (sym c.index-rows-place.is) ∙ few row c.as_slice.result.now c.combination_count.result c.as_slice.ensures.value c.combination_count.ensures (omega arith)),
      c.in_ok-add_keys.ensures.ascending,
      c.in_ok-add_keys.ensures.short,
    )

pub returns-clause-page : goal.returns-clause-page
returns-clause-page c =
    gathered_all row_keys keys_of (λ q r. refl) (option_copied c.args.after) c.args.size c.loop-place.place c.args.rows.now (map bucket_of c.loop-place.kept.items) c.loop-place-test.false c.loop-place.invariant.0
