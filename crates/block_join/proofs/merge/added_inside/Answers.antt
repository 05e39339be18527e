use Rattle.std.proofs.Common.{◌≡◌, ℕ, List, Bool, Some, length, map, is_some, sym, ap, ◌∙◌}
use Rattle.std.proofs.lemmas.List.{length-map}
use Rattle.block_bits.specs.Flags.{intersection}
use Rattle.block_join.specs.Merge.{paired, put_together}
use Rattle.block_join.specs.Scores.{filled}
use Rattle.block_join.specs.declared.rule.Rule.TheVariants.{Either, Plus}
use Rattle.block_join.proofs.Totals.{length_intersection, plus_inside, some_same}
use Rattle.block_join.proofs.merge.added_inside.Goals as goal

pub plus-requires-clause-long : goal.plus-requires-clause-long
plus-requires-clause-long c =
    let one = c.args.one.now in
    let set = c.args.set.now in
    ap (λ (flags : List Bool). length flags)
    (c.and.ensures ∙ ap (λ (flags : List Bool). intersection flags c.set-2.result.now) c.in_ok-inside.ensures ∙ ap (λ (flags : List Bool). intersection set flags) c.set-2.ensures)
    ∙ length_intersection set (map is_some one) (c.requires.long ∙ sym (length-map one (is_some {T = ℕ})))
    ∙ c.requires.long

pub returns : goal.returns
returns c =
    let one = c.args.one.now in
    let set = c.args.set.now in
    let cut : c.and.new.self ≡ intersection set (map is_some one) =
    c.and.ensures ∙ ap (λ (flags : List Bool). intersection flags c.set-2.result.now) c.in_ok-inside.ensures ∙ ap (λ (flags : List Bool). intersection set flags) c.set-2.ensures in
    some_same c.in_ok-plus.field-0 (paired (put_together Either) one (filled (Some c.args.score) c.and.new.self)) (paired (put_together Plus) one (filled (Some c.args.score) set))
    (ap (λ (flags : List Bool). paired (put_together Either) one (filled (Some c.args.score) flags)) cut ∙ plus_inside one c.args.score set c.requires.long)
    c.in_ok-plus.ensures
