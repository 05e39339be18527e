use Rattle.std.proofs.Common.{◌≡◌, ◌≤◌, ap, sym, subst, rules, arith, ◌∙◌}
use Rattle.std.proofs.lemmas.Grind.{common_steps}
use Rattle.json_merge.specs.Merged.{merged}
use Rattle.tree_json.specs.Levels.{levels, most_levels}
use Rattle.tree_json.specs.Text.{compact}
use Rattle.tree_json.specs.View.{view}
use Rattle.write_plan.proofs.Updates.{is_same_by, same_text}
use Rattle.write_plan.proofs.update.updated.Goals as goal

pub returns-then-eq-clause-updated : goal.returns-then-eq-clause-updated
returns-then-eq-clause-updated c = λ live kept.
    let e : view c.in_ok-whole.whole ≡ merged (view c.args.doc) (view c.in_ok-live.live) = c.in_ok-whole.ensures in
    let few : levels (view c.in_ok-whole.whole) ≤ most_levels =
    subst (λ v. levels v ≤ most_levels) (sym e) (c.merged_values_nest_no_deeper.ensures (view c.args.doc) (view c.in_ok-live.live) most_levels c.requires.doc c.in_ok-live.ensures.levels) in
    let text : compact (view c.in_ok-whole.whole) ≡ c.args.text.now = first_of (cc, search rules, grind (arith, common_steps)) in
    let same = same_text c.args.text.now (view c.in_ok-whole.whole) live (c.in_ok-print.ensures.again few) kept text in
    is_same_by c.same_values_are_equal.ensures (merged (view c.args.doc) live) live (ap (merged (view c.args.doc)) (sym (c.in_ok-live.ensures.value live kept)) ∙ sym e ∙ same)
