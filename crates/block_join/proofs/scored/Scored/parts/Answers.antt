use Rattle.std.proofs.Common.{◌≡◌, ℕ, List, Option, Some, None, length, replicate, sym, ap, ◌∙◌}
use Rattle.block_join.specs.Merge.{paired, put_together}
use Rattle.block_join.specs.Scores.{filled}
use Rattle.block_join.specs.Sums.{summed, summed_from}
use Rattle.block_join.specs.declared.parts.Part.{Part}
use Rattle.block_join.specs.declared.parts.Parts.{Parts}
use Rattle.block_join.specs.declared.rule.Rule.TheVariants.{Either}
use Rattle.block_join.proofs.Totals.{kept_len, kept_view, one_part, view_flags, view_flags_long}
use Rattle.block_join.proofs.scored.Scored.parts.Goals as goal

pub returns-in-Summed-clause-len : goal.returns-in-Summed-clause-len
returns-in-Summed-clause-len c = c.in_ok-copy.ensures.len ∙ ap (λ (p : Parts). p.len) c.deref.ensures ∙ kept_len c.self.inside.set c.self.inside.form c.in-Summed.parts c.in-Summed.is c.self.invariant c.args.self.now c.self.view_is

pub returns-in-Summed-clause-sums : goal.returns-in-Summed-clause-sums
returns-in-Summed-clause-sums c = c.in_ok-copy.ensures.sums ∙ ap summed c.deref.ensures ∙ kept_view c.self.inside.set c.self.inside.form c.in-Summed.parts c.in-Summed.is c.self.invariant c.args.self.now c.self.view_is

pub add-requires-clause-long : goal.add-requires-clause-long
add-requires-clause-long c =
    ap length c.in_ok-copy-2.ensures ∙ view_flags_long c.self.inside.set c.self.inside.form c.args.self.now c.self.view_is ∙ sym c.len.ensures ∙ sym c.none-parts.ensures.len

pub returns-clause-sums : goal.returns-clause-sums
returns-clause-sums c =
    let score = c.in-Some.score in
    let len = c.none-parts.result.len in
    let set = c.in_ok-copy-2.field-0 in
    let long : length set ≡ len =
    ap length c.in_ok-copy-2.ensures ∙ view_flags_long c.self.inside.set c.self.inside.form c.args.self.now c.self.view_is ∙ sym c.len.ensures ∙ sym c.none-parts.ensures.len in
    c.in_ok-add.ensures.sums
    ∙ ap (λ (l : List Part). paired (put_together Either) (summed_from (replicate {A = Option ℕ} len None) l) (filled (Some score) set)) c.none-parts.ensures.none
    ∙ one_part score len set c.in-Some.ensures.capped long
    ∙ ap (filled (Some score)) (c.in_ok-copy-2.ensures ∙ view_flags c.self.inside.set c.self.inside.form c.args.self.now c.self.view_is)
    ∙ sym c.in-Some.ensures.alike
