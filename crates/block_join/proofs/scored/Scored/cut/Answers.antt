use Rattle.std.proofs.Common.{◌≡◌, Bool, List, Option, ℕ, Some, length, map, is_some, sym, ap, ◌∙◌}
use Rattle.block_bits.specs.Flags.{intersection}
use Rattle.block_join.specs.Merge.{paired, put_together}
use Rattle.block_join.specs.Scores.{filled}
use Rattle.block_join.specs.Sums.{summed}
use Rattle.block_join.specs.declared.parts.Parts.{Parts}
use Rattle.block_join.specs.declared.rule.Rule.TheVariants.{Both}
use Rattle.block_join.proofs.Totals.{cut_marked, kept_len, kept_sum, kept_view, view_flags_long}
use Rattle.block_join.proofs.scored.Scored.cut.Goals as goal

pub and-requires : goal.and-requires
and-requires c = ap length c.in_ok-set.ensures ∙ view_flags_long c.self.inside.set c.self.inside.form c.args.self.now c.self.view_is ∙ sym c.requires

pub cut-requires-clause-long : goal.cut-requires-clause-long
cut-requires-clause-long c = c.requires ∙ sym (kept_len c.self.inside.set c.self.inside.form c.in-Summed.parts c.in-Summed.is c.self.invariant c.args.self.now c.self.view_is) ∙ sym (ap (λ (p : Parts). p.len) c.deref.ensures)

pub of_parts-requires : goal.of_parts-requires
of_parts-requires c =
    let it = c.in-Summed.parts in
    let within = c.args.within.now in
    let sum = kept_sum c.self.inside.set c.self.inside.form it c.in-Summed.is c.self.invariant in
    let view : summed it.value ≡ c.args.self.now = kept_view c.self.inside.set c.self.inside.form it c.in-Summed.is c.self.invariant c.args.self.now c.self.view_is in
    record {
      parts = c.in_ok-inside.ensures.parts;
      over =
          c.and.ensures
          ∙ ap (λ (l : List Bool). intersection l within) (c.in_ok-set.ensures ∙ sum.over)
          ∙ cut_marked (summed it.value) within (ap length view ∙ sym c.requires)
          ∙ ap (map is_some) (sym (c.in_ok-inside.ensures.sums ∙ ap (λ (p : Parts). paired (put_together Both) (filled (Some 0) within) (summed p)) c.deref.ensures));
    }

pub returns : goal.returns
returns c =
    let view : summed c.in-Summed.parts.value ≡ c.args.self.now = kept_view c.self.inside.set c.self.inside.form c.in-Summed.parts c.in-Summed.is c.self.invariant c.args.self.now c.self.view_is in
    c.in_ok-of_parts.ensures ∙ c.in_ok-inside.ensures.sums ∙ ap (λ (p : Parts). paired (put_together Both) (filled (Some 0) c.args.within.now) (summed p)) c.deref.ensures ∙ ap (λ (l : List (Option ℕ)). paired (put_together Both) (filled (Some 0) c.args.within.now) l) view
