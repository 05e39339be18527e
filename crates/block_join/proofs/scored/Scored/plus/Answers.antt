use Rattle.std.proofs.Common.{◌≡◌, Bool, List, ℕ, Option, Some, length, map, is_some, sym, ap, ◌∙◌}
use Rattle.block_bits.specs.Flags.{union}
use Rattle.block_join.specs.Merge.{paired, put_together}
use Rattle.block_join.specs.Scores.{filled}
use Rattle.block_join.specs.Sums.{summed}
use Rattle.block_join.specs.declared.rule.Rule.TheVariants.{Either}
use Rattle.block_join.proofs.Totals.{union_marked, view_flags, view_flags_long}
use Rattle.block_join.proofs.scored.Scored.plus.Goals as goal

pub or-requires : goal.or-requires
or-requires c = ap length c.in_ok-all.ensures ∙ view_flags_long c.self.inside.set c.self.inside.form c.args.self.now c.self.view_is ∙ sym c.requires.long

pub of_parts-requires : goal.of_parts-requires
of_parts-requires c =
    let view : summed c.in-Some.parts ≡ c.args.self.now = rw c.in-Some.is at c.in_ok-parts.ensures.sums in
    let sums : summed c.add.new.self ≡ paired (put_together Either) c.args.self.now (filled (Some c.args.score) c.args.set.now) =
    c.in_ok-add.ensures.sums
    ∙ ap (λ (l : List (Option ℕ)). paired (put_together Either) l (filled (Some c.args.score) c.in_ok-copy.field-0)) view
    ∙ ap (λ (flags : List Bool). paired (put_together Either) c.args.self.now (filled (Some c.args.score) flags)) c.in_ok-copy.ensures in
    record {
      parts = c.in_ok-add.ensures.parts;
      over =
          c.or.ensures
          ∙ ap (λ (flags : List Bool). union flags c.args.set.now) (c.in_ok-all.ensures ∙ view_flags c.self.inside.set c.self.inside.form c.args.self.now c.self.view_is)
          ∙ union_marked c.args.self.now c.args.score c.args.set.now (sym c.requires.long)
          ∙ ap (map is_some) (sym sums);
    }

pub returns : goal.returns
returns c =
    let view : summed c.in-Some.parts ≡ c.args.self.now = rw c.in-Some.is at c.in_ok-parts.ensures.sums in
    c.in_ok-of_parts.ensures
    ∙ c.in_ok-add.ensures.sums
    ∙ ap (λ (l : List (Option ℕ)). paired (put_together Either) l (filled (Some c.args.score) c.in_ok-copy.field-0)) view
    ∙ ap (λ (flags : List Bool). paired (put_together Either) c.args.self.now (filled (Some c.args.score) flags)) c.in_ok-copy.ensures
