use Rattle.std.proofs.Common.{◌≡◌, length, Some, sym, ap, ◌∙◌}
use Rattle.block_join.specs.Merge.{paired, put_together}
use Rattle.block_join.specs.Scores.{filled}
use Rattle.block_join.specs.declared.rule.Rule.TheVariants.{Kept}
use Rattle.leaf_search.specs.Found.{Finds}
use Rattle.segment_parts.specs.declared.columns.Columns.{Columns}
use Rattle.query_eval.proofs.Seen.{leaf_known, leaf_long, leaf_seen}
use Rattle.query_eval.proofs.Sets.{paired_long}
use Rattle.query_eval.proofs.kept.kept_scores.Goals as goal

pub cut_to-requires : goal.cut_to-requires
cut_to-requires c =
    let l = leaf_known _ c.requires.leaf in
    let finds : Finds c.args.mapping.now c.segment.result.now c.live-live.result.now c.args.scope l.0 c.in_ok-set.set = c.in_ok-set.ensures l.0 l.1 in
    c.requires.long ∙ sym (finds.long ∙ ap (λ (x : Columns). x.documents) c.segment.ensures)

pub returns-clause-long : goal.returns-clause-long
returns-clause-long c =
    let l = leaf_known _ c.requires.leaf in
    let same : length c.args.hits.now ≡ length (filled (Some 1) c.in_ok-set.set) =
    c.requires.long
    ∙ sym (leaf_long c.args.mapping.now c.args.entry.now c.segment.result.now c.live-live.result.now c.args.scope l.0 1 c.in_ok-set.set c.segment.ensures c.live-live.ensures.live (c.in_ok-set.ensures l.0 l.1)) in
    ap length c.in_ok-cut_to.ensures ∙ paired_long (put_together Kept) c.args.hits.now (filled (Some 1) c.in_ok-set.set) same ∙ c.requires.long

pub returns-clause-kept : goal.returns-clause-kept
returns-clause-kept c = λ l trees is own stands.
    c.in_ok-cut_to.ensures
    ∙ ap (paired (put_together Kept) c.args.hits.now)
    (leaf_seen c.args.mapping.now c.args.entry.now c.segment.result.now c.live-live.result.now c.args.scope l 1 c.in_ok-set.set c.segment.ensures c.live-live.ensures.live (c.in_ok-set.ensures l is) trees own stands)
