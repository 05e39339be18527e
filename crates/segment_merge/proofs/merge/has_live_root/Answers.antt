use Rattle.std.proofs.Common.{◌≡◌, Bool, List, length, ap, sym, ◌∙◌, arith}
use Rattle.std.specs.List.{count_by}
use Rattle.std.proofs.lemmas.Bool.{lt-ltb, ltb-true}
use Rattle.block_bits.specs.Flags.{is_marked}
use Rattle.segment_merge.specs.Merged.{live_roots_in}
use Rattle.segment_merge.proofs.Marked.{length-where}
use Rattle.segment_merge.proofs.merge.has_live_root.Goals as goal

pub returns : goal.returns
returns c =
    let entry = c.args.part.now.entry in
    let count : c.count.result ≡ length (live_roots_in entry) =
    c.count.ensures ∙ ap (λ (flags : List Bool). count_by is_marked flags) c.live_roots.ensures ∙ sym (length-where entry.live.roots entry.columns.roots c.segment-segment.ensures.live.roots) in (
      λ more. omega (arith, ltb-true 0 c.count.result more, count),
      λ some. lt-ltb 0 c.count.result (omega (arith, some, count)),
    )
