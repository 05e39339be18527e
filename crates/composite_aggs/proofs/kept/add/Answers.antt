use Rattle.std.proofs.Common.{map, take, ap, ◌∙◌, refl, arith}
use Rattle.composite_aggs.specs.Kept.{bucket_of}
use Rattle.composite_aggs.proofs.Steps.{full_is, insert_is, put_is}
use Rattle.composite_aggs.proofs.kept.add.Goals as goal

pub returns-in_ok-put_once-in-Ok-clause-kept : goal.returns-in_ok-put_once-in-Ok-clause-kept
returns-in_ok-put_once-in-Ok-clause-kept c =
    put_is (map (λ v. v.now) c.args.key.now) c.args.place c.args.size c.args.kept.now.items c.as_slice.result.now c.in-Ok.index c.index_mut-bucket.result.now (record { key = c.index_mut-bucket.result.now.key; places = c.put_once.new.places })
    c.as_slice.ensures.value c.in-Ok.ensures.found.0 c.in-Ok.ensures.found.1 c.in-Ok.ensures.below_found c.index_mut-bucket.ensures.value refl c.in_ok-put_once-in-Ok.ensures.places c.requires.short

pub returns-in_ok-insert-in-Err-clause-kept : goal.returns-in_ok-insert-in-Err-clause-kept
returns-in_ok-insert-in-Err-clause-kept c =
    ap (map bucket_of) (c.truncate.ensures.items ∙ ap (take c.args.size) c.in_ok-insert-in-Err.ensures.items)
    ∙ insert_is (map (λ v. v.now) c.args.key.now) c.args.place c.args.size c.args.kept.now.items c.as_slice.result.now c.in-Err.index c.in_ok-bucket-in-Err.bucket
    c.as_slice.ensures.value c.in-Err.ensures.gap.0 c.in-Err.ensures.gap.1 c.in-Err.ensures.below_gap c.in_ok-bucket-in-Err.ensures.made.0 c.in_ok-bucket-in-Err.ensures.made.1

pub returns-else-index-size-clause-kept : goal.returns-else-index-size-clause-kept
returns-else-index-size-clause-kept c =
    full_is (map (λ v. v.now) c.args.key.now) c.args.place c.args.size c.args.kept.now.items c.as_slice.result.now c.in-Err.index
    c.as_slice.ensures.value c.in-Err.ensures.gap.0 c.in-Err.ensures.gap.1 c.in-Err.ensures.below_gap c.requires.short (omega arith)
