use Rattle.std.proofs.Common.{sym, ◌∙◌}
use Rattle.std.proofs.lemmas.Bool.{eqb-true}
use Rattle.bucket_aggs.proofs.Formed.{all_counted}
use Rattle.bucket_aggs.proofs.objects.are_all.Goals as goal

pub returns : goal.returns
returns c = λ m given is same.
    let all = c.in_ok-all.ensures m in
    all_counted m c.args.entries.now c.args.scope given c.args.objects.now all.those is all.seen
    (sym c.in_ok-count.ensures ∙ eqb-true c.in_ok-count.count c.in_ok-all.all same ∙ all.counted)
