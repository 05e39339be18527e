use Rattle.std.proofs.Common.{List, map, sym, subst}
use Rattle.query_ast.specs.Agg.{Agg}
use Rattle.query_ast.specs.Definition.{Definition, definitions_of}
use Rattle.query_ast.specs.Replies.{ReplyPart}
use Rattle.query_ast.specs.Replies.View.{reply_part}
use Rattle.query_eval.specs.Found.{IsSeen}
use Rattle.segment.specs.Live.{EntryState}
use Rattle.bucket_aggs.specs.Given.{AreReplies, as_ones, replies_by}
use Rattle.bucket_aggs.proofs.Formed.{answer_of_ones}
use Rattle.bucket_aggs.proofs.answers.buckets.Goals as goal

pub returns-clause-replies : goal.returns-clause-replies
returns-clause-replies g c = λ given is.
    let m = c.args.mapping.now in
    let n = c.args.scope in
    let lent : IsSeen m c.entries-entries.result.now n given c.args.hits.now = subst (λ (view : List EntryState). IsSeen m view n given c.args.hits.now) (sym c.entries-entries.ensures.entries) is in
    let parts : List ReplyPart = map reply_part c.in_ok-replies-2.replies.items in
    let answered : AreReplies m c.entries-entries.result.now n (definitions_of c.args.aggs.now) (as_ones m given) parts =
    subst (λ (defs : List (Definition Agg)). AreReplies m c.entries-entries.result.now n (definitions_of defs) (as_ones m given) parts) c.as_slice-2.ensures
    (c.in_ok-replies-2.ensures (as_ones m given)
    (subst (IsSeen m c.entries-entries.result.now n (as_ones m given)) (sym c.of-objects-2.ensures) (c.in_ok-ones.ensures.seen given lent))) in
    answer_of_ones m c.args.view.now n (replies_by m (definitions_of c.args.aggs.now)) given c.of-2.result
    (subst (λ (all : List ReplyPart). AreReplies m c.args.view.now n (definitions_of c.args.aggs.now) (as_ones m given) all) (sym c.of-2.ensures)
    (subst (λ (view : List EntryState). AreReplies m view n (definitions_of c.args.aggs.now) (as_ones m given) parts) c.entries-entries.ensures.entries answered))

pub returns-then-have_one_score-clause-replies : goal.returns-then-have_one_score-clause-replies
returns-then-have_one_score-clause-replies g c = λ given is.
    let m = c.args.mapping.now in
    let n = c.args.scope in
    let lent : IsSeen m c.entries-entries.result.now n given c.args.hits.now = subst (λ (view : List EntryState). IsSeen m view n given c.args.hits.now) (sym c.entries-entries.ensures.entries) is in
    let parts : List ReplyPart = map reply_part c.in_ok-replies.replies.items in
    let answered : AreReplies m c.entries-entries.result.now n (definitions_of c.args.aggs.now) given parts =
    subst (λ (defs : List (Definition Agg)). AreReplies m c.entries-entries.result.now n (definitions_of defs) given parts) c.as_slice.ensures
    (c.in_ok-replies.ensures given (subst (IsSeen m c.entries-entries.result.now n given) (sym c.of-objects.ensures) lent)) in
    subst (λ (all : List ReplyPart). AreReplies m c.args.view.now n (definitions_of c.args.aggs.now) given all) (sym c.of.ensures)
    (subst (λ (view : List EntryState). AreReplies m view n (definitions_of c.args.aggs.now) given parts) c.entries-entries.ensures.entries answered)
