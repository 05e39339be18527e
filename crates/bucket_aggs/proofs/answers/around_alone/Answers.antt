use Rattle.std.proofs.Common.{◌≡◌, List, [], map, sym, ap, subst, ◌∙◌}
use Rattle.query_ast.specs.Definition.{no_definitions}
use Rattle.query_ast.specs.Replies.{ReplyPart}
use Rattle.query_ast.specs.Replies.View.{reply_part}
use Rattle.query_eval.specs.Nested.{below_by}
use Rattle.score_math.specs.Scores.{mode_of}
use Rattle.score_math.specs.declared.score.ScoreMode.TheVariants.{Max}
use Rattle.bucket_aggs.specs.Given.{AreReplies}
use Rattle.bucket_aggs.proofs.Formed.{no_replies, reverse_is, single_is}
use Rattle.bucket_aggs.proofs.Handed.{Laws}
use Rattle.bucket_aggs.proofs.answers.around_alone.Goals as goal

pub returns : goal.returns
returns c = λ given is.
    let m = c.args.mapping.now in
    let view = c.args.entries.now in
    let path = c.args.path in
    let known = c.scope_count-scopes.ensures.is_mapping in
    let laws : Laws m = record {
      parted = λ n p tree above. c.objects_are_parted.ensures.parted m n p tree known above;
      around = λ o p above. c.objects_are_parted.ensures.around m o p known above;
      tree = λ tree. c.objects_are_parted.ensures.tree m tree known;
      places = λ tree i j o less low. c.objects_nest.ensures.places m tree i j o known less low;
    } in
    let around = below_by m (mode_of Max) c.args.scope given in
    let counted = c.in_ok-count.ensures m c.args.scope given c.requires.path is in
    let none : c.of.result ≡ [] = c.of.ensures ∙ ap (map reply_part) c.new.ensures.items in
    let answered : AreReplies m view path no_definitions around c.of.result =
    subst (λ (parts : List ReplyPart). AreReplies m view path no_definitions around parts) (sym none) (no_replies m view path around) in
    reverse_is m view no_definitions given _ c.args.scope path laws c.requires.path
    (single_is m view path no_definitions around counted.those c.in_ok-count.count c.of.result counted.seen counted.counted answered)
