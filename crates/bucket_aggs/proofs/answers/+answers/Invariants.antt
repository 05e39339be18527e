use Rattle.std.proofs.Common.{◌+◌, ◌*◌, ℕ, List, Option, map, take}
use Rattle.query_ast.specs.Agg.View.{agg_of}
use Rattle.query_ast.specs.Definition.{definition_size, definitions_of, definitions_size}
use Rattle.query_ast.specs.Replies.View.{bucket_part}
use Rattle.query_eval.specs.Found.{IsSeen}
use Rattle.tree_objects.specs.Object.{Object}
use Rattle.tree_objects.specs.Tree.{Tree}
use Rattle.bucket_aggs.specs.Given.{IsAnswer, buckets_by}
use Rattle.bucket_aggs.proofs.answers.+answers.Given as goal

abbrev pub decreases-further : goal.decreases-further
decreases-further l = 10 * definitions_size (definitions_of (map agg_of l.aggs.now)) + 1

abbrev pub decreases-replies : goal.decreases-replies
decreases-replies l = 10 * definitions_size (definitions_of (map agg_of l.aggs.now)) + 2

abbrev pub decreases-reply : goal.decreases-reply
decreases-reply l = 10 * definition_size (agg_of l.def.now)

abbrev pub decreases-single : goal.decreases-single
decreases-single l = 10 * definitions_size (definitions_of l.inner.now) + 3

abbrev pub decreases-hitting : goal.decreases-hitting
decreases-hitting l = 10 * definitions_size (definitions_of l.inner.now) + 4

abbrev pub decreases-inside : goal.decreases-inside
decreases-inside l = 10 * definitions_size (definitions_of l.inner.now) + 4

abbrev pub decreases-around : goal.decreases-around
decreases-around l = 10 * definitions_size (definitions_of l.inner.now) + 4

abbrev pub decreases-children : goal.decreases-children
decreases-children l = 10 * definitions_size (definitions_of l.inner.now) + 4

abbrev pub decreases-parents : goal.decreases-parents
decreases-parents l = 10 * definitions_size (definitions_of l.inner.now) + 4

abbrev pub decreases-bucket : goal.decreases-bucket
decreases-bucket l = 10 * definitions_size (definitions_of l.inner.now) + 3

abbrev pub decreases-shown : goal.decreases-shown
decreases-shown l = 10 * definitions_size (definitions_of l.inner.now) + 4

abbrev pub decreases-ready_shown : goal.decreases-ready_shown
decreases-ready_shown l = 10 * definitions_size (definitions_of l.inner.now) + 5

abbrev pub decreases-mapped_terms : goal.decreases-mapped_terms
decreases-mapped_terms l = 10 * definitions_size (definitions_of l.inner.now) + 6

abbrev pub decreases-field_terms : goal.decreases-field_terms
decreases-field_terms l = 10 * definitions_size (definitions_of l.inner.now) + 7

abbrev pub decreases-terms : goal.decreases-terms
decreases-terms l = 10 * definitions_size (definitions_of l.inner.now) + 8

abbrev pub decreases-value : goal.decreases-value
decreases-value l = 10 * definitions_size (definitions_of l.inner.now) + 9

abbrev pub invariant-shown-rows : goal.invariant-shown-rows
invariant-shown-rows l =
    (given : List Tree → Object → Option ℕ)
    → IsSeen l.mapping l.entries l.scope given l.objects
    → IsAnswer l.mapping l.entries l.scope (buckets_by l.mapping l.field (definitions_of l.inner) (take l.at l.rows)) given (map bucket_part l.buckets.items)
