use Rattle.std.proofs.Common.{◌&&◌}
use Rattle.query_ast.specs.Leaf.{is_any}
use Rattle.segment.specs.Lists.{postings_of}
use Rattle.leaf_search.specs.Words.{all_posted, lists_at}
use Rattle.leaf_search.proofs.Phrased.{none_any, some_any}
use Rattle.leaf_search.proofs.Selecting.{made_never, made_same}
use Rattle.leaf_search.proofs.words.common_set.Goals as goal

pub returns-then-ordinals-eq0 : goal.returns-then-ordinals-eq0
returns-then-ordinals-eq0 c =
    made_never c.args.segment.now c.args.live.now c.args.scope (λ doc. is_any c.args.ordinals.now && all_posted (lists_at (postings_of c.args.segment.now) c.args.ordinals.now) doc) c.docs.result c.in_ok-empty.field-0
    c.requires.live c.docs.ensures.documents c.in_ok-empty.ensures (λ doc. none_any c.args.ordinals.now (all_posted (lists_at (postings_of c.args.segment.now) c.args.ordinals.now) doc) c.if-ordinals-eq0.true)

pub returns : goal.returns
returns c =
    made_same c.args.segment.now c.args.live.now c.args.scope (all_posted (lists_at (postings_of c.args.segment.now) c.args.ordinals.now)) (λ doc. is_any c.args.ordinals.now && all_posted (lists_at (postings_of c.args.segment.now) c.args.ordinals.now) doc) c.in_ok-met_set.field-0
    (λ doc. some_any c.args.ordinals.now (all_posted (lists_at (postings_of c.args.segment.now) c.args.ordinals.now) doc) c.if-ordinals-eq0.false) c.in_ok-met_set.ensures
