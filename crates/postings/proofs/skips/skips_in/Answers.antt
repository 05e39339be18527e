use Rattle.std.proofs.Common.{◌<◌, [], length, refl, arith}
use Rattle.std.proofs.lemmas.List.Elements.{All-push}
use Rattle.postings.specs.Kept.{postings_of}
use Rattle.postings.specs.Skips.{IsSkip}
use Rattle.postings.proofs.Lists.{list_long, at_entry, has_entry}
use Rattle.postings.proofs.Leaps.{walk_start, walk_more, walk_skip}
use Rattle.postings.proofs.skips.skips_in.Goals as goal
use Rattle.postings.proofs.skips.skips_in.Goals.{then-at-eq0+in_ok-push, else-at-eq0}

pub first_u32-count-requires : goal.first_u32-count-requires
first_u32-count-requires c = list_long c.args.text.now c.requires

pub split_at-requires : goal.split_at-requires
split_at-requires c = list_long c.args.text.now c.requires

pub entries-init : goal.entries-init
entries-init c = (
  walk_start c.args.text.now c.first_u32-count.result c.split_at.result.1.now c.requires (list_long c.args.text.now c.requires) c.first_u32-count.ensures c.split_at.ensures.back,
  λ at skip none. absurd (omega (arith, none, c.in_ok-skips.ensures.len)),
)

pub first_u32-requires : goal.first_u32-requires
first_u32-requires c =
    let was = c.entries.invariant.0.is_at in
    let inside : c.entries.at < length (postings_of c.args.text.now) = omega (arith, c.entries-test.true, was.counts) in
    omega (arith, (at_entry (postings_of c.args.text.now) c.first_u32-count.result c.entries.at c.entries.rest.now _ (0, []) was inside).long)

pub behind_entry-rest-requires-clause-entry : goal.behind_entry-rest-requires-clause-entry
behind_entry-rest-requires-clause-entry c =
    let was = c.entries.invariant.0.is_at in
    let inside : c.entries.at < length (postings_of c.args.text.now) = omega (arith, c.entries-test.true, was.counts) in
    has_entry c.entries.rest.now _ _ (at_entry (postings_of c.args.text.now) c.first_u32-count.result c.entries.at c.entries.rest.now _ (0, []) was inside)

pub entries-preserved : goal.entries-preserved
entries-preserved c = (
  walk_more c.args.text.now c.first_u32-count.result c.entries.at c.entries.rest.now c.behind_entry-rest.result.now c.entries.invariant.0 c.entries-test.true c.behind_entry-rest.ensures,
  elim c.if-at-eq0.branch [
    | then-at-eq0+in_ok-push w ↦ rw (w.skips-is, w.in_ok-push.ensures.items)
        (All-push (IsSkip c.args.text.now) c.entries.skips.items _ c.entries.invariant.1
        (walk_skip c.args.text.now c.first_u32-count.result c.entries.at c.entries.rest.now _ c.entries.invariant.0 c.entries-test.true refl w.first_u32.ensures refl))
    | else-at-eq0 w ↦ rw w.skips-is c.entries.invariant.1
  ],
)
