use Rattle.postings.proofs.Lists.{list_long, at_start}
use Rattle.postings.proofs.cursor.Cursor.over.Goals as goal

pub first_u32-count-requires : goal.first_u32-count-requires
first_u32-count-requires c = list_long c.args.text.now c.requires.list

pub split_at-requires : goal.split_at-requires
split_at-requires c = list_long c.args.text.now c.requires.list

pub invariant_of-result : goal.invariant_of-result
invariant_of-result c = (at_start c.args.text.now c.first_u32-count.result c.split_at.result.1.now c.is_plain.result c.requires.list c.first_u32-count.ensures c.split_at.ensures.back c.is_plain.ensures, c.requires.skips)
