use Rattle.std.proofs.Common.{[], get_or, ap, ◌∙◌}
use Rattle.postings.specs.Marks.{has_positions}
use Rattle.postings.proofs.Lists.{list_long, not_plain}
use Rattle.postings.proofs.table.PostingsTable.has_positions.Goals as goal

pub split_at-requires : goal.split_at-requires
split_at-requires c = list_long c.list_at-list.result.now c.list_at-list.ensures.list

pub returns : goal.returns
returns c =
    not_plain c.list_at-list.result.now c.first_u32.result c.split_at.result.1.now c.is_plain.result c.list_at-list.ensures.list c.first_u32.ensures c.split_at.ensures.back c.is_plain.ensures
    ∙ ap has_positions c.list_at-list.ensures.postings ∙ ap (λ lists. has_positions (get_or lists c.args.ordinal [])) c.self.view_is
