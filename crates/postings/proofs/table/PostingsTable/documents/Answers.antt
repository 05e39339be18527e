use Rattle.std.proofs.Common.{[], length, get_or, ap, ◌∙◌}
use Rattle.postings.proofs.Lists.{list_long, list_count}
use Rattle.postings.proofs.table.PostingsTable.documents.Goals as goal

pub first_u32-requires : goal.first_u32-requires
first_u32-requires c = list_long c.list_at.result.now c.list_at.ensures.list

pub returns : goal.returns
returns c =
    c.first_u32.ensures ∙ list_count c.list_at.result.now c.list_at.ensures.list ∙ ap length c.list_at.ensures.postings ∙ ap (λ lists. length (get_or lists c.args.ordinal [])) c.self.view_is
