use Rattle.std.specs.List.{All}
use Rattle.std.proofs.lemmas.List.Elements.{All-push}
use Rattle.part_text.specs.Places.{row}
use Rattle.postings.specs.Kept.{list_text}
use Rattle.postings.specs.Skips.{IsSkip}
use Rattle.postings.specs.declared.skips.SkipList.{SkipList}
use Rattle.postings.proofs.Lists.{list_long}
use Rattle.postings.proofs.skips.put_list.Goals as goal

pub first_u32-count-requires : goal.first_u32-count-requires
first_u32-count-requires c = list_long c.list_at-text.result.now c.list_at-text.ensures.list

pub split_at-requires : goal.split_at-requires
split_at-requires c = list_long c.list_at-text.result.now c.list_at-text.ensures.list

pub returns : goal.returns
returns c =
    rw c.in_ok-push.ensures.items
    (All-push (λ (list : SkipList). All (IsSkip (list_text (row c.args.places.now c.args.bytes.now list.ordinal))) list.skips.items) c.args.lists.now.items _ c.requires.are
    (rw (← c.list_at-text.ensures.text) c.in_ok-skips_in.ensures))
