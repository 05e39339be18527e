use Rattle.std.proofs.Common.{ℕ, List, Bool, length, arith}
use Rattle.std.proofs.lemmas.List.{length-map}
use Rattle.segment_parts.specs.Text.{presence_text, present_text}
use Rattle.segment_builder.specs.Columns.{marks_of}
use Rattle.segment_builder.specs.Groups.{groups_seen}
use Rattle.segment_builder.specs.Made.{marked_groups}
use Rattle.segment_builder.proofs.Columned.{docs_within, presence_list}
use Rattle.segment_builder.proofs.Listed.{put_counted}
use Rattle.segment_builder.proofs.present.put_texts.Goals as goal

pub overflow_cast-groups : goal.overflow_cast-groups
overflow_cast-groups c =
    let groups = groups_seen c.args.groups.now in
    omega (
      arith,
      (presence_list c.args.documents c.requires.0 c.requires.1 groups c.requires.2).fewer,
      length-map {B = ℕ × List Bool} groups (λ group. (group.0, marks_of c.args.documents group.1)),
      length-map {B = ℕ × List ℕ} c.args.groups.now (λ group. (group.0, group.1.items)),
    )

pub put_fields-requires : goal.put_fields-requires
put_fields-requires c = docs_within c.args.documents c.requires.0 c.requires.1 (groups_seen c.args.groups.now) c.requires.2

pub returns : goal.returns
unfolding present_text
returns c =
    let groups = groups_seen c.args.groups.now in
    put_counted presence_text (length c.args.groups.now) (marked_groups c.args.documents groups) c.args.into.now.items c.put_u32.new.into.items c.put_fields.new.into.items c.in_ok-put_u32.ensures.put c.in_ok-put_fields.ensures
    (omega (arith, length-map {B = ℕ × List Bool} groups (λ group. (group.0, marks_of c.args.documents group.1)), length-map {B = ℕ × List ℕ} c.args.groups.now (λ group. (group.0, group.1.items))))
