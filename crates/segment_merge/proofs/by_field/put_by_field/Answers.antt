use Rattle.std.proofs.Common.{◌≡◌, length, arith}
use Rattle.segment_builder.specs.Groups.{groups_seen}
use Rattle.segment_merge.specs.ByField.{group_text}
use Rattle.segment_merge.proofs.Pieced.{groups_counted}
use Rattle.segment_merge.proofs.by_field.put_by_field.Goals as goal

pub returns : goal.returns
returns g c =
    let groups = c.in_ok-groups.groups.items in
    let counted : c.in_ok-count_of.field-0 ≡ length groups = omega (arith, c.in_ok-count_of.ensures, c.len.ensures, c.in_ok-groups.groups.ok.0) in (
      groups_seen groups,
      c.in_ok-groups.ensures,
      groups_counted (group_text g.P.PartItems.count g.P.PartItems.text) groups c.as_slice.result.now c.in_ok-count_of.field-0 c.args.into.now.items c.put_u32.new.into.items c.put_groups.new.into.items
          counted c.in_ok-put_u32.ensures.put c.as_slice.ensures.value c.in_ok-put_groups.ensures,
    )
