use Rattle.std.proofs.Common.{◌<◌, arith}
use Rattle.tree_json.specs.Value.{value_size, members_size, members_of}
use Rattle.tree_json.specs.View.{view, entries}
use Rattle.search_form.specs.Sizes.{member_falls}
use Rattle.search_form.proofs.judge.+forms.Goals as goal

pub choices_among-has_form-requires : goal.choices_among-has_form-requires
choices_among-has_form-requires t c =
    let e = member_falls c.args.members.now c.members.name-index c.members-item.result (omega arith) in
    let f : value_size (view c.members-item.result.1) < members_size (members_of (entries c.args.members.now)) = rw (← c.members-item.is) at e in
    omega (arith, f)
