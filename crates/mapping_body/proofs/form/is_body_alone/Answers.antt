use Rattle.std.proofs.Common.{◌≡◌, ◌∙◌, ◌&&◌, sym, ap, true, bytes_eq}
use Rattle.std.specs.List.{list_any}
use Rattle.tree_json.specs.Value.{members_of}
use Rattle.mapping_body.specs.Body.{are_taken, body_takes}
use Rattle.mapping_body.proofs.Members.{each_member_all}
use Rattle.mapping_body.proofs.form.is_body_alone.Goals as goal

pub returns-then-each_taken_in_body : goal.returns-then-each_taken_in_body
returns-then-each_taken_in_body c =
    let taken : are_taken body_takes (members_of c.in-Object.object) ≡ true =
    ap (λ ms. are_taken body_takes (members_of ms)) (sym c.as_slice.ensures.members)
    ∙ each_member_all (λ name value. list_any (λ t. bytes_eq name t.0 && t.1 value) body_takes) c.as_slice.result.now
    ∙ sym c.each_taken_in_body.ensures ∙ c.if-each_taken_in_body.true in
    rw (c.in-Object.is, taken) c.has.ensures
