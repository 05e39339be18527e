use Rattle.std.proofs.Common.{◌≡◌, Bool, true, false, not, map, refl, sym, ap, subst, ◌∙◌}
use Rattle.std.specs.List.{All}
use Rattle.view_merge.specs.Given.{IsKeptOrMade}
use Rattle.index_core.specs.Found.{BlocksState, entry_id}
use Rattle.index_core.specs.contracts.kept_blocks.KeptBlocks.{the_view}
use Rattle.index_core.proofs.Jobs.{same_view}
use Rattle.index_core.proofs.kept_blocks.KeptBlocks.is_changed_by.Goals as goal

not_false : (b : Bool) → not b ≡ false → b ≡ true
not_false true e = refl
not_false false e = absurd (cc (e))

pub returns : goal.returns
returns c =
    let it : BlocksState = the_view c.self.inside in
    let ready = c.args.ready.now.view in
    let ids = c.have_same_ids.ensures in
    let kept = subst (λ (s : BlocksState). All (IsKeptOrMade s.entries s.made) ready) (sym c.self.view_is) c.requires in
    let is = ap (λ (s : BlocksState). s.entries) c.self.view_is in (
      λ no.
          same_view it.made it.entries ready c.entries-2.ensures.ids c.self.invariant.below.ids kept
          (ap (map entry_id) (sym c.entries.ensures.entries) ∙ ids.0 (not_false c.have_same_ids.result no) ∙ ap (map entry_id) c.entries-2.ensures.entries)
          ∙ is,
      λ same.
          ap not (ids.1 (ap (map entry_id) (c.entries.ensures.entries ∙ same ∙ sym is ∙ sym c.entries-2.ensures.entries))),
    )
