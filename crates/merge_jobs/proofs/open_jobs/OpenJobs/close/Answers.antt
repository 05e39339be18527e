use Rattle.std.proofs.Common.{◌≡◌, ◌<◌, List, length, map, filter, slice_get, sym, ap, subst, ◌∙◌}
use Rattle.std.specs.List.{find}
use Rattle.layout.specs.Ascending.{Ascend}
use Rattle.layout.specs.Merges.{merge_id}
use Rattle.merge_jobs.specs.Open.{OpenState, is_named, is_other_than, merges_in}
use Rattle.merge_jobs.proofs.Moved.{closed_at, found_at}
use Rattle.merge_jobs.proofs.open_jobs.OpenJobs.close.Goals as goal

pub returns : goal.returns
returns c =
    let items = c.self.inside.jobs.items in
    let index = c.place_of-index.result in
    let within = subst (λ (js : List OpenState). index < length js) c.as_slice.ensures.value c.place_of-index.ensures.within in
    let found = subst (λ (js : List OpenState). slice_get js index ≡ find (is_named c.args.id) js) c.as_slice.ensures.value c.place_of-index.ensures.found in
    let at = found_at c.args.id index items within found in
    let ids = subst (λ (js : List OpenState). Ascend 1 (map merge_id (merges_in js)) c.requires.ids.0) (sym c.self.view_is) c.requires.ids.1 in
    c.remove_at.ensures ∙ closed_at c.args.id index c.requires.ids.0 items at ids ∙ ap (filter (is_other_than c.args.id)) c.self.view_is
