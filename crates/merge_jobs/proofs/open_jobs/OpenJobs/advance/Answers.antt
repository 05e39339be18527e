use Rattle.std.proofs.Common.{◌≡◌, ◌<◌, List, length, map, slice_get, sym, ap, subst, ◌∙◌, OnOk}
use Rattle.std.specs.List.{find}
use Rattle.layout.specs.Ascending.{Ascend}
use Rattle.layout.specs.Merges.{advanced_if, merge_id}
use Rattle.merge_jobs.specs.Open.{OpenState, is_named, merges_in, with_merge}
use Rattle.merge_jobs.proofs.Moved.{found_at, walked_at}
use Rattle.merge_jobs.proofs.open_jobs.OpenJobs.advance.Goals as goal

pub advance_at-requires-clause-same : goal.advance_at-requires-clause-same
advance_at-requires-clause-same c = λ job is.
    let found = subst (λ (js : List OpenState). slice_get js c.place_of-index.result ≡ find (is_named c.args.id) js) c.as_slice.ensures.value c.place_of-index.ensures.found in
    c.requires.same job (sym (found ∙ ap (find (is_named c.args.id)) c.self.view_is) ∙ is)

pub returns-clause-advanced : goal.returns-clause-advanced
returns-clause-advanced c =
    let items = c.self.inside.jobs.items in
    let index = c.place_of-index.result in
    let within = subst (λ (js : List OpenState). index < length js) c.as_slice.ensures.value c.place_of-index.ensures.within in
    let found = subst (λ (js : List OpenState). slice_get js index ≡ find (is_named c.args.id) js) c.as_slice.ensures.value c.place_of-index.ensures.found in
    let at = found_at c.args.id index items within found in
    let ids = subst (λ (js : List OpenState). Ascend 1 (map merge_id (merges_in js)) c.requires.ids.0) (sym c.self.view_is) c.requires.ids.1 in
    subst (λ (js : List OpenState). OnOk c.advance_at.result (c.advance_at.new.jobs.items ≡ js))
    (walked_at c.args.id c.args.roots index c.requires.ids.0 items at ids ∙ ap (map (with_merge (advanced_if c.args.id c.args.roots))) c.self.view_is)
    (c.advance_at.ensures.advanced at.job at.here)

pub returns-clause-left : goal.returns-clause-left
returns-clause-left c = λ job is.
    let items = c.self.inside.jobs.items in
    let index = c.place_of-index.result in
    let found = subst (λ (js : List OpenState). slice_get js index ≡ find (is_named c.args.id) js) c.as_slice.ensures.value c.place_of-index.ensures.found in
    c.advance_at.ensures.left job (found ∙ ap (find (is_named c.args.id)) c.self.view_is ∙ is)
