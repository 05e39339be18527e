use Rattle.std.proofs.Common.{◌≡◌, List, slice_get, sym, ap, subst, ◌∙◌}
use Rattle.std.specs.List.{find}
use Rattle.merge_jobs.specs.Open.{OpenState, is_named}
use Rattle.merge_jobs.proofs.open_jobs.OpenJobs.finish.Goals as goal

pub finish_at-requires-clause-done : goal.finish_at-requires-clause-done
finish_at-requires-clause-done c = λ job is.
    let found = subst (λ (js : List OpenState). slice_get js c.place_of-index.result ≡ find (is_named c.args.id) js) c.as_slice.ensures.value c.place_of-index.ensures.found in
    c.requires.done job (sym (found ∙ ap (find (is_named c.args.id)) c.self.view_is) ∙ is)

pub finish_at-requires-clause-same : goal.finish_at-requires-clause-same
finish_at-requires-clause-same c = λ job is.
    let found = subst (λ (js : List OpenState). slice_get js c.place_of-index.result ≡ find (is_named c.args.id) js) c.as_slice.ensures.value c.place_of-index.ensures.found in
    c.requires.same job (sym (found ∙ ap (find (is_named c.args.id)) c.self.view_is) ∙ is)
