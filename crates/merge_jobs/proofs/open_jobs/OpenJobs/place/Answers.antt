use Rattle.std.proofs.Common.{◌≡◌, List, map, sym, ap, subst, ◌∙◌}
use Rattle.merge_jobs.specs.Open.{OpenState, merges_in, merges_shown, parts_in, placeless}
use Rattle.merge_jobs.proofs.Moved.{placed_merges, placed_parts}
use Rattle.merge_jobs.proofs.open_jobs.OpenJobs.place.Goals as goal

pub returns-clause-merges : goal.returns-clause-merges
returns-clause-merges c =
    ap merges_in c.place_all.ensures
    ∙ placed_merges c.self.inside.jobs.items c.args.rows.now (subst (λ (js : List OpenState). map placeless (merges_shown c.args.rows.now) ≡ map placeless (merges_in js)) (sym c.self.view_is) c.requires)

pub returns-clause-parts : goal.returns-clause-parts
returns-clause-parts c = ap (map parts_in) c.place_all.ensures ∙ placed_parts c.self.inside.jobs.items c.args.rows.now ∙ ap (map parts_in) c.self.view_is
