use Rattle.std.proofs.Common.{refl, sym, subst, ◌∙◌}
use Rattle.merge_jobs.specs.Job.{AreLater}
use Rattle.merge_jobs.proofs.Later.{one_segment, same_all, same_next}
use Rattle.merge_jobs.proofs.made.Made.is_of.Goals as goal

pub is_same-requires-clause-id : goal.is_same-requires-clause-id
is_same-requires-clause-id c =
    let later = subst (AreLater c.requires.0) (sym c.self.view_is) c.requires.1 in
    (one_segment c.requires.0 c.self.inside.entries.items c.args.entries.now later c.requires.2 c.entries.index c.index.result.now c.index-entries-index.result c.entries-test.true c.index.ensures c.index-entries-index.is).id

pub is_same-requires-clause-columns : goal.is_same-requires-clause-columns
is_same-requires-clause-columns c =
    let later = subst (AreLater c.requires.0) (sym c.self.view_is) c.requires.1 in
    (one_segment c.requires.0 c.self.inside.entries.items c.args.entries.now later c.requires.2 c.entries.index c.index.result.now c.index-entries-index.result c.entries-test.true c.index.ensures c.index-entries-index.is).columns

pub entries-preserved : goal.entries-preserved
entries-preserved c =
    let later = subst (AreLater c.requires.0) (sym c.self.view_is) c.requires.1 in
    same_next c.requires.0 c.self.inside.entries.items c.args.entries.now later c.requires.2 c.entries.index c.index.result.now c.index-entries-index.result c.entries-test.true c.index.ensures c.index-entries-index.is
    (c.is_same.ensures.0 c.if-not-is_same.false) c.entries.invariant

pub returns : goal.returns
returns c =
    let later = subst (AreLater c.requires.0) (sym c.self.view_is) c.requires.1 in
    (λ _. sym c.self.view_is ∙ same_all c.requires.0 c.self.inside.entries.items c.args.entries.now later c.requires.2 c.entries.index c.entries-test.false c.entries.invariant, λ _. refl)
