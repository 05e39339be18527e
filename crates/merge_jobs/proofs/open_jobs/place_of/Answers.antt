use Rattle.std.proofs.Common.{◌≡◌, true, sym, ap, ◌∙◌}
use Rattle.merge_jobs.specs.Open.{is_named}
use Rattle.merge_jobs.specs.contracts.open_jobs.OpenJob.{the_view}
use Rattle.merge_jobs.proofs.Moved.{found_here, named_is}
use Rattle.merge_jobs.proofs.open_jobs.place_of.Goals as goal

pub returns-then-job-id-clause-found : goal.returns-then-job-id-clause-found
returns-then-job-id-clause-found c =
    let named : is_named c.args.id c.index-jobs-index.result ≡ true = ap (is_named c.args.id) (sym c.job.view_is) ∙ named_is c.args.id (the_view c.job.inside) c.if-job-id.true in
    found_here c.args.id c.jobs.index c.args.jobs.now c.index-jobs-index.result c.jobs-test.true c.index-jobs-index.is named c.jobs.invariant
