use Rattle.std.proofs.Common.{◌≡◌, Err, ap, ◌∙◌}
use Rattle.std.proofs.lemmas.Result.{err_from_is_err_and}
use Rattle.line_engine.specs.Exit.{status_unopened}
use Rattle.line_engine.specs.Stopping.{disk_state}
use Rattle.line_engine.specs.declared.status.Status.TheVariants.{NoMemory}
use Rattle.line_engine.proofs.Beginning.{cause_unopened, file_unopened, serves_opened, serves_unmade, serves_unopened, stands_start, stored_opened}
use Rattle.line_engine.proofs.session.begin.Goals as goal

pub returns-in_err-reader-clause-serves : goal.returns-in_err-reader-clause-serves
returns-in_err-reader-clause-serves g c =
    let e = err_from_is_err_and c.from_residual.result c.from_residual.ensures.1 in
    let same : c.from_residual.result ≡ Err NoMemory = e.1 ∙ ap Err e.2 in
    rw same (λ start left taken starts. serves_unmade c.args.limits.now start left taken
    (disk_state (g.D.Disk.content c.args.disk.now) (g.D.Disk.image c.args.disk.now) (g.D.Disk.moment c.args.disk.now) (g.D.Disk.image_since c.args.disk.now) (g.D.Disk.faults c.args.disk.now))
    (record {
      faithful = λ objects found store mapping next view start good opened opens. c.an_opened_store_stands_for_its_trees.ensures.faithful c.args.limits.now.store_bytes objects found store mapping next view start good opened opens;
      good = λ file found there. c.an_opened_store_stands_for_its_trees.ensures.good c.args.limits.now.store_bytes file found there;
      starts = λ file start starts. c.an_opened_store_stands_for_its_trees.ensures.starts c.args.limits.now.store_bytes file start starts;
    })
    (record { counts = λ moment file before is. g.met.D.Disk.counts_now c.args.disk.now moment file before is; only = λ file was. g.met.D.Disk.only_now c.args.disk.now file was }) starts)

pub returns-in_err-reserve-clause-serves : goal.returns-in_err-reserve-clause-serves
returns-in_err-reserve-clause-serves g c =
    let e = err_from_is_err_and c.from_residual-in_err-reserve.result c.from_residual-in_err-reserve.ensures.1 in
    let same : c.from_residual-in_err-reserve.result ≡ Err NoMemory = e.1 ∙ ap Err e.2 in
    rw same (λ start left taken starts. serves_unmade c.args.limits.now start left taken
    (disk_state (g.D.Disk.content c.args.disk.now) (g.D.Disk.image c.args.disk.now) (g.D.Disk.moment c.args.disk.now) (g.D.Disk.image_since c.args.disk.now) (g.D.Disk.faults c.args.disk.now))
    (record {
      faithful = λ objects found store mapping next view start good opened opens. c.an_opened_store_stands_for_its_trees.ensures.faithful c.args.limits.now.store_bytes objects found store mapping next view start good opened opens;
      good = λ file found there. c.an_opened_store_stands_for_its_trees.ensures.good c.args.limits.now.store_bytes file found there;
      starts = λ file start starts. c.an_opened_store_stands_for_its_trees.ensures.starts c.args.limits.now.store_bytes file start starts;
    })
    (record { counts = λ moment file before is. g.met.D.Disk.counts_now c.args.disk.now moment file before is; only = λ file was. g.met.D.Disk.only_now c.args.disk.now file was }) starts)

pub returns-in_err-found-clause-serves : goal.returns-in_err-found-clause-serves
returns-in_err-found-clause-serves g c =
    let e = err_from_is_err_and c.from_residual-in_err-found.result c.from_residual-in_err-found.ensures.1 in
    let same : c.from_residual-in_err-found.result ≡ Err (status_unopened c.in_err-found.field-0.0) = e.1 ∙ ap Err e.2 in
    rw same (λ start left taken starts. serves_unopened c.in_err-found.field-0.0 c.args.limits.now start left taken
    (disk_state (g.D.Disk.content c.args.disk.now) (g.D.Disk.image c.args.disk.now) (g.D.Disk.moment c.args.disk.now) (g.D.Disk.image_since c.args.disk.now) (g.D.Disk.faults c.args.disk.now))
    (disk_state (g.D.Disk.content c.open_store.new.disk) (g.D.Disk.image c.open_store.new.disk) (g.D.Disk.moment c.open_store.new.disk) (g.D.Disk.image_since c.open_store.new.disk) (g.D.Disk.faults c.open_store.new.disk))
    (record {
      faithful = λ objects found store mapping next view start good opened opens. c.an_opened_store_stands_for_its_trees.ensures.faithful c.args.limits.now.store_bytes objects found store mapping next view start good opened opens;
      good = λ file found there. c.an_opened_store_stands_for_its_trees.ensures.good c.args.limits.now.store_bytes file found there;
      starts = λ file start starts. c.an_opened_store_stands_for_its_trees.ensures.starts c.args.limits.now.store_bytes file start starts;
    })
    (record { counts = λ moment file before is. g.met.D.Disk.counts_now c.args.disk.now moment file before is; only = λ file was. g.met.D.Disk.only_now c.args.disk.now file was }) starts
    (record {
      cause = c.in_err-found.ensures.cause;
      left = c.in_err-found.ensures.left;
      looked = c.open_store.ensures.looked;
      other = λ is. c.in_err-found.ensures.not_a_store (ap Err is);
      damaged = λ is. c.in_err-found.ensures.damaged (ap Err is);
    }))

pub returns-in_err-found-clause-file : goal.returns-in_err-found-clause-file
returns-in_err-found-clause-file g c =
    let e = err_from_is_err_and c.from_residual-in_err-found.result c.from_residual-in_err-found.ensures.1 in
    let same : c.from_residual-in_err-found.result ≡ Err (status_unopened c.in_err-found.field-0.0) = e.1 ∙ ap Err e.2 in
    rw same (λ bytes is. file_unopened c.in_err-found.field-0.0 c.args.limits.now.store_bytes bytes
    (disk_state (g.D.Disk.content c.args.disk.now) (g.D.Disk.image c.args.disk.now) (g.D.Disk.moment c.args.disk.now) (g.D.Disk.image_since c.args.disk.now) (g.D.Disk.faults c.args.disk.now))
    (disk_state (g.D.Disk.content c.open_store.new.disk) (g.D.Disk.image c.open_store.new.disk) (g.D.Disk.moment c.open_store.new.disk) (g.D.Disk.image_since c.open_store.new.disk) (g.D.Disk.faults c.open_store.new.disk))
    (record {
      cause = c.in_err-found.ensures.cause;
      left = c.in_err-found.ensures.left;
      looked = c.open_store.ensures.looked;
      other = λ is. c.in_err-found.ensures.not_a_store (ap Err is);
      damaged = λ is. c.in_err-found.ensures.damaged (ap Err is);
    }) is)

pub returns-in_err-found-clause-cause : goal.returns-in_err-found-clause-cause
returns-in_err-found-clause-cause g c =
    let e = err_from_is_err_and c.from_residual-in_err-found.result c.from_residual-in_err-found.ensures.1 in
    let same : c.from_residual-in_err-found.result ≡ Err (status_unopened c.in_err-found.field-0.0) = e.1 ∙ ap Err e.2 in
    rw same (cause_unopened c.in_err-found.field-0.0 (g.D.Disk.faults c.args.disk.now) (g.D.Disk.faults c.open_store.new.disk) c.in_err-found.ensures.cause)

pub returns-in_err-engine-clause-serves : goal.returns-in_err-engine-clause-serves
returns-in_err-engine-clause-serves g c =
    let e = err_from_is_err_and c.from_residual-in_err-engine.result c.from_residual-in_err-engine.ensures.1 in
    let same : c.from_residual-in_err-engine.result ≡ Err NoMemory = e.1 ∙ ap Err e.2 in
    rw same (λ start left taken starts. serves_opened c.args.limits.now start left taken c.in_ok-found.found
    (disk_state (g.D.Disk.content c.args.disk.now) (g.D.Disk.image c.args.disk.now) (g.D.Disk.moment c.args.disk.now) (g.D.Disk.image_since c.args.disk.now) (g.D.Disk.faults c.args.disk.now))
    (disk_state (g.D.Disk.content c.open_store.new.disk) (g.D.Disk.image c.open_store.new.disk) (g.D.Disk.moment c.open_store.new.disk) (g.D.Disk.image_since c.open_store.new.disk) (g.D.Disk.faults c.open_store.new.disk))
    (record {
      faithful = λ objects found store mapping next view start good opened opens. c.an_opened_store_stands_for_its_trees.ensures.faithful c.args.limits.now.store_bytes objects found store mapping next view start good opened opens;
      good = λ file found there. c.an_opened_store_stands_for_its_trees.ensures.good c.args.limits.now.store_bytes file found there;
      starts = λ file start starts. c.an_opened_store_stands_for_its_trees.ensures.starts c.args.limits.now.store_bytes file start starts;
    })
    (λ file one other. c.a_file_holds_one_commit.ensures c.args.limits.now.store_bytes file one other c.requires.store)
    (record { counts = λ moment file before is. g.met.D.Disk.counts_now c.open_store.new.disk moment file before is; only = λ file was. g.met.D.Disk.only_now c.open_store.new.disk file was }) starts
    (record {
      fits = c.in_ok-found.ensures.fits;
      opens = c.in_ok-found.ensures.opens;
      later = c.open_store.ensures.later;
      same = c.in_ok-found.ensures.cause;
    }))

pub returns-clause-stands : goal.returns-clause-stands
returns-clause-stands g c = λ start starts. rw c.in_ok-engine.ensures (stands_start c.args.limits.now start c.in_ok-found.found
    (disk_state (g.D.Disk.content c.args.disk.now) (g.D.Disk.image c.args.disk.now) (g.D.Disk.moment c.args.disk.now) (g.D.Disk.image_since c.args.disk.now) (g.D.Disk.faults c.args.disk.now))
    (disk_state (g.D.Disk.content c.open_store.new.disk) (g.D.Disk.image c.open_store.new.disk) (g.D.Disk.moment c.open_store.new.disk) (g.D.Disk.image_since c.open_store.new.disk) (g.D.Disk.faults c.open_store.new.disk))
    (record {
      faithful = λ objects found store mapping next view start good opened opens. c.an_opened_store_stands_for_its_trees.ensures.faithful c.args.limits.now.store_bytes objects found store mapping next view start good opened opens;
      good = λ file found there. c.an_opened_store_stands_for_its_trees.ensures.good c.args.limits.now.store_bytes file found there;
      starts = λ file start starts. c.an_opened_store_stands_for_its_trees.ensures.starts c.args.limits.now.store_bytes file start starts;
    })
    (λ file one other. c.a_file_holds_one_commit.ensures c.args.limits.now.store_bytes file one other c.requires.store)
    (record { counts = λ moment file before is. g.met.D.Disk.counts_now c.open_store.new.disk moment file before is; only = λ file was. g.met.D.Disk.only_now c.open_store.new.disk file was }) starts
    (record {
      fits = c.in_ok-found.ensures.fits;
      opens = c.in_ok-found.ensures.opens;
      later = c.open_store.ensures.later;
      same = c.in_ok-found.ensures.cause;
    }))

pub returns-clause-stored : goal.returns-clause-stored
returns-clause-stored g c = λ bytes is. stored_opened c.args.limits.now.store_bytes c.in_ok-found.found
    (disk_state (g.D.Disk.content c.args.disk.now) (g.D.Disk.image c.args.disk.now) (g.D.Disk.moment c.args.disk.now) (g.D.Disk.image_since c.args.disk.now) (g.D.Disk.faults c.args.disk.now))
    (disk_state (g.D.Disk.content c.open_store.new.disk) (g.D.Disk.image c.open_store.new.disk) (g.D.Disk.moment c.open_store.new.disk) (g.D.Disk.image_since c.open_store.new.disk) (g.D.Disk.faults c.open_store.new.disk)) bytes
    (record {
      fits = c.in_ok-found.ensures.fits;
      opens = c.in_ok-found.ensures.opens;
      later = c.open_store.ensures.later;
      same = c.in_ok-found.ensures.cause;
    }) is
