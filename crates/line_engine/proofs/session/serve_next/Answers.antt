use Rattle.std.proofs.Common.{◌≡◌, Err, ap, ◌∙◌}
use Rattle.std.proofs.lemmas.Result.{err_from_is_err_and}
use Rattle.engine.specs.View.{request_of}
use Rattle.line_engine.specs.Exit.{status_of}
use Rattle.line_engine.specs.Stopping.{disk_state}
use Rattle.line_engine.specs.Turns.{requests_of}
use Rattle.line_engine.proofs.Serving.{served_next, served_stop, served_part}
use Rattle.line_engine.proofs.session.serve_next.Goals as goal

pub returns-in_err-next_request-clause-serves : goal.returns-in_err-next_request-clause-serves
returns-in_err-next_request-clause-serves g c =
    let e = err_from_is_err_and c.from_residual.result c.from_residual.ensures.1 in
    let same : c.from_residual.result ≡ Err (status_of c.in_err-next_request.field-0.0) = e.1 ∙ ap Err e.2 in
    rw same (λ limits start left taken begun within served.
    served_stop c.in_err-next_request.field-0.0 limits start left (g.S.Source.left c.args.source.now) (g.S.Source.left c.next_request.new.source) taken (g.K.Sink.taken c.args.sink.now)
    (disk_state (g.D.Disk.content begun) (g.D.Disk.image begun) (g.D.Disk.moment begun) (g.D.Disk.image_since begun) (g.D.Disk.faults begun))
    (disk_state (g.D.Disk.content c.args.disk.now) (g.D.Disk.image c.args.disk.now) (g.D.Disk.moment c.args.disk.now) (g.D.Disk.image_since c.args.disk.now) (g.D.Disk.faults c.args.disk.now))
    c.args.session.now.reader.input c.next_request.new.self.input c.args.session.now.engine c.next_request.new.self.request served
    (c.in_err-next_request.ensures.gives limits.session_bytes left (requests_of served.turns) served.given))

pub returns-in-Ok-clause-served : goal.returns-in-Ok-clause-served
returns-in-Ok-clause-served g c = λ limits start left taken begun within served.
    served_next limits start left (g.S.Source.left c.args.source.now) (g.S.Source.left c.next_request.new.source) taken (g.K.Sink.taken c.args.sink.now) (g.K.Sink.taken c.write_reply.new.sink)
    (disk_state (g.D.Disk.content begun) (g.D.Disk.image begun) (g.D.Disk.moment begun) (g.D.Disk.image_since begun) (g.D.Disk.faults begun))
    (disk_state (g.D.Disk.content c.args.disk.now) (g.D.Disk.image c.args.disk.now) (g.D.Disk.moment c.args.disk.now) (g.D.Disk.image_since c.args.disk.now) (g.D.Disk.faults c.args.disk.now))
    (disk_state (g.D.Disk.content c.answer-answered.new.disk) (g.D.Disk.image c.answer-answered.new.disk) (g.D.Disk.moment c.answer-answered.new.disk) (g.D.Disk.image_since c.answer-answered.new.disk) (g.D.Disk.faults c.answer-answered.new.disk))
    c.args.session.now.reader.input c.next_request.new.self.input c.args.session.now.engine c.answer-answered.new.self c.next_request.new.self.request
    c.answer-answered.result c.answer-answered.new.out.bytes
    (λ file one other. c.a_file_holds_one_commit.ensures limits.store_bytes file one other within) served
    (c.in_ok-next_request.ensures.gives limits.session_bytes left (requests_of served.turns) served.given)
    (λ state faithful. record {
      asked = request_of c.first_line.result c.source_line.result;
      first = c.first_line.ensures;
      source = c.source_line.ensures;
      reads = c.args.steps.now;
      reads' = c.answer-answered.new.steps;
      answers = c.answer-answered.ensures.answers state faithful;
      limits = c.answer-answered.ensures.limits;
      limit = c.answer-answered.ensures.store;
      told = c.answer-answered.ensures.told;
      time = record { counts = λ moment file before is. g.met.D.Disk.counts_now c.args.disk.now moment file before is; only = λ file was. g.met.D.Disk.only_now c.args.disk.now file was };
      time' = record { counts = λ moment file before is. g.met.D.Disk.counts_now c.answer-answered.new.disk moment file before is; only = λ file was. g.met.D.Disk.only_now c.answer-answered.new.disk file was };
    })
    c.in-Ok.ensures.bytes

pub returns-in-Err-clause-serves : goal.returns-in-Err-clause-serves
returns-in-Err-clause-serves g c = λ limits start left taken begun within served.
    served_part limits start left (g.S.Source.left c.args.source.now) (g.S.Source.left c.next_request.new.source) taken (g.K.Sink.taken c.args.sink.now) (g.K.Sink.taken c.write_reply.new.sink)
    (disk_state (g.D.Disk.content begun) (g.D.Disk.image begun) (g.D.Disk.moment begun) (g.D.Disk.image_since begun) (g.D.Disk.faults begun))
    (disk_state (g.D.Disk.content c.args.disk.now) (g.D.Disk.image c.args.disk.now) (g.D.Disk.moment c.args.disk.now) (g.D.Disk.image_since c.args.disk.now) (g.D.Disk.faults c.args.disk.now))
    (disk_state (g.D.Disk.content c.answer-answered.new.disk) (g.D.Disk.image c.answer-answered.new.disk) (g.D.Disk.moment c.answer-answered.new.disk) (g.D.Disk.image_since c.answer-answered.new.disk) (g.D.Disk.faults c.answer-answered.new.disk))
    c.args.session.now.reader.input c.next_request.new.self.input c.args.session.now.engine c.answer-answered.new.self c.next_request.new.self.request
    c.answer-answered.result c.answer-answered.new.out.bytes
    (λ file one other. c.a_file_holds_one_commit.ensures limits.store_bytes file one other within) served
    (c.in_ok-next_request.ensures.gives limits.session_bytes left (requests_of served.turns) served.given)
    (λ state faithful. record {
      asked = request_of c.first_line.result c.source_line.result;
      first = c.first_line.ensures;
      source = c.source_line.ensures;
      reads = c.args.steps.now;
      reads' = c.answer-answered.new.steps;
      answers = c.answer-answered.ensures.answers state faithful;
      limits = c.answer-answered.ensures.limits;
      limit = c.answer-answered.ensures.store;
      told = c.answer-answered.ensures.told;
      time = record { counts = λ moment file before is. g.met.D.Disk.counts_now c.args.disk.now moment file before is; only = λ file was. g.met.D.Disk.only_now c.args.disk.now file was };
      time' = record { counts = λ moment file before is. g.met.D.Disk.counts_now c.answer-answered.new.disk moment file before is; only = λ file was. g.met.D.Disk.only_now c.answer-answered.new.disk file was };
    })
    c.in-Err.ensures.part
