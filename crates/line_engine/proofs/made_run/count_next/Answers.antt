use Rattle.std.proofs.Common.{◌+◌, ℕ, List, length, ap, ◌∙◌}
use Rattle.engine.specs.View.{request_of}
use Rattle.line_engine.specs.Stopping.{disk_state}
use Rattle.line_engine.specs.Turns.{requests_of}
use Rattle.line_engine.proofs.Counting.{counted_all, counted_next}
use Rattle.line_engine.proofs.made_run.count_next.Goals as goal

pub returns-in-Err-End-clause-all : goal.returns-in-Err-End-clause-all
returns-in-Err-End-clause-all g c = λ same limits start left begun within counted.
    counted_all c.in-Err-End.field-0 limits start left (g.S.Source.left c.args.source.now) (g.S.Source.left c.next_request.new.source)
    (disk_state (g.D.Disk.content begun) (g.D.Disk.image begun) (g.D.Disk.moment begun) (g.D.Disk.image_since begun) (g.D.Disk.faults begun))
    (disk_state (g.D.Disk.content c.args.disk.now) (g.D.Disk.image c.args.disk.now) (g.D.Disk.moment c.args.disk.now) (g.D.Disk.image_since c.args.disk.now) (g.D.Disk.faults c.args.disk.now))
    c.args.session.now.reader.input c.next_request.new.self.input c.args.session.now.engine c.next_request.new.self.request c.args.totals.now c.in-Err-End.field-0-is counted
    (c.in-Err-End.ensures.gives limits.session_bytes left (requests_of counted.served.turns) counted.served.given)

pub returns-clause-counted : goal.returns-clause-counted
returns-clause-counted g c = λ same limits start left begun within counted.
    counted_next limits start left (g.S.Source.left c.args.source.now) (g.S.Source.left c.next_request.new.source)
    (disk_state (g.D.Disk.content begun) (g.D.Disk.image begun) (g.D.Disk.moment begun) (g.D.Disk.image_since begun) (g.D.Disk.faults begun))
    (disk_state (g.D.Disk.content c.args.disk.now) (g.D.Disk.image c.args.disk.now) (g.D.Disk.moment c.args.disk.now) (g.D.Disk.image_since c.args.disk.now) (g.D.Disk.faults c.args.disk.now))
    (disk_state (g.D.Disk.content c.answer-answered.new.disk) (g.D.Disk.image c.answer-answered.new.disk) (g.D.Disk.moment c.answer-answered.new.disk) (g.D.Disk.image_since c.answer-answered.new.disk) (g.D.Disk.faults c.answer-answered.new.disk))
    c.args.session.now.reader.input c.next_request.new.self.input c.args.session.now.engine c.answer-answered.new.self c.next_request.new.self.request
    c.answer-answered.result c.answer-answered.new.out.bytes c.args.totals.now c.count.new.self
    (λ file one other. c.a_file_holds_one_commit.ensures limits.store_bytes file one other within) counted
    (c.in-Ok.ensures.gives limits.session_bytes left (requests_of counted.served.turns) counted.served.given)
    (λ state faithful. record {
      asked = request_of c.first_line.result c.source_line.result;
      first = c.first_line.ensures;
      source = c.source_line.ensures;
      reads = c.args.steps.now;
      reads' = c.answer-answered.new.steps;
      answers = c.answer-answered.ensures.answers state faithful;
      limits = c.answer-answered.ensures.limits;
      limit = c.answer-answered.ensures.store;
      told = c.answer-answered.ensures.told;
      time = record { counts = λ moment file before is. g.met.D.Disk.counts_now c.args.disk.now moment file before is; only = λ file was. g.met.D.Disk.only_now c.args.disk.now file was };
      time' = record { counts = λ moment file before is. g.met.D.Disk.counts_now c.answer-answered.new.disk moment file before is; only = λ file was. g.met.D.Disk.only_now c.answer-answered.new.disk file was };
    })
    (record {
      memory = c.in_ok-count.ensures.answered;
      bytes_are = c.in_ok-count.ensures.bytes ∙ ap (λ (out : List ℕ). c.args.totals.now.bytes + length out) c.as_slice.ensures;
      errors_are = c.in_ok-count.ensures.errors;
      lines_are = c.in_ok-count.ensures.lines;
    })
