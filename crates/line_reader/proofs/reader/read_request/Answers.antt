use Rattle.std.proofs.Common.{◌≡◌, true, false, Err, sym, ap, ◌∙◌}
use Rattle.std.proofs.lemmas.Result.{err_from_is_err_and}
use Rattle.line_reader.specs.Request.{takes_source}
use Rattle.line_reader.proofs.Asking.{asks_source, asks_alone, asks_stopped}
use Rattle.line_reader.proofs.reader.read_request.Goals as goal

pub returns-in_err-next_line-clause-reads : goal.returns-in_err-next_line-clause-reads
returns-in_err-next_line-clause-reads g c =
    let e = err_from_is_err_and c.from_residual.result c.from_residual.ensures.1 in
    let same : c.from_residual.result ≡ Err c.in_err-next_line.field-0.0 = e.1 ∙ ap Err e.2 in
    rw same (asks_stopped c.in_err-next_line.field-0.0 c.args.input.now c.next_line.new.input (g.S.Source.left c.args.source.now) (g.S.Source.left c.next_line.new.source)
    c.next_line.new.line c.args.second.now c.in_err-next_line.ensures.reads)

pub returns-then-takes_source-clause-reads : goal.returns-then-takes_source-clause-reads
returns-then-takes_source-clause-reads g c =
    let takes : takes_source c.next_line.new.line.kept ≡ true = ap takes_source (sym c.kept.ensures) ∙ (sym c.takes_source.ensures ∙ c.if-takes_source.true) in
    asks_source c.read_source.result c.args.input.now c.next_line.new.input c.read_source.new.input (g.S.Source.left c.args.source.now) (g.S.Source.left c.next_line.new.source) (g.S.Source.left c.read_source.new.source)
    c.next_line.new.line c.read_source.new.line c.in_ok-next_line.ensures.reads takes c.next_line.ensures.known c.read_source.ensures.reads

pub returns-else-takes_source-clause-reads : goal.returns-else-takes_source-clause-reads
returns-else-takes_source-clause-reads g c =
    let takes : takes_source c.next_line.new.line.kept ≡ false = ap takes_source (sym c.kept.ensures) ∙ (sym c.takes_source.ensures ∙ c.if-takes_source.false) in
    asks_alone c.args.input.now c.next_line.new.input (g.S.Source.left c.args.source.now) (g.S.Source.left c.next_line.new.source) c.next_line.new.line c.args.second.now c.in_ok-next_line.ensures.reads takes
