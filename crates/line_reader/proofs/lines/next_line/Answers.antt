use Rattle.std.proofs.Common.{◌≡◌, ◌<◌, ◌+◌, None, length, Err, ap, refl, sym, ◌∙◌, arith}
use Rattle.std.proofs.lemmas.Result.{err_from_is_err_and}
use Rattle.line_reader.specs.Seen.{ahead}
use Rattle.line_reader.specs.Reading.{LineOf}
use Rattle.line_reader.proofs.Progress.{reads_ahead}
use Rattle.line_reader.proofs.Filling.{skips_none, skips_more, skips_line, skips_stopped}
use Rattle.line_reader.proofs.lines.next_line.Goals as goal

pub lines-init : goal.lines-init
lines-init g c = (skips_none c.args.input.now (g.S.Source.left c.args.source.now), c.requires.known, refl)

pub returns-in_err-read_line-clause-reads : goal.returns-in_err-read_line-clause-reads
returns-in_err-read_line-clause-reads g c =
    let e = err_from_is_err_and c.from_residual.result c.from_residual.ensures.1 in
    let same : c.from_residual.result ≡ Err c.in_err-read_line.field-0.0 = e.1 ∙ ap Err e.2 in
    rw same (skips_stopped c.in_err-read_line.field-0.0 c.args.input.now c.lines.input c.read_line.new.input (g.S.Source.left c.args.source.now) (g.S.Source.left c.lines.source) (g.S.Source.left c.read_line.new.source)
    c.read_line.new.line c.lines.invariant.0 c.lines.invariant.1 c.in_err-read_line.ensures.reads)

pub returns-then-not-is_blank-clause-reads : goal.returns-then-not-is_blank-clause-reads
returns-then-not-is_blank-clause-reads g c =
    skips_line c.args.input.now c.lines.input c.read_line.new.input (g.S.Source.left c.args.source.now) (g.S.Source.left c.lines.source) (g.S.Source.left c.read_line.new.source)
    c.read_line.new.line c.lines.invariant.0 c.lines.invariant.1 c.in_ok-read_line.ensures.reads (sym c.is_blank.ensures ∙ c.if-not-is_blank.true)

pub lines-smaller : goal.lines-smaller
lines-smaller g c =
    let some : 0 < length c.in_ok-read_line.ensures.reads.used = c.in_ok-read_line.ensures.reads.is.some in
    let less : ahead c.read_line.new.input + length c.in_ok-read_line.ensures.reads.used ≡ ahead c.lines.input =
    reads_ahead None c.lines.input c.read_line.new.input (g.S.Source.left c.lines.source) (g.S.Source.left c.read_line.new.source) (LineOf None c.read_line.new.input.ended c.read_line.new.line) c.in_ok-read_line.ensures.reads in
    omega (arith, some, less)

pub lines-preserved : goal.lines-preserved
lines-preserved g c = (
  skips_more c.args.input.now c.lines.input c.read_line.new.input (g.S.Source.left c.args.source.now) (g.S.Source.left c.lines.source) (g.S.Source.left c.read_line.new.source)
      c.read_line.new.line c.lines.invariant.0 c.lines.invariant.1 c.in_ok-read_line.ensures.reads (sym c.is_blank.ensures ∙ c.if-not-is_blank.false),
  c.read_line.ensures.known,
  c.in_ok-read_line.ensures.cause ∙ c.lines.invariant.2,
)
