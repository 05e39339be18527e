use Rattle.std.proofs.Common.{Some, ap, sym, ◌∙◌}
use Rattle.disk.specs.Record.{content_told}
use Rattle.line_engine.specs.Made.{bytes_left}
use Rattle.line_engine.proofs.Counting.{summed_over}
use Rattle.line_engine.proofs.made_run.summary_line.Goals as goal

pub returns : goal.returns
returns g c =
    summed_over c.args.number c.args.count c.standard.result (Some (bytes_left c.in_ok-source.source)) (Some (bytes_left c.totals_over.new.source)) (content_told c.in_ok-disk.disk.disk)
    c.in_ok-disk.disk.failed c.totals_over.new.disk.failed c.in_ok-totals.totals c.in_ok-line.line.bytes c.standard.ensures (ap Some c.in_ok-source.ensures) c.in_ok-disk.ensures.content
    c.in_ok-disk.ensures.failed (sym c.failed.ensures ∙ c.if-failed-ne0.false) c.in_ok-totals.ensures c.in_ok-line.ensures
