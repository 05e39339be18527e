use Rattle.std.proofs.Common.{sym, codes}
use lib.Pointwise.{bytes_decides}
use Rattle.tree_json.specs.Reading.{reading}
use Rattle.request_form.specs.Seen.{target_view}
use Rattle.request_form.proofs.FirstLines.{index_line, some_bytes}
use Rattle.request_form.proofs.request.index_target.Goals as goal

pub returns-in_ok-target_alone : goal.returns-in_ok-target_alone
returns-in_ok-target_alone c =
    index_line (reading c.args.line.now) c.in-Some.it.outer.now c.in-Some.it.inner.now c.in-Some.it.text.now (target_view c.in_ok-target_alone.field-0)
    c.in-Some.ensures ((bytes_decides c.in-Some.it.outer.now (codes "index")).0 (sym c.if-eq.ensures)) ((bytes_decides c.in-Some.it.inner.now (codes "_id")).0 (sym c.if-eq-2.ensures)) (some_bytes c.in-Some.it.text.now c.if-not-is_empty.ensures) (c.in_ok-target_alone.ensures)
