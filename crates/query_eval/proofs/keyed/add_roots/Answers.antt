use Rattle.std.proofs.Common.{◌≡◌, ◌<◌, Bool, List, None, get_or, sym, ap, ◌∙◌, arith}
use Rattle.query_eval.specs.Keyed.{key_of_doc}
use Rattle.query_eval.specs.Sides.{at_roots, keys_at}
use Rattle.query_eval.proofs.Leading.{adds_nothing, adds_some}
use Rattle.query_eval.proofs.keyed.add_roots.Goals.{in-Some+in_ok-push, in_default}
use Rattle.query_eval.proofs.keyed.add_roots.Goals as goal

pub documents-preserved : goal.documents-preserved
documents-preserved c =
    let m = c.args.mapping.now in
    let o = c.args.joins.now in
    let side = c.args.side in
    let columns = c.args.segment.now in
    let place = c.args.place in
    let doc = c.documents.doc in
    let low : doc < columns.documents = omega (arith, c.documents-test.true, c.len-doc-end.ensures, c.in_ok-set.ensures.long) in
    let key : c.key_if.result ≡ key_of_doc m o side columns place doc =
    c.key_if.ensures.key ∙ ap (λ (flags : List Bool). get_or (at_roots flags (keys_at m o side columns place)) doc None) c.in_ok-set.ensures.set in
    elim c.match-key_if.branch [
      | in-Some+in_ok-push w ↦
          rw w.roots-is (adds_some m o side columns place c.args.roots.now.items c.documents.roots.items w.push.new.self.items doc w.in-Some.key c.documents.invariant low (sym w.in-Some.is ∙ key) w.in_ok-push.ensures.items)
      | in_default w ↦ rw w.roots-is (adds_nothing m o side columns place c.args.roots.now.items c.documents.roots.items doc c.documents.invariant (sym w.in_default.is ∙ key))
    ]
