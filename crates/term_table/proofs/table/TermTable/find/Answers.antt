use Rattle.std.proofs.Common.{◌<◌, length, refl, sym, ◌∙◌, arith}
use Rattle.std.proofs.lemmas.Bool.{false≢true}
use Rattle.std.proofs.lemmas.Option.{slice_get_within}
use Rattle.term_table.proofs.Orders.{missing}
use Rattle.term_table.proofs.table.TermTable.find.Goals as goal
use Rattle.term_table.proofs.table.TermTable.find.Goals.{else-ordinal-count-via-then-ordinal-count+else-is_at, else-ordinal-count-via-else-ordinal-count}

pub returns-else-ordinal-count-clause-missing : goal.returns-else-ordinal-count-clause-missing
returns-else-ordinal-count-clause-missing c = (
  λ _. missing c.args.self.now c.args.field c.cut_at-ordinal.result c.args.bytes c.count.ensures.ascending c.cut_at-ordinal.ensures.split
      (elim c.else-ordinal-count.branch [
        | else-ordinal-count-via-then-ordinal-count+else-is_at w ↦ λ at. false≢true (sym w.if-is_at.false ∙ w.is_at.ensures.1 at)
        | else-ordinal-count-via-else-ordinal-count w ↦ λ at.
            let inside : c.cut_at-ordinal.result < length c.args.self.now = slice_get_within _ _ _ at in
            absurd (omega (arith, inside, w.if-ordinal-count.false, c.count.ensures.count))
      ]),
  λ _. refl,
)
