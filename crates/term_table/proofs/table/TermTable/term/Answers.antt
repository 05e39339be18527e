use Rattle.std.proofs.Common.{◌≡◌, ◌-◌, length, sym, ap, ◌∙◌, arith}
use Rattle.term_table.proofs.Tables.{length-terms_of, has_term-at}
use Rattle.term_table.proofs.table.TermTable.term.Goals as goal

pub term_of-requires : goal.term_of-requires
term_of-requires c =
    let it = c.self.inside in
    let size : length c.args.self.now ≡ length it.places.now - 1 = sym (ap length c.self.view_is) ∙ length-terms_of it.bytes.now it.places.now in
    rw c.row.ensures (has_term-at it.bytes.now it.places.now c.args.ordinal c.self.invariant (omega (arith, c.requires, size)))
