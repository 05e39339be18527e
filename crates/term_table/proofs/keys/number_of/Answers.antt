use Rattle.std.proofs.Common.{rules, ◌<◌, ℕ, w64, FitsSigned, get_or, ap, ◌∙◌, arith}
use Rattle.std.proofs.lemmas.Int.{to_z-of_z}
use Rattle.std.specs.Int.{from_be_bytes}
use Rattle.term_table.specs.Keys.{number_key}
use Rattle.term_table.proofs.NumberKeys.{number_key-back}
use Rattle.term_table.proofs.keys.number_of.Goals as goal

pub returns-clause-some : goal.returns-clause-some
returns-clause-some c =
    let fits : FitsSigned w64 c.cast_signed.result = search rules in
    let bytes : (i : ℕ) → get_or c.args.key.now i 0 < 256 = λ i. omega (arith, c.type_inv.key i) in
    ap number_key (to_z-of_z w64 c.cast_signed.result fits ∙ c.cast_signed.ensures)
    ∙ number_key-back c.args.key.now c.from_be_bytes.result (omega arith) bytes c.from_be_bytes.type_inv (c.from_be_bytes.ensures ∙ ap (from_be_bytes w64) c.copy_from_slice.ensures.after)
