use Rattle.std.proofs.Common.{List, Bool, sym, ap, ◌∙◌}
use Rattle.block_bits.specs.Flags.{is_marked}
use Rattle.block_bits.specs.Places.{next_place}
use Rattle.block_join.proofs.Totals.{none_found}
use Rattle.block_join.proofs.merge.have_none.Goals as goal

pub returns-in-None : goal.returns-in-None
returns-in-None c = λ same. none_found c.args.scores.now (sym (ap (λ (flags : List Bool). next_place is_marked 0 flags) c.set.ensures) ∙ sym c.next_set.ensures.value ∙ c.in-None.is)
