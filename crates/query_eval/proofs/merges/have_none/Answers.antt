use Rattle.std.proofs.Common.{List, Bool, is_none, sym, ap, ◌∙◌}
use Rattle.block_bits.specs.Flags.{is_marked}
use Rattle.block_bits.specs.Places.{next_place}
use Rattle.query_eval.proofs.Sets.{none_marked}
use Rattle.query_eval.proofs.merges.have_none.Goals as goal

pub returns-in-Some : goal.returns-in-Some
returns-in-Some c =
    ap is_none (sym c.in-Some.is) ∙ ap is_none (c.next_set.ensures.value ∙ ap (λ (flags : List Bool). next_place is_marked 0 flags) c.set.ensures) ∙ none_marked 0 c.args.scores.now

pub returns-in-None : goal.returns-in-None
returns-in-None c =
    ap is_none (sym c.in-None.is) ∙ ap is_none (c.next_set.ensures.value ∙ ap (λ (flags : List Bool). next_place is_marked 0 flags) c.set.ensures) ∙ none_marked 0 c.args.scores.now
