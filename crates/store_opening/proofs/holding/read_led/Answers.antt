use Rattle.std.proofs.Common.{List, ℕ, subst, arith}
use Rattle.store_text.specs.Read.{IsSlot}
use Rattle.store_text.specs.declared.header.Side.{Side}
use Rattle.store_opening.proofs.Leading.{shows_led, shows_none}
use Rattle.store_opening.proofs.holding.read_led.Goals as goal

pub returns-then-slot-eq0-clause-damaged : goal.returns-then-slot-eq0-clause-damaged
returns-then-slot-eq0-clause-damaged g c = λ refused file known.
    let leads = c.requires.leads file known in
    shows_none (record { roots = c.fitting_segments_are_blocks.ensures.roots; same = c.fitting_segments_are_blocks.ensures.same }) c.args.limit file c.args.header.now c.args.side
    c.slot-slot.result c.requires.limit c.numbers_fit.ensures.generation c.numbers_fit.ensures.place c.numbers_fit.ensures.length leads (c.slot-slot.ensures file leads.has.says)
    (λ first last it m view said stands. grind (arith, first, c.if-slot-eq0.true))

pub returns-then-slot-gt-LAST_GENERATION-clause-damaged : goal.returns-then-slot-gt-LAST_GENERATION-clause-damaged
returns-then-slot-gt-LAST_GENERATION-clause-damaged g c = λ refused file known.
    let leads = c.requires.leads file known in
    shows_none (record { roots = c.fitting_segments_are_blocks.ensures.roots; same = c.fitting_segments_are_blocks.ensures.same }) c.args.limit file c.args.header.now c.args.side
    c.slot-slot.result c.requires.limit c.numbers_fit.ensures.generation c.numbers_fit.ensures.place c.numbers_fit.ensures.length leads (c.slot-slot.ensures file leads.has.says)
    (λ first last it m view said stands. omega (arith, last, c.if-slot-gt-LAST_GENERATION.true))

pub returns-in_err-commit-clause-damaged : goal.returns-in_err-commit-clause-damaged
returns-in_err-commit-clause-damaged g c = λ refused file known.
    let leads = c.requires.leads file known in
    shows_none (record { roots = c.fitting_segments_are_blocks.ensures.roots; same = c.fitting_segments_are_blocks.ensures.same }) c.args.limit file c.args.header.now c.args.side
    c.slot-slot.result c.requires.limit c.numbers_fit.ensures.generation c.numbers_fit.ensures.place c.numbers_fit.ensures.length leads (c.slot-slot.ensures file leads.has.says)
    (λ first last it m view said stands.
    c.read_commit.ensures.damaged (grind (arith, refused, c.from_residual.ensures, c.in_err-commit.was)) file it m view known said stands)

pub returns-clause-shows : goal.returns-clause-shows
returns-clause-shows g c = λ file known.
    let leads = c.requires.leads file known in
    shows_led (record { roots = c.fitting_segments_are_blocks.ensures.roots; same = c.fitting_segments_are_blocks.ensures.same }) c.args.limit file c.args.header.now c.args.side
    c.slot-slot.result c.slot-idle.result c.in_ok-commit.commit leads (c.slot-slot.ensures file leads.has.says)
    (subst (λ (it : Side). IsSlot it c.slot-idle.result file) c.other.ensures (c.slot-idle.ensures file leads.has.says)) (grind (arith, c.if-slot-eq0.false))
    c.if-slot-gt-LAST_GENERATION.false c.in_ok-commit.ensures.said (c.in_ok-commit.ensures.stands file known)
