use Rattle.std.proofs.Common.{◌≡◌, ◌++◌, Some, Option, sym, ap, subst, ◌∙◌}
use Rattle.std.specs.Option.{option_map}
use Rattle.flattener.specs.Block.{BlockState}
use Rattle.index_core.specs.Inside.{state_of}
use Rattle.index_core.specs.Kept.{IndexState, block_number, live_block}
use Rattle.index_core.specs.Write.{source_of}
use Rattle.index_core.proofs.Keeping.{found_number}
use Rattle.index_core.proofs.index_core.IndexCore.source.Goals as goal

pub returns-in_ok-fetch-in-Some-clause-source : goal.returns-in_ok-fetch-in-Some-clause-source
returns-in_ok-fetch-in-Some-clause-source g c =
    let live = live_block c.args.id.now (state_of c.self.inside) in
    let number : option_map block_number live ≡ Some c.in-Some.number = sym (c.self.invariant.numbers c.args.id.now) ∙ sym c.in-Some.ensures in
    let found = found_number live c.in-Some.number number in
    subst (λ (s : IndexState). c.fetch.new.out.items ≡ c.args.out.now.items ++ source_of (live_block c.args.id.now s)) c.self.view_is
    (c.in_ok-fetch-in-Some.ensures.source c.args.id.now found.0 (record { found = found.1; same = found.2 }) ∙ ap (λ (o : Option BlockState). c.args.out.now.items ++ source_of o) (sym found.1))
