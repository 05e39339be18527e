use Rattle.std.proofs.Common.{inr}
use Rattle.machine.specs.Searching.{found_by}
use Rattle.machine.specs.State.{sealed_state}
use Rattle.engine.specs.Parts.{answered_of}
use Rattle.engine.proofs.Answering.{left_sealed, sealed_faithful}
use Rattle.engine.proofs.Finding.{found_ends}
use Rattle.engine.proofs.Leaving.{leaves_sealed}
use Rattle.engine.proofs.Sealing.{buffer_sealed}
use Rattle.engine.proofs.search.search_live.Goals as goal

pub found_live-requires-clause-sealed : goal.found_live-requires-clause-sealed
found_live-requires-clause-sealed g c = buffer_sealed c.args.index.now c.seal.new.index c.in_ok-seal.ensures.sealed

pub returns-in_err-found-clause-answers : goal.returns-in_err-found-clause-answers
returns-in_err-found-clause-answers g c = λ state f.
    left_sealed _ c.args.mapping.now c.args.index.now c.seal.new.index state _ c.args.out.now.bytes c.from_residual-in_err-found.result c.from_residual-in_err-found.ensures.1 f c.in_ok-seal.ensures.next c.in_ok-seal.ensures.sealed

pub returns-in_err-found-clause-leaves : goal.returns-in_err-found-clause-leaves
returns-in_err-found-clause-leaves g c =
    leaves_sealed (answered_of c.from_residual-in_err-found.result) c.args.mapping.now c.args.index.now c.seal.new.index c.requires.index c.in_ok-seal.ensures.fits c.in_ok-seal.ensures.next
    c.in_ok-seal.ensures.objects (inr c.in_ok-seal.ensures.sealed)

pub returns-in_err-found-clause-reads : goal.returns-in_err-found-clause-reads
returns-in_err-found-clause-reads g c = λ state f.
    c.in_err-found.ensures.reads (sealed_state state) (sealed_faithful c.args.mapping.now c.args.index.now c.seal.new.index state f c.in_ok-seal.ensures.next c.in_ok-seal.ensures.sealed)

pub returns-clause-answers : goal.returns-clause-answers
returns-clause-answers g c = λ state f.
    let given = found_by c.args.mapping.now state.content.live c.args.search.now in
    let held = c.in_ok-found.ensures.found (sealed_state state) (sealed_faithful c.args.mapping.now c.args.index.now c.seal.new.index state f c.in_ok-seal.ensures.next c.in_ok-seal.ensures.sealed) in
    found_ends c.args.limits.now c.args.mapping.now c.args.search.now c.args.index.now c.seal.new.index state state.content.live c.write_found.result c.write_found.new.out.bytes f
    c.in_ok-seal.ensures.next c.in_ok-seal.ensures.sealed (c.write_found.ensures.told given held) (c.write_found.ensures.text given held)

pub returns-clause-leaves : goal.returns-clause-leaves
returns-clause-leaves g c =
    leaves_sealed (answered_of c.write_found.result) c.args.mapping.now c.args.index.now c.seal.new.index c.requires.index c.in_ok-seal.ensures.fits c.in_ok-seal.ensures.next c.in_ok-seal.ensures.objects
    (inr c.in_ok-seal.ensures.sealed)

pub returns-clause-reads : goal.returns-clause-reads
returns-clause-reads g c = λ state f.
    c.in_ok-found.ensures.reads (sealed_state state) (sealed_faithful c.args.mapping.now c.args.index.now c.seal.new.index state f c.in_ok-seal.ensures.next c.in_ok-seal.ensures.sealed)
