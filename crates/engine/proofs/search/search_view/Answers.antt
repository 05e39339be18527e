use Rattle.std.proofs.Common.{inr, subst, sym}
use Rattle.machine.specs.Searching.{found_by}
use Rattle.engine.specs.Kept.{IfPoint}
use Rattle.engine.specs.Parts.{answered_of}
use Rattle.engine.proofs.Answering.{left_sealed}
use Rattle.engine.proofs.Finding.{found_ends}
use Rattle.engine.proofs.Keeping.{own_kept, own_taken}
use Rattle.engine.proofs.Leaving.{leaves_sealed}
use Rattle.engine.proofs.search.search_view.Goals as goal

pub returns-in_err-found-clause-answers : goal.returns-in_err-found-clause-answers
returns-in_err-found-clause-answers g c = λ state live f stand.
    left_sealed _ c.args.mapping.now c.args.index.now c.seal.new.index state _ c.args.out.now.bytes c.from_residual-in_err-found.result c.from_residual-in_err-found.ensures.1 f c.in_ok-seal.ensures.next c.in_ok-seal.ensures.sealed

pub returns-in_err-found-clause-leaves : goal.returns-in_err-found-clause-leaves
returns-in_err-found-clause-leaves g c =
    leaves_sealed (answered_of c.from_residual-in_err-found.result) c.args.mapping.now c.args.index.now c.seal.new.index c.requires.index c.in_ok-seal.ensures.fits c.in_ok-seal.ensures.next
    c.in_ok-seal.ensures.objects (inr c.in_ok-seal.ensures.sealed)

pub returns-clause-answers : goal.returns-clause-answers
returns-clause-answers g c = λ state live f stand.
    let given = found_by c.args.mapping.now live c.args.search.now in
    let held = c.in_ok-found.ensures.found live stand in
    found_ends c.args.limits.now c.args.mapping.now c.args.search.now c.args.index.now c.seal.new.index state live c.write_found.result c.write_found.new.out.bytes f
    c.in_ok-seal.ensures.next c.in_ok-seal.ensures.sealed (c.write_found.ensures.told given held) (c.write_found.ensures.text given held)

pub returns-clause-leaves : goal.returns-clause-leaves
returns-clause-leaves g c =
    leaves_sealed (answered_of c.write_found.result) c.args.mapping.now c.args.index.now c.seal.new.index c.requires.index c.in_ok-seal.ensures.fits c.in_ok-seal.ensures.next c.in_ok-seal.ensures.objects
    (inr c.in_ok-seal.ensures.sealed)

pub found_in-requires-clause-ordinals : goal.found_in-requires-clause-ordinals
found_in-requires-clause-ordinals g c =
    let kept = c.requires.ordinals in
    own_taken kept.0 c.args.id c.args.view.now c.args.ordinals.now.point c.taken-own.result kept.1 kept.2.point c.taken-own.ensures.own

pub returns-clause-ordinals : goal.returns-clause-ordinals
returns-clause-ordinals g c = λ points under kept. record {
  live = c.in_ok-seal.ensures.ordinals;
  point = subst (IfPoint points) (sym c.under.ensures) (own_kept points c.args.id c.args.view.now c.found_in.new.ordinals under c.in_ok-found.ensures.ordinals);
}
