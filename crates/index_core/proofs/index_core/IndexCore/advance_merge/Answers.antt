use Rattle.std.proofs.Common.{sym, ap, subst}
use Rattle.layout.specs.Merges.{step_fault}
use Rattle.merge_jobs.specs.Open.{merges_shown}
use Rattle.index_core.specs.Found.{AreFit, layout_ready}
use Rattle.index_core.specs.Kept.{IndexFits}
use Rattle.index_core.proofs.Refused.{no_fault, state_fits, taken_fit}
use Rattle.index_core.proofs.index_core.IndexCore.advance_merge.Goals as goal

pub advance-requires-clause-fault : goal.advance-requires-clause-fault
advance-requires-clause-fault c =
    let found = c.step_refusal.ensures (layout_ready c.in_ok-ready.ready c.self.inside.blocks.started c.self.inside.blocks.factor) (ap merges_shown (sym c.as_slice.ensures.value)) in
    let clear = no_fault c.self.inside.blocks c.take_sealed.new.self c.in_ok-ready.ready (step_fault c.args.id) c.step_refusal.result c.in_default.is found c.in_ok-ready.ensures.sealed c.take_sealed.ensures.sealed in
    clear

pub advance-requires-clause-segments : goal.advance-requires-clause-segments
advance-requires-clause-segments c =
    let fits = subst (IndexFits c.args.mapping.now) (sym c.self.view_is) c.requires in
    taken_fit c.args.mapping.now c.self.inside c.in_ok-ready.ready c.take_sealed.new.self c.scope_count-scopes.ensures.is_mapping c.in_ok-ready.ensures.fits fits c.take_sealed.ensures.entries

pub returns-in_err-advance-clause-fits : goal.returns-in_err-advance-clause-fits
returns-in_err-advance-clause-fits c =
    let fits = subst (IndexFits c.args.mapping.now) (sym c.self.view_is) c.requires in
    let taken = taken_fit c.args.mapping.now c.self.inside c.in_ok-ready.ready c.take_sealed.new.self c.scope_count-scopes.ensures.is_mapping c.in_ok-ready.ensures.fits fits c.take_sealed.ensures.entries in
    state_fits c.args.mapping.now c.self.inside c.take_sealed.new.self c.advance.new.self c.take_sealed.ensures.buffer c.advance.ensures.buffer (subst (AreFit c.args.mapping.now) (sym c.advance.ensures.entries) taken)

pub returns-clause-fits : goal.returns-clause-fits
returns-clause-fits c =
    let fits = subst (IndexFits c.args.mapping.now) (sym c.self.view_is) c.requires in
    let taken = taken_fit c.args.mapping.now c.self.inside c.in_ok-ready.ready c.take_sealed.new.self c.scope_count-scopes.ensures.is_mapping c.in_ok-ready.ensures.fits fits c.take_sealed.ensures.entries in
    state_fits c.args.mapping.now c.self.inside c.take_sealed.new.self c.advance.new.self c.take_sealed.ensures.buffer c.advance.ensures.buffer (subst (AreFit c.args.mapping.now) (sym c.advance.ensures.entries) taken)
