use Rattle.std.proofs.Common.{◌≡◌, None, length, sym, ap, subst, ◌∙◌}
use Rattle.std.proofs.lemmas.List.{length-map}
use Rattle.flattener.specs.Block.{BlockState}
use Rattle.layout.specs.Layout.{Layout, sealed}
use Rattle.layout.specs.Merges.{start_fault}
use Rattle.merge_jobs.specs.Job.{segment_kept}
use Rattle.merge_jobs.specs.Open.{merges_shown}
use Rattle.index_core.specs.Found.{AreFit, layout_ready}
use Rattle.index_core.specs.Kept.{IndexFits, IndexState, layout_kept}
use Rattle.index_core.proofs.Refused.{no_fault, state_fits, taken_fit}
use Rattle.index_core.proofs.index_core.IndexCore.start_merge.Goals as goal

pub start-requires-clause-fault : goal.start-requires-clause-fault
start-requires-clause-fault c =
    let found = c.start_refusal.ensures (layout_ready c.in_ok-ready.ready c.self.inside.blocks.started c.self.inside.blocks.factor) (ap merges_shown (sym c.as_slice.ensures.value)) (length-map c.in_ok-ready.ready.view segment_kept ∙ sym (ap length c.entries.ensures.entries)) in
    let clear = no_fault c.self.inside.blocks c.take_sealed.new.self c.in_ok-ready.ready (start_fault c.args.from c.args.count) c.start_refusal.result c.in_default.is found c.in_ok-ready.ensures.sealed c.take_sealed.ensures.sealed in
    clear

pub returns-in_err-start-clause-fits : goal.returns-in_err-start-clause-fits
returns-in_err-start-clause-fits c =
    let fits = subst (IndexFits c.args.mapping.now) (sym c.self.view_is) c.requires in
    let taken = taken_fit c.args.mapping.now c.self.inside c.in_ok-ready.ready c.take_sealed.new.self c.scope_count-scopes.ensures.is_mapping c.in_ok-ready.ensures.fits fits c.take_sealed.ensures.entries in
    state_fits c.args.mapping.now c.self.inside c.take_sealed.new.self c.start.new.self c.take_sealed.ensures.buffer c.start.ensures.buffer (subst (AreFit c.args.mapping.now) (sym c.start.ensures.entries) taken)

pub returns-clause-accepted : goal.returns-clause-accepted
returns-clause-accepted c = λ ok.
    let found = c.start_refusal.ensures (layout_ready c.in_ok-ready.ready c.self.inside.blocks.started c.self.inside.blocks.factor) (ap merges_shown (sym c.as_slice.ensures.value)) (length-map c.in_ok-ready.ready.view segment_kept ∙ sym (ap length c.entries.ensures.entries)) in
    let clear = no_fault c.self.inside.blocks c.take_sealed.new.self c.in_ok-ready.ready (start_fault c.args.from c.args.count) c.start_refusal.result c.in_default.is found c.in_ok-ready.ensures.sealed c.take_sealed.ensures.sealed in
    subst (λ (s : IndexState). start_fault c.args.from c.args.count (sealed (layout_kept s)) ≡ None) c.self.view_is
    (subst (λ (l : Layout BlockState). start_fault c.args.from c.args.count l ≡ None) c.take_sealed.ensures.sealed clear)

pub returns-clause-fits : goal.returns-clause-fits
returns-clause-fits c =
    let fits = subst (IndexFits c.args.mapping.now) (sym c.self.view_is) c.requires in
    let taken = taken_fit c.args.mapping.now c.self.inside c.in_ok-ready.ready c.take_sealed.new.self c.scope_count-scopes.ensures.is_mapping c.in_ok-ready.ensures.fits fits c.take_sealed.ensures.entries in
    state_fits c.args.mapping.now c.self.inside c.take_sealed.new.self c.start.new.self c.take_sealed.ensures.buffer c.start.ensures.buffer (subst (AreFit c.args.mapping.now) (sym c.start.ensures.entries) taken)
