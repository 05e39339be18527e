use Rattle.std.proofs.Common.{length, refl, sym, ap, subst, ◌∙◌}
use Rattle.std.proofs.lemmas.List.{length-map}
use Rattle.layout.specs.Merges.{force_fault}
use Rattle.merge_jobs.specs.Job.{segment_kept}
use Rattle.merge_jobs.specs.Open.{merges_shown}
use Rattle.index_core.specs.Found.{layout_of, layout_ready}
use Rattle.index_core.specs.Inside.{state_of}
use Rattle.index_core.specs.Kept.{IndexFits}
use Rattle.index_core.specs.declared.index_core.IndexCore.TheInside.{Inside}
use Rattle.index_core.proofs.Refused.{forced_clear, no_fault, state_fits, taken_fit}
use Rattle.index_core.proofs.index_core.IndexCore.force_merge.Goals as goal
use Rattle.index_core.proofs.index_core.IndexCore.force_merge.Goals.{then-segments-most+in_ok-force, else-segments-most}

pub force-requires-clause-clear : goal.force-requires-clause-clear
force-requires-clause-clear c =
    let found = c.force_refusal.ensures (layout_ready c.in_ok-ready.ready c.self.inside.blocks.started c.self.inside.blocks.factor) (ap merges_shown (sym c.as_slice.ensures.value)) (length-map c.in_ok-ready.ready.view segment_kept ∙ sym (ap length c.entries.ensures.entries)) in
    let clear = no_fault c.self.inside.blocks c.take_sealed.new.self c.in_ok-ready.ready (force_fault c.args.most) c.force_refusal.result c.in_default.is found c.in_ok-ready.ensures.sealed c.take_sealed.ensures.sealed in
    forced_clear c.args.most (length c.entries.result.now) (layout_of c.take_sealed.new.self) c.if-segments-most.true (length-map c.take_sealed.new.self.entries segment_kept ∙ ap length (c.take_sealed.ensures.entries ∙ sym c.entries.ensures.entries)) clear

pub force-requires-clause-segments : goal.force-requires-clause-segments
force-requires-clause-segments c =
    let fits = subst (IndexFits c.args.mapping.now) (sym c.self.view_is) c.requires.fits in
    let taken = taken_fit c.args.mapping.now c.self.inside c.in_ok-ready.ready c.take_sealed.new.self c.scope_count-scopes.ensures.is_mapping c.in_ok-ready.ensures.fits fits c.take_sealed.ensures.entries in
    taken

pub returns-in_err-force-clause-fits : goal.returns-in_err-force-clause-fits
returns-in_err-force-clause-fits c =
    let fits = subst (IndexFits c.args.mapping.now) (sym c.self.view_is) c.requires.fits in
    let taken = taken_fit c.args.mapping.now c.self.inside c.in_ok-ready.ready c.take_sealed.new.self c.scope_count-scopes.ensures.is_mapping c.in_ok-ready.ensures.fits fits c.take_sealed.ensures.entries in
    state_fits c.args.mapping.now c.self.inside c.take_sealed.new.self c.force.new.self c.take_sealed.ensures.buffer c.force.ensures.buffer (c.force.ensures.segments c.args.mapping.now taken)

pub returns-clause-fits : goal.returns-clause-fits
returns-clause-fits c =
    let fits = subst (IndexFits c.args.mapping.now) (sym c.self.view_is) c.requires.fits in
    let taken = taken_fit c.args.mapping.now c.self.inside c.in_ok-ready.ready c.take_sealed.new.self c.scope_count-scopes.ensures.is_mapping c.in_ok-ready.ensures.fits fits c.take_sealed.ensures.entries in
    elim c.if-segments-most.branch [
      | then-segments-most+in_ok-force w ↦ subst (λ (s : Inside). IndexFits c.args.mapping.now (state_of s)) (sym w.self-inside-is) (state_fits c.args.mapping.now c.self.inside c.take_sealed.new.self w.force.new.self c.take_sealed.ensures.buffer w.force.ensures.buffer (w.force.ensures.segments c.args.mapping.now taken))
      | else-segments-most w ↦ subst (λ (s : Inside). IndexFits c.args.mapping.now (state_of s)) (sym w.self-inside-is) (state_fits c.args.mapping.now c.self.inside c.take_sealed.new.self c.take_sealed.new.self c.take_sealed.ensures.buffer refl taken)
    ]
