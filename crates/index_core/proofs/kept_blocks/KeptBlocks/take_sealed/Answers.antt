use Rattle.std.proofs.Common.{◌≡◌, ◌-◌, map, refl, sym, ap, subst, ◌∙◌}
use Rattle.std.specs.Prelude.{vec_capacity, vec_len}
use Rattle.std.specs.List.{All}
use Rattle.flattener.specs.Seen.{block_seen}
use Rattle.layout.specs.Layout.{sealed}
use Rattle.merge_jobs.specs.Open.{merges_shown}
use Rattle.view_merge.specs.Given.{IsKeptOrMade}
use Rattle.index_core.specs.Found.{BlocksState, IsRelaid, layout_of}
use Rattle.index_core.specs.contracts.kept_blocks.KeptBlocks.{the_view}
use Rattle.index_core.specs.Found.{AreOpenOf, layout_ready}
use Rattle.index_core.specs.Kept.{AreBlocks}
use Rattle.index_core.proofs.Relaying.{sealed_relaid, taken_kept, taken_layout}
use Rattle.index_core.proofs.kept_blocks.KeptBlocks.take_sealed.Goals as goal

pub invariant_of-self : goal.invariant_of-self
invariant_of-self c =
    let it : BlocksState = the_view c.self.inside in
    let blocks = subst (λ (s : BlocksState). AreBlocks (layout_of s) c.requires.blocks.0) (sym c.self.view_is) c.requires.blocks.1 in
    let open_is = subst (λ (s : BlocksState). AreOpenOf (layout_of s)) (sym c.self.view_is) c.requires.open in
    let is = subst (λ (s : BlocksState). layout_ready c.args.ready s.started s.factor ≡ sealed (layout_of s)) (sym c.self.view_is) c.requires.sealed in
    let entries = subst (λ (s : BlocksState). All (IsKeptOrMade s.entries s.made) c.args.ready.view) (sym c.self.view_is) c.requires.entries in
    taken_kept it c.args.ready c.place.new.self c.requires.blocks.0 open_is blocks c.self.invariant is c.requires.below entries (c.place.ensures.merges ∙ ap merges_shown (c.as_slice.ensures.value)) c.place.ensures.parts

pub returns-clause-relaid : goal.returns-clause-relaid
returns-clause-relaid c =
    let it : BlocksState = the_view c.self.inside in
    let open_is = subst (λ (s : BlocksState). AreOpenOf (layout_of s)) (sym c.self.view_is) c.requires.open in
    let is = subst (λ (s : BlocksState). layout_ready c.args.ready s.started s.factor ≡ sealed (layout_of s)) (sym c.self.view_is) c.requires.sealed in
    let now : BlocksState = record it { entries = c.args.ready.view; buffer = map block_seen c.clear.new.self.items; made = c.args.ready.made; spare = vec_capacity c.clear.new.self - vec_len c.clear.new.self; jobs = c.place.new.self } in
    let laid : layout_of now ≡ layout_ready c.args.ready it.started it.factor = taken_layout it now c.args.ready refl (ap (map block_seen) c.clear.ensures.items) refl (c.place.ensures.merges ∙ ap merges_shown c.as_slice.ensures.value) refl refl in
    subst (λ (s : BlocksState). IsRelaid s now) c.self.view_is (sealed_relaid it now open_is c.made_is_below.ensures (laid ∙ is))
