use Rattle.std.proofs.Common.{◌≡◌, ◌-◌, [], List, map, refl, sym, ap, subst, ◌∙◌}
use Rattle.std.specs.Prelude.{vec_capacity, vec_len}
use Rattle.flattener.specs.Seen.{block_seen}
use Rattle.flattener.specs.declared.document.Block.{Block}
use Rattle.layout.specs.Layout.{sealed, with_buffer_last}
use Rattle.index_core.specs.Found.{BlocksState, IsRelaid, layout_of}
use Rattle.index_core.specs.Kept.{AreBlocks, laid}
use Rattle.index_core.specs.contracts.kept_blocks.KeptBlocks.{the_view}
use Rattle.index_core.proofs.Relaying.{opened_of, sealed_kept, sealed_relaid}
use Rattle.index_core.proofs.Sealing.{last_layout}
use Rattle.index_core.proofs.Settled.{last_sealed}
use Rattle.index_core.proofs.kept_blocks.KeptBlocks.seal_last.Goals as goal

pub invariant_of-self-2 : goal.invariant_of-self-2
invariant_of-self-2 c =
    let it : BlocksState = the_view c.self.inside in
    let now : BlocksState = record it { entries = c.push_last.new.view; buffer = map block_seen c.clear.new.self.items; made = c.push_last.new.made; spare = vec_capacity c.clear.new.self - vec_len c.clear.new.self } in
    let last : laid now.entries [] now.made ≡ with_buffer_last (laid it.entries it.buffer it.made) = c.in_ok-changed.ensures.last ∙ ap (λ (bs : List Block). with_buffer_last (laid it.entries (map block_seen bs) it.made)) c.as_slice.ensures.value in
    let none : it.factor ≡ 0 = ap (λ (s : BlocksState). s.factor) c.self.view_is ∙ c.requires.factor in
    let is = last_sealed it (layout_of now) none (last_layout it now.entries now.buffer now.made now.spare last (ap (map block_seen) c.clear.ensures.items)) in
    let blocks = subst (λ (s : BlocksState). AreBlocks (layout_of s) c.requires.blocks.0) (sym c.self.view_is) c.requires.blocks.1 in
    sealed_kept it now c.requires.blocks.0 (opened_of it c.entries-entries.ensures.ids c.self.invariant) blocks c.self.invariant is c.in_ok-changed.ensures.below c.in_ok-changed.ensures.entries refl

pub returns-clause-sealed : goal.returns-clause-sealed
returns-clause-sealed c =
    let it : BlocksState = the_view c.self.inside in
    let now : BlocksState = record it { entries = c.push_last.new.view; buffer = map block_seen c.clear.new.self.items; made = c.push_last.new.made; spare = vec_capacity c.clear.new.self - vec_len c.clear.new.self } in
    let last : laid now.entries [] now.made ≡ with_buffer_last (laid it.entries it.buffer it.made) = c.in_ok-changed.ensures.last ∙ ap (λ (bs : List Block). with_buffer_last (laid it.entries (map block_seen bs) it.made)) c.as_slice.ensures.value in
    let none : it.factor ≡ 0 = ap (λ (s : BlocksState). s.factor) c.self.view_is ∙ c.requires.factor in
    let is = last_sealed it (layout_of now) none (last_layout it now.entries now.buffer now.made now.spare last (ap (map block_seen) c.clear.ensures.items)) in
    is ∙ ap (λ (s : BlocksState). sealed (layout_of s)) c.self.view_is

pub returns-clause-relaid : goal.returns-clause-relaid
returns-clause-relaid c =
    let it : BlocksState = the_view c.self.inside in
    let now : BlocksState = record it { entries = c.push_last.new.view; buffer = map block_seen c.clear.new.self.items; made = c.push_last.new.made; spare = vec_capacity c.clear.new.self - vec_len c.clear.new.self } in
    let last : laid now.entries [] now.made ≡ with_buffer_last (laid it.entries it.buffer it.made) = c.in_ok-changed.ensures.last ∙ ap (λ (bs : List Block). with_buffer_last (laid it.entries (map block_seen bs) it.made)) c.as_slice.ensures.value in
    let none : it.factor ≡ 0 = ap (λ (s : BlocksState). s.factor) c.self.view_is ∙ c.requires.factor in
    let is = last_sealed it (layout_of now) none (last_layout it now.entries now.buffer now.made now.spare last (ap (map block_seen) c.clear.ensures.items)) in
    subst (λ (s : BlocksState). IsRelaid s now) c.self.view_is (sealed_relaid it now (opened_of it c.entries-entries.ensures.ids c.self.invariant) c.made_is_below.ensures is)
