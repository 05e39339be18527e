-- What a merge call finds after sealing: whether it is refused, and what fits a mapping.
use Rattle.std.proofs.Common.{◌≡◌, ◌-◌, ◌≤◌, ℕ, nat_lt, [], length, Option, Some, None, refl, sym, ap, subst, ◌∙◌, arith}
use Rattle.std.specs.List.{All}
use Rattle.std.specs.Option.{option_map}
use Rattle.std.proofs.lemmas.Bool.{ltb-true}
use Rattle.std.proofs.lemmas.List.Elements.{All-nil}
use Rattle.flattener.specs.Block.{BlockState}
use Rattle.flattener.specs.Fits.{BlockFits}
use Rattle.layout.proofs.Goes.{split}
use Rattle.layout.specs.Layout.{Layout, OpenMerge, sealed}
use Rattle.layout.specs.Merges.{MergeFault, force_fault, overlap_fault, overlapping}
use Rattle.mapping.specs.IsMapping.{IsMapping}
use Rattle.mapping.specs.Mapping.{Mapping}
use Rattle.index_core.specs.Found.{AreFit, BlocksState, layout_of, layout_ready}
use Rattle.index_core.specs.Inside.{state_of}
use Rattle.index_core.specs.Kept.{IndexFits}
use Rattle.index_core.specs.Merge.{refusal_of}
use Rattle.index_core.specs.declared.index_core.IndexCore.TheInside.{Inside}
use Rattle.index_core.specs.declared.merge.MergeRefusal.{MergeRefusal}
use Rattle.index_core.specs.declared.ready.Ready.{Ready}

none_refused : (o : Option MergeFault) → option_map refusal_of o ≡ None → o ≡ None
none_refused None e = refl
none_refused (Some fault) e = absurd (cc (e))

-- where what sealing makes has no fault, what it leaves has none
pub no_fault : (it now : BlocksState) (ready : Ready) (fault : Layout BlockState → Option MergeFault) (answer : Option MergeRefusal) → answer ≡ None → answer ≡ option_map refusal_of (fault (layout_ready ready it.started it.factor))
    → layout_ready ready it.started it.factor ≡ sealed (layout_of it) → layout_of now ≡ sealed (layout_of it) → fault (layout_of now) ≡ None
no_fault it now ready fault answer none is ready_is now_is = ap fault (now_is ∙ sym ready_is) ∙ none_refused (fault (layout_ready ready it.started it.factor)) (sym is ∙ none)

-- what a forced merge gives way to is clear of open merges, where it isn't refused
pub forced_clear : (most segments : ℕ) (layout : Layout BlockState) → most ≤ segments → length layout.segments ≡ segments → force_fault most layout ≡ None → overlapping (most - 1) (segments - (most - 1)) layout ≡ None
forced_clear most segments layout enough long none =
    split (nat_lt (length layout.segments) most)
    (λ fewer. absurd (omega (arith, enough, long, ltb-true (length layout.segments) most fewer)))
    (λ many. subst (λ (n : ℕ). overlapping (most - 1) (n - (most - 1)) layout ≡ None) long (no_overlap (overlapping (most - 1) (length layout.segments - (most - 1)) layout) (sym (rw many refl) ∙ none)))
  where
    no_overlap : (o : Option OpenMerge) → overlap_fault o ≡ None → o ≡ None
    no_overlap None e = refl
    no_overlap (Some merge) e = absurd (cc (e))

-- ---- beside a mapping

-- what sealing makes fits
pub taken_fit : (m : Mapping) (it : Inside) (ready : Ready) (taken : BlocksState) → IsMapping m → ((m' : Mapping) → IsMapping m' → All (BlockFits m') it.blocks.buffer → AreFit m' it.blocks.entries → AreFit m' ready.view)
    → IndexFits m (state_of it) → taken.entries ≡ ready.view → AreFit m taken.entries
taken_fit m it ready taken is made fits entries = subst (AreFit m) (sym entries) (made m is fits.buffer fits.entries)

-- and so does what a call leaves, whose buffer is empty
pub state_fits : (m : Mapping) (it : Inside) (taken now : BlocksState) → taken.buffer ≡ [] → now.buffer ≡ taken.buffer → AreFit m now.entries → IndexFits m (state_of (record it { blocks = now }))
state_fits m it taken now none same fit = record { entries = fit; buffer = subst (All (BlockFits m)) (sym (same ∙ none)) (All-nil (BlockFits m)) }
