-- Layouts of the same blocks, and of one more; and the live block with a number, where they are the same.
use Rattle.std.proofs.Common.{◌≡◌, ℕ, List, [], ◌++◌, None, refl, sym, ap, ◌∙◌, append-nil, arith}
use Rattle.std.specs.List.{find, flat_map}
use Rattle.flattener.specs.Block.{BlockState}
use Rattle.layout.proofs.Goes.{none_goes, none_in, counted_both}
use Rattle.layout.proofs.Looked.{find_none}
use Rattle.layout.specs.Layout.{Layout, killed, live_in, with_new}
use Rattle.segment.specs.Live.{EntryState}
use Rattle.index_core.specs.Found.{BlocksState, HasLive, IsLiveNumber, layout_of, live_blocks}
use Rattle.index_core.specs.Kept.{has_block_id, segments_kept}

-- a state beside another: the same open merges, segments made and factor
pub record IsBeside (it now : BlocksState) : Type 0 where
  pub made : now.made ≡ it.made
  pub jobs : now.jobs ≡ it.jobs
  pub started : now.started ≡ it.started
  pub factor : now.factor ≡ it.factor

pub beside_both : (it mid now : BlocksState) → IsBeside it mid → IsBeside mid now → IsBeside it now
beside_both it mid now one two = record { made = two.made ∙ one.made; jobs = two.jobs ∙ one.jobs; started = two.started ∙ one.started; factor = two.factor ∙ one.factor }

pub layout_same : (it now : BlocksState) → now.entries ≡ it.entries → now.buffer ≡ it.buffer → IsBeside it now → layout_of now ≡ layout_of it
layout_same it now entries buffer rest = rw (entries, buffer, rest.made, rest.jobs, rest.started, rest.factor) refl

pub layout_more : (it now : BlocksState) (new : List BlockState) → now.entries ≡ it.entries → now.buffer ≡ it.buffer ++ new → IsBeside it now → layout_of now ≡ with_new new (layout_of it)
layout_more it now new entries buffer rest = rw (entries, buffer, rest.made, rest.jobs, rest.started, rest.factor) refl

pub live_moved : (entries now : List EntryState) (buffer left : List BlockState) (id : List ℕ) (number : ℕ) → now ≡ entries → left ≡ buffer → HasLive entries buffer id number → HasLive now left id number
live_moved entries now buffer left id number one two has = rw (one, two) has

pub live_number : (entries : List EntryState) (buffer : List BlockState) (id : List ℕ) (number : ℕ) → HasLive entries buffer id number → IsLiveNumber entries buffer number
live_number entries buffer id number has = record { end = has.end; ascending = has.ascending; id = id; block = has.block; live = has.live }

-- where no live block has the id, none goes
pub none_killed : (it : BlocksState) (id : List ℕ) → find (has_block_id id) (live_blocks it.entries it.buffer) ≡ None → killed (has_block_id id) (layout_of it) ≡ layout_of it
none_killed it id none =
    let all = find_none (has_block_id id) (live_blocks it.entries it.buffer) none in
    let both = counted_both (has_block_id id) (flat_map live_in (segments_kept it.entries)) it.buffer in
    rw (none_in (has_block_id id) (segments_kept it.entries) (omega (arith, all, both)), none_goes (has_block_id id) it.buffer (omega (arith, all, both))) refl

pub nothing_new : (layout : Layout BlockState) → layout ≡ with_new [] layout
nothing_new layout = ap (λ (bs : List BlockState). let l : Layout BlockState = record layout { buffer = bs } in l) (sym (append-nil layout.buffer))
