-- How merge commands end, by what a merge call answers.
use Rattle.std.proofs.Common.{◌≡◌, ℕ, ◌+◌, ◌-◌, length, Option, Some, None, Ok, Err, IsErrOf, refl, sym, ap, ◌∙◌}
use Rattle.flattener.specs.Block.{BlockState}
use Rattle.index_core.specs.Kept.{IndexState, layout_kept}
use Rattle.index_core.specs.Merge.{refusal_of}
use Rattle.index_core.specs.declared.merge.MergeDone.{MergeDone}
use Rattle.index_core.specs.declared.merge.MergeRefusal.{MergeRefusal}
use Rattle.index_core.specs.declared.merge.MergeRefusal.TheVariants as merge
use Rattle.layout.proofs.Settling.{sealed_emptied}
use Rattle.layout.specs.Layout.{Layout, OpenMerge, sealed, live_of_range}
use Rattle.layout.specs.Merges.{MergeFault, bad_range, overlaps, too_many, unknown, not_done, start_fault, step_fault, unknown_fault, finish_fault, left_fault, force_fault, merge_named, with_merge, advanced, finished, aborted, forced}
use Rattle.machine.specs.Merging.{LayoutAnswer, declined, relaid, merge_refusal, unless_faulty, no_merge, with_open, start_done, advance_done, finish_done, abort_done, force_done, merged_by}
use Rattle.machine.specs.declared.merge_command.MergeCommand.{MergeCommand}
use Rattle.machine.specs.declared.merge_command.MergeCommand.TheVariants.{Start, Advance, Finish, Abort, Force}
use Rattle.reply_text.specs.declared.refusal.Refusal.TheVariants.{UnknownMerge}
use Rattle.reply_text.specs.declared.reply.Reply.TheVariants as reply
use Rattle.layout_commands.specs.Ends.{IsMerged, StaysOrSeals, not_done_by}

abbrev Blocks : Type 0
Blocks = Layout BlockState

-- ---- refusals

-- a merge call is refused so
abbrev Refuses : MergeRefusal → MergeRefusal → Type 0
Refuses why other = IsErrOf {T = MergeDone} (Err why) other

-- by what is wrong, a refusal leaves all as it was
pub err_ends : (id : ℕ) (command : MergeCommand) (index index' : IndexState) (why : MergeRefusal) (fault : Option MergeFault)
    → ((f : MergeFault) → Refuses why (refusal_of f) → fault ≡ Some f)
    → ((f : MergeFault) → Refuses why (refusal_of f) → index' ≡ index)
    → (Refuses why merge.NoMemory → StaysOrSeals index index')
    → ((f : MergeFault) → fault ≡ Some f → merged_by command (sealed (layout_kept index)) ≡ declined (merge_refusal id f))
    → IsMerged command (Err (not_done_by id why)) index index'
err_ends id command index index' merge.BadRange fault is same kept says = (says bad_range (is bad_range refl), same bad_range refl)
err_ends id command index index' (merge.Overlaps other) fault is same kept says = (says (overlaps other) (is (overlaps other) refl), same (overlaps other) refl)
err_ends id command index index' merge.TooMany fault is same kept says = (says too_many (is too_many refl), same too_many refl)
err_ends id command index index' merge.Unknown fault is same kept says = (says unknown (is unknown refl), same unknown refl)
err_ends id command index index' (merge.NotDone left) fault is same kept says = (says (not_done left) (is (not_done left) refl), same (not_done left) refl)
err_ends id command index index' merge.NoMemory fault is same kept says = kept refl

-- what is wrong as an answer, or that no merge has the id
abbrev answer_with : ℕ → Option MergeFault → LayoutAnswer BlockState
answer_with id None = declined UnknownMerge
answer_with id (Some fault) = declined (merge_refusal id fault)

none_is : (f : MergeFault) → None ≡ Some f → ⊥
none_is f e = cc

no_fault : (f : MergeFault) → Some f ≡ None → ⊥
no_fault f e = cc

open_refused : (id : ℕ) (named : Option OpenMerge) (command : OpenMerge → LayoutAnswer BlockState) (f : MergeFault) → unknown_fault named ≡ Some f → with_open named command ≡ declined (merge_refusal id f)
open_refused id None command f e = ap (answer_with id) e
open_refused id (Some merge) command f e = absurd (none_is f e)

pub start_refused : (from count : ℕ) (layout : Blocks) (f : MergeFault) → start_fault from count layout ≡ Some f → merged_by (Start from count) layout ≡ declined (merge_refusal no_merge f)
unfolding merged_by
start_refused from count layout f e = ap (λ fault. unless_faulty no_merge fault (start_done from count layout)) e

pub advance_refused : (id roots : ℕ) (layout : Blocks) (f : MergeFault) → step_fault id layout ≡ Some f → merged_by (Advance id roots) layout ≡ declined (merge_refusal id f)
unfolding merged_by
advance_refused id roots layout f e = open_refused id (merge_named id layout) (advance_done id roots layout) f e

pub finish_refused : (id : ℕ) (layout : Blocks) (f : MergeFault) → finish_fault id layout ≡ Some f → merged_by (Finish id) layout ≡ declined (merge_refusal id f)
unfolding merged_by
finish_refused id layout f e = ap (λ fault. unless_faulty id fault (with_open (merge_named id layout) (finish_done id layout))) e

pub abort_refused : (id : ℕ) (layout : Blocks) (f : MergeFault) → step_fault id layout ≡ Some f → merged_by (Abort id) layout ≡ declined (merge_refusal id f)
unfolding merged_by
abort_refused id layout f e = open_refused id (merge_named id layout) (abort_done id layout) f e

pub force_refused : (most : ℕ) (layout : Blocks) (f : MergeFault) → force_fault most layout ≡ Some f → merged_by (Force most) layout ≡ declined (merge_refusal no_merge f)
unfolding merged_by
force_refused most layout f e = ap (λ fault. unless_faulty no_merge fault (force_done most layout)) e

-- ---- what was done

pub started : (from count : ℕ) (index index' : IndexState) (done : MergeDone) → start_fault from count (sealed (layout_kept index)) ≡ None
    → done ≡ record { id = index.started + 1; count = length (live_of_range from count (sealed (layout_kept index))) }
    → layout_kept index' ≡ with_merge from count (sealed (layout_kept index))
    → IsMerged (Start from count) (Ok (reply.MergeStarted done.id done.count)) index index'
unfolding merged_by
started from count index index' done none is layout =
    let L = sealed (layout_kept index) in
    let id : L.started + 1 ≡ done.id = ap (λ n. n + 1) (sealed_emptied (layout_kept index)).started ∙ sym (ap (λ (d : MergeDone). d.id) is) in
    let left : length (live_of_range from count L) ≡ done.count = sym (ap (λ (d : MergeDone). d.count) is) in
    ap (λ fault. unless_faulty no_merge fault (start_done from count L)) none
    ∙ (λ i. relaid (reply.MergeStarted (id i) (left i)) (sym layout i))

module _ (id : ℕ) (index index' : IndexState) where
  abbrev Named : Option OpenMerge → Type 0
  Named named = merge_named id (sealed (layout_kept index)) ≡ named

  -- where nothing is wrong there is an open merge with the id
  with_named : (P : Type 0) (named : Option OpenMerge) → Named named → unknown_fault named ≡ None → ((merge : OpenMerge) → Named (Some merge) → P) → P
  with_named P None e none given = absurd (no_fault unknown none)
  with_named P (Some merge) e none given = given merge e

  pub walked : (roots : ℕ) (done : MergeDone) → step_fault id (sealed (layout_kept index)) ≡ None
      → ((merge : OpenMerge) → Named (Some merge) → done ≡ record { id = id; count = merge.left - roots })
      → layout_kept index' ≡ advanced id roots (sealed (layout_kept index))
      → IsMerged (Advance id roots) (Ok (reply.MergeAdvanced done.count id)) index index'
  unfolding merged_by
  walked roots done none is layout =
      let L = sealed (layout_kept index) in
      with_named (with_open (merge_named id L) (advance_done id roots L) ≡ relaid (reply.MergeAdvanced done.count id) (layout_kept index')) (merge_named id L) refl none
      (λ merge e.
      let left : merge.left - roots ≡ done.count = sym (ap (λ (d : MergeDone). d.count) (is merge e)) in
      ap (λ named. with_open named (advance_done id roots L)) e ∙ (λ i. relaid (reply.MergeAdvanced (left i) id) (sym layout i)))

  pub aborts : step_fault id (sealed (layout_kept index)) ≡ None → layout_kept index' ≡ aborted id (sealed (layout_kept index)) → IsMerged (Abort id) (Ok (reply.MergeAborted id)) index index'
  unfolding merged_by
  aborts none layout =
      let L = sealed (layout_kept index) in
      with_named (with_open (merge_named id L) (abort_done id L) ≡ relaid (reply.MergeAborted id) (layout_kept index')) (merge_named id L) refl none
      (λ merge e. ap (λ named. with_open named (abort_done id L)) e ∙ (λ i. relaid (reply.MergeAborted id) (sym layout i)))

  not_left : (named : Option OpenMerge) → left_fault named ≡ None → unknown_fault named ≡ None
  not_left None e = absurd (no_fault unknown e)
  not_left (Some merge) e = refl

  pub finishes : (done : MergeDone) → finish_fault id (sealed (layout_kept index)) ≡ None
      → ((merge : OpenMerge) → Named (Some merge) → done ≡ record { id = id; count = length (live_of_range merge.from merge.count (sealed (layout_kept index))) })
      → ((merge : OpenMerge) → Named (Some merge) → layout_kept index' ≡ finished merge (sealed (layout_kept index)))
      → IsMerged (Finish id) (Ok (reply.MergeFinished done.count id)) index index'
  unfolding merged_by
  finishes done none is layout =
      let L = sealed (layout_kept index) in
      ap (λ fault. unless_faulty id fault (with_open (merge_named id L) (finish_done id L))) none
      ∙ with_named (with_open (merge_named id L) (finish_done id L) ≡ relaid (reply.MergeFinished done.count id) (layout_kept index')) (merge_named id L) refl (not_left (merge_named id L) none)
      (λ merge e.
      let live : length (live_of_range merge.from merge.count L) ≡ done.count = sym (ap (λ (d : MergeDone). d.count) (is merge e)) in
      ap (λ named. with_open named (finish_done id L)) e ∙ (λ i. relaid (reply.MergeFinished (live i) id) (sym (layout merge e) i)))

pub forces : (most : ℕ) (index index' : IndexState) (done : MergeDone) → force_fault most (sealed (layout_kept index)) ≡ None
    → done ≡ record { id = 0; count = length (forced most (sealed (layout_kept index))).segments }
    → layout_kept index' ≡ forced most (sealed (layout_kept index))
    → IsMerged (Force most) (Ok (reply.ForceMerged done.count)) index index'
unfolding merged_by
forces most index index' done none is layout =
    let L = sealed (layout_kept index) in
    let count : length (forced most L).segments ≡ done.count = sym (ap (λ (d : MergeDone). d.count) is) in
    ap (λ fault. unless_faulty no_merge fault (force_done most L)) none
    ∙ (λ i. relaid (reply.ForceMerged (count i)) (sym layout i))
