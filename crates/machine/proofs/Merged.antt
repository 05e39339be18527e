-- Merge commands: what is live stays so, and they are answered alike whatever stands for the items.
use Rattle.std.proofs.Common.{◌≡◌, ℕ, length, Option, Some, None, refl, ap, ◌∙◌}
use Rattle.std.proofs.lemmas.List.{length-map}
use Rattle.layout.specs.As.{layout_as, segment_as}
use Rattle.layout.specs.Layout.{Layout, OpenMerge, live_items, live_of_range}
use Rattle.layout.specs.Merges.{MergeFault, start_fault, finish_fault, force_fault, forced, merge_named, merge_of}
use Rattle.layout.proofs.Images.{live_of_range_as}
use Rattle.layout.proofs.MergesAs.{finished_as, finished_keeps, force_fault_as, forced_as, forced_keeps, start_fault_as, with_merge_as}
use Rattle.reply_text.specs.declared.reply.Reply.TheVariants as reply
use Rattle.machine.specs.Merging.{LayoutAnswer, declined, relaid, unless_faulty, with_open, no_merge, start_done, advance_done, finish_done, abort_done, force_done, merged_by, answer_as}
use Rattle.machine.specs.declared.merge_command.MergeCommand.{MergeCommand}
use Rattle.machine.specs.declared.merge_command.MergeCommand.TheVariants.{Start, Advance, Finish, Abort, Force}

-- ---- what is live

-- the layout afterwards has the same live items
abbrev pub LaysLive : {A : Type 0} → Layout A → LayoutAnswer A → Type 0
LaysLive {A} before (declined why) = Unit {0}
LaysLive {A} before (relaid reply layout) = live_items layout ≡ live_items before

faultless_keeps : {A : Type 0} (before : Layout A) (id : ℕ) (fault : Option MergeFault) (answer : LayoutAnswer A) → LaysLive before answer → LaysLive before (unless_faulty id fault answer)
faultless_keeps before id None answer lives = lives
faultless_keeps before id (Some fault) answer lives = tt

open_keeps : {A : Type 0} (before : Layout A) (merge : Option OpenMerge) (command : OpenMerge → LayoutAnswer A) → ((merge : OpenMerge) → LaysLive before (command merge)) → LaysLive before (with_open merge command)
open_keeps before None command lives = tt
open_keeps before (Some merge) command lives = lives merge

pub merged_keeps : {A : Type 0} (command : MergeCommand) (layout : Layout A) → LaysLive layout (merged_by command layout)
unfolding merged_by
merged_keeps (Start from count) layout = faultless_keeps layout no_merge (start_fault from count layout) (start_done from count layout) refl
merged_keeps (Advance id roots) layout = open_keeps layout (merge_named id layout) (advance_done id roots layout) (λ merge. refl)
merged_keeps (Finish id) layout =
    faultless_keeps layout id (finish_fault id layout) (with_open (merge_named id layout) (finish_done id layout))
    (open_keeps layout (merge_named id layout) (finish_done id layout) (λ merge. finished_keeps merge layout))
merged_keeps (Abort id) layout = open_keeps layout (merge_named id layout) (abort_done id layout) (λ merge. refl)
merged_keeps (Force most) layout = faultless_keeps layout no_merge (force_fault most layout) (force_done most layout) (forced_keeps most layout)

-- ---- layouts of other items

faultless_as : {A B : Type 0} (f : A → B) (id : ℕ) (fault : Option MergeFault) (here : LayoutAnswer A) (there : LayoutAnswer B) → there ≡ answer_as f here
    → unless_faulty id fault there ≡ answer_as f (unless_faulty id fault here)
faultless_as f id None here there same = same
faultless_as f id (Some fault) here there same = refl

open_as : {A B : Type 0} (f : A → B) (merge : Option OpenMerge) (here : OpenMerge → LayoutAnswer A) (there : OpenMerge → LayoutAnswer B) → ((merge : OpenMerge) → there merge ≡ answer_as f (here merge))
    → with_open merge there ≡ answer_as f (with_open merge here)
open_as f None here there same = refl
open_as f (Some merge) here there same = same merge

live_as : {A B : Type 0} (f : A → B) (from count : ℕ) (layout : Layout A) → length (live_of_range from count (layout_as f layout)) ≡ length (live_of_range from count layout)
live_as f from count layout = ap length (live_of_range_as f from count layout) ∙ length-map (live_of_range from count layout) f

start_as : {A B : Type 0} (f : A → B) (from count : ℕ) (layout : Layout A) → start_done from count (layout_as f layout) ≡ answer_as f (start_done from count layout)
start_as f from count layout =
    let left = live_as f from count layout in
    let after = with_merge_as f from count layout in
    λ i. relaid (reply.MergeStarted (merge_of from count layout).id (left i)) (after i)

finish_as : {A B : Type 0} (f : A → B) (id : ℕ) (layout : Layout A) (merge : OpenMerge) → finish_done id (layout_as f layout) merge ≡ answer_as f (finish_done id layout merge)
finish_as f id layout merge =
    let live = live_as f merge.from merge.count layout in
    let after = finished_as f merge layout in
    λ i. relaid (reply.MergeFinished (live i) id) (after i)

force_as : {A B : Type 0} (f : A → B) (most : ℕ) (layout : Layout A) → force_done most (layout_as f layout) ≡ answer_as f (force_done most layout)
force_as {A = A} {B = B} f most layout =
    let after = forced_as f most layout in
    let count : length (forced most (layout_as f layout)).segments ≡ length (forced most layout).segments =
    ap (λ (l : Layout B). length l.segments) after ∙ length-map (forced most layout).segments (segment_as f) in
    λ i. relaid (reply.ForceMerged (count i)) (after i)

pub merged_as : {A B : Type 0} (f : A → B) (command : MergeCommand) (layout : Layout A) → merged_by command (layout_as f layout) ≡ answer_as f (merged_by command layout)
unfolding merged_by
merged_as f (Start from count) layout =
    ap (λ fault. unless_faulty no_merge fault (start_done from count (layout_as f layout))) (start_fault_as f from count layout)
    ∙ faultless_as f no_merge (start_fault from count layout) (start_done from count layout) (start_done from count (layout_as f layout)) (start_as f from count layout)
merged_as f (Advance id roots) layout =
    open_as f (merge_named id layout) (advance_done id roots layout) (advance_done id roots (layout_as f layout)) (λ merge. refl)
merged_as f (Finish id) layout =
    faultless_as f id (finish_fault id layout) (with_open (merge_named id layout) (finish_done id layout)) (with_open (merge_named id layout) (finish_done id (layout_as f layout)))
    (open_as f (merge_named id layout) (finish_done id layout) (finish_done id (layout_as f layout)) (finish_as f id layout))
merged_as f (Abort id) layout =
    open_as f (merge_named id layout) (abort_done id layout) (abort_done id (layout_as f layout)) (λ merge. refl)
merged_as f (Force most) layout =
    ap (λ fault. unless_faulty no_merge fault (force_done most (layout_as f layout))) (force_fault_as f most layout)
    ∙ faultless_as f no_merge (force_fault most layout) (force_done most layout) (force_done most (layout_as f layout)) (force_as f most layout)
