-- Commands on the layout: merges, merges by a factor and rows. What the machine does to trees, the index does to their blocks.
use Rattle.std.proofs.Common.{◌≡◌, ◌==◌, ℕ, false, cond, List, map, Option, Some, None, unwrap_or, IfOk, IfSome, OnOk, Result, Ok, Err, refl, sym, ap, subst, ◌∙◌, arith}
use Rattle.std.proofs.lemmas.Bool.Decides.{nat_tests}
use Rattle.flattener.specs.Block.{BlockState}
use Rattle.index_core.specs.Kept.{IndexFits, IndexState, block_number, layout_kept}
use Rattle.layout.specs.As.{layout_as}
use Rattle.layout.specs.Layout.{Layout, OpenMerge, live_items, sealed}
use Rattle.layout.specs.Merges.{MergeFault, SegmentSummary, factor_of, finish_fault, force_fault, merge_named, start_fault, summaries_of, with_factor}
use Rattle.layout.proofs.Keeps.{sealed_keeps}
use Rattle.layout.proofs.MergesAs.{summaries_as}
use Rattle.machine.specs.Answer.{outcome_of, refuses}
use Rattle.machine.specs.Merging.{LayoutAnswer, abort_done, advance_done, answer_as, answer_of, automerge_step, declined, finish_done, force_done, layout_reply, layout_rows, merge_row, merge_step, merged_by, no_merge, objects_in, number_in, relaid, segment_row, segments_step, start_done, unless_faulty, with_layout, with_open}
use Rattle.machine.specs.Searching.{within}
use Rattle.machine.specs.State.{State, sealed_state}
use Rattle.machine.specs.declared.limits.Limits.{Limits}
use Rattle.machine.specs.declared.merge_command.MergeCommand.{MergeCommand}
use Rattle.machine.specs.declared.merge_command.MergeCommand.TheVariants.{Start, Advance, Finish, Abort, Force}
use Rattle.machine.proofs.Merged.{LaysLive, merged_as, merged_keeps}
use Rattle.mapping.specs.Mapping.{Mapping}
use Rattle.reply_text.specs.Text.{reply_text}
use Rattle.reply_text.specs.declared.refusal.Refusal.{Refusal}
use Rattle.reply_text.specs.declared.reply.Reply.{Reply}
use Rattle.reply_text.specs.declared.reply.Reply.TheVariants as reply
use Rattle.request_form.specs.Formed.{IsFactor}
use Rattle.segment_builder.specs.Blocks.{block_objects}
use Rattle.tree_objects.specs.Tree.{Tree}
use Rattle.engine.specs.Answers.{answered_by}
use Rattle.index_trees.specs.Faithful.{AreFaithful, Indexed, StandsFor, block_in, tree_in}
use Rattle.engine.specs.Kept.{IsIndexOf}
use Rattle.engine.specs.Parts.{Ends, IsRefusal, Leaves, answered_of}
use Rattle.engine.specs.declared.engine.Answered.TheVariants.{Written}
use Rattle.engine.specs.declared.no_memory.NoMemory as memory
use Rattle.engine.specs.declared.reply.Ended.{Ended}
use Rattle.engine.proofs.Answering.{accepted, lacking_sealed, refusal_ends, sealed_faithful, told}
use Rattle.engine.proofs.Finding.{its_bytes}
use Rattle.engine.proofs.Items.{carries_factor, carries_merged}
use Rattle.engine.proofs.Standing.{number_same, objects_in as objects_same, same_kept, sealed_stands}

-- ---- a reply to what was done is no refusal

abbrev Tells : {A : Type 0} → LayoutAnswer A → Type 0
Tells {A} (declined why) = Unit {0}
Tells {A} (relaid given layout) = answered_by given ≡ Written

faultless_tells : {A : Type 0} (id : ℕ) (fault : Option MergeFault) (answer : LayoutAnswer A) → Tells answer → Tells (unless_faulty id fault answer)
faultless_tells id None answer tells = tells
faultless_tells id (Some fault) answer tells = tt

open_tells : {A : Type 0} (merge : Option OpenMerge) (command : OpenMerge → LayoutAnswer A) → ((merge : OpenMerge) → Tells (command merge)) → Tells (with_open merge command)
open_tells None command tells = tt
open_tells (Some merge) command tells = tells merge

merged_tells : {A : Type 0} (command : MergeCommand) (layout : Layout A) → Tells (merged_by command layout)
unfolding merged_by
merged_tells (Start from count) layout = faultless_tells no_merge (start_fault from count layout) (start_done from count layout) refl
merged_tells (Advance id roots) layout = open_tells (merge_named id layout) (advance_done id roots layout) (λ merge. refl)
merged_tells (Finish id) layout =
    faultless_tells id (finish_fault id layout) (with_open (merge_named id layout) (finish_done id layout)) (open_tells (merge_named id layout) (finish_done id layout) (λ merge. refl))
merged_tells (Abort id) layout = open_tells (merge_named id layout) (abort_done id layout) (λ merge. refl)
merged_tells (Force most) layout = faultless_tells no_merge (force_fault most layout) (force_done most layout) refl

-- ---- merges

-- the trees are laid out as their blocks are
pub record IsRelaid (m : Mapping) (command : MergeCommand) (trees : Layout Tree) (given : Reply) (blocks' : Layout BlockState) : Type 0 where
  pub layout : Layout Tree
  pub is : merged_by command trees ≡ relaid given layout
  pub stands : StandsFor m blocks' layout

relaid_by : (m : Mapping) (command : MergeCommand) (trees : Layout Tree) (given : Reply) (blocks' : Layout BlockState) (answer : LayoutAnswer (Indexed m)) → relaid given blocks' ≡ answer_as (block_in m) answer
    → merged_by command trees ≡ answer_as (tree_in m) answer → IsRelaid m command trees given blocks'
relaid_by m command trees given blocks' (declined why) blocks is = absurd (cc)
relaid_by m command trees given blocks' (relaid said layout) blocks is =
    let same : said ≡ given = cc in
    let kept : blocks' ≡ layout_as (block_in m) layout = cc in
    record { layout = layout_as (tree_in m) layout; is = is ∙ ap (λ r. relaid r (layout_as (tree_in m) layout)) same; stands = record { indexed = layout; trees = refl; blocks = kept } }

merge_relays : (m : Mapping) (command : MergeCommand) (blocks blocks' : Layout BlockState) (trees : Layout Tree) (given : Reply) → StandsFor m blocks trees → merged_by command blocks ≡ relaid given blocks'
    → IsRelaid m command trees given blocks'
merge_relays m command blocks blocks' trees given s is =
    relaid_by m command trees given blocks' (merged_by command s.indexed)
    (sym is ∙ ap (merged_by command) s.blocks ∙ merged_as (block_in m) command s.indexed)
    (ap (merged_by command) s.trees ∙ merged_as (tree_in m) command s.indexed)

declined_by : (m : Mapping) (command : MergeCommand) (trees : Layout Tree) (why : Refusal) (answer : LayoutAnswer (Indexed m)) → declined why ≡ answer_as (block_in m) answer
    → merged_by command trees ≡ answer_as (tree_in m) answer → merged_by command trees ≡ declined why
declined_by m command trees why (declined other) blocks is = let same : other ≡ why = cc in is ∙ ap declined same
declined_by m command trees why (relaid given layout) blocks is = absurd (cc)

pub merge_declined : (m : Mapping) (command : MergeCommand) (index : IndexState) (state : State) (why : Refusal) → AreFaithful (Some m) index state → merged_by command (sealed (layout_kept index)) ≡ declined why
    → merge_step command m (sealed_state state) ≡ refuses why
merge_declined m command index state why f is =
    let s = sealed_stands m (layout_kept index) state.layout f.stands in
    ap (answer_of (sealed_state state))
    (declined_by m command (sealed state.layout) why (merged_by command s.indexed)
    (sym is ∙ ap (merged_by command) s.blocks ∙ merged_as (block_in m) command s.indexed)
    (ap (merged_by command) s.trees ∙ merged_as (tree_in m) command s.indexed))

lives_on : {A : Type 0} (command : MergeCommand) (layout layout' : Layout A) (given : Reply) → merged_by command layout ≡ relaid given layout' → live_items layout' ≡ live_items layout
lives_on command layout layout' given is = subst (LaysLive layout) is (merged_keeps command layout)

pub merge_done : (m : Mapping) (command : MergeCommand) (index index' : IndexState) (state : State) (given : Reply) (out : List ℕ) → AreFaithful (Some m) index state → index'.next ≡ index.next
    → merged_by command (sealed (layout_kept index)) ≡ relaid given (layout_kept index') → out ≡ reply_text given
    → Ends state (outcome_of state (merge_step command m (sealed_state state))) Written out (Some m) index'
merge_done m command index index' state given out f next is text =
    let r = merge_relays m command (sealed (layout_kept index)) (layout_kept index') (sealed state.layout) given (sealed_stands m (layout_kept index) state.layout f.stands) is in
    let after = with_layout r.layout (sealed_state state) in
    let faithful : AreFaithful (Some m) index' after = record {
      mapped = f.mapped;
      next = f.next ∙ sym next;
      stands = r.stands;
      laid = lives_on command (sealed state.layout) r.layout given r.is ∙ sealed_keeps state.layout ∙ f.laid;
      numbered = f.numbered;
    } in
    subst (λ answer. Ends state (outcome_of state answer) Written out (Some m) index') (sym (ap (answer_of (sealed_state state)) r.is))
    (accepted (Some m) index' state after given out faithful refl refl (subst Tells r.is (merged_tells command (sealed state.layout))) text)

pub merge_leaves : (m : Mapping) (command : MergeCommand) (index index' : IndexState) (given : Reply) → IsIndexOf m index → IndexFits m index' → index'.objects ≡ index.objects
    → merged_by command (sealed (layout_kept index)) ≡ relaid given (layout_kept index') → Leaves Written (Some m) (Some m) m index index'
merge_leaves m command index index' given index_of fits objects is =
    let carries = carries_merged command (layout_kept index) (layout_kept index') given is in
    record { kept = record { fits = fits; values = carries.values index_of.values }; objects = objects; items = carries.items; stays = tt }

pub merge_refused : (m : Mapping) (command : MergeCommand) (index index' : IndexState) (state : State) (why : Refusal) (result : Result Ended memory.NoMemory) (out : List ℕ) → AreFaithful (Some m) index state
    → merged_by command (sealed (layout_kept index)) ≡ declined why → index' ≡ index → IsRefusal why result out
    → Ends state (outcome_of state (merge_step command m (sealed_state state))) (answered_of result) out (Some m) index'
merge_refused m command index index' state why result out f is same said =
    subst (λ (own : IndexState). Ends state (outcome_of state (merge_step command m (sealed_state state))) (answered_of result) out (Some m) own) (sym same)
    (refusal_ends (Some m) index state (merge_step command m (sealed_state state)) why result out f (merge_declined m command index state why f is) said)

-- ---- merges by a factor

factor_same : (factor : Option ℕ) → IfSome factor IsFactor → factor_of (unwrap_or factor 0) ≡ factor
factor_same None is = refl
factor_same (Some factor) is = let some : (factor == 0) ≡ false = grind (arith, nat_tests, is.0) in ap (λ b. cond b None (Some factor)) some

pub factor_done : (m : Mapping) (factor : Option ℕ) (index index' : IndexState) (state : State) (out : List ℕ) → IfSome factor IsFactor → AreFaithful (Some m) index state → index'.next ≡ index.next
    → layout_kept index' ≡ sealed (with_factor (factor_of (unwrap_or factor 0)) (layout_kept index)) → out ≡ reply_text (reply.AutoMerge (unwrap_or factor 0))
    → Ends state (outcome_of state (automerge_step factor m state)) Written out (Some m) index'
unfolding automerge_step
factor_done m factor index index' state out is f next seals text =
    let layout = with_factor factor state.layout in
    let s : StandsFor m (with_factor factor (layout_kept index)) layout = record {
      indexed = with_factor factor f.stands.indexed;
      trees = ap (with_factor factor) f.stands.trees;
      blocks = ap (with_factor factor) f.stands.blocks;
    } in
    let kept : layout_kept index' ≡ sealed (with_factor factor (layout_kept index)) =
    seals ∙ ap (λ (by : Option ℕ). sealed (with_factor by (layout_kept index))) (factor_same factor is) in
    let after = sealed_state (with_layout layout state) in
    let faithful : AreFaithful (Some m) index' after = record {
      mapped = f.mapped;
      next = f.next ∙ sym next;
      stands = same_kept m (sealed (with_factor factor (layout_kept index))) (layout_kept index') (sealed layout) kept (sealed_stands m (with_factor factor (layout_kept index)) layout s);
      laid = sealed_keeps layout ∙ f.laid;
      numbered = f.numbered;
    } in
    accepted (Some m) index' state after (reply.AutoMerge (unwrap_or factor 0)) out faithful refl refl refl text

pub factor_leaves : (m : Mapping) (factor : Option ℕ) (index index' : IndexState) → IsIndexOf m index → IndexFits m index' → index'.objects ≡ index.objects
    → layout_kept index' ≡ sealed (with_factor factor (layout_kept index)) → Leaves Written (Some m) (Some m) m index index'
factor_leaves m factor index index' index_of fits objects seals =
    let carries = carries_factor factor (layout_kept index) (layout_kept index') seals in
    record { kept = record { fits = fits; values = carries.values index_of.values }; objects = objects; items = carries.items; stays = tt }

-- ---- rows

summaries_same : (m : Mapping) (its : Layout (Indexed m)) → summaries_of block_objects block_number (layout_as (block_in m) its) ≡ summaries_of (objects_in m) number_in (layout_as (tree_in m) its)
summaries_same m its =
    summaries_as (block_in m) block_objects block_number its
    ∙ (λ i. summaries_of (λ (it : Indexed m). objects_same m it.tree i) (λ (it : Indexed m). number_same m it.tree i) its)
    ∙ sym (summaries_as (tree_in m) (objects_in m) number_in its)

-- the rows of the blocks are those of their trees
pub rows_same : (m : Mapping) (kept : Layout BlockState) (layout : Layout Tree) → StandsFor m kept layout → layout_rows block_objects block_number kept ≡ layout_reply m layout
rows_same m kept layout s =
    ap (layout_rows block_objects block_number) s.blocks
    ∙ ap (λ (rows : List SegmentSummary). reply.Layout (map merge_row s.indexed.merges) (map segment_row rows)) (summaries_same m s.indexed)
    ∙ sym (ap (layout_reply m) s.trees)

pub rows_end : (limits : Limits) (m : Mapping) (index index' : IndexState) (state : State) (given : Reply) (result : Result Ended memory.NoMemory) (out : List ℕ) → AreFaithful (Some m) index state → index'.next ≡ index.next
    → layout_kept index' ≡ sealed (layout_kept index) → given ≡ layout_rows block_objects block_number (layout_kept index') → IfOk result (λ ends. answered_of (Ok ends) ≡ answered_by (within limits given))
    → OnOk result (out ≡ reply_text (within limits given)) → Ends state (outcome_of state (segments_step limits m (sealed_state state))) (answered_of result) out (Some m) index'
unfolding segments_step
rows_end limits m index index' state given (Ok ends) out f next seals rows told_so text =
    let faithful = sealed_faithful m index index' state f next seals in
    let is : given ≡ layout_reply m (sealed state.layout) = rows ∙ rows_same m (layout_kept index') (sealed state.layout) faithful.stands in
    told (Some m) index' state (sealed_state state) (answered_of (Ok ends)) (within limits (layout_reply m (sealed state.layout))) out faithful refl refl (its_bytes ends out)
    (told_so ∙ ap (λ (it : Reply). answered_by (within limits it)) is) (text ∙ ap (λ (it : Reply). reply_text (within limits it)) is)
rows_end limits m index index' state given (Err none) out f next seals rows told_so text =
    lacking_sealed m index' state _ out (sealed_faithful m index index' state f next seals)
