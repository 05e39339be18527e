-- Deletes and updates: what the machine answers, as the index answers it.
use Rattle.std.proofs.Common.{◌≡◌, ◌+◌, Bool, true, false, not, ◌&&◌, cond, ℕ, List, [], ◌∷◌, Option, Some, None, option_map, refl, sym, ap, subst, ◌∙◌, append-nil}
use Rattle.flattener.specs.Block.{BlockState, block_of, root_of_tree}
use Rattle.index_core.specs.Kept.{IndexState, block_number, has_block_id, layout_kept, live_block}
use Rattle.index_core.specs.Write.{has_nothing, is_full, is_refused, live_after}
use Rattle.index_core.specs.declared.op.WriteOp.TheVariants.{Take}
use Rattle.json_merge.specs.Merged.{merged}
use Rattle.json_merge.specs.Same.{is_same}
use Rattle.layout.specs.Layout.{with_change}
use Rattle.machine.specs.Answer.{Answer, answers, first_of, outcome_of, refused_if}
use Rattle.machine.specs.State.{State}
use Rattle.machine.specs.Write.{added_body, answered_or, change, change_or_nothing, changed, changed_state, full, live_tree, nothing_to_do, object_count, put_source, take_out, updated_source}
use Rattle.machine.specs.declared.limits.Limits.{Limits}
use Rattle.machine.proofs.Laid.{change_laid}
use Rattle.machine.proofs.Numbered.{taken_numbered}
use Rattle.mapping.specs.Mapping.{Mapping}
use Rattle.reply_text.specs.Text.{reply_text}
use Rattle.reply_text.specs.declared.refusal.Refusal.TheVariants.{IndexFull}
use Rattle.reply_text.specs.declared.reply.Reply.TheVariants as reply
use Rattle.reply_text.specs.declared.reply.WriteResult.TheVariants.{Deleted, Noop}
use Rattle.request_form.specs.Command.{Changes, update}
use Rattle.segment_builder.specs.Blocks.{objects_of}
use Rattle.tree_json.specs.Reading.{reading}
use Rattle.tree_json.specs.Text.{compact}
use Rattle.tree_json.specs.Value.{JsonValue}
use Rattle.tree_json.specs.declared.value.Json.{Json}
use Rattle.tree_objects.specs.Tree.{Tree, without}
use Rattle.write_plan.specs.Update.{IsTextOf, IsUpdated}
use Rattle.index_trees.specs.Faithful.{AreFaithful, Indexed, block_in, tree_in}
use Rattle.engine.specs.Parts.{Ends, IsMade, delete_step, update_step}
use Rattle.engine.specs.declared.engine.Answered.TheVariants as answered
use Rattle.engine.proofs.Answering.{accepted, refused}
use Rattle.engine.proofs.Standing.{changed_stands, number_same}
use Rattle.engine.proofs.Writing.{found_live, full_by, objects_after}

-- ---- whether a tree is live

none_of : {A B : Type 0} (f : A → B) (o : Option A) → None ≡ option_map f o → o ≡ None
none_of f None e = refl
none_of f (Some x) e = absurd (cc)

some_of : {A B : Type 0} (f : A → B) (o : Option A) (b : B) → Some b ≡ option_map f o → (a : A) × (o ≡ Some a)
some_of f None b e = absurd (cc)
some_of f (Some x) b e = (x, refl)

-- no tree is live where no block is
no_tree : (m : Mapping) (id : List ℕ) (index : IndexState) (state : State) → AreFaithful (Some m) index state → None ≡ option_map block_number (live_block id index) → live_tree id state.content.live ≡ None
no_tree m id index state f none =
    let found = found_live m id index state f in
    let here : found.it ≡ None = none_of (block_in m) found.it (sym (none_of block_number (live_block id index) none) ∙ found.block) in
    found.tree ∙ ap (option_map (tree_in m)) here

-- the tree that is live where a block is
pub record IsLive (m : Mapping) (id : List ℕ) (index : IndexState) (state : State) (number : ℕ) : Type 0 where
  pub it : Indexed m
  pub tree : live_tree id state.content.live ≡ Some it.tree
  pub block : live_block id index ≡ Some (block_of m it.tree)
  pub same : it.tree.number ≡ number

number_in : (m : Mapping) (it : Option (Indexed m)) (number : ℕ) → Some number ≡ option_map block_number (option_map (block_in m) it) → (own : Indexed m) × (it ≡ Some own) × (own.tree.number ≡ number)
number_in m None number e = absurd (cc)
number_in m (Some own) number e = (own, refl, let same = number_same m own.tree in cc)

pub live_of : (m : Mapping) (id : List ℕ) (index : IndexState) (state : State) (number : ℕ) → AreFaithful (Some m) index state → Some number ≡ option_map block_number (live_block id index) → IsLive m id index state number
live_of m id index state number f some =
    let found = found_live m id index state f in
    let own = number_in m found.it number (some ∙ ap (option_map block_number) found.block) in
    record { it = own.0; tree = found.tree ∙ ap (option_map (tree_in m)) own.1; block = found.block ∙ ap (option_map (block_in m)) own.1; same = own.2 }

-- ---- deletes

pub nothing_to_take : (limits : Limits) (m : Mapping) (id : List ℕ) (index : IndexState) (state : State) → AreFaithful (Some m) index state → None ≡ option_map block_number (live_block id index)
    → delete_step limits m id state ≡ answers (reply.NotFound id) state
nothing_to_take limits m id index state f none = rw (no_tree m id index state f none) refl

pub not_there : (limits : Limits) (m : Mapping) (id : List ℕ) (index : IndexState) (state : State) (out : List ℕ) → AreFaithful (Some m) index state → None ≡ option_map block_number (live_block id index)
    → out ≡ reply_text (reply.NotFound id) → Ends state (outcome_of state (delete_step limits m id state)) answered.Written out (Some m) index
not_there limits m id index state out f none text =
    let e : delete_step limits m id state ≡ answers (reply.NotFound id) state = rw (no_tree m id index state f none) refl in
    subst (λ answer. Ends state (outcome_of state answer) answered.Written out (Some m) index) (sym e) (accepted (Some m) index state state (reply.NotFound id) out f refl refl refl text)

taken_step : (limits : Limits) (m : Mapping) (id : List ℕ) (index : IndexState) (state : State) (number : ℕ) → IsLive m id index state number → delete_step limits m id state ≡ take_out limits m id state
taken_step limits m id index state number live = rw live.tree refl

takes : (m : Mapping) (id : List ℕ) (index : IndexState) (state : State) (number : ℕ) → IsLive m id index state number → has_nothing (Take id) index ≡ false
takes m id index state number live = rw live.block refl

take_full_by : (limits : Limits) (m : Mapping) (id : List ℕ) (index : IndexState) (state : State) (number : ℕ) (b : Bool) → index.objects ≡ limits.objects → AreFaithful (Some m) index state
    → IsLive m id index state number → is_refused (Take id) index ≡ b → first_of (full limits m (without id state.content.live) state.content.next ∷ []) ≡ cond b (Some IndexFull) None
take_full_by limits m id index state number b most f live test =
    let objects : objects_of (live_after (Take id) index) ≡ _ = objects_after m id [] [] index state f.stands f.laid refl ∙ ap (object_count m) (append-nil (without id state.content.live)) in
    let full_so : is_full (Take id) index ≡ b = ap (λ (t : Bool). not t && is_full (Take id) index) (sym (takes m id index state number live)) ∙ test in
    full_by limits index _ _ index.next state.content.next b most objects (sym f.next) full_so

pub take_full : (limits : Limits) (m : Mapping) (id : List ℕ) (index : IndexState) (state : State) (number : ℕ) (out : List ℕ) → index.objects ≡ limits.objects → AreFaithful (Some m) index state
    → Some number ≡ option_map block_number (live_block id index) → is_refused (Take id) index ≡ true → out ≡ reply_text (reply.Refused IndexFull)
    → Ends state (outcome_of state (delete_step limits m id state)) answered.Refused out (Some m) index
take_full limits m id index state number out most f some test text =
    let live = live_of m id index state number f some in
    let e = taken_step limits m id index state number live
    ∙ ap (λ o. refused_if o (changed m id (without id state.content.live) [] Deleted state)) (take_full_by limits m id index state number true most f live test) in
    subst (λ answer. Ends state (outcome_of state answer) answered.Refused out (Some m) index) (sym e) (refused (Some m) index state IndexFull out f text)

take_faithful : (m : Mapping) (id : List ℕ) (index index' : IndexState) (state : State) (number : ℕ) → AreFaithful (Some m) index state → IsLive m id index state number → IsMade (Take id) index index'
    → AreFaithful (Some m) index' (changed_state m id (without id state.content.live) [] state)
take_faithful m id index index' state number f live made =
    let nothing = takes m id index state number live in
    let changed_so = changed_stands m id [] (layout_kept index) state.layout f.stands in
    let kept : layout_kept index' ≡ with_change (has_block_id id) [] (layout_kept index) =
    made.layout ∙ ap (λ (t : Bool). cond t (layout_kept index) (with_change (has_block_id id) [] (layout_kept index))) nothing in
    let next : index'.next ≡ index.next + 1 = made.next ∙ ap (λ (t : Bool). cond t index.next (index.next + 1)) nothing in
    let numbered = taken_numbered id state.content f.numbered in
    record {
      mapped = refl;
      next = ap (λ k. k + 1) f.next ∙ sym next;
      stands = record { indexed = changed_so.indexed; trees = changed_so.trees; blocks = kept ∙ changed_so.blocks };
      laid = change_laid id [] state f.laid ∙ append-nil (without id state.content.live);
      numbered = record { live = numbered.0; below = numbered.1 };
    }

pub take_made : (limits : Limits) (m : Mapping) (id : List ℕ) (index index' : IndexState) (state : State) (number : ℕ) (out : List ℕ) → index.objects ≡ limits.objects → AreFaithful (Some m) index state
    → Some number ≡ option_map block_number (live_block id index) → IsMade (Take id) index index' → out ≡ reply_text (reply.Written id index.next Deleted)
    → Ends state (outcome_of state (delete_step limits m id state)) answered.Written out (Some m) index'
take_made limits m id index index' state number out most f some made text =
    let live = live_of m id index state number f some in
    let after = changed_state m id (without id state.content.live) [] state in
    let e = taken_step limits m id index state number live
    ∙ ap (λ o. refused_if o (changed m id (without id state.content.live) [] Deleted state)) (take_full_by limits m id index state number false most f live made.taken) in
    let said : out ≡ reply_text (reply.Written id state.content.next Deleted) = text ∙ ap (λ k. reply_text (reply.Written id k Deleted)) (sym f.next) in
    subst (λ answer. Ends state (outcome_of state answer) answered.Written out (Some m) index') (sym e)
    (accepted (Some m) index' state after (reply.Written id state.content.next Deleted) out (take_faithful m id index index' state number f live made) refl refl refl said)

-- ---- updates

-- an update, by the live tree
abbrev by_live : Limits → Mapping → List ℕ → Changes → State → Option Tree → Answer
by_live limits m id changes state live = change_or_nothing limits m (record { target = record { id = id; index = None; if_seq_no = None }; operation = update changes }) live state

pub updated_anew : (limits : Limits) (m : Mapping) (id : List ℕ) (changes : Changes) (index : IndexState) (state : State) → AreFaithful (Some m) index state → None ≡ option_map block_number (live_block id index)
    → update_step limits m id changes state ≡ put_source limits m id (updated_source changes None) (added_body m (updated_source changes None)) None state
updated_anew limits m id changes index state f none = ap (by_live limits m id changes state) (no_tree m id index state f none)

source_same : (m : Mapping) (tree : Tree) → (block_of m tree).root.source ≡ compact tree.source
unfolding root_of_tree
source_same m tree = refl

-- the source of the live block is that of the live tree
live_text : (m : Mapping) (id : List ℕ) (index : IndexState) (state : State) (number : ℕ) (live : IsLive m id index state number) → IsTextOf (block_of m live.it.tree).root.source live.it.tree.source
live_text m id index state number live = record { text = source_same m live.it.tree; reads = ap reading (source_same m live.it.tree) ∙ live.it.reads }

-- what an update makes of the source of the live block, it makes of that of the live tree
pub live_changed : (m : Mapping) (id own : List ℕ) (index : IndexState) (state : State) (number : ℕ) (doc : JsonValue) (source : Option Json) (live : IsLive m id index state number) → own ≡ id
    → ((block : BlockState) (v : JsonValue) → live_block own index ≡ Some block → IsTextOf block.root.source v → IsUpdated doc v source) → IsUpdated doc live.it.tree.source source
live_changed m id own index state number doc source live same makes =
    makes (block_of m live.it.tree) live.it.tree.source (ap (λ (key : List ℕ). live_block key index) same ∙ live.block) (live_text m id index state number live)

-- by whether the source stays as it is
abbrev by_same : Limits → Mapping → List ℕ → Changes → State → Tree → Bool → Answer
by_same limits m id changes state tree same =
    answered_or (nothing_to_do same id (update changes) (Some tree)) state (change limits m id (Some (merged changes.doc tree.source)) (Some tree) state)

pub updated_noop : (limits : Limits) (m : Mapping) (id : List ℕ) (changes : Changes) (index : IndexState) (state : State) (number : ℕ) (live : IsLive m id index state number)
    → is_same (merged changes.doc live.it.tree.source) live.it.tree.source ≡ true → update_step limits m id changes state ≡ answers (reply.Written id number Noop) state
updated_noop limits m id changes index state number live same =
    ap (by_live limits m id changes state) live.tree
    ∙ ap (by_same limits m id changes state live.it.tree) same
    ∙ ap (λ (k : ℕ). answers (reply.Written id k Noop) state) live.same

pub updated_live : (limits : Limits) (m : Mapping) (id : List ℕ) (changes : Changes) (index : IndexState) (state : State) (number : ℕ) (source : JsonValue) (live : IsLive m id index state number)
    → is_same (merged changes.doc live.it.tree.source) live.it.tree.source ≡ false → source ≡ merged changes.doc live.it.tree.source
    → update_step limits m id changes state ≡ put_source limits m id source (added_body m source) (Some live.it.tree) state
updated_live limits m id changes index state number source live other is =
    ap (by_live limits m id changes state) live.tree
    ∙ ap (by_same limits m id changes state live.it.tree) other
    ∙ ap (λ (v : JsonValue). put_source limits m id v (added_body m v) (Some live.it.tree) state) (sym is)
