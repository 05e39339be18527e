-- How writes end, by what became of the change.
use Rattle.std.proofs.Common.{◌≡◌, true, false, ℕ, List, [], ◌∷◌, Option, Some, None, Result, Ok, Err, option_map, unwrap_or, refl, sym, ap, subst, inl, inr, Bool, ◌∙◌}
use Rattle.std.proofs.lemmas.List.Elements.{All-cons, All-nil}
use Rattle.commit_store.specs.Saying.{HasSource}
use Rattle.flattener.specs.Block.{BlockState, root_of_tree}
use Rattle.flattener.specs.Fits.{BlockFits}
use Rattle.flattener.specs.Seen.{block_seen}
use Rattle.index_core.specs.Kept.{IndexFits, IndexState, block_number, has_block_id, layout_kept, live_block}
use Rattle.index_core.specs.Write.{IsNext, has_nothing, written}
use Rattle.index_core.specs.declared.op.WriteOp.TheVariants.{Put, Take}
use Rattle.machine.specs.Answer.{first_of, outcome_of}
use Rattle.machine.specs.State.{State}
use Rattle.machine.specs.Write.{added_body, put_result, put_source}
use Rattle.machine.specs.declared.limits.Limits.{Limits}
use Rattle.mapping.specs.Growth.{HasFurtherBodies}
use Rattle.mapping.specs.IsMapping.{IsMapping}
use Rattle.mapping.specs.Mapping.{Mapping}
use Rattle.reply_text.specs.Text.{reply_text}
use Rattle.reply_text.specs.declared.reply.Reply.TheVariants as reply
use Rattle.reply_text.specs.declared.reply.WriteResult.TheVariants.{Deleted}
use Rattle.tree_json.specs.Value.{JsonValue}
use Rattle.tree_objects.specs.Tree.{Tree}
use Rattle.write_plan.specs.Planned.{IsPlanned, refusals_of}
use Rattle.write_plan.specs.declared.plan.Plan.{Plan}
use Rattle.index_trees.specs.Faithful.{AreFaithful}
use Rattle.engine.specs.Kept.{IsIndexOf}
use Rattle.engine.specs.Parts.{Ends, Grows, IsChanged, Leaves, answered_of, delete_step, mapping_put}
use Rattle.engine.specs.declared.engine.Answered.TheVariants as answered
use Rattle.engine.specs.declared.no_memory.NoMemory as memory
use Rattle.engine.specs.declared.reply.Ended.{Ended}
use Rattle.engine.specs.declared.reply.Ended.TheVariants.{Accepted, Refused}
use Rattle.engine.proofs.Answering.{lacking_room, stays_or_seals}
use Rattle.engine.proofs.Items.{Carries, carries_changed, carries_same}
use Rattle.engine.proofs.Leaving.{leaves_same, leaves_sealed}
use Rattle.engine.proofs.Standing.{SameBlocks}
use Rattle.engine.proofs.Taking.{take_full, take_made}
use Rattle.engine.proofs.Writing.{put_full, put_made}

-- ---- a tree that is put

pub put_ends : SameBlocks → (limits : Limits) (m m' : Mapping) (id : List ℕ) (source : JsonValue) (plan : Plan) (tree : Option Tree) (index index' : IndexState) (state : State)
    (result : Result Ended memory.NoMemory) (out out' : List ℕ) → IsMapping m → index.objects ≡ limits.objects → AreFaithful (Some m) index state → IsPlanned m id source index.next plan
    → first_of (refusals_of m id source index.next) ≡ None → IsChanged result (Put plan.block) index index' out out' → m' ≡ mapping_put result m plan.grown
    → out ≡ reply_text (reply.Written id index.next (put_result tree))
    → Ends state (outcome_of state (put_source limits m id source (added_body m source) tree state)) (answered_of result) out' (Some m') index'
put_ends same limits m m' id source plan tree index index' state (Ok Accepted) out out' is most f p first changed grown text =
    put_made same limits m m' id source plan tree index index' state out' is most f p first changed.0 grown (changed.1 ∙ text)
put_ends same limits m m' id source plan tree index index' state (Ok Refused) out out' is most f p first changed grown text =
    subst (λ (it : Mapping). Ends state (outcome_of state (put_source limits m id source (added_body m source) tree state)) answered.Refused out' (Some it) index') (sym grown)
    (subst (λ (at : IndexState). Ends state (outcome_of state (put_source limits m id source (added_body m source) tree state)) answered.Refused out' (Some m) at) (sym changed.same)
    (put_full same limits m id source plan tree index state out' is most f p first changed.full changed.text))
put_ends same limits m m' id source plan tree index index' state (Err none) out out' is most f p first changed grown text =
    subst (λ (it : Mapping). Ends state (outcome_of state (put_source limits m id source (added_body m source) tree state)) answered.NoMemory out' (Some it) index') (sym grown)
    (lacking_room m index index' state _ out' f changed.next (stays_or_seals (layout_kept index) (layout_kept index') changed.layout))

pub put_leaves : (m m' : Mapping) (id : List ℕ) (source : JsonValue) (plan : Plan) (index index' : IndexState) (result : Result Ended memory.NoMemory) (out out' : List ℕ) → IsMapping m → IsIndexOf m index
    → IsPlanned m id source index.next plan → IsChanged result (Put plan.block) index index' out out' → m' ≡ mapping_put result m plan.grown → IndexFits (unwrap_or plan.grown m) index'
    → index'.objects ≡ index.objects → Leaves (answered_of result) (Some m) (Some m') m' index index'
put_leaves m m' id source plan index index' (Ok Accepted) out out' is index_of p changed grown fits objects =
    let has : HasSource (block_seen plan.block) = record { source = source; text = p.text.text; reads = p.text.reads } in
    let carries = carries_changed (has_block_id plan.block.root.id) (block_seen plan.block ∷ []) (layout_kept index) (layout_kept index')
    (All-cons HasSource (block_seen plan.block) [] has (All-nil HasSource)) changed.0.layout in
    record {
      kept = record { fits = subst (λ (it : Mapping). IndexFits it index') (sym grown) fits; values = carries.values index_of.values };
      objects = objects;
      items = carries.items;
      stays = tt;
    }
put_leaves m m' id source plan index index' (Ok Refused) out out' is index_of p changed grown fits objects =
    subst (λ (it : Mapping). Leaves answered.Refused (Some m) (Some it) it index index') (sym grown)
    (subst (λ (at : IndexState). Leaves answered.Refused (Some m) (Some m) m index at) (sym changed.same) (leaves_same answered.Refused m index index_of))
put_leaves m m' id source plan index index' (Err none) out out' is index_of p changed grown fits objects =
    subst (λ (it : Mapping). Leaves answered.NoMemory (Some m) (Some it) it index index') (sym grown)
    (leaves_sealed answered.NoMemory m index index' index_of (changed.fits m is index_of.fits) changed.next objects (stays_or_seals (layout_kept index) (layout_kept index') changed.layout))

pub put_grows : (m m' : Mapping) (id : List ℕ) (source : JsonValue) (number : ℕ) (plan : Plan) (result : Result Ended memory.NoMemory) → IsMapping m → IsPlanned m id source number plan
    → m' ≡ mapping_put result m plan.grown → Grows m m'
put_grows m m' id source number plan (Ok Accepted) is p grown =
    let same = sym (grown ∙ p.grown) in
    inr (record { before = is; after = subst IsMapping same p.later.mapping; further = subst (HasFurtherBodies m) same p.later.further })
put_grows m m' id source number plan (Ok Refused) is p grown = inl grown
put_grows m m' id source number plan (Err none) is p grown = inl grown

-- ---- a tree that is taken out

pub take_ends : (limits : Limits) (m : Mapping) (id : List ℕ) (index index' : IndexState) (state : State) (number : ℕ) (result : Result Ended memory.NoMemory) (out out' : List ℕ)
    → index.objects ≡ limits.objects → AreFaithful (Some m) index state → Some number ≡ option_map block_number (live_block id index) → IsChanged result (Take id) index index' out out'
    → out ≡ reply_text (reply.Written id index.next Deleted) → Ends state (outcome_of state (delete_step limits m id state)) (answered_of result) out' (Some m) index'
take_ends limits m id index index' state number (Ok Accepted) out out' most f some changed text =
    take_made limits m id index index' state number out' most f some changed.0 (changed.1 ∙ text)
take_ends limits m id index index' state number (Ok Refused) out out' most f some changed text =
    subst (λ (at : IndexState). Ends state (outcome_of state (delete_step limits m id state)) answered.Refused out' (Some m) at) (sym changed.same)
    (take_full limits m id index state number out' most f some changed.full changed.text)
take_ends limits m id index index' state number (Err none) out out' most f some changed text =
    lacking_room m index index' state _ out' f changed.next (stays_or_seals (layout_kept index) (layout_kept index') changed.layout)

taken_carries : (id : List ℕ) (index index' : IndexState) (b : Bool) → has_nothing (Take id) index ≡ b → layout_kept index' ≡ written (Take id) index → Carries (layout_kept index) (layout_kept index')
taken_carries id index index' true nothing e =
    carries_same (layout_kept index) (layout_kept index') (e ∙ rw nothing refl)
taken_carries id index index' false nothing e =
    carries_changed (has_block_id id) [] (layout_kept index) (layout_kept index') (All-nil HasSource) (e ∙ rw nothing refl)

pub take_leaves : (m : Mapping) (id : List ℕ) (index index' : IndexState) (result : Result Ended memory.NoMemory) (out out' : List ℕ) → IsIndexOf m index
    → IsChanged result (Take id) index index' out out' → IndexFits m index' → index'.objects ≡ index.objects → Leaves (answered_of result) (Some m) (Some m) m index index'
take_leaves m id index index' (Ok Accepted) out out' index_of changed fits objects =
    let carries = taken_carries id index index' (has_nothing (Take id) index) refl changed.0.layout in
    record { kept = record { fits = fits; values = carries.values index_of.values }; objects = objects; items = carries.items; stays = tt }
take_leaves m id index index' (Ok Refused) out out' index_of changed fits objects =
    subst (λ (at : IndexState). Leaves answered.Refused (Some m) (Some m) m index at) (sym changed.same) (leaves_same answered.Refused m index index_of)
take_leaves m id index index' (Err none) out out' index_of changed fits objects =
    leaves_sealed answered.NoMemory m index index' index_of fits changed.next objects (stays_or_seals (layout_kept index) (layout_kept index') changed.layout)

-- ---- what `put_planned` asks for

planned_number : (m : Mapping) (id : List ℕ) (source : JsonValue) (number : ℕ) (plan : Plan) → IsPlanned m id source number plan → plan.block.root.number ≡ number
unfolding root_of_tree
planned_number m id source number plan p = ap (λ (block : BlockState). block.root.number) p.block

pub planned_next_to : (m : Mapping) (id : List ℕ) (source : JsonValue) (number : ℕ) (plan : Plan) → IsPlanned m id source number plan → IsNext (unwrap_or plan.grown m) number (Put plan.block)
planned_next_to m id source number plan p =
    (subst (λ (it : Mapping). BlockFits it (block_seen plan.block)) (sym p.grown) p.fits, planned_number m id source number plan p)
