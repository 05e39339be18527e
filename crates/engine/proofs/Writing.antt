-- Writes: what the machine answers, as the index answers it.
use Rattle.std.proofs.Common.{◌≡◌, ◌+◌, ◌==◌, ◌||◌, Bool, true, false, cond, ℕ, List, [], ◌∷◌, ◌++◌, nat_lt, filter, map, Option, Some, None, option_map, unwrap_or, refl, sym, ap, subst, ◌∙◌}
use Rattle.flattener.specs.Block.{BlockState, block_of, root_of_tree}
use Rattle.flattener.specs.Seen.{block_seen}
use Rattle.index_core.specs.Kept.{IndexState, block_number, has_block_id, layout_kept, live_block, live_kept}
use Rattle.index_core.specs.Write.{is_refused, live_after}
use Rattle.index_core.specs.declared.op.WriteOp.TheVariants.{Put}
use Rattle.layout.specs.Layout.{staying, with_change}
use Rattle.layout.proofs.Keeps.{change_keeps}
use Rattle.machine.specs.Answer.{refuses, outcome_of, when, first_of, refused_if}
use Rattle.machine.specs.State.{State, IsLaid}
use Rattle.machine.specs.Write.{added_body, change_or_nothing, changed, changed_state, early_refusals, full, last_number, live_number, live_tree, object_count, put_refusals, put_result, put_source, with_put, write_step}
use Rattle.machine.specs.declared.limits.Limits.{Limits}
use Rattle.machine.proofs.Laid.{change_laid}
use Rattle.machine.proofs.Numbered.{put_numbered}
use Rattle.mapping.specs.IsMapping.{IsMapping}
use Rattle.mapping.specs.Mapping.{Mapping}
use Rattle.reply_text.specs.Text.{reply_text}
use Rattle.reply_text.specs.declared.refusal.Refusal.{Refusal}
use Rattle.reply_text.specs.declared.refusal.Refusal.TheVariants.{IndexFull}
use Rattle.reply_text.specs.declared.reply.Reply.TheVariants as reply
use Rattle.request_form.specs.Command.{Write}
use Rattle.segment_builder.specs.Blocks.{objects_of}
use Rattle.tree_json.specs.Reading.{reading}
use Rattle.tree_json.specs.Value.{JsonValue}
use Rattle.tree_objects.specs.Tree.{Tree, without}
use Rattle.write_plan.specs.Planned.{IsPlanned, mapping_after, refusals_of, tree_of}
use Rattle.write_plan.specs.declared.plan.Plan.{Plan}
use Rattle.index_trees.specs.Faithful.{AreFaithful, Indexed, StandsFor, block_in, tree_in}
use Rattle.engine.specs.Parts.{Ends, IsMade}
use Rattle.engine.specs.declared.engine.Answered.TheVariants as answered
use Rattle.engine.proofs.Answering.{accepted, refused}
use Rattle.engine.proofs.Standing.{IsFound, SameBlocks, changed_stands, found_in, grown_stands, number_found, objects_counted}

-- ---- the live tree of an id

pub found_live : (m : Mapping) (id : List ℕ) (index : IndexState) (state : State) → AreFaithful (Some m) index state → IsFound m id state.content.live (live_kept index)
found_live m id index state f =
    subst (λ (trees : List Tree). IsFound m id trees (live_kept index)) f.laid (found_in m id (layout_kept index) state.layout f.stands)

pub number_live : (m : Mapping) (id : List ℕ) (index : IndexState) (state : State) → AreFaithful (Some m) index state → live_number (live_tree id state.content.live) ≡ option_map block_number (live_block id index)
number_live m id index state f = number_found m id state.content.live (live_kept index) (found_live m id index state f)

-- ---- early refusals

pub early_step : (limits : Limits) (m : Mapping) (it : Write) (index : IndexState) (state : State) (live : Option ℕ) (why : Refusal) → AreFaithful (Some m) index state
    → live ≡ option_map block_number (live_block it.target.id index) → Some why ≡ first_of (early_refusals m it live) → write_step limits m it state ≡ refuses why
unfolding write_step
early_step limits m it index state live why f number first =
    let tree = live_tree it.target.id state.content.live in
    let e : first_of (early_refusals m it (live_number tree)) ≡ Some why =
    ap (λ n. first_of (early_refusals m it n)) (number_live m it.target.id index state f ∙ sym number) ∙ sym first in
    ap (λ o. refused_if o (change_or_nothing limits m it tree state)) e

pub not_early : (limits : Limits) (m : Mapping) (it : Write) (index : IndexState) (state : State) (live : Option ℕ) → AreFaithful (Some m) index state
    → live ≡ option_map block_number (live_block it.target.id index) → None ≡ first_of (early_refusals m it live)
    → write_step limits m it state ≡ change_or_nothing limits m it (live_tree it.target.id state.content.live) state
unfolding write_step
not_early limits m it index state live f number first =
    let tree = live_tree it.target.id state.content.live in
    let e : first_of (early_refusals m it (live_number tree)) ≡ None =
    ap (λ n. first_of (early_refusals m it n)) (number_live m it.target.id index state f ∙ sym number) ∙ sym first in
    ap (λ o. refused_if o (change_or_nothing limits m it tree state)) e

-- ---- lists of refusals

first_later : (xs ys : List (Option Refusal)) → first_of xs ≡ None → first_of (xs ++ ys) ≡ first_of ys
first_later [] ys e = refl
first_later (None ∷ xs) ys e = first_later xs ys e
first_later (Some why ∷ xs) ys e = absurd (cc)

first_here : (xs ys : List (Option Refusal)) (why : Refusal) → first_of xs ≡ Some why → first_of (xs ++ ys) ≡ Some why
first_here [] ys why e = absurd (cc)
first_here (None ∷ xs) ys why e = first_here xs ys why e
first_here (Some other ∷ xs) ys why e = e

-- ---- whether the index is full

pub full_by : (limits : Limits) (index : IndexState) (objects objects' next next' : ℕ) (b : Bool) → index.objects ≡ limits.objects → objects ≡ objects' → next ≡ next'
    → (nat_lt index.objects objects || (next == last_number)) ≡ b → first_of (when (nat_lt limits.objects objects' || (next' == last_number)) IndexFull ∷ []) ≡ cond b (Some IndexFull) None
full_by limits index objects objects' next next' b most same number test =
    let e : (nat_lt limits.objects objects' || (next' == last_number)) ≡ b = rw (sym most, sym same, sym number) test in
    ap (λ (t : Bool). first_of (when t IndexFull ∷ [])) e ∙ by b
  where
    by : (b : Bool) → first_of (when b IndexFull ∷ []) ≡ cond b (Some IndexFull) None
    by true = refl
    by false = refl

-- the objects after a change are those of the trees after it
pub objects_after : (m : Mapping) (id : List ℕ) (new : List (Indexed m)) (blocks : List BlockState) (index : IndexState) (state : State) → StandsFor m (layout_kept index) state.layout → IsLaid state
    → blocks ≡ map (block_in m) new
    → objects_of (filter (staying (has_block_id id)) (live_kept index) ++ blocks) ≡ object_count m (without id state.content.live ++ map (tree_in m) new)
objects_after m id new blocks index state stands laid e =
    ap (λ bs. objects_of (filter (staying (has_block_id id)) (live_kept index) ++ bs)) e
    ∙ sym (ap objects_of (change_keeps (has_block_id id) (map (block_in m) new) (layout_kept index)))
    ∙ objects_counted m _ _ (changed_stands m id new (layout_kept index) state.layout stands)
    ∙ ap (object_count m) (change_laid id (map (tree_in m) new) state laid)

-- ---- a tree that is put

-- a plan is one for the next number of the state
planned_next : (m : Mapping) (id : List ℕ) (source : JsonValue) (plan : Plan) (index : IndexState) (state : State) → AreFaithful (Some m) index state → IsPlanned m id source index.next plan
    → IsPlanned m id source state.content.next plan
planned_next m id source plan index state f p = subst (λ n. IsPlanned m id source n plan) (sym f.next) p

abbrev planned_tree : (m : Mapping) (id : List ℕ) (source : JsonValue) (number : ℕ) (plan : Plan) → IsPlanned m id source number plan → Indexed (mapping_after m source)
planned_tree m id source number plan p = record { tree = tree_of m id source number; given = p.given; reads = ap reading (sym p.text.text) ∙ p.text.reads }

planned_id : (m : Mapping) (id : List ℕ) (source : JsonValue) (number : ℕ) (plan : Plan) → IsPlanned m id source number plan → plan.block.root.id ≡ id
unfolding root_of_tree
planned_id m id source number plan p = ap (λ (block : BlockState). block.root.id) p.block

stands_after : SameBlocks → (m : Mapping) (id : List ℕ) (source : JsonValue) (number : ℕ) (plan : Plan) (index : IndexState) (state : State) → IsMapping m → IsPlanned m id source number plan
    → AreFaithful (Some m) index state → StandsFor (mapping_after m source) (layout_kept index) state.layout
stands_after same m id source number plan index state is p f =
    grown_stands same m (mapping_after m source) is p.later.mapping p.later.further (layout_kept index) state.layout f.stands

put_full_by : SameBlocks → (limits : Limits) (m : Mapping) (id : List ℕ) (source : JsonValue) (plan : Plan) (index : IndexState) (state : State) (b : Bool) → IsMapping m → index.objects ≡ limits.objects
    → AreFaithful (Some m) index state → IsPlanned m id source state.content.next plan → is_refused (Put plan.block) index ≡ b
    → first_of (full limits (mapping_after m source) (with_put (tree_of m id source state.content.next) state.content.live) state.content.next ∷ []) ≡ cond b (Some IndexFull) None
put_full_by same limits m id source plan index state b is most f p test =
    let n = state.content.next in
    let m2 = mapping_after m source in
    let new = planned_tree m id source n plan p in
    let stands = stands_after same m id source n plan index state is p f in
    let objects : objects_of (live_after (Put plan.block) index) ≡ object_count m2 (with_put (tree_of m id source n) state.content.live) =
    ap (λ (own : List ℕ). objects_of (filter (staying (has_block_id own)) (live_kept index) ++ block_seen plan.block ∷ [])) (planned_id m id source n plan p)
    ∙ objects_after m2 id (new ∷ []) (block_seen plan.block ∷ []) index state stands f.laid (ap (λ (block : BlockState). block ∷ []) p.block) in
    full_by limits index _ _ index.next n b most objects (sym f.next) test

-- the refusals of the source come first
put_refusals_are : (limits : Limits) (m : Mapping) (id : List ℕ) (source : JsonValue) (tree : Option Tree) (state : State) (why : Option Refusal)
    → first_of (put_refusals limits m (added_body m source) (tree_of m id source state.content.next) state) ≡ why
    → put_source limits m id source (added_body m source) tree state
    ≡ refused_if why (changed (mapping_after m source) id (with_put (tree_of m id source state.content.next) state.content.live) (tree_of m id source state.content.next ∷ []) (put_result tree) state)
put_refusals_are limits m id source tree state why e =
    ap (λ o. refused_if o (changed (mapping_after m source) id (with_put (tree_of m id source state.content.next) state.content.live) (tree_of m id source state.content.next ∷ []) (put_result tree) state)) e

pub put_refused : (limits : Limits) (m : Mapping) (id : List ℕ) (source : JsonValue) (tree : Option Tree) (index : IndexState) (state : State) (why : Refusal) → AreFaithful (Some m) index state
    → first_of (refusals_of m id source index.next) ≡ Some why → put_source limits m id source (added_body m source) tree state ≡ refuses why
put_refused limits m id source tree index state why f first =
    let here : first_of (refusals_of m id source state.content.next) ≡ Some why = subst (λ n. first_of (refusals_of m id source n) ≡ Some why) (sym f.next) first in
    put_refusals_are limits m id source tree state (Some why) (first_here (refusals_of m id source state.content.next) _ why here)

pub put_full : SameBlocks → (limits : Limits) (m : Mapping) (id : List ℕ) (source : JsonValue) (plan : Plan) (tree : Option Tree) (index : IndexState) (state : State) (out : List ℕ) → IsMapping m
    → index.objects ≡ limits.objects → AreFaithful (Some m) index state → IsPlanned m id source index.next plan → first_of (refusals_of m id source index.next) ≡ None
    → is_refused (Put plan.block) index ≡ true → out ≡ reply_text (reply.Refused IndexFull)
    → Ends state (outcome_of state (put_source limits m id source (added_body m source) tree state)) answered.Refused out (Some m) index
put_full same limits m id source plan tree index state out is most f p first test text =
    let q = planned_next m id source plan index state f p in
    let none : first_of (refusals_of m id source state.content.next) ≡ None = subst (λ n. first_of (refusals_of m id source n) ≡ None) (sym f.next) first in
    let e = put_refusals_are limits m id source tree state (Some IndexFull)
    (first_later (refusals_of m id source state.content.next) _ none ∙ put_full_by same limits m id source plan index state true is most f q test) in
    subst (λ answer. Ends state (outcome_of state answer) answered.Refused out (Some m) index) (sym e) (refused (Some m) index state IndexFull out f text)

-- the index after a tree was put
put_faithful : SameBlocks → (m : Mapping) (id : List ℕ) (source : JsonValue) (plan : Plan) (index index' : IndexState) (state : State) → IsMapping m → AreFaithful (Some m) index state
    → IsPlanned m id source state.content.next plan → IsMade (Put plan.block) index index'
    → AreFaithful (Some (mapping_after m source)) index'
    (changed_state (mapping_after m source) id (with_put (tree_of m id source state.content.next) state.content.live) (tree_of m id source state.content.next ∷ []) state)
put_faithful same m id source plan index index' state is f p made =
    let n = state.content.next in
    let m2 = mapping_after m source in
    let tree = tree_of m id source n in
    let new = planned_tree m id source n plan p in
    let changed_so = changed_stands m2 id (new ∷ []) (layout_kept index) state.layout (stands_after same m id source n plan index state is p f) in
    let kept : layout_kept index' ≡ with_change (has_block_id id) (block_of m2 tree ∷ []) (layout_kept index) =
    made.layout
    ∙ ap (λ (own : List ℕ). with_change (has_block_id own) (block_seen plan.block ∷ []) (layout_kept index)) (planned_id m id source n plan p)
    ∙ ap (λ (block : BlockState). with_change (has_block_id id) (block ∷ []) (layout_kept index)) p.block in
    let numbered = put_numbered tree state.content refl f.numbered in
    record {
      mapped = refl;
      next = ap (λ k. k + 1) f.next ∙ sym made.next;
      stands = record { indexed = changed_so.indexed; trees = changed_so.trees; blocks = kept ∙ changed_so.blocks };
      laid = change_laid id (tree ∷ []) state f.laid;
      numbered = record { live = numbered.0; below = numbered.1 };
    }

pub put_made : SameBlocks → (limits : Limits) (m m' : Mapping) (id : List ℕ) (source : JsonValue) (plan : Plan) (tree : Option Tree) (index index' : IndexState) (state : State) (out : List ℕ) → IsMapping m
    → index.objects ≡ limits.objects → AreFaithful (Some m) index state → IsPlanned m id source index.next plan → first_of (refusals_of m id source index.next) ≡ None
    → IsMade (Put plan.block) index index' → m' ≡ unwrap_or plan.grown m → out ≡ reply_text (reply.Written id index.next (put_result tree))
    → Ends state (outcome_of state (put_source limits m id source (added_body m source) tree state)) answered.Written out (Some m') index'
put_made same limits m m' id source plan tree index index' state out is most f p first made grown text =
    let n = state.content.next in
    let m2 = mapping_after m source in
    let q = planned_next m id source plan index state f p in
    let none : first_of (refusals_of m id source n) ≡ None = subst (λ k. first_of (refusals_of m id source k) ≡ None) (sym f.next) first in
    let after = changed_state m2 id (with_put (tree_of m id source n) state.content.live) (tree_of m id source n ∷ []) state in
    let e = put_refusals_are limits m id source tree state None
    (first_later (refusals_of m id source n) _ none ∙ put_full_by same limits m id source plan index state false is most f q made.taken) in
    let faithful : AreFaithful (Some m') index' after =
    subst (λ (it : Mapping). AreFaithful (Some it) index' after) (sym (grown ∙ q.grown)) (put_faithful same m id source plan index index' state is f q made) in
    let said : out ≡ reply_text (reply.Written id n (put_result tree)) = text ∙ ap (λ k. reply_text (reply.Written id k (put_result tree))) (sym f.next) in
    subst (λ answer. Ends state (outcome_of state answer) answered.Written out (Some m') index') (sym e)
    (accepted (Some m') index' state after (reply.Written id n (put_result tree)) out faithful refl refl refl said)
