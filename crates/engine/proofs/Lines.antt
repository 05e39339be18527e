-- Mapping lines: what the machine answers, as the engine answers it.
use Rattle.std.proofs.Common.{◌≡◌, ℕ, List, Option, Some, None, refl, sym, ap, subst, ◌∙◌}
use Rattle.index_core.specs.Kept.{IndexState, layout_kept}
use Rattle.layout.specs.Layout.{empty_layout, sealed}
use Rattle.layout.proofs.Keeps.{sealed_keeps}
use Rattle.machine.specs.Answer.{first_of, outcome_of, refused_if, refuses}
use Rattle.machine.specs.MappingLine.{first_done, first_mapping, first_refusals, grown_mapping, growing_done, growing_refusals, mapping_by, mapping_step, with_content_mapping}
use Rattle.machine.specs.State.{State, sealed_state}
use Rattle.mapping.specs.Growth.{HasFurtherBodies}
use Rattle.mapping.specs.IsMapping.{IsMapping}
use Rattle.mapping.specs.Mapping.{Mapping}
use Rattle.reply_text.specs.Text.{reply_text}
use Rattle.reply_text.specs.declared.refusal.Refusal.{Refusal}
use Rattle.reply_text.specs.declared.reply.Reply.TheVariants as reply
use Rattle.tree_json.specs.Value.{JsonValue}
use Rattle.tree_objects.specs.Tree.{Tree}
use Rattle.index_trees.specs.Faithful.{AreFaithful}
use Rattle.engine.specs.Parts.{Ends}
use Rattle.engine.specs.declared.engine.Answered.TheVariants as answered
use Rattle.engine.proofs.Answering.{accepted, sealed_faithful}
use Rattle.engine.proofs.Standing.{SameBlocks, grown_stands}

line_is : (body : JsonValue) (mapping : Option Mapping) (state : State) → state.content.mapping ≡ mapping → mapping_step body (sealed_state state) ≡ mapping_by body mapping (sealed_state state)
unfolding mapping_step
line_is body mapping state is = ap (λ (m : Option Mapping). mapping_by body m (sealed_state state)) is

-- ---- the first line

empty_sealed : sealed {A = Tree} empty_layout ≡ empty_layout
unfolding sealed
empty_sealed = refl

pub first_refused : (body : JsonValue) (mapping : Option Mapping) (index : IndexState) (state : State) (why : Refusal) → mapping ≡ None → AreFaithful mapping index state → first_of (first_refusals body) ≡ Some why
    → mapping_step body (sealed_state state) ≡ refuses why
first_refused body mapping index state why none f first = line_is body None state (f.mapped ∙ none) ∙ ap (λ o. refused_if o (first_done body (sealed_state state))) first

pub first_accepted : (body : JsonValue) (mapping : Option Mapping) (index : IndexState) (state : State) (m : Mapping) (out : List ℕ) → mapping ≡ None → AreFaithful mapping index state
    → layout_kept index ≡ empty_layout → first_of (first_refusals body) ≡ None → m ≡ first_mapping body → out ≡ reply_text reply.Mapped
    → Ends state (outcome_of state (mapping_step body (sealed_state state))) answered.Written out (Some m) index
first_accepted body mapping index state m out none f nothing first is text =
    let after = with_content_mapping (first_mapping body) (sealed_state state) in
    let e = line_is body None state (f.mapped ∙ none) ∙ ap (λ o. refused_if o (first_done body (sealed_state state))) first in
    let own = subst (λ (it : Option Mapping). AreFaithful it index state) none f in
    let faithful : AreFaithful (Some m) index after = record {
      mapped = ap Some (sym is);
      next = own.next;
      stands = record { indexed = empty_layout; trees = ap sealed own.stands ∙ empty_sealed; blocks = nothing };
      laid = sealed_keeps state.layout ∙ own.laid;
      numbered = record { live = own.numbered.live; below = own.numbered.below };
    } in
    subst (λ answer. Ends state (outcome_of state answer) answered.Written out (Some m) index) (sym e) (accepted (Some m) index state after reply.Mapped out faithful refl refl refl text)

-- ---- a further line

pub further_refused : (body : JsonValue) (m : Mapping) (index : IndexState) (state : State) (why : Refusal) → AreFaithful (Some m) index state → first_of (growing_refusals m body) ≡ Some why
    → mapping_step body (sealed_state state) ≡ refuses why
further_refused body m index state why f first = line_is body (Some m) state f.mapped ∙ ap (λ o. refused_if o (growing_done m body (sealed_state state))) first

pub further_accepted : SameBlocks → (body : JsonValue) (m m' : Mapping) (index index' : IndexState) (state : State) (out : List ℕ) → IsMapping m → IsMapping m' → HasFurtherBodies m (grown_mapping m body)
    → AreFaithful (Some m) index state → index'.next ≡ index.next → layout_kept index' ≡ sealed (layout_kept index) → first_of (growing_refusals m body) ≡ None → m' ≡ grown_mapping m body
    → out ≡ reply_text reply.Mapped → Ends state (outcome_of state (mapping_step body (sealed_state state))) answered.Written out (Some m') index'
further_accepted same body m m' index index' state out is is' further f next seals first grown text =
    let after = with_content_mapping (grown_mapping m body) (sealed_state state) in
    let e = line_is body (Some m) state f.mapped ∙ ap (λ o. refused_if o (growing_done m body (sealed_state state))) first in
    let g = sealed_faithful m index index' state f next seals in
    let faithful : AreFaithful (Some m') index' after = record {
      mapped = ap Some (sym grown);
      next = g.next;
      stands = grown_stands same m m' is is' (subst (HasFurtherBodies m) (sym grown) further) (layout_kept index') (sealed state.layout) g.stands;
      laid = g.laid;
      numbered = record { live = f.numbered.live; below = f.numbered.below };
    } in
    subst (λ answer. Ends state (outcome_of state answer) answered.Written out (Some m') index') (sym e) (accepted (Some m') index' state after reply.Mapped out faithful refl refl refl text)
