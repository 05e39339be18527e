-- The trees that the layout has live are the live trees, before and after each request.
use Rattle.std.proofs.Common.{◌≡◌, ℕ, true, false, not, cond, List, [], ◌∷◌, ◌++◌, filter, refl, ap, ◌∙◌, append-nil}
use Rattle.std.specs.Str.{bytes_eq}
use Rattle.layout.specs.Layout.{live_items, staying, with_change}
use Rattle.layout.proofs.Keeps.{sealed_keeps, change_keeps}
use Rattle.reply_text.specs.declared.reply.Reply.{Reply}
use Rattle.request_form.specs.Asked.{Asked}
use Rattle.tree_objects.specs.Tree.{Tree, has_id, without}
use Rattle.machine.specs.May.{MayAnswer}
use Rattle.machine.specs.State.{State, IsLaid}
use Rattle.machine.specs.declared.limits.Limits.{Limits}
use Rattle.machine.proofs.Steps.{Stays, may_so}

-- what leaves the layout leaves the live trees
stays : (id : List ℕ) (trees : List Tree) → filter (staying (has_id id)) trees ≡ without id trees
stays id [] = refl
stays id (tree ∷ trees) = let more = stays id trees in
    elim (bytes_eq tree.id id) as (λ b. cond (not b) (tree ∷ filter (staying (has_id id)) trees) (filter (staying (has_id id)) trees) ≡ cond b (without id trees) (tree ∷ without id trees)) [
      | true ↦ more
      | false ↦ ap (λ ts. tree ∷ ts) more
    ]

pub change_laid : (id : List ℕ) (new : List Tree) (state : State) → IsLaid state → live_items (with_change (has_id id) new state.layout) ≡ without id state.content.live ++ new
change_laid id new state laid =
    change_keeps (has_id id) new state.layout
    ∙ ap (λ ts. filter (staying (has_id id)) ts ++ new) laid
    ∙ ap (λ ts. ts ++ new) (stays id state.content.live)

laid_stays : (asked : Asked) → Stays IsLaid asked
laid_stays asked = record {
  laid = record { sealed = λ state laid. sealed_keeps state.layout ∙ laid; relaid = λ layout state same laid. same ∙ laid; stored = λ kept state laid. laid };
  mapped = λ m state laid. laid;
  put = λ m tree state next laid. change_laid tree.id (tree ∷ []) state laid;
  taken = λ m id state laid. change_laid id [] state laid ∙ append-nil (without id state.content.live);
  opened = λ asks state laid. laid;
  closed = λ id asks state laid. laid;
}

pub may_laid : (limits : Limits) (before : State) (asked : Asked) (reply : Reply) (after : State) → IsLaid before → MayAnswer limits before asked reply after → IsLaid after
may_laid limits before asked reply after laid may = may_so IsLaid limits before asked reply after (laid_stays asked) laid may
