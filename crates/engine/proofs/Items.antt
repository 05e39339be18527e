-- What is done to a layout keeps the items of its segments, and what holds of all items: their sources are read back.
use Rattle.std.proofs.Common.{◌≡◌, ◌⊎◌, ◌++◌, ℕ, Bool, List, Option, Some, None, refl, sym, subst, inl, inr}
use Rattle.std.proofs.lemmas.List.Elements.{All-append, All-contains, All-contains_itself, All-from_recursion, All-weaker, recursion_from_All}
use Rattle.std.specs.List.{All}
use Rattle.std.specs.Prelude.{Contains}
use Rattle.commit_store.specs.Saying.{HasSource}
use Rattle.flattener.specs.Block.{BlockState}
use Rattle.layout.specs.Layout.{Layout, OpenMerge, live_items, sealed, with_change}
use Rattle.layout.specs.Merges.{MergeFault, aborted, advanced, finish_fault, finished, force_fault, forced, merge_named, start_fault, with_factor}
use Rattle.layout_ids.specs.Ids.{KeepsItems}
use Rattle.layout_ids.specs.Items.{AllItems, items_of}
use Rattle.layout_ids.proofs.Items.{change_items, finish_items, force_items, live_all, sealed_items}
use Rattle.layout_ids.proofs.Keeping.{change_keeps, finish_keeps, force_keeps, keeps_both, keeps_itself, keeps_left, sealed_keeps, start_keeps}
use Rattle.machine.specs.Merging.{LayoutAnswer, abort_done, advance_done, declined, finish_done, force_done, merged_by, no_merge, relaid, start_done, unless_faulty, with_open}
use Rattle.machine.specs.declared.merge_command.MergeCommand.{MergeCommand}
use Rattle.machine.specs.declared.merge_command.MergeCommand.TheVariants.{Start, Advance, Finish, Abort, Force}
use Rattle.reply_text.specs.declared.reply.Reply.{Reply}

-- segments keep their items, and no source is there that isn't read back
pub record Carries (kept kept' : Layout BlockState) : Type 0 where
  pub items : KeepsItems kept kept'
  pub values : AllItems HasSource kept → AllItems HasSource kept'

all_there : (xs ys : List BlockState) → ((item : BlockState) → Contains xs item → Contains ys item) → All HasSource ys → All HasSource xs
all_there xs ys there all =
    All-weaker (Contains xs) HasSource (λ item own. All-contains HasSource ys item all (there item own)) xs (All-contains_itself xs)

-- and so are those of the live items
pub live_values : (kept : Layout BlockState) → AllItems HasSource kept → All HasSource (live_items kept)
live_values kept all = All-from_recursion HasSource (live_items kept) (live_all HasSource kept (recursion_from_All HasSource (items_of kept) all))

pub items_same : (kept : Layout BlockState) → KeepsItems kept kept
items_same kept = keeps_itself kept

carries_itself : (kept : Layout BlockState) → Carries kept kept
carries_itself kept = record { items = keeps_itself kept; values = λ all. all }

pub carries_same : (kept kept' : Layout BlockState) → kept' ≡ kept → Carries kept kept'
carries_same kept kept' same = subst (Carries kept) (sym same) (carries_itself kept)

carries_both : (one two three : Layout BlockState) → Carries one two → Carries two three → Carries one three
carries_both one two three first second = record {
  items = keeps_both one two three first.items second.items;
  values = λ all. second.values (first.values all);
}

pub carries_sealed : (kept kept' : Layout BlockState) → kept' ≡ sealed kept → Carries kept kept'
carries_sealed kept kept' seals =
    subst (Carries kept) (sym seals) (record { items = sealed_keeps kept; values = all_there (items_of (sealed kept)) (items_of kept) (sealed_items kept) })

pub carries_left : (kept kept' : Layout BlockState) → (kept' ≡ kept) ⊎ (kept' ≡ sealed kept) → Carries kept kept'
carries_left kept kept' (inl same) = carries_same kept kept' same
carries_left kept kept' (inr seals) = carries_sealed kept kept' seals

pub carries_changed : (goes : BlockState → Bool) (new : List BlockState) (kept kept' : Layout BlockState) → All HasSource new → kept' ≡ with_change goes new kept → Carries kept kept'
carries_changed goes new kept kept' more changed =
    subst (Carries kept) (sym changed)
    (record {
      items = change_keeps goes new kept;
      values = λ all. all_there (items_of (with_change goes new kept)) (items_of kept ++ new) (change_items goes new kept) (All-append HasSource (items_of kept) new all more);
    })

pub carries_factor : (factor : Option ℕ) (kept kept' : Layout BlockState) → kept' ≡ sealed (with_factor factor kept) → Carries kept kept'
carries_factor factor kept kept' seals =
    carries_both kept (with_factor factor kept) kept'
    (record { items = keeps_left kept (with_factor factor kept) refl refl; values = λ all. all }) (carries_sealed (with_factor factor kept) kept' seals)

-- ---- merges

abbrev CarriesOn : Layout BlockState → LayoutAnswer BlockState → Type 0
CarriesOn before (declined why) = Unit {0}
CarriesOn before (relaid reply layout) = Carries before layout

faultless_carries : (before : Layout BlockState) (id : ℕ) (fault : Option MergeFault) (answer : LayoutAnswer BlockState) → CarriesOn before answer → CarriesOn before (unless_faulty id fault answer)
faultless_carries before id None answer on = on
faultless_carries before id (Some fault) answer on = tt

open_carries : (before : Layout BlockState) (merge : Option OpenMerge) (command : OpenMerge → LayoutAnswer BlockState) → ((merge : OpenMerge) → CarriesOn before (command merge))
    → CarriesOn before (with_open merge command)
open_carries before None command on = tt
open_carries before (Some merge) command on = on merge

merged_on : (command : MergeCommand) (layout : Layout BlockState) → CarriesOn layout (merged_by command layout)
unfolding merged_by
merged_on (Start from count) layout =
    faultless_carries layout no_merge (start_fault from count layout) (start_done from count layout) (record { items = start_keeps from count layout; values = λ all. all })
merged_on (Advance id roots) layout =
    open_carries layout (merge_named id layout) (advance_done id roots layout) (λ merge. record { items = keeps_left layout (advanced id roots layout) refl refl; values = λ all. all })
merged_on (Finish id) layout =
    faultless_carries layout id (finish_fault id layout) (with_open (merge_named id layout) (finish_done id layout))
    (open_carries layout (merge_named id layout) (finish_done id layout)
    (λ merge. record { items = finish_keeps merge layout; values = all_there (items_of (finished merge layout)) (items_of layout) (finish_items merge layout) }))
merged_on (Abort id) layout =
    open_carries layout (merge_named id layout) (abort_done id layout) (λ merge. record { items = keeps_left layout (aborted id layout) refl refl; values = λ all. all })
merged_on (Force most) layout =
    faultless_carries layout no_merge (force_fault most layout) (force_done most layout)
    (record { items = force_keeps most layout; values = all_there (items_of (forced most layout)) (items_of layout) (force_items most layout) })

pub carries_merged : (command : MergeCommand) (kept kept' : Layout BlockState) (given : Reply) → merged_by command (sealed kept) ≡ relaid given kept' → Carries kept kept'
carries_merged command kept kept' given is =
    carries_both kept (sealed kept) kept' (carries_sealed kept (sealed kept) refl) (subst (CarriesOn (sealed kept)) is (merged_on command (sealed kept)))
