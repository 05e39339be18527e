-- Updates: the live source that is read, and the source that is put.
use Rattle.std.proofs.Common.{◌≡◌, ◌≤◌, ◌∷◌, Bool, true, false, cond, ℕ, List, [], Option, Some, None, is_some, option_map, refl, sym, ap, subst, ◌∙◌}
use Rattle.std.proofs.lemmas.List.Elements.{All-head, All-tail}
use Rattle.std.specs.List.{All, find}
use Rattle.std.specs.Prelude.{IfSome}
use Rattle.flattener.specs.Block.{BlockState}
use Rattle.commit_store.specs.Saying.{HasSource}
use Rattle.index_core.specs.Kept.{IndexState, block_number, has_block_id, layout_kept, live_block, live_kept}
use Rattle.index_core.specs.Write.{source_of}
use Rattle.json_merge.specs.Merged.{into_object, merged, merged_members}
use Rattle.layout_ids.specs.Items.{AllItems}
use Rattle.machine.specs.Write.{updated_source}
use Rattle.request_form.specs.Command.{Changes, update}
use Rattle.request_form.specs.Formed.{HasSources, IsSourceValue}
use Rattle.tree_json.specs.Levels.{levels, most_levels}
use Rattle.tree_json.specs.Value.{JsonValue, Members, null, bool, whole, text, list, object, is_object}
use Rattle.tree_json.specs.View.{view}
use Rattle.tree_json.specs.declared.value.Json.{Json}
use Rattle.write_plan.specs.Update.{IsTextOf, IsUpdated}
use Rattle.engine.proofs.Items.{live_values}

-- ---- the live source

pub found_holds : {A : Type 0} (P : A → Type 0) (test : A → Bool) (xs : List A) (x : A) → All P xs → find test xs ≡ Some x → P x
found_holds P test [] x all found = absurd (cc)
found_holds {A} P test (y ∷ ys) x all found =
    by (test y) (found_holds P test ys x (All-tail P y ys all)) found
  where
    by : (b : Bool) → (find test ys ≡ Some x → P x) → cond b (Some y) (find test ys) ≡ Some x → P x
    by true later e = let same : y ≡ x = cc in subst P same (All-head P y ys all)
    by false later e = later e

value_of : (found : Option BlockState) → ((block : BlockState) → found ≡ Some block → HasSource block) → is_some found ≡ true → (live : JsonValue) × IsTextOf (source_of found) live
value_of None all some = absurd (cc)
value_of (Some block) all some = let has = all block refl in (has.source, record { text = has.text; reads = has.reads })

-- the source of the block that is live under an id is the text of a value
pub live_value : (id bytes : List ℕ) (index : IndexState) → AllItems HasSource (layout_kept index) → is_some (live_block id index) ≡ true → bytes ≡ source_of (live_block id index)
    → (live : JsonValue) × IsTextOf bytes live
live_value id bytes index all some is =
    let here = value_of (live_block id index) (λ block found. found_holds HasSource (has_block_id id) (live_kept index) block (live_values (layout_kept index) all) found) some in
    (here.0, subst (λ (own : List ℕ). IsTextOf own here.0) (sym is) here.1)

pub some_block : (id : List ℕ) (index : IndexState) (number : ℕ) → Some number ≡ option_map block_number (live_block id index) → is_some (live_block id index) ≡ true
some_block id index number e = by (live_block id index) e
  where
    by : (o : Option BlockState) → Some number ≡ option_map block_number o → is_some o ≡ true
    by None e = absurd (cc)
    by (Some block) e = refl

-- ---- the source that is put

object_into : (change : Members → Members) (other live : JsonValue) → is_object other ≡ true → is_object (into_object change other live) ≡ true
object_into change other null is = is
object_into change other (bool b) is = is
object_into change other (whole z) is = is
object_into change other (text s) is = is
object_into change other (list ds) is = is
object_into change other (object ms) is = refl

object_merged : (doc live : JsonValue) → is_object doc ≡ true → is_object (merged doc live) ≡ true
object_merged null live is = absurd (cc)
object_merged (bool b) live is = absurd (cc)
object_merged (whole z) live is = absurd (cc)
object_merged (text s) live is = absurd (cc)
object_merged (list ds) live is = absurd (cc)
object_merged (object ms) live is = object_into (merged_members ms) (object ms) live refl

pub source_left : (doc live : JsonValue) (source : Option Json) → IsSourceValue doc → IsUpdated doc live source → IfSome source (λ v. levels (view v) ≤ most_levels)
    → IfSome source (λ v. IsSourceValue (view v))
source_left doc live None is updated few = tt
source_left doc live (Some v) is updated few = (ap is_object updated.1 ∙ object_merged doc live is.0, few)

pub source_anew : (changes : Changes) → HasSources (update changes) → IsSourceValue (updated_source changes None)
source_anew changes has = by changes.doc_as_upsert changes.upsert has.1
  where
    by : (b : Bool) (upsert : Option JsonValue) → IfSome upsert IsSourceValue → IsSourceValue (updated_source (record { doc = changes.doc; upsert = upsert; doc_as_upsert = b }) None)
    by true upsert is = has.0
    by false None is = has.0
    by false (Some v) is = is
