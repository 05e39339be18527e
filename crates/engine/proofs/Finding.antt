-- Searches: what the machine finds among trees, as the engine finds it among blocks.
use Rattle.std.proofs.Common.{◌≡◌, ℕ, Bool, true, false, cond, List, [], ◌∷◌, ◌++◌, map, filter, Option, Some, None, is_some, Result, Ok, Err, IsErr, IfOk, OnOk, refl, sym, ap, subst, ◌∙◌, append-nil}
use Rattle.std.proofs.lemmas.List.{map-append}
use Rattle.std.specs.List.{AllByRecursion, flat_map}
use Rattle.flattener.specs.Block.{BlockState}
use Rattle.flattener.specs.StandsFor.{EntryStandsFor, Marked, ViewStandsFor}
use Rattle.index_core.specs.Kept.{IndexState, layout_kept, segment_kept}
use Rattle.layout.specs.As.{marked_as, segment_as}
use Rattle.layout.specs.Layout.{Layout, SegmentOf, is_live, item_in, live_in, sealed}
use Rattle.machine.specs.Answer.{outcome_of, refused_if, refuses}
use Rattle.machine.specs.Searching.{refusal_of, body_refusal, found_by, search_by, search_over, search_step, searched, within}
use Rattle.machine.specs.State.{State, sealed_state}
use Rattle.machine.specs.declared.limits.Limits.{Limits}
use Rattle.mapping.specs.IsMapping.{IsMapping}
use Rattle.mapping.specs.Mapping.{Mapping}
use Rattle.inner_hits.specs.Hits.{AllReadBack}
use Rattle.query_ast.specs.Replies.{ReplyPart}
use Rattle.query_ast.specs.Search.{found_buckets, hit_page}
use Rattle.query_ast.specs.declared.hit.HitPage.{HitPage}
use Rattle.query_ast.specs.declared.search.SearchBody.{SearchBody}
use Rattle.query_eval.specs.Found.{live_trees as found_trees}
use Rattle.query_parser.specs.Search.{search_of}
use Rattle.reply_text.specs.Text.{reply_text}
use Rattle.reply_text.specs.declared.refusal.Refusal.{Refusal}
use Rattle.reply_text.specs.declared.reply.Reply.TheVariants as reply
use Rattle.search_walk.specs.Refusal.{first_refusal}
use Rattle.search_walk.specs.declared.refusal.SearchRefusal.{SearchRefusal}
use Rattle.search_walk.specs.declared.refusal.SearchRefusal.TheVariants as body
use Rattle.segment.specs.Live.{EntryState}
use Rattle.segment_builder.specs.Blocks.{block_of_marked, blocks_in}
use Rattle.tree_json.specs.Value.{JsonValue}
use Rattle.search_page.specs.Searched.{AreSearched}
use Rattle.tree_objects.specs.Tree.{IsLiveList, Tree}
use Rattle.engine.specs.Answers.{answered_by, reply_bytes}
use Rattle.index_trees.specs.Faithful.{AreFaithful, EntriesStandFor, Indexed, block_in, tree_in}
use Rattle.engine.specs.Parts.{Ends, IsRefusedAs, answered_of}
use Rattle.engine.specs.Reads.{hits_of, page_reads_of, reads_unless}
use Rattle.engine.specs.declared.no_memory.NoMemory as memory
use Rattle.engine.specs.declared.reply.Ended.{Ended}
use Rattle.engine.specs.declared.reply.Ended.TheVariants.{Accepted}
use Rattle.engine.specs.declared.reply.Ended.TheVariants as ended
use Rattle.engine.proofs.Answering.{lacking, lacking_sealed, refusal_ends, sealed_faithful, told}
use Rattle.engine.proofs.Standing.{live_trees, map-map}

no_option : {A : Type 0} (o : Option A) → is_some o ≡ false → o ≡ None
no_option None e = refl
no_option (Some x) e = absurd (cc)

-- ---- the trees that entries stand for

-- a tree in a segment, by its mark
abbrev trees_in : (m : Mapping) → SegmentOf (Indexed m) → List (Marked Tree)
trees_in m segment = map (marked_as (tree_in m)) segment.items

abbrev pub trees_of : (m : Mapping) (entries : List EntryState) (live : List Tree) → EntriesStandFor m entries live → List (List (Marked Tree))
trees_of m entries live s = map (trees_in m) s.indexed

blocks_by : (m : Mapping) (segments : List (SegmentOf (Indexed m))) → map (λ (s : SegmentOf BlockState). s.items) (map (segment_as (block_in m)) segments) ≡ map (map (block_of_marked m)) (map (trees_in m) segments)
blocks_by m [] = refl
blocks_by m (s ∷ segments) =
    λ i. sym (map-map (block_of_marked m) (marked_as (tree_in m)) s.items) i ∷ blocks_by m segments i

-- the blocks of the entries are those of the trees
pub blocks_same : (m : Mapping) (entries : List EntryState) (live : List Tree) (s : EntriesStandFor m entries live) → map blocks_in entries ≡ map (map (block_of_marked m)) (trees_of m entries live s)
blocks_same m entries live s =
    sym (map-map (λ (s : SegmentOf BlockState). s.items) segment_kept entries)
    ∙ ap (map (λ (s : SegmentOf BlockState). s.items)) s.blocks
    ∙ blocks_by m s.indexed

live_by : (m : Mapping) (items : List (Marked (Indexed m))) → map item_in (filter is_live (map (marked_as (tree_in m)) items)) ≡ map (tree_in m) (map item_in (filter is_live items))
live_by m [] = refl
live_by m (it ∷ items) = by it.live (live_by m items)
  where
    by : (b : Bool) → map item_in (filter is_live (map (marked_as (tree_in m)) items)) ≡ map (tree_in m) (map item_in (filter is_live items))
        → map item_in (cond b (marked_as (tree_in m) it ∷ filter is_live (map (marked_as (tree_in m)) items)) (filter is_live (map (marked_as (tree_in m)) items))) ≡ map (tree_in m) (map item_in (cond b (it ∷ filter is_live items) (filter is_live items)))
    by true more = ap (λ (l : List Tree). it.item.tree ∷ l) more
    by false more = more

live_of : (m : Mapping) (segments : List (SegmentOf (Indexed m))) → found_trees (map (trees_in m) segments) ≡ map (tree_in m) (flat_map live_in segments)
live_of m [] = refl
live_of m (s ∷ segments) =
    (λ i. live_by m s.items i ++ live_of m segments i) ∙ sym (map-append (tree_in m) (live_in s) (flat_map live_in segments))

-- the live ones are those that the entries stand for
pub live_same : (m : Mapping) (entries : List EntryState) (live : List Tree) (s : EntriesStandFor m entries live) → found_trees (trees_of m entries live s) ≡ live
live_same m entries live s = live_of m s.indexed ∙ sym s.live_are

no_blocks : (m : Mapping) (its : List (Indexed m)) → map (block_in m) its ≡ [] → its ≡ []
no_blocks m [] e = refl
no_blocks m (it ∷ its) e = absurd (cc)

-- the entries of a sealed index stand for the live trees
pub index_stands : (m : Mapping) (index : IndexState) (state : State) → AreFaithful (Some m) index state → index.buffer ≡ [] → EntriesStandFor m index.entries state.content.live
index_stands m index state f buffer =
    let its = f.stands.indexed in
    let empty : its.buffer ≡ [] = no_blocks m its.buffer (sym (ap (λ (l : Layout BlockState). l.buffer) f.stands.blocks) ∙ buffer) in
    let segments : flat_map live_in its.segments ++ its.buffer ≡ flat_map live_in its.segments =
    ap (λ (rest : List (Indexed m)). flat_map live_in its.segments ++ rest) empty ∙ append-nil (flat_map live_in its.segments) in
    record {
      indexed = its.segments;
      blocks = ap (λ (l : Layout BlockState). l.segments) f.stands.blocks;
      live_are = sym f.laid ∙ live_trees m (layout_kept index) state.layout f.stands ∙ ap (map (tree_in m)) segments;
      numbered = f.numbered.live;
    }

-- ---- entry by entry

pub record IsStanding (e : EntryState) : Type 0 where
  pub stands : (m : Mapping) (trees : List (Marked Tree)) → IsMapping m → blocks_in e ≡ map (block_of_marked m) trees → EntryStandsFor m e.columns e.live trees

pub all_stand : (entries : List EntryState) → AllByRecursion IsStanding entries → (m : Mapping) (trees : List (List (Marked Tree))) → IsMapping m → map blocks_in entries ≡ map (map (block_of_marked m)) trees → ViewStandsFor m entries trees
all_stand [] all m [] is e = tt
all_stand [] all m (t ∷ trees) is e = absurd (cc)
all_stand (entry ∷ entries) all m [] is e = absurd (cc)
all_stand (entry ∷ entries) all m (t ∷ trees) is e =
    let first : blocks_in entry ≡ map (block_of_marked m) t = cc in
    let rest : map blocks_in entries ≡ map (map (block_of_marked m)) trees = cc in
    (all.0.stands m t is first, all_stand entries all.1 m trees is rest)

-- ---- what is found

pub found_same : (m : Mapping) (live : List Tree) (search : SearchBody) (page : HitPage) (parts : List ReplyPart) (trees : List (List (Marked Tree))) → found_trees trees ≡ live
    → page ≡ hit_page m (found_trees trees) search → parts ≡ found_buckets m (found_trees trees) search → reply.Found page parts ≡ found_by m live search
found_same m live search page parts trees same is are =
    let first : page ≡ hit_page m live search = is ∙ ap (λ (l : List Tree). hit_page m l search) same in
    let rest : parts ≡ found_buckets m live search = are ∙ ap (λ (l : List Tree). found_buckets m l search) same in
    λ i. reply.Found (first i) (rest i)

-- ---- the trees that are searched

all_read : (m : Mapping) (its : List (Indexed m)) → AllReadBack (map (tree_in m) its)
all_read m [] = tt
all_read m (it ∷ its) = (it.reads, all_read m its)

pub are_searched : (m : Mapping) (entries : List EntryState) (live : List Tree) (s : EntriesStandFor m entries live) → ViewStandsFor m entries (trees_of m entries live s) → AreSearched m entries (trees_of m entries live s)
are_searched m entries live s stands = record {
  stands = stands;
  read = subst AllReadBack (sym (live_of m s.indexed)) (all_read m (flat_map live_in s.indexed));
  numbered = subst IsLiveList (sym (live_same m entries live s)) s.numbered;
}

-- ---- what the machine answers

body_refused : (limits : Limits) (body : JsonValue) (m : Mapping) (state : State) (why : Refusal) → body_refusal (first_refusal m body) ≡ Some why
    → search_step limits body m (sealed_state state) ≡ refuses why
unfolding search_step
body_refused limits body m state why first = ap (λ o. refused_if o (search_by limits m (search_of m body) (sealed_state state))) first

pub body_passes : (limits : Limits) (body : JsonValue) (m : Mapping) (state : State) → first_refusal m body ≡ None → search_step limits body m (sealed_state state) ≡ search_by limits m (search_of m body) (sealed_state state)
unfolding search_step
body_passes limits body m state first = ap (λ o. refused_if (body_refusal o) (search_by limits m (search_of m body) (sealed_state state))) first

-- a body that isn't refused may read what its search may
pub body_reads : (body : JsonValue) (m : Mapping) (search : SearchBody) (state : State) → first_refusal m body ≡ None → search ≡ search_of m body
    → page_reads_of m search (searched search.pit state) ≡ hits_of body (Some m) state
body_reads body m search state first found =
    ap (λ (it : SearchBody). page_reads_of m it (searched it.pit state)) found
    ∙ sym (ap (λ (why : Option SearchRefusal). reads_unless why (page_reads_of m (search_of m body) (searched (search_of m body).pit state))) first)

-- ---- a search of an index that was sealed

pub its_bytes : (ends : Ended) (out : List ℕ) → reply_bytes (answered_of (Ok ends)) out ≡ out
its_bytes Accepted out = refl
its_bytes ended.Refused out = refl

pub found_ends : (limits : Limits) (m : Mapping) (search : SearchBody) (index index' : IndexState) (state : State) (live : List Tree) (result : Result Ended memory.NoMemory) (out : List ℕ)
    → AreFaithful (Some m) index state → index'.next ≡ index.next → layout_kept index' ≡ sealed (layout_kept index)
    → IfOk result (λ ends. answered_of (Ok ends) ≡ answered_by (within limits (found_by m live search))) → OnOk result (out ≡ reply_text (within limits (found_by m live search)))
    → Ends state (outcome_of state (search_over limits m search (Some live) (sealed_state state))) (answered_of result) out (Some m) index'
found_ends limits m search index index' state live (Ok ends) out f next seals told_so text =
    told (Some m) index' state (sealed_state state) (answered_of (Ok ends)) (within limits (found_by m live search)) out (sealed_faithful m index index' state f next seals) refl refl (its_bytes ends out) told_so text
found_ends limits m search index index' state live (Err none) out f next seals told_so text =
    lacking_sealed m index' state _ out (sealed_faithful m index index' state f next seals)

-- ---- by what the writing of a body's refusal came to

-- a refusal that isn't want of memory is the body's first
abbrev pub FirstIs : Option SearchRefusal → SearchRefusal → Type 0
FirstIs first body.NoMemory = Unit {0}
FirstIs first other = first ≡ Some other

first_said : (first : Option SearchRefusal) (given : SearchRefusal) (refusal : Refusal) → FirstIs first given → refusal_of given ≡ Some refusal → body_refusal first ≡ Some refusal
first_said first body.NoMemory refusal is said = absurd (cc)
first_said first other refusal is said = ap body_refusal is ∙ said

pub body_ends : (limits : Limits) (json : JsonValue) (m : Mapping) (index : IndexState) (state : State) (given : SearchRefusal) (result : Result Ended memory.NoMemory) (out : List ℕ) → AreFaithful (Some m) index state
    → FirstIs (first_refusal m json) given → IsRefusedAs (refusal_of given) result out → Ends state (outcome_of state (search_step limits json m (sealed_state state))) (answered_of result) out (Some m) index
body_ends limits json m index state given result out f first said = by (refusal_of given) refl said
  where
    at_err : (r : Result Ended memory.NoMemory) → IsErr r → Ends state (outcome_of state (search_step limits json m (sealed_state state))) (answered_of r) out (Some m) index
    at_err (Ok ends) none = absurd (cc)
    at_err (Err none) is = lacking (Some m) index state _ out f

    by : (why : Option Refusal) → refusal_of given ≡ why → IsRefusedAs why result out → Ends state (outcome_of state (search_step limits json m (sealed_state state))) (answered_of result) out (Some m) index
    by None e is = at_err result is
    by (Some refusal) e is =
        refusal_ends (Some m) index state (search_step limits json m (sealed_state state)) refusal result out f (body_refused limits json m state refusal (first_said (first_refusal m json) given refusal first e)) is
