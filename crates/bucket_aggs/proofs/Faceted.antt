-- The buckets of values of which the number of objects of a path around theirs is all that is asked.
use Rattle.std.proofs.Common.{◌≡◌, ℕ, ◌==◌, Bool, true, List, [], ◌∷◌, length, map, get_or, Option, refl, sym, ap, ap₂, subst, ◌∙◌, arith}
use Rattle.std.proofs.lemmas.Bool.{eqb-true}
use Rattle.flattener.specs.StandsFor.{ViewStandsFor}
use Rattle.mapping.specs.Mapping.{Mapping, IsAbove, kind_at}
use Rattle.query_ast.specs.Agg.{Agg}
use Rattle.query_ast.specs.Agg.View.{agg_of}
use Rattle.query_ast.specs.Definition.{Definition, Definitions, definition, definitions_of, no_definitions, with_definition}
use Rattle.query_ast.specs.Replies.{BucketPart, ReplyPart, ReplyValue, replies_of, single}
use Rattle.query_ast.specs.declared.agg.AggDef.{AggDef}
use Rattle.query_ast.specs.declared.agg.AggForm.{AggForm}
use Rattle.query_ast.specs.declared.agg.AggForm.TheVariants.{ReverseNested}
use Rattle.query_eval.specs.Counted.{IsCount, up_total}
use Rattle.query_eval.specs.Found.{IsSeen, live_trees}
use Rattle.query_eval.specs.Nested.{below_by}
use Rattle.score_math.specs.Scores.{mode_of}
use Rattle.score_math.specs.declared.score.ScoreMode.TheVariants.{Max}
use Rattle.segment.specs.Live.{EntryState}
use Rattle.tree_objects.specs.Object.{Object}
use Rattle.tree_objects.specs.Tree.{Tree}
use Rattle.bucket_aggs.specs.Counts.{facet_of, passed_of_view, shows, view_ups, weight}
use Rattle.bucket_aggs.specs.Given.{AreOfValue, HaveOwnNumbers, IsAnswer, bucket_by, buckets_by, objects_given, replies_by, single_by, value_by}
use Rattle.bucket_aggs.specs.declared.rows.CountRow.{CountRow}
use Rattle.bucket_aggs.proofs.Cuts.{of_text}
use Rattle.bucket_aggs.proofs.Documents.{Scores, Trees}
use Rattle.bucket_aggs.proofs.Formed.{Shown, bucket_is, no_replies, none_inside, replies_more, replies_none, reply_is, reverse_is, single_is}
use Rattle.bucket_aggs.proofs.Handed.{Laws}

abbrev Given : Type 0
Given = List Tree → Object → Option ℕ

-- the definition inside
abbrev pub lone : List ℕ → ℕ → Definitions Agg
lone name to = with_definition (definition (record { name = name; form = ReverseNested to }) no_definitions) no_definitions

-- as many objects of a scope are around those hits
abbrev pub CountLaw : Mapping → List EntryState → ℕ → ℕ → Type 0
CountLaw m view to n = (inner : Given) (those : List Scores) → IsSeen m view n inner those → IsCount m view to (below_by m (mode_of Max) n inner) (up_total to view those)

module _ (m : Mapping) (view : List EntryState) (n f to : ℕ) (name : List ℕ) (given : Given) (objects : List Scores) (laws : Laws m) (above : IsAbove m to n) (shown : Shown m f) (seen : IsSeen m view n given objects) (law : CountLaw m view to n) where
  pub facet_is : (ups : List CountRow) (row : CountRow) → weight row.key ups ≡ view_ups to (kind_at m f) f view objects row.key → IsAnswer m view n (bucket_by m f (lone name to) row) given (facet_of name ups row)
  facet_is ups row counted =
      let those : List Scores = passed_of_view (shows (kind_at m f) f row.key) view objects in
      let are : AreOfValue m view n f row.key given those = of_text m view n f row.key given objects those shown seen refl in
      let count : ℕ = up_total to view those in
      let around : Given = below_by m (mode_of Max) n are.inner in
      let are_counted : IsCount m view to around count = law are.inner those are.seen in
      let value : ReplyValue = single count (replies_of []) in
      let alone : IsAnswer m view to (single_by m no_definitions) around value = single_is m view to no_definitions around are_counted.those count [] are_counted.seen are_counted.counted (no_replies m view to around) in
      let answered : IsAnswer m view n (value_by m (ReverseNested to) no_definitions) are.inner value = reverse_is m view no_definitions are.inner value n to laws above alone in
      let agg : Agg = record { name = name; form = ReverseNested to } in
      let part : ReplyPart = record { name = name; value = value } in
      let all : IsAnswer m view n (replies_by m (lone name to)) are.inner (part ∷ []) =
      replies_more m view n are.inner (definition agg no_definitions) no_definitions [] (part ∷ []) part (reply_is m view n are.inner agg no_definitions name value refl answered) (replies_none m view n are.inner (part ∷ [])) in
      subst
      (λ (k : ℕ). IsAnswer m view n (bucket_by m f (lone name to) row) given (record { key = row.key; count = row.count; inner = replies_of (record { name = name; value = single k (replies_of []) } ∷ []) }))
      (sym counted)
      (bucket_is m view n f (lone name to) given row those (part ∷ []) are all)

  pub facets_are : (ups rows : List CountRow) → ((row : CountRow) → weight row.key ups ≡ view_ups to (kind_at m f) f view objects row.key) → IsAnswer m view n (buckets_by m f (lone name to) rows) given (map (facet_of name ups) rows)
  facets_are ups rows counted = record { is = λ trees stand own. each trees stand own rows }
    where
      each : (trees : List Trees) → ViewStandsFor m view trees → HaveOwnNumbers (live_trees trees) → (rows : List CountRow) → map (facet_of name ups) rows ≡ buckets_by m f (lone name to) rows (live_trees trees) (objects_given m n (live_trees trees) (given (live_trees trees)))
      each trees stand own [] = refl
      each trees stand own (row ∷ rows) = ap₂ (λ (b : BucketPart) (l : List BucketPart). b ∷ l) ((facet_is ups row (counted row)).is trees stand own) (each trees stand own rows)

-- a definition alone, with nothing inside
pub lone_way : (items defs : List AggDef) (ds : List (Definition Agg)) (def : AggDef) (path : ℕ) (none : Bool) → map agg_of items ≡ ds → length items ≡ 1 → def ≡ get_or items 0 def → def.form ≡ ReverseNested path → map agg_of defs ≡ def.inner → none ≡ (length defs == 0) → none ≡ true
    → ds ≡ definition (record { name = def.name; form = ReverseNested path }) no_definitions ∷ []
lone_way [] defs ds def path none is one first form inner empty held = absurd (omega (arith, one))
lone_way (x ∷ []) defs ds def path none is one first form inner empty held =
    let nothing : definitions_of def.inner ≡ no_definitions = none_inside defs def.inner inner (eqb-true (length defs) 0 (sym empty ∙ held)) in
    sym is
    ∙ ap (λ (y : AggDef). agg_of y ∷ []) (sym first)
    ∙ ap (λ (ds : Definitions Agg). definition (record { name = def.name; form = def.form }) ds ∷ []) nothing
    ∙ ap (λ (f : AggForm). definition (record { name = def.name; form = f }) no_definitions ∷ []) form
lone_way (x ∷ y ∷ rest) defs ds def path none is one first form inner empty held = absurd (omega (arith, one))
