-- Buckets over the objects of one scope that the documents of a view stand for: those at which a document has a score.
use Rattle.std.specs.Prelude.{◌≡◌, ◌≢◌, ℕ, ℤ, pos, Bool, List, ◌++◌, filter, length, map, Option, Some, is_some}
use Rattle.std.specs.Int.{saturate_signed, w64}
use Rattle.std.specs.List.{AllPairs, flat_map}
use Rattle.flattener.specs.StandsFor.{Marked, ViewStandsFor}
use Rattle.mapping.specs.Mapping.{Mapping}
use Rattle.query_ast.specs.Agg.{Agg}
use Rattle.query_ast.specs.Buckets.{all_shown, below_at, bucket_replies, bucket_reply, has_value, number_if, single_of, value_over}
use Rattle.query_ast.specs.Definition.{Definition, Definitions}
use Rattle.query_ast.specs.Replies.{BucketPart, ReplyPart, ReplyValue, replies_of}
use Rattle.query_ast.specs.SortKey.{greatest_value, least_value, total}
use Rattle.query_ast.specs.declared.agg.AggForm.{AggForm}
use Rattle.query_ast.specs.Clause.{leaf, match_all}
use Rattle.query_eval.specs.Folds.{paired_by}
use Rattle.query_eval.specs.Found.{IsSeen, live_trees, score_by}
use Rattle.block_join.specs.declared.rule.Rule.TheVariants.{Kept}
use Rattle.segment.specs.Live.{EntryState}
use Rattle.tree_objects.specs.Object.{Object}
use Rattle.tree_objects.specs.Tree.{Tree}
use Rattle.tree_objects.specs.declared.field_value.FieldValue.{FieldValue}
use Rattle.view_objects.specs.Hits.{live_objects}
use Rattle.bucket_aggs.specs.declared.rows.CountRow.{CountRow}

abbrev pub is_given : (Object → Option ℕ) → Object → Bool
is_given given o = is_some (given o)

-- the live objects of a scope that are given something, in the order of their documents
abbrev pub objects_given : Mapping → ℕ → List Tree → (Object → Option ℕ) → List Object
objects_given m n live given = filter (is_given given) (live_objects m n live)

-- no two live trees have the same sequence number
abbrev pub HaveOwnNumbers : List Tree → Type 0
HaveOwnNumbers trees = AllPairs (λ (one other : Tree). one.number ≢ other.number) trees

-- Whichever trees the view stands for: this is the answer over the objects of a scope that are given something.
pub record IsAnswer {A : Type 0} (m : Mapping) (view : List EntryState) (n : ℕ) (answer : List Tree → List Object → A) (given : List Tree → Object → Option ℕ) (value : A) : Type 0 where
  pub is : (trees : List (List (Marked Tree))) → ViewStandsFor m view trees → HaveOwnNumbers (live_trees trees)
      → value ≡ answer (live_trees trees) (objects_given m n (live_trees trees) (given (live_trees trees)))

-- the answer to a definition, and those to definitions
abbrev pub reply_by : Mapping → Definition Agg → List Tree → List Object → ReplyPart
reply_by m d live objects = bucket_reply m live d objects

abbrev pub replies_by : Mapping → Definitions Agg → List Tree → List Object → List ReplyPart
replies_by m ds live objects = bucket_replies m live ds objects

abbrev pub AreReplies : Mapping → List EntryState → ℕ → Definitions Agg → (List Tree → Object → Option ℕ) → List ReplyPart → Type 0
AreReplies m view n ds given parts = IsAnswer m view n (replies_by m ds) given parts

-- the answer of a form, over the definitions inside
abbrev pub value_by : Mapping → AggForm → Definitions Agg → List Tree → List Object → ReplyValue
value_by m form ds live objects = value_over m live form (bucket_replies m live ds) objects

-- one bucket of all the objects
abbrev pub single_by : Mapping → Definitions Agg → List Tree → List Object → ReplyValue
single_by m ds live objects = single_of (bucket_replies m live ds) objects

-- answers behind others
abbrev pub more_replies : Mapping → Definitions Agg → List ReplyPart → List Tree → List Object → List ReplyPart
more_replies m ds old live objects = old ++ bucket_replies m live ds objects

-- the bucket of a value
abbrev pub bucket_by : Mapping → ℕ → Definitions Agg → CountRow → List Tree → List Object → BucketPart
bucket_by m f ds row live objects =
    record { key = row.key; count = row.count; inner = replies_of (bucket_replies m live ds (filter (has_value m (Some f) row.key) objects)) }

abbrev pub buckets_by : Mapping → ℕ → Definitions Agg → List CountRow → List Tree → List Object → List BucketPart
buckets_by m f ds rows live objects = map (λ (row : CountRow). bucket_by m f ds row live objects) rows

-- metrics
abbrev pub least_by : Mapping → Option ℕ → List Tree → List Object → Option ℤ
least_by m field live objects = number_if (least_value (all_shown m field objects))

abbrev pub greatest_by : Mapping → Option ℕ → List Tree → List Object → Option ℤ
greatest_by m field live objects = number_if (greatest_value (all_shown m field objects))

abbrev pub sum_by_field : Mapping → Option ℕ → List Tree → List Object → ℤ
sum_by_field m field live objects = saturate_signed w64 (total (all_shown m field objects))

abbrev pub count_by_field : Mapping → Option ℕ → List Tree → List Object → ℤ
count_by_field m field live objects = pos (length (all_shown m field objects))

-- the same objects, all with one score
abbrev pub as_ones : Mapping → (List Tree → Object → Option ℕ) → List Tree → Object → Option ℕ
as_ones m given = paired_by Kept (score_by m (leaf match_all 1)) given

-- they are given to all live objects of the scope
pub record AreAll (m : Mapping) (view : List EntryState) (n : ℕ) (given : List Tree → Object → Option ℕ) : Type 0 where
  pub are : (trees : List (List (Marked Tree))) → ViewStandsFor m view trees → objects_given m n (live_trees trees) (given (live_trees trees)) ≡ live_objects m n (live_trees trees)

-- these are the objects of a path inside those of a scope that are given something
pub record AreInside (m : Mapping) (view : List EntryState) (n p : ℕ) (given : List Tree → Object → Option ℕ) (those : List (List (Option ℕ))) : Type 0 where
  pub inner : List Tree → Object → Option ℕ
  pub seen : IsSeen m view p inner those
  pub are : (trees : List (List (Marked Tree))) → ViewStandsFor m view trees → objects_given m p (live_trees trees) (inner (live_trees trees)) ≡ flat_map (below_at m p) (objects_given m n (live_trees trees) (given (live_trees trees)))

-- these are the objects of a scope that are given something and show a value
pub record AreOfValue (m : Mapping) (view : List EntryState) (n f : ℕ) (v : FieldValue) (given : List Tree → Object → Option ℕ) (those : List (List (Option ℕ))) : Type 0 where
  pub inner : List Tree → Object → Option ℕ
  pub seen : IsSeen m view n inner those
  pub are : (trees : List (List (Marked Tree))) → ViewStandsFor m view trees → objects_given m n (live_trees trees) (inner (live_trees trees)) ≡ filter (has_value m (Some f) v) (objects_given m n (live_trees trees) (given (live_trees trees)))
