-- What is kept of bodies beside themselves, as the definitions see it.
use Rattle.std.specs.Prelude.{◌≡◌, ℕ, ◌-◌, ◌<◌, ◌^◌, min, List, Option, Some, Result, Ok, Err, length, map, option_and_then, slice_get}
use Rattle.std.specs.List.{count_by}
use Rattle.tree_json.specs.Value.{JsonValue}
use Rattle.tree_json.specs.View.{view}
use Rattle.mapping_growth.specs.declared.candidate.Candidate.{Candidate}
use Rattle.mapping_growth.specs.declared.draft.Draft.{Draft as Made}
use Rattle.mapping_body.specs.declared.refusal.Limit.{Limit}
use Rattle.mapping_body.specs.declared.refusal.MappingRefusal.{MappingRefusal}
use Rattle.mapping_body.specs.declared.refusal.MappingRefusal.TheVariants.{BadRequest, Conflict, TooMuch, NoMemory}
use Rattle.mapping_growth.specs.declared.relation.Relation.{Relation as Tied}
use Rattle.mapping_growth.specs.Fields.{Draft, draft_paths, drafts_of, additions_of}
use Rattle.mapping_body.specs.Pairs.{Pair, pairs_of}
use Rattle.mapping_growth.specs.Relations.{Relation, relation_names, relations_of}
use Rattle.mapping_growth.specs.Bodies.{says_nested, says_join, compact_size}
use Rattle.mapping_body.specs.Body.{properties_of}
use Rattle.mapping_body.specs.Kept.{pair_of}
use Rattle.mapping_body.specs.Order.{IsOrderFrom}
use Rattle.mapping_growth.specs.Outline.{outline_of, outlined}

abbrev pub made_of : Made → Draft
made_of m = record { path = m.path.items; kind = m.kind; in_parent = m.in_parent; in_root = m.in_root; since = m.since }

abbrev pub relation_of : Tied → Relation
relation_of r = record { name = r.name.items; parent = r.parent; since = r.since }

-- what a table of relations says of one, and nothing of none
abbrev pub told : List (Option ℕ) → Option ℕ → Option ℕ
told table at = option_and_then (λ further. further) (option_and_then (slice_get table) at)

-- fields and relations by their numbers, with their orders by path and by name
pub record IsKept (bodies : List JsonValue) (ds : List Made) (by_path : List ℕ) (rs : List Tied) (by_name : List ℕ) : Type 0 where
  pub fields : map made_of ds ≡ drafts_of bodies
  pub relations : map relation_of rs ≡ relations_of bodies
  pub paths : IsOrderFrom 0 (draft_paths (drafts_of bodies)) by_path
  pub names : IsOrderFrom 0 (relation_names (relations_of bodies)) by_name
  pub few_fields : length ds < 2 ^ 32
  pub few_relations : length rs < 2 ^ 32

-- a number as far as 64 bits count
abbrev pub counted : ℕ → ℕ
counted n = min n (2 ^ 64 - 1)

-- the counts of what bodies say first, and the bytes of their texts
pub record AreCounts (bodies : List JsonValue) (added nested joins bytes : ℕ) : Type 0 where
  pub added_is : added ≡ counted (length (additions_of bodies))
  pub nested_is : nested ≡ counted (count_by says_nested (additions_of bodies))
  pub joins_is : joins ≡ counted (count_by says_join (additions_of bodies))
  pub bytes_is : bytes ≡ counted (compact_size bodies)

-- a body with its properties and the pairs of its joins, as they stand to bodies before it
pub record IsCandidate (bodies : List JsonValue) (c : Candidate) : Type 0 where
  pub properties : map outline_of c.outlines.items ≡ map (outlined (draft_paths (drafts_of bodies))) (properties_of (view c.body.now))
  pub relations : map pair_of c.pairs.items ≡ pairs_of (view c.body.now)

-- a refusal is a limit that is exceeded, or want of memory
abbrev pub IsCause : Option Limit → MappingRefusal → Type 0
IsCause limit BadRequest = ⊥
IsCause limit (Conflict path) = ⊥
IsCause limit (TooMuch l) = limit ≡ Some l
IsCause limit NoMemory = Unit {0}

abbrev pub IsRefused : {A : Type 0} → Result A MappingRefusal → Option Limit → Type 0
IsRefused (Ok a) limit = Unit {0}
IsRefused (Err e) limit = IsCause limit e
