-- The entry of a hit, and the clauses of a sort one after another.
use Rattle.std.specs.Prelude.{◌≡◌, ℕ, zero, suc, ◌+◌, ◌<◌, Bool, List, [], ◌∷◌, ◌++◌, map, drop, length, get_or, slice_get, Option, Some, None, refl}
use Rattle.std.specs.Option.{option_map_or}
use Rattle.std.proofs.Common.{ap, sym, subst, ◌∙◌, append_assoc}
use Rattle.std.proofs.lemmas.List.{drop_more, map-append}
use Rattle.hit_order.specs.Table.{directions_of, keys_of, table_of}
use Rattle.hit_order.specs.declared.column.Column.{Column}
use Rattle.hit_order.specs.declared.column.RowPlace.{RowPlace}
use Rattle.mapping.specs.Mapping.{Mapping}
use Rattle.query_ast.specs.Clause.{Clause}
use Rattle.query_ast.specs.Page.{direction_of}
use Rattle.query_ast.specs.Resolved.{AreSorts}
use Rattle.query_ast.specs.declared.sort.Chain.{Chain}
use Rattle.query_ast.specs.declared.sort.Direction.{Direction}
use Rattle.query_ast.specs.declared.sort.Key.{Key}
use Rattle.query_ast.specs.declared.sort.Key.TheVariants.{Null as NoKey}
use Rattle.query_ast.specs.declared.sort.Sort.{Sort}
use Rattle.query_ast.specs.declared.sort.SortKey.{SortKey}
use Rattle.query_ast.specs.declared.sort.SortKey.TheVariants.{Score, Field}
use Rattle.segment.specs.Live.{EntryState}
use Rattle.segment_parts.specs.declared.columns.Columns.{Columns}
use Rattle.view_objects.specs.declared.hit.Hit.{Hit}
use Rattle.nested_sort.specs.Documents.{AllLong, Question, all_keys, behind_key, clause_keys, key_in, key_of_hit}
use Rattle.nested_sort.specs.Inside.{AreAt, behind_chain, filters_left}
use Rattle.nested_sort.specs.Listed.{IsDocOf}
use Rattle.nested_sort.proofs.Keying.{all_at, later_long}

-- the entry that was read
pub read_at : (view : List EntryState) (place doc : ℕ) (entry : EntryState) → IsDocOf view place doc → entry ≡ get_or view place entry → slice_get view place ≡ Some entry
read_at [] place doc entry there is = absurd there
read_at (e ∷ view) zero doc entry there is = ap (λ (own : EntryState). Some own) (sym is)
read_at (e ∷ view) (suc place) doc entry there is = read_at view place doc entry there is

pub filters_at : (view : List EntryState) (found : List (List (List (Option ℕ)))) (place doc : ℕ) (entry : EntryState) (columns : Columns) → AllLong view found → IsDocOf view place doc → entry ≡ get_or view place entry → columns ≡ entry.columns → AreAt place columns.documents found
filters_at view found place doc entry columns long there is same =
    subst (λ (c : Columns). AreAt place c.documents found) (sym same) (all_at view found place entry long (read_at view place doc entry there is))

pub hit_key : (written : Bool) (view : List EntryState) (q : Question) (hit : Hit) (entry : EntryState) (columns : Columns) (key : Key) → IsDocOf view hit.place hit.doc → entry ≡ get_or view hit.place entry → columns ≡ entry.columns → key ≡ key_in written columns hit.place q hit.doc → key ≡ key_of_hit written view q hit
hit_key written view q hit entry columns key there is same own =
    own
    ∙ ap (λ (c : Columns). key_in written c hit.place q hit.doc) same
    ∙ sym (ap (λ (o : Option EntryState). option_map_or (λ (e : EntryState). key_in written e.columns hit.place q hit.doc) o NoKey) (read_at view hit.place hit.doc entry there is))

-- ---- the filters that are left

chain_long : (view : List EntryState) (chain : List Chain) (found : List (List (List (Option ℕ)))) → AllLong view found → AllLong view (behind_chain chain found)
chain_long view [] found long = long
chain_long view (step ∷ chain) found long = chain_long view chain (filters_left step.filter found) (left step.filter long)
  where
    left : (filter : Option Clause) → AllLong view found → AllLong view (filters_left filter found)
    left None long = long
    left (Some c) long = later_long view found long

pub behind_long : (view : List EntryState) (key : SortKey) (found : List (List (List (Option ℕ)))) → AllLong view found → AllLong view (behind_key key found)
behind_long view Score found long = long
behind_long view (Field f mode chain) found long = chain_long view chain found long

-- ---- one clause more

module _ (sorts : List Sort) (i : ℕ) (sort : Sort) (low : i < length sorts) (is : sort ≡ get_or sorts i sort) where
  left_is : drop i sorts ≡ sort ∷ drop (i + 1) sorts
  left_is = drop_more sorts i sort low ∙ ap (λ (s : Sort). s ∷ drop (i + 1) sorts) (sym is)

  pub directions_more : (done new : List Column) (column : Column) → new ≡ done ++ column ∷ [] → column.direction ≡ direction_of sort → directions_of done ++ map direction_of (drop i sorts) ≡ map direction_of sorts → directions_of new ++ map direction_of (drop (i + 1) sorts) ≡ map direction_of sorts
  directions_more done new column are own was =
      ap (λ (l : List Column). directions_of l ++ map direction_of (drop (i + 1) sorts)) are
      ∙ ap (λ (l : List Direction). l ++ map direction_of (drop (i + 1) sorts)) (map-append (λ (c : Column). c.direction) done (column ∷ []))
      ∙ append_assoc (directions_of done) (column.direction ∷ []) (map direction_of (drop (i + 1) sorts))
      ∙ ap (λ (d : Direction). directions_of done ++ d ∷ map direction_of (drop (i + 1) sorts)) own
      ∙ ap (λ (l : List Sort). directions_of done ++ map direction_of l) (sym left_is)
      ∙ was

  pub keys_more : (m : Mapping) (view : List EntryState) (hits : List Hit) (n : ℕ) (left more : List (List (List (Option ℕ)))) (all : List (List Key)) (done new : List Column) (column : Column) → new ≡ done ++ column ∷ [] → keys_of column.keys ≡ clause_keys m view hits n left sort.missing sort.key → more ≡ behind_key sort.key left
      → map (λ (c : Column). keys_of c.keys) done ++ all_keys m view hits n (drop i sorts) left ≡ all → map (λ (c : Column). keys_of c.keys) new ++ all_keys m view hits n (drop (i + 1) sorts) more ≡ all
  keys_more m view hits n left more all done new column are own rest was =
      ap (λ (l : List Column). map (λ (c : Column). keys_of c.keys) l ++ all_keys m view hits n (drop (i + 1) sorts) more) are
      ∙ ap (λ (l : List (List Key)). l ++ all_keys m view hits n (drop (i + 1) sorts) more) (map-append (λ (c : Column). keys_of c.keys) done (column ∷ []))
      ∙ append_assoc (map (λ (c : Column). keys_of c.keys) done) (keys_of column.keys ∷ []) (all_keys m view hits n (drop (i + 1) sorts) more)
      ∙ ap (λ (k : List Key). map (λ (c : Column). keys_of c.keys) done ++ k ∷ all_keys m view hits n (drop (i + 1) sorts) more) own
      ∙ ap (λ (f : List (List (List (Option ℕ)))). map (λ (c : Column). keys_of c.keys) done ++ clause_keys m view hits n left sort.missing sort.key ∷ all_keys m view hits n (drop (i + 1) sorts) f) rest
      ∙ ap (λ (l : List Sort). map (λ (c : Column). keys_of c.keys) done ++ all_keys m view hits n l left) (sym left_is)
      ∙ was

  pub sorts_more : (m : Mapping) (n : ℕ) → AreSorts m n (drop i sorts) → AreSorts m n (drop (i + 1) sorts)
  sorts_more m n are = later (subst (AreSorts m n) left_is are)
    where
      later : AreSorts m n (sort ∷ drop (i + 1) sorts) → AreSorts m n (drop (i + 1) sorts)
      later all = all.1

-- ---- the directions of a table

pub table_directions : (columns : List Column) (places : List RowPlace) → (table_of columns places).directions ≡ directions_of columns
unfolding table_of
table_directions columns places = refl
