-- Keys of roots number ids, and trees are joined where their ids are.
use Rattle.std.proofs.Common.{◌≡◌, ℕ, zero, suc, ◌+◌, ◌==◌, ◌<◌, Bool, true, false, cond, List, [], ◌∷◌, ◌++◌, length, map, filter, filter_map, get_or, slice_get, Option, Some, None, refl, sym, ap, subst, ◌∙◌, inl, inr, arith}
use Rattle.std.specs.List.{range_with_len, cons_option}
use Rattle.std.specs.Option.{option_to_list}
use Rattle.std.specs.Str.{bytes_eq}
use Rattle.std.proofs.lemmas.Bool.{cases_Bool, eqb-true}
use Rattle.std.proofs.lemmas.List.{length-map, map-append}
use Rattle.std.proofs.lemmas.List.Elements.{filter-append, filter_map-append}
use Rattle.std.proofs.lemmas.Option.{same_Some}
use Rattle.std.proofs.lemmas.Slice.Eq.{bytes_eq-Decides}
use Rattle.flattener.specs.Block.{join_by, kept_join, root_of_tree}
use Rattle.flattener.specs.StandsFor.{EntryStandsFor, Marked}
use Rattle.join_ordinals.specs.Ordinals.{AreOrdinals, IsNumbered, Ordinals, StandOnce, ordinal_at, own_id, parent_id, parent_in, relation_in}
use Rattle.mapping.specs.Mapping.{Mapping}
use Rattle.query_ast.specs.Joined.{is_id, roots}
use Rattle.segment.specs.Flat.{FlatRoot, flat_root}
use Rattle.segment.specs.Live.{EntryState}
use Rattle.stored_sources.specs.Roots.{no_root, root_of}
use Rattle.stored_sources.specs.declared.root.Join.{Join}
use Rattle.tree_objects.specs.Object.{Object, root}
use Rattle.tree_objects.specs.Tree.{Tree}
use Rattle.tree_objects.specs.Values.{Joined, join_of}
use Rattle.query_eval.specs.Found.{live_in}
use Rattle.query_eval.specs.Sides.{is_on, key_at, keys_at, ordinal_by, pair_if, scores_of, told}
use Rattle.query_eval.specs.declared.side.Side.{Side}
use Rattle.query_eval.specs.declared.side.Side.TheVariants.{Parents, Children, ChildrenOf}

-- ---- the id by which a tree takes part

abbrev pub relation_of : Option Joined → Option ℕ
relation_of None = None
relation_of (Some j) = Some j.relation

abbrev pub parent_of : Option Joined → Option (List ℕ)
parent_of None = None
parent_of (Some j) = j.parent

abbrev pub id_by : Side → Tree → Option Joined → Option (List ℕ)
id_by (Parents relation) t join = Some t.id
id_by (Children relation) t join = parent_of join
id_by (ChildrenOf relation) t join = parent_of join

-- of a live tree
abbrev pub id_on : Mapping → Side → Tree → Option (List ℕ)
id_on m side t = cond (is_on m side (relation_of (join_of m t))) (id_by side t (join_of m t)) None

abbrev pub side_id : Mapping → Side → Marked Tree → Option (List ℕ)
side_id m side t = cond t.live (id_on m side t.item) None

-- ---- the keys of an entry

abbrev pub Number : List (List ℕ) → List (Option (List ℕ)) → List (Option ℕ) → Type 0
Number ids [] [] = Unit {0}
Number ids [] (key ∷ keys) = ⊥
Number ids (id ∷ own) [] = ⊥
Number ids (id ∷ own) (key ∷ keys) = IsNumbered ids id key × Number ids own keys

number_range : (ids : List (List ℕ)) (own : List (Option (List ℕ))) (key : ℕ → Option ℕ) (from : ℕ) → ((k : ℕ) (d : Option (List ℕ)) → k < length own → IsNumbered ids (get_or own k d) (key (from + k))) → Number ids own (map key (range_with_len from (length own)))
number_range ids [] key from each = tt
number_range ids (id ∷ own) key from each =
    let here : from + 0 ≡ from = omega arith in (
      subst (λ (n : ℕ). IsNumbered ids id (key n)) here (each 0 id (omega arith)),
      number_range ids own key (from + 1)
          (λ k d below.
          let next : from + suc k ≡ from + 1 + k = omega arith in
          subst (λ (n : ℕ). IsNumbered ids (get_or own k d) (key n)) next (each (suc k) d (omega (arith, below)))),
    )

kept_relation : (j : Option Joined) → relation_in (kept_join j) ≡ relation_of j
kept_relation None = refl
kept_relation (Some j) = by_parent j.parent
  where
    by_parent : (p : Option (List ℕ)) → relation_in (join_by j.relation p) ≡ Some j.relation
    by_parent None = refl
    by_parent (Some id) = refl

kept_parent : (j : Option Joined) → parent_in (kept_join j) ≡ parent_of j
kept_parent None = refl
kept_parent (Some j) = by_parent j.parent
  where
    by_parent : (p : Option (List ℕ)) → parent_in (join_by j.relation p) ≡ p
    by_parent None = refl
    by_parent (Some id) = refl

number_on : (ids : List (List ℕ)) (live on : Bool) (id : Option (List ℕ)) (key : Option ℕ) → IsNumbered ids (cond live id None) key → IsNumbered ids (cond live (cond on id None) None) (cond on key None)
number_on ids true true id key is = is
number_on ids true false id key is = tt
number_on ids false true id key is = is
number_on ids false false id key is = tt

number_side : (ids : List (List ℕ)) (m : Mapping) (side : Side) (t : Marked Tree) (own parent : Option ℕ) → IsNumbered ids (cond t.live (Some t.item.id) None) own → IsNumbered ids (cond t.live (parent_of (join_of m t.item)) None) parent
    → IsNumbered ids (side_id m side t) (cond (is_on m side (relation_of (join_of m t.item))) (ordinal_by side own parent) None)
number_side ids m (Parents relation) t own parent one two = number_on ids t.live (is_on m (Parents relation) (relation_of (join_of m t.item))) (Some t.item.id) own one
number_side ids m (Children relation) t own parent one two = number_on ids t.live (is_on m (Children relation) (relation_of (join_of m t.item))) (parent_of (join_of m t.item)) parent two
number_side ids m (ChildrenOf relation) t own parent one two = number_on ids t.live (is_on m (ChildrenOf relation) (relation_of (join_of m t.item))) (parent_of (join_of m t.item)) parent two

abbrev lives : Marked Tree → Bool
lives t = t.live

abbrev root_by : Mapping → Marked Tree → FlatRoot
root_by m t = root_of_tree m t.item

map_get : {A B : Type 0} (f : A → B) (xs : List A) (k : ℕ) (d : A) (e : B) → k < length xs → get_or (map f xs) k e ≡ f (get_or xs k d)
map_get f [] k d e below = absurd (omega (arith, below))
map_get f (x ∷ xs) zero d e below = refl
map_get f (x ∷ xs) (suc k) d e below = map_get f xs k d e (omega (arith, below))

module _ (view : List EntryState) (ordinals : Ordinals) (o : AreOrdinals view ordinals) (m : Mapping) (side : Side) where
  pub entry_number : (place : ℕ) (e : EntryState) (trees : List (Marked Tree)) → slice_get view place ≡ Some e → EntryStandsFor m e.columns e.live trees → (k : ℕ) (d : Marked Tree) → k < length trees
      → IsNumbered o.ids (side_id m side (get_or trees k d)) (key_at m ordinals side e.columns place k)
  unfolding root_of_tree
  entry_number place e trees at stands k d below =
      let t = get_or trees k d in
      let kept = root_of e.columns.roots k in
      let many : length e.columns.roots ≡ length trees = sym (length-map e.columns.roots flat_root) ∙ ap length stands.roots ∙ length-map trees (root_by m) in
      let same : flat_root kept ≡ root_of_tree m t.item =
      sym (map_get flat_root e.columns.roots k no_root (flat_root no_root) (omega (arith, below, many)))
      ∙ ap (λ (l : List FlatRoot). get_or l k (flat_root no_root)) stands.roots
      ∙ map_get (root_by m) trees k d (flat_root no_root) below in
      let live : get_or e.live.roots k false ≡ t.live = ap (λ (l : List Bool). get_or l k false) stands.live_roots ∙ map_get lives trees k d false below in
      let id : kept.id ≡ t.item.id = ap (λ (r : FlatRoot). r.id) same in
      let join : kept.join ≡ kept_join (join_of m t.item) = ap (λ (r : FlatRoot). r.join) same in
      let own : own_id e k ≡ cond t.live (Some t.item.id) None =
      ap (λ (b : Bool). cond b (Some kept.id) None) live ∙ ap (λ (x : List ℕ). cond t.live (Some x) None) id in
      let parent : parent_id e k ≡ cond t.live (parent_of (join_of m t.item)) None =
      ap (λ (b : Bool). cond b (parent_in kept.join) None) live
      ∙ ap (λ (j : Join). cond t.live (parent_in j) None) join
      ∙ ap (λ (x : Option (List ℕ)). cond t.live x None) (kept_parent (join_of m t.item)) in
      let on : is_on m side (relation_in kept.join) ≡ is_on m side (relation_of (join_of m t.item)) =
      ap (λ (j : Join). is_on m side (relation_in j)) join ∙ ap (is_on m side) (kept_relation (join_of m t.item)) in
      subst (λ (b : Bool). IsNumbered o.ids (side_id m side t) (cond b (ordinal_by side (ordinal_at ordinals.own place k) (ordinal_at ordinals.parents place k)) None)) (sym on)
      (number_side o.ids m side t (ordinal_at ordinals.own place k) (ordinal_at ordinals.parents place k)
      (subst (λ (x : Option (List ℕ)). IsNumbered o.ids x (ordinal_at ordinals.own place k)) own (o.own.numbered place k e at))
      (subst (λ (x : Option (List ℕ)). IsNumbered o.ids x (ordinal_at ordinals.parents place k)) parent (o.parents.numbered place k e at)))

  -- the keys of an entry's roots are those of its trees
  pub entry_numbers : (place : ℕ) (e : EntryState) (trees : List (Marked Tree)) → slice_get view place ≡ Some e → EntryStandsFor m e.columns e.live trees → Number o.ids (map (side_id m side) trees) (keys_at m ordinals side e.columns place)
  entry_numbers place e trees at stands =
      let many : length (map (side_id m side) trees) ≡ length e.columns.roots =
      length-map trees (side_id m side) ∙ sym (length-map trees (root_by m)) ∙ sym (ap length stands.roots) ∙ length-map e.columns.roots flat_root in
      subst (λ (n : ℕ). Number o.ids (map (side_id m side) trees) (map (key_at m ordinals side e.columns place) (range_with_len 0 n))) many
      (number_range o.ids (map (side_id m side) trees) (key_at m ordinals side e.columns place) 0
      (λ k d below. each k d (omega (arith, below, length-map trees (side_id m side)))))
    where
      each : (k : ℕ) (d : Option (List ℕ)) → k < length trees → IsNumbered o.ids (get_or (map (side_id m side) trees) k d) (key_at m ordinals side e.columns place (0 + k))
      each k d below = one k d below (some_tree trees k below)
        where
          some_tree : (ts : List (Marked Tree)) (k : ℕ) → k < length ts → Marked Tree
          some_tree [] k below = absurd (omega (arith, below))
          some_tree (t ∷ ts) k below = t

          one : (k : ℕ) (d : Option (List ℕ)) → k < length trees → Marked Tree → IsNumbered o.ids (get_or (map (side_id m side) trees) k d) (key_at m ordinals side e.columns place (0 + k))
          one k d below any =
              let same : 0 + k ≡ k = omega arith in
              rw same
              (subst (λ (x : Option (List ℕ)). IsNumbered o.ids x (key_at m ordinals side e.columns place k)) (sym (map_get (side_id m side) trees k any d below)) (entry_number place e trees at stands k any below))

-- ---- scores of one key

pub scores_append : (key : ℕ) (pairs more : List (ℕ × ℕ)) → scores_of key (pairs ++ more) ≡ scores_of key pairs ++ scores_of key more
scores_append key [] more = refl
scores_append key (p ∷ pairs) more = elim (cases_Bool (p.0 == key)) [
  | inl here ↦ rw here (ap (λ (l : List ℕ). p.1 ∷ l) (scores_append key pairs more))
  | inr other ↦ rw other (scores_append key pairs more)
]

same_bools : (a b : Bool) → (a ≡ true → b ≡ true) → (b ≡ true → a ≡ true) → a ≡ b
same_bools true b there back = sym (there refl)
same_bools false true there back = back refl
same_bools false false there back = refl

pub same_key : (ids : List (List ℕ)) (j k : ℕ) (y id : List ℕ) → StandOnce ids → slice_get ids j ≡ Some y → slice_get ids k ≡ Some id → (j == k) ≡ bytes_eq y id
same_key ids j k y id once one two =
    same_bools (j == k) (bytes_eq y id)
    (λ here.
    let same : j ≡ k = eqb-true j k here in
    (bytes_eq-Decides y id).1 (same_Some y id (sym one ∙ ap (slice_get ids) same ∙ two)))
    (λ here.
    let same : y ≡ id = (bytes_eq-Decides y id).0 here in
    let place : j ≡ k = once j k id (one ∙ ap Some same) two in
    eqb-refl j k place)
  where
    eqb-refl : (a b : ℕ) → a ≡ b → (a == b) ≡ true
    eqb-refl a b same = grind arith

-- what a tree with an id tells those of one id
abbrev own_score : Option (List ℕ) → List ℕ → Option ℕ → List ℕ
own_score id of score = cond (is_id id of) (option_to_list score) []

pair_score : (ids : List (List ℕ)) (k : ℕ) (id : List ℕ) (own : Option (List ℕ)) (key score : Option ℕ) → StandOnce ids → slice_get ids k ≡ Some id → IsNumbered ids own key → scores_of k (pair_if key score) ≡ own_score own id score
pair_score ids k id None None score once at is = refl
pair_score ids k id None (Some j) score once at is = absurd is
pair_score ids k id (Some y) None score once at is = absurd is
pair_score ids k id (Some y) (Some j) None once at is = elim (cases_Bool (bytes_eq y id)) [
  | inl here ↦ rw here refl
  | inr other ↦ rw other refl
]
pair_score ids k id (Some y) (Some j) (Some s) once at is = ap (λ (b : Bool). cond b (s ∷ []) []) (same_key ids j k y id once is at)

-- the scores of the trees with an id
abbrev those : (Marked Tree → Option (List ℕ)) → List ℕ → (Marked Tree → Option ℕ) → List (Marked Tree) → List ℕ
those own id score [] = []
those own id score (t ∷ trees) = own_score (own t) id (score t) ++ those own id score trees

told_those : (ids : List (List ℕ)) (k : ℕ) (id : List ℕ) (own : Marked Tree → Option (List ℕ)) (score : Marked Tree → Option ℕ) (trees : List (Marked Tree)) (keys : List (Option ℕ)) → StandOnce ids → slice_get ids k ≡ Some id
    → Number ids (map own trees) keys → scores_of k (told keys (map score trees)) ≡ those own id score trees
told_those ids k id own score [] [] once at is = refl
told_those ids k id own score [] (key ∷ keys) once at is = absurd is
told_those ids k id own score (t ∷ trees) [] once at is = absurd is
told_those ids k id own score (t ∷ trees) (key ∷ keys) once at is =
    scores_append k (pair_if key (score t)) (told keys (map score trees))
    ∙ ap (λ (l : List ℕ). l ++ scores_of k (told keys (map score trees))) (pair_score ids k id (own t) key (score t) once at is.0)
    ∙ ap (λ (l : List ℕ). own_score (own t) id (score t) ++ l) (told_those ids k id own score trees keys once at is.1)

-- ---- and those of the live trees that take part

abbrev pub takes : Mapping → Side → List ℕ → Tree → Bool
takes m side id t = is_id (id_on m side t) id

abbrev pub root_score : (Object → Option ℕ) → Marked Tree → Option ℕ
root_score f t = cond t.live (f (root t.item)) None

abbrev pub scores_among : (Object → Option ℕ) → (Tree → Bool) → List Tree → List ℕ
scores_among f test trees = filter_map f (roots (filter test trees))

pub among_append : (f : Object → Option ℕ) (test : Tree → Bool) (trees more : List Tree) → scores_among f test (trees ++ more) ≡ scores_among f test trees ++ scores_among f test more
among_append f test trees more =
    ap (λ (l : List Tree). filter_map f (roots l)) (filter-append test trees more)
    ∙ ap (filter_map f) (map-append root (filter test trees) (filter test more))
    ∙ filter_map-append f (roots (filter test trees)) (roots (filter test more))

with_score : (x : Option ℕ) (rest : List ℕ) → option_to_list x ++ rest ≡ cons_option x rest
with_score None rest = refl
with_score (Some s) rest = refl

those_among : (m : Mapping) (side : Side) (id : List ℕ) (f : Object → Option ℕ) (trees : List (Marked Tree)) → those (side_id m side) id (root_score f) trees ≡ scores_among f (takes m side id) (live_in trees)
those_among m side id f [] = refl
those_among m side id f (t ∷ trees) = elim (cases_Bool t.live) [
  | inl live ↦ rw live (elim (cases_Bool (takes m side id t.item)) [
    | inl on ↦ rw on (with_score (f (root t.item)) (those (side_id m side) id (root_score f) trees) ∙ ap (cons_option (f (root t.item))) (those_among m side id f trees))
    | inr off ↦ rw off (those_among m side id f trees)
  ])
  | inr dead ↦ rw dead (those_among m side id f trees)
]

pub told_among : (ids : List (List ℕ)) (k : ℕ) (id : List ℕ) (m : Mapping) (side : Side) (f : Object → Option ℕ) (trees : List (Marked Tree)) (keys : List (Option ℕ)) → StandOnce ids → slice_get ids k ≡ Some id
    → Number ids (map (side_id m side) trees) keys → scores_of k (told keys (map (root_score f) trees)) ≡ scores_among f (takes m side id) (live_in trees)
told_among ids k id m side f trees keys once at is = told_those ids k id (side_id m side) (root_score f) trees keys once at is ∙ those_among m side id f trees
