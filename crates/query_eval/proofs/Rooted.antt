-- Scores of roots as scores of documents, over the trees of entries.
use Rattle.std.proofs.Common.{◌≡◌, ℕ, suc, ◌+◌, Bool, true, false, List, [], ◌∷◌, ◌++◌, map, filter, filter_map, slice_get, Option, Some, None, refl, sym, ap, ◌∙◌, inl, inr, arith}
use Rattle.std.proofs.lemmas.Bool.{cases_Bool}
use Rattle.block_bits.specs.Blocks.{documents_of, has_scope}
use Rattle.flattener.specs.StandsFor.{EntryStandsFor, ViewStandsFor, by_document}
use Rattle.join_ordinals.specs.Ordinals.{AreOrdinals, Ordinals}
use Rattle.mapping.specs.IsMapping.{IsMapping}
use Rattle.mapping.specs.Mapping.{Mapping, relation_at}
use Rattle.query_ast.specs.Hit.{children_score, parent_score}
use Rattle.query_ast.specs.Joined.{roots}
use Rattle.score_math.specs.declared.score.ScoreMode.{ScoreMode}
use Rattle.segment.specs.Live.{EntryState}
use Rattle.tree_joins.specs.Seen.{at_scope, if_live, scope_mark, scopes_of, seen}
use Rattle.tree_objects.specs.Enclosing.{stands_at}
use Rattle.tree_objects.specs.Object.{Object, block_objects, root}
use Rattle.tree_objects.specs.Tree.{Tree}
use Rattle.query_eval.specs.Found.{AreLong, IsSeen, live_in, live_trees}
use Rattle.query_eval.specs.Keyed.{any_child_by}
use Rattle.query_eval.specs.Sides.{answer_for, at_roots, children_by, given_by, keys_at, of_roots, parent_by, roots_in, scores_of, told, told_by}
use Rattle.query_eval.specs.declared.side.Side.{Side}
use Rattle.query_eval.specs.declared.side.Side.TheVariants.{Parents, Children, ChildrenOf}
use Rattle.query_eval.specs.declared.answer.Answer.{Answer}
use Rattle.query_eval.specs.declared.answer.Answer.TheVariants as answer
use Rattle.query_eval.proofs.Entries.{Scores, Trees}
use Rattle.query_eval.proofs.Joined.{Speaks, answers_are, children_of, no_children_of, no_children, no_parents_of, parents_of}
use Rattle.query_eval.proofs.Keys.{among_append, entry_numbers, root_score, scores_among, scores_append, takes, told_among}
use Rattle.query_eval.proofs.Scopes.{scopes_are}

abbrev pub OneRoot : Type 0
OneRoot = (m : Mapping) (tree : Tree) → IsMapping m → filter (stands_at 0) (block_objects m tree) ≡ root tree ∷ []

abbrev stand : Object → Bool
stand o = stands_at 0 o

-- ---- one tree

of_none : (g : Object → Option ℕ) (objects : List Object) (flags : List Bool) (scores : Scores) → filter (stands_at 0) objects ≡ [] → of_roots (map stand objects ++ flags) (map g objects ++ scores) ≡ of_roots flags scores
of_none g [] flags scores none = refl
of_none g (o ∷ objects) flags scores none = elim (cases_Bool (stands_at 0 o)) [
  | inl here ↦ absurd (let some : o ∷ filter (stands_at 0) objects ≡ [] = rw here at none in let no : ⊥ = cc in no)
  | inr other ↦ rw other (of_none g objects flags scores (rw other at none))
]

of_one : (g : Object → Option ℕ) (t : Tree) (objects : List Object) (flags : List Bool) (scores : Scores) → filter (stands_at 0) objects ≡ root t ∷ [] → of_roots (map stand objects ++ flags) (map g objects ++ scores) ≡ g (root t) ∷ of_roots flags scores
of_one g t [] flags scores one = absurd (let no : ⊥ = cc in no)
of_one g t (o ∷ objects) flags scores one = elim (cases_Bool (stands_at 0 o)) [
  | inl here ↦
      let first : o ∷ filter (stands_at 0) objects ≡ root t ∷ [] = rw here at one in
      let own : o ≡ root t = cc in
      let none : filter (stands_at 0) objects ≡ [] = cc in
      rw here (ap (λ (x : Option ℕ). x ∷ of_roots (map stand objects ++ flags) (map g objects ++ scores)) (ap g own) ∙ ap (λ (l : Scores). g (root t) ∷ l) (of_none g objects flags scores none))
  | inr other ↦ rw other (of_one g t objects flags scores (rw other at one))
]

at_none : (h : Object → Option ℕ) (objects : List Object) (flags : List Bool) (given : Scores) → ((o : Object) → stands_at 0 o ≡ false → h o ≡ None) → filter (stands_at 0) objects ≡ [] → at_roots (map stand objects ++ flags) given ≡ map h objects ++ at_roots flags given
at_none h [] flags given elsewhere none = refl
at_none h (o ∷ objects) flags given elsewhere none = elim (cases_Bool (stands_at 0 o)) [
  | inl here ↦ absurd (let some : o ∷ filter (stands_at 0) objects ≡ [] = rw here at none in let no : ⊥ = cc in no)
  | inr other ↦ rw (other, elsewhere o other) (ap (λ (l : Scores). None ∷ l) (at_none h objects flags given elsewhere (rw other at none)))
]

at_one : (h : Object → Option ℕ) (t : Tree) (objects : List Object) (flags : List Bool) (score : Option ℕ) (given : Scores) → ((o : Object) → stands_at 0 o ≡ false → h o ≡ None) → score ≡ h (root t) → filter (stands_at 0) objects ≡ root t ∷ []
    → at_roots (map stand objects ++ flags) (score ∷ given) ≡ map h objects ++ at_roots flags given
at_one h t [] flags score given elsewhere is one = absurd (let no : ⊥ = cc in no)
at_one h t (o ∷ objects) flags score given elsewhere is one = elim (cases_Bool (stands_at 0 o)) [
  | inl here ↦
      let first : o ∷ filter (stands_at 0) objects ≡ root t ∷ [] = rw here at one in
      let own : o ≡ root t = cc in
      let none : filter (stands_at 0) objects ≡ [] = cc in
      rw here (ap (λ (x : Option ℕ). x ∷ at_roots (map stand objects ++ flags) given) (is ∙ ap h (sym own)) ∙ ap (λ (l : Scores). h o ∷ l) (at_none h objects flags given elsewhere none))
  | inr other ↦ rw (other, elsewhere o other) (ap (λ (l : Scores). None ∷ l) (at_one h t objects flags score given elsewhere is (rw other at one)))
]

-- ---- the trees of an entry

abbrev stands : Bool → Object → Bool
stands live o = stand o

module _ (one_root : OneRoot) (m : Mapping) (is : IsMapping m) where
  of_trees : (f : Object → Option ℕ) (trees : Trees) → of_roots (by_document m stands trees) (seen m (at_scope 0 f) trees) ≡ map (root_score f) trees
  of_trees f [] = refl
  of_trees f (t ∷ trees) =
      of_one (if_live (at_scope 0 f) t.live) t.item (block_objects m t.item) (by_document m stands trees) (seen m (at_scope 0 f) trees) (one_root m t.item is)
      ∙ ap (λ (l : Scores). root_score f t ∷ l) (of_trees f trees)

  no_other : (f : Object → Option ℕ) (live : Bool) (o : Object) → stands_at 0 o ≡ false → if_live (at_scope 0 f) live o ≡ None
  no_other f true o other = rw other refl
  no_other f false o other = refl

  at_trees : (f : Object → Option ℕ) (trees : Trees) → at_roots (by_document m stands trees) (map (root_score f) trees) ≡ seen m (at_scope 0 f) trees
  at_trees f [] = refl
  at_trees f (t ∷ trees) =
      at_one (if_live (at_scope 0 f) t.live) t.item (block_objects m t.item) (by_document m stands trees) (root_score f t) (map (root_score f) trees) (no_other f t.live) refl (one_root m t.item is)
      ∙ ap (λ (l : Scores). map (if_live (at_scope 0 f) t.live) (block_objects m t.item) ++ l) (at_trees f trees)

  flags_append : (live : Bool) (objects : List Object) (scopes : List ℕ) → map (has_scope 0) (map (scope_mark live) objects ++ scopes) ≡ map stand objects ++ map (has_scope 0) scopes
  flags_append live [] scopes = refl
  flags_append live (o ∷ objects) scopes = ap (λ (l : List Bool). stand o ∷ l) (flags_append live objects scopes)

  flags_trees : (trees : Trees) → map (has_scope 0) (scopes_of m trees) ≡ by_document m stands trees
  flags_trees [] = refl
  flags_trees (t ∷ trees) =
      flags_append t.live (block_objects m t.item) (scopes_of m trees) ∙ ap (λ (l : List Bool). map stand (block_objects m t.item) ++ l) (flags_trees trees)

  flags_are : (e : EntryState) (trees : Trees) → EntryStandsFor m e.columns e.live trees → roots_in e ≡ by_document m stands trees
  flags_are e trees own = ap (λ (scopes : List ℕ). documents_of scopes 0) (scopes_are m e.columns e.live trees own) ∙ flags_trees trees

  pub roots_of_entry : (e : EntryState) (trees : Trees) (f : Object → Option ℕ) → EntryStandsFor m e.columns e.live trees → of_roots (roots_in e) (seen m (at_scope 0 f) trees) ≡ map (root_score f) trees
  roots_of_entry e trees f own = ap (λ (flags : List Bool). of_roots flags (seen m (at_scope 0 f) trees)) (flags_are e trees own) ∙ of_trees f trees

  pub entry_of_roots : (e : EntryState) (trees : Trees) (f : Object → Option ℕ) → EntryStandsFor m e.columns e.live trees → at_roots (roots_in e) (map (root_score f) trees) ≡ seen m (at_scope 0 f) trees
  entry_of_roots e trees f own = ap (λ (flags : List Bool). at_roots flags (map (root_score f) trees)) (flags_are e trees own) ∙ at_trees f trees

-- ---- the entries of a view

module _ (one_root : OneRoot) (view : List EntryState) (ordinals : Ordinals) (o : AreOrdinals view ordinals) (m : Mapping) (is : IsMapping m) where
  -- entries that stand in the view from a place on
  abbrev StandFrom : ℕ → List EntryState → Type 0
  StandFrom place entries = (i : ℕ) (e : EntryState) → slice_get entries i ≡ Some e → slice_get view (place + i) ≡ Some e

  first_stands : (place : ℕ) (e : EntryState) (entries : List EntryState) → StandFrom place (e ∷ entries) → slice_get view place ≡ Some e
  first_stands place e entries all = let here : place + 0 ≡ place = omega arith in ap (slice_get view) (sym here) ∙ all 0 e refl

  rest_stand : (place : ℕ) (e : EntryState) (entries : List EntryState) → StandFrom place (e ∷ entries) → StandFrom (place + 1) entries
  rest_stand place e entries all = λ i x at. let next : place + 1 + i ≡ place + suc i = omega arith in ap (slice_get view) next ∙ all (suc i) x at

  -- what they tell those of one id
  pub told_view : (from : Side) (f : Object → Option ℕ) (k : ℕ) (id : List ℕ) → slice_get o.ids k ≡ Some id → (place : ℕ) (entries : List EntryState) (trees : List Trees) → StandFrom place entries → ViewStandsFor m entries trees
      → scores_of k (told_by m ordinals from place entries (map (λ (own : Trees). seen m (at_scope 0 f) own) trees)) ≡ scores_among f (takes m from id) (live_trees trees)
  told_view from f k id at place [] [] all stand = refl
  told_view from f k id at place [] (t ∷ trees) all stand = absurd stand
  told_view from f k id at place (e ∷ entries) [] all stand = absurd stand
  told_view from f k id at place (e ∷ entries) (t ∷ trees) all stand =
      let keys = keys_at m ordinals from e.columns place in
      let rest = told_by m ordinals from (place + 1) entries (map (λ (own : Trees). seen m (at_scope 0 f) own) trees) in
      scores_append k (told keys (of_roots (roots_in e) (seen m (at_scope 0 f) t))) rest
      ∙ ap (λ (l : Scores). scores_of k (told keys l) ++ scores_of k rest) (roots_of_entry one_root m is e t f stand.0)
      ∙ ap (λ (l : List ℕ). l ++ scores_of k rest) (told_among o.ids k id m from f t keys o.once at (entry_numbers view ordinals o m from place e t (first_stands place e entries all) stand.0))
      ∙ ap (λ (l : List ℕ). scores_among f (takes m from id) (live_in t) ++ l) (told_view from f k id at (place + 1) entries trees (rest_stand place e entries all) stand.1)
      ∙ sym (among_append f (takes m from id) (live_in t) (live_trees trees))

  -- what they are given
  pub given_view : (from to : Side) (asked : Answer) (pairs : List (ℕ × ℕ)) (live : List Tree) (f given : Object → Option ℕ) → Speaks o.ids m from to asked pairs live f given → (place : ℕ) (entries : List EntryState) (trees : List Trees) → StandFrom place entries → ViewStandsFor m entries trees
      → given_by m ordinals to asked pairs place entries ≡ map (λ (own : Trees). seen m (at_scope 0 given) own) trees
  given_view from to asked pairs live f given speaks place [] [] all stand = refl
  given_view from to asked pairs live f given speaks place [] (t ∷ trees) all stand = absurd stand
  given_view from to asked pairs live f given speaks place (e ∷ entries) [] all stand = absurd stand
  given_view from to asked pairs live f given speaks place (e ∷ entries) (t ∷ trees) all stand =
      let keys = keys_at m ordinals to e.columns place in
      let own : at_roots (roots_in e) (map (answer_for asked pairs) keys) ≡ seen m (at_scope 0 given) t =
      ap (at_roots (roots_in e)) (answers_are o.ids m from to asked pairs live f given speaks t keys (entry_numbers view ordinals o m to place e t (first_stands place e entries all) stand.0))
      ∙ entry_of_roots one_root m is e t given stand.0 in
      ap (λ (s : Scores). s ∷ given_by m ordinals to asked pairs (place + 1) entries) own
      ∙ ap (λ (l : List Scores). seen m (at_scope 0 given) t ∷ l) (given_view from to asked pairs live f given speaks (place + 1) entries trees (rest_stand place e entries all) stand.1)

pub whole_view : (view : List EntryState) (i : ℕ) (e : EntryState) → slice_get view i ≡ Some e → slice_get view (0 + i) ≡ Some e
whole_view view i e at = let same : 0 + i ≡ i = omega arith in ap (slice_get view) same ∙ at

module _ (one_root : OneRoot) (view : List EntryState) (ordinals : Ordinals) (o : AreOrdinals view ordinals) (m : Mapping) (is : IsMapping m) (hits made : List Scores) (given : List Tree → Object → Option ℕ) (long : AreLong view made) (seen_hits : IsSeen m view 0 given hits) where
  -- the scores that are told, where the view stands for trees
  pub told_is : (from : Side) (trees : List Trees) → ViewStandsFor m view trees → (k : ℕ) (id : List ℕ) → slice_get o.ids k ≡ Some id
      → scores_of k (told_by m ordinals from 0 view hits) ≡ scores_among (given (live_trees trees)) (takes m from id) (live_trees trees)
  told_is from trees stand k id at =
      ap (λ (l : List Scores). scores_of k (told_by m ordinals from 0 view l)) (seen_hits.are trees stand)
      ∙ told_view one_root view ordinals o m is from (given (live_trees trees)) k id at 0 view trees (whole_view view) stand

  pub seen_children : (r p : ℕ) (mode : ScoreMode) (least : ℕ) (most : Option ℕ) → (relation_at m r).parent ≡ Some p
      → made ≡ given_by m ordinals (Parents p) (answer.Children mode least most) (told_by m ordinals (Children r) 0 view hits) 0 view → IsSeen m view 0 (children_by m r mode least most given) made
  seen_children r p mode least most parent is_given = record {
    long = long;
    are = λ trees stand.
        let live : List Tree = live_trees trees in
        let f : Object → Option ℕ = given live in
        is_given
        ∙ given_view one_root view ordinals o m is (Children r) (Parents p) (answer.Children mode least most) (told_by m ordinals (Children r) 0 view hits) live f (children_by m r mode least most given live)
        (record {
          scores = told_is (Children r) trees stand;
          some = λ t id own. ap (λ (l : List Tree). children_score mode least most (filter_map f (roots l))) (children_of m r p parent t id live own);
          none = λ t own. ap (λ (l : List Tree). children_score mode least most (filter_map f (roots l))) (no_children_of m r p parent t live own) ∙ no_children mode least most;
        })
        0 view trees (whole_view view) stand;
  }

  pub seen_any_child : (r p : ℕ) → (relation_at m r).parent ≡ Some p → made ≡ given_by m ordinals (Parents p) (answer.Parent false 1) (told_by m ordinals (Children r) 0 view hits) 0 view → IsSeen m view 0 (any_child_by m r given) made
  seen_any_child r p parent is_given = record {
    long = long;
    are = λ trees stand.
        let live : List Tree = live_trees trees in
        let f : Object → Option ℕ = given live in
        is_given
        ∙ given_view one_root view ordinals o m is (Children r) (Parents p) (answer.Parent false 1) (told_by m ordinals (Children r) 0 view hits) live f (any_child_by m r given live)
        (record {
          scores = told_is (Children r) trees stand;
          some = λ t id own. ap (λ (l : List Tree). parent_score false 1 (filter_map f (roots l))) (children_of m r p parent t id live own);
          none = λ t own. ap (λ (l : List Tree). parent_score false 1 (filter_map f (roots l))) (no_children_of m r p parent t live own);
        })
        0 view trees (whole_view view) stand;
  }

  pub seen_parents : (p : ℕ) (score : Bool) (boost : ℕ)
      → made ≡ given_by m ordinals (ChildrenOf p) (answer.Parent score boost) (told_by m ordinals (Parents p) 0 view hits) 0 view → IsSeen m view 0 (parent_by m p score boost given) made
  seen_parents p score boost is_given = record {
    long = long;
    are = λ trees stand.
        let live : List Tree = live_trees trees in
        let f : Object → Option ℕ = given live in
        is_given
        ∙ given_view one_root view ordinals o m is (Parents p) (ChildrenOf p) (answer.Parent score boost) (told_by m ordinals (Parents p) 0 view hits) live f (parent_by m p score boost given live)
        (record {
          scores = told_is (Parents p) trees stand;
          some = λ t id own. ap (λ (l : List Tree). parent_score score boost (filter_map f (roots l))) (parents_of m p t id live own);
          none = λ t own. ap (λ (l : List Tree). parent_score score boost (filter_map f (roots l))) (no_parents_of m p t live own);
        })
        0 view trees (whole_view view) stand;
  }
