-- What the evaluation of each kind of clause gives is what the clause means.
use Rattle.std.proofs.Common.{◌≡◌, ◌≢◌, ℕ, suc, ◌-◌, ◌<◌, ◌≤◌, Bool, true, false, ◌&&◌, List, [], ◌∷◌, length, map, take, drop, get_or, filter_map, Option, Some, None, refl, sym, ap, subst, ◌∙◌, arith}
use Rattle.std.specs.Prelude.{IsSome}
use Rattle.std.specs.List.{list_all}
use Rattle.block_join.specs.Merge.{put_together}
use Rattle.block_join.specs.declared.rule.Rule.{Rule}
use Rattle.block_join.specs.declared.rule.Rule.TheVariants.{Both, Kept, Without, Plus, Either, Greatest, Counted, AtLeast}
use Rattle.leaf_search.specs.Found.{leaf_of}
use Rattle.mapping.specs.Mapping.{Mapping}
use Rattle.query_ast.specs.Clause.{Clause, Clauses, clause, no_clauses, clauses_of, clause_size, Leaf, match_all, match_none, leaf, bool, constant_score, dis_max, nested, to_child, has_child, has_parent}
use Rattle.query_ast.specs.Clause.View.{clause_of}
use Rattle.query_ast.specs.declared.query.Query.{Query}
use Rattle.query_ast.specs.Hit.{hit, hit_each, scores, wanted, boosted, children_score, parent_score}
use Rattle.query_ast.specs.Joined.{child_trees, parent_trees, roots}
use Rattle.query_ast.specs.Leaf.{leaf_holds}
use Rattle.query_ast.specs.Resolved.{IsLeaf, IsResolved}
use Rattle.score_math.specs.Scores.{mode_of}
use Rattle.score_math.specs.declared.score.ScoreMode.{ScoreMode}
use Rattle.score_math.specs.declared.score.TheConstants.{SCORE_CAP}
use Rattle.segment.specs.Live.{EntryState}
use Rattle.tree_objects.specs.Object.{Object, inside, root, scope}
use Rattle.tree_objects.specs.Tree.{Tree}
use Rattle.query_eval.specs.Folds.{asked_by, asked_score, boost_in, folded, folded_by, have_none, is_empty, leaf_score, narrows, paired_by, wanted_of, whatever}
use Rattle.query_eval.specs.Found.{IsFound, IsSeen, score_by}
use Rattle.query_eval.specs.Nested.{around_by, below_by}
use Rattle.query_eval.specs.Sides.{children_by, parent_by}
use Rattle.query_eval.proofs.Bools.{required, bool_asked, plus_asked, one_asked, many_asked, few_scores, fold_greatest, folded_none}
use Rattle.query_eval.proofs.Entries.{Scores, take_whole}
use Rattle.query_eval.proofs.Joined.{no_children}
use Rattle.query_eval.proofs.Seen.{seen_alike, seen_nothing}

-- ---- sizes

pub clause_some : (c : Clause) → 1 ≤ clause_size c
clause_some (leaf l boost) = omega arith
clause_some (bool must filter should must_not least) = omega arith
clause_some (constant_score c boost) = omega arith
clause_some (dis_max cs) = omega arith
clause_some (nested n c mode) = omega arith
clause_some (to_child n c) = omega arith
clause_some (has_child r c mode least most) = omega arith
clause_some (has_parent r c score boost) = omega arith

-- ---- whether there are clauses

pub some_clauses : (a b c d : Bool) → (a && (b && (c && d))) ≡ false → a ≡ true → b ≡ true → c ≡ true → d ≡ true → ⊥
some_clauses true true true true lack must filter should must_not = let none : ⊥ = cc in none
some_clauses true true true false lack must filter should must_not = let none : ⊥ = cc in none
some_clauses true true false d lack must filter should must_not = let none : ⊥ = cc in none
some_clauses true false c d lack must filter should must_not = let none : ⊥ = cc in none
some_clauses false b c d lack must filter should must_not = let none : ⊥ = cc in none

-- ---- the first query of some and the others

pub clauses_parts : (qs : List Query) (q : Query) → 0 < length qs → q ≡ get_or qs 0 q → clauses_of (map clause_of qs) ≡ clause (clause_of q) (clauses_of (map clause_of (take (length qs - 1) (drop 1 qs))))
clauses_parts [] q some is = absurd (omega (arith, some))
clauses_parts (x ∷ qs) q some is =
    ap (λ (y : Query). clause (clause_of y) (clauses_of (map clause_of qs))) (sym is)
    ∙ ap (λ (l : List Query). clause (clause_of q) (clauses_of (map clause_of l))) (sym (take_whole qs (length (x ∷ qs) - 1) (omega arith)))

-- ---- the leaves that begin a fold

all_hold : (m : Mapping) (score : ℕ) (o : Object) → leaf_score m match_all score o ≡ Some score
unfolding leaf_holds
all_hold m score o = refl

none_holds : (m : Mapping) (score : ℕ) (o : Object) → leaf_score m match_none score o ≡ None
unfolding leaf_holds
none_holds m score o = refl

module _ (m : Mapping) (view : List EntryState) (n : ℕ) where
  pub found_leaf : (l : Leaf) (boost : ℕ) (made : List Scores) → IsSeen m view n (whatever (leaf_score m l boost)) made → IsFound m view n (leaf l boost) made
  found_leaf l boost made is = seen_alike m view n (whatever (leaf_score m l boost)) (score_by m (leaf l boost)) made (λ live o here. refl) is

  pub found_of_leaf : (c : Clause) (score : ℕ) (made : List Scores) → score ≡ boost_in c → IsSome (leaf_of c) → IsResolved m n c → ((l : Leaf) → leaf_of c ≡ Some l → IsLeaf m l → IsSeen m view n (whatever (leaf_score m l score)) made) → IsFound m view n c made
  found_of_leaf (leaf l boost) score made same some resolved seen =
      found_leaf l boost made (subst (λ (k : ℕ). IsSeen m view n (whatever (leaf_score m l k)) made) same (seen l refl resolved.0))
  found_of_leaf (bool must filter should must_not least) score made same some resolved seen = absurd (let no : ⊥ = cc in no)
  found_of_leaf (constant_score c boost) score made same some resolved seen = absurd (let no : ⊥ = cc in no)
  found_of_leaf (dis_max cs) score made same some resolved seen = absurd (let no : ⊥ = cc in no)
  found_of_leaf (nested p c mode) score made same some resolved seen = absurd (let no : ⊥ = cc in no)
  found_of_leaf (to_child p c) score made same some resolved seen = absurd (let no : ⊥ = cc in no)
  found_of_leaf (has_child r c mode least most) score made same some resolved seen = absurd (let no : ⊥ = cc in no)
  found_of_leaf (has_parent p c given boost) score made same some resolved seen = absurd (let no : ⊥ = cc in no)

  -- a clause that hits nothing
  pub found_none : (c : Clause) (made : List Scores) → ((live : List Tree) (o : Object) → scope o ≡ n → hit m live c o ≡ None) → IsSeen m view n (whatever (leaf_score m match_none 0)) made → IsFound m view n c made
  found_none c made none is = seen_alike m view n (whatever (leaf_score m match_none 0)) (score_by m c) made (λ live o here. none_holds m 0 o ∙ sym (none live o here)) is

  -- ---- constant_score

  kept_boost : (boost : ℕ) (x : Option ℕ) → put_together Kept (Some boost) x ≡ boosted boost x
  kept_boost boost None = refl
  kept_boost boost (Some s) = refl

  pub found_constant : (c : Clause) (boost : ℕ) (made : List Scores) → IsSeen m view n (paired_by Kept (whatever (leaf_score m match_all boost)) (score_by m c)) made → IsFound m view n (constant_score c boost) made
  found_constant c boost made is =
      seen_alike m view n (paired_by Kept (whatever (leaf_score m match_all boost)) (score_by m c)) (score_by m (constant_score c boost)) made
      (λ live o here. ap (λ (x : Option ℕ). put_together Kept x (hit m live c o)) (all_hold m boost o) ∙ kept_boost boost (hit m live c o)) is

  -- ---- dis_max

  pub found_greatest : (cs : Clauses) (made : List Scores) → IsSeen m view n (folded_by Greatest m cs (whatever (leaf_score m match_none 0))) made → IsFound m view n (dis_max cs) made
  found_greatest cs made is =
      seen_alike m view n (folded_by Greatest m cs (whatever (leaf_score m match_none 0))) (score_by m (dis_max cs)) made
      (λ live o here. ap (λ (x : Option ℕ). folded Greatest x (hit_each m live cs o)) (none_holds m 0 o) ∙ fold_greatest (hit_each m live cs o)) is

  -- ---- bool

  no_answers : (live : List Tree) (cs : List Clause) (o : Object) → hit_each m live (clauses_of cs) o ≡ [] → is_empty cs ≡ true
  no_answers live [] o is = refl
  no_answers live (c ∷ cs) o is = absurd (let no : ⊥ = cc in no)

  answers_long : (live : List Tree) (cs : List Clause) (o : Object) → length (hit_each m live (clauses_of cs) o) ≡ length cs
  answers_long live [] o = refl
  answers_long live (c ∷ cs) o = ap suc (answers_long live cs o)

  wanted_same : (least : Option ℕ) (must filter should : List Clause) (live : List Tree) (o : Object)
      → wanted least (hit_each m live (clauses_of must) o) (hit_each m live (clauses_of filter) o) (hit_each m live (clauses_of should) o) ≡ wanted_of least must filter should
  wanted_same (Some k) must filter should live o = refl
  wanted_same None [] [] [] live o = refl
  wanted_same None [] [] (c ∷ should) live o = refl
  wanted_same None [] (c ∷ filter) should live o = refl
  wanted_same None (c ∷ must) filter should live o = refl

  -- ---- nothing is left

  pub folded_nothing : (rule : Rule) (cs : Clauses) (given : List Tree → Object → Option ℕ) (hits : List Scores) → narrows rule ≡ true → list_all have_none hits ≡ true → IsSeen m view n given hits → IsSeen m view n (folded_by rule m cs given) hits
  folded_nothing rule cs given hits narrow none is =
      seen_nothing m view n given (folded_by rule m cs given) hits
      (λ live o no. ap (λ (x : Option ℕ). folded rule x (hit_each m live cs o)) no ∙ folded_none rule narrow (hit_each m live cs o)) none is

  pub asked_nothing : (cs : Clauses) (w : ℕ) (given : List Tree → Object → Option ℕ) (hits : List Scores) → list_all have_none hits ≡ true → IsSeen m view n given hits → IsSeen m view n (asked_by m cs w given) hits
  asked_nothing cs w given hits none is =
      seen_nothing m view n given (asked_by m cs w given) hits (λ live o no. ap (λ (x : Option ℕ). asked_score w x (scores (hit_each m live cs o))) no) none is

  -- ---- nested and to_child

  pub found_up : (p : ℕ) (c : Clause) (mode : ScoreMode) (made : List Scores) → IsSeen m view n (below_by m (mode_of mode) p (score_by m c)) made → IsFound m view n (nested (Some p) c mode) made
  found_up p c mode made is = seen_alike m view n (below_by m (mode_of mode) p (score_by m c)) (score_by m (nested (Some p) c mode)) made (λ live o here. refl) is

  pub found_down : (p : ℕ) (c : Clause) (made : List Scores) → IsSeen m view n (around_by p (score_by m c)) made → IsFound m view n (to_child (Some p) c) made
  found_down p c made is = seen_alike m view n (around_by p (score_by m c)) (score_by m (to_child (Some p) c)) made (λ live o here. refl) is

  -- ---- joins of trees, of which no object inside a tree has any

  pub found_children : (r : ℕ) (c : Clause) (mode : ScoreMode) (least : ℕ) (most : Option ℕ) (made : List Scores) → IsSeen m view n (children_by m r mode least most (score_by m c)) made → IsFound m view n (has_child (Some r) c mode least most) made
  found_children r c mode least most made is = seen_alike m view n (children_by m r mode least most (score_by m c)) (score_by m (has_child (Some r) c mode least most)) made (λ live o here. refl) is

  pub found_parent : (p : ℕ) (c : Clause) (score : Bool) (boost : ℕ) (made : List Scores) → IsSeen m view n (parent_by m p score boost (score_by m c)) made → IsFound m view n (has_parent (Some p) c score boost) made
  found_parent p c score boost made is = seen_alike m view n (parent_by m p score boost (score_by m c)) (score_by m (has_parent (Some p) c score boost)) made (λ live o here. refl) is

  childless : (live : List Tree) (r : ℕ) (o : Object) → scope o ≢ 0 → child_trees m live r o ≡ []
  unfolding child_trees
  childless live r (root t) apart = absurd (apart refl)
  childless live r (inside outer k offset value) apart = refl

  parentless : (live : List Tree) (p : ℕ) (o : Object) → scope o ≢ 0 → parent_trees m live p o ≡ []
  unfolding parent_trees
  parentless live p (root t) apart = absurd (apart refl)
  parentless live p (inside outer k offset value) apart = refl

  pub found_childless : (r : ℕ) (c : Clause) (mode : ScoreMode) (least : ℕ) (most : Option ℕ) (made : List Scores) → n ≢ 0 → IsSeen m view n (whatever (leaf_score m match_none 0)) made → IsFound m view n (has_child (Some r) c mode least most) made
  found_childless r c mode least most made apart is =
      found_none (has_child (Some r) c mode least most) made
      (λ live o here.
      ap (λ (l : List Tree). children_score mode least most (filter_map (hit m live c) (roots l))) (childless live r o (λ zero. apart (sym here ∙ zero)))
      ∙ no_children mode least most) is

  pub found_parentless : (p : ℕ) (c : Clause) (score : Bool) (boost : ℕ) (made : List Scores) → n ≢ 0 → IsSeen m view n (whatever (leaf_score m match_none 0)) made → IsFound m view n (has_parent (Some p) c score boost) made
  found_parentless p c score boost made apart is =
      found_none (has_parent (Some p) c score boost) made
      (λ live o here. ap (λ (l : List Tree). parent_score score boost (filter_map (hit m live c) (roots l))) (parentless live p o (λ zero. apart (sym here ∙ zero)))) is

  -- ---- what is asked of some clauses

  pub asked_of_one : (cs : Clauses) (given : List Tree → Object → Option ℕ) (made : List Scores) → IsSeen m view n (paired_by Both given (folded_by Either m cs (whatever (leaf_score m match_none 0)))) made → IsSeen m view n (asked_by m cs 1 given) made
  asked_of_one cs given made seen =
      seen_alike m view n (paired_by Both given (folded_by Either m cs (whatever (leaf_score m match_none 0)))) (asked_by m cs 1 given) made
      (λ live o here.
      ap (λ (x : Option ℕ). put_together Both (given live o) (folded Either x (hit_each m live cs o))) (none_holds m 0 o)
      ∙ one_asked (given live o) (hit_each m live cs o)) seen

  pub asked_of_many : (cs : List Clause) (w : ℕ) (given : List Tree → Object → Option ℕ) (made : List Scores) → 1 ≤ w → length cs ≤ SCORE_CAP
      → IsSeen m view n (paired_by (AtLeast w) (paired_by Both given (folded_by Either m (clauses_of cs) (whatever (leaf_score m match_none 0)))) (folded_by Counted m (clauses_of cs) (whatever (leaf_score m match_none 0)))) made
      → IsSeen m view n (asked_by m (clauses_of cs) w given) made
  asked_of_many cs w given made some few seen =
      seen_alike m view n
      (paired_by (AtLeast w) (paired_by Both given (folded_by Either m (clauses_of cs) (whatever (leaf_score m match_none 0)))) (folded_by Counted m (clauses_of cs) (whatever (leaf_score m match_none 0))))
      (asked_by m (clauses_of cs) w given) made
      (λ live o here.
      let asked = hit_each m live (clauses_of cs) o in
      ap (λ (x : Option ℕ). put_together (AtLeast w) (put_together Both (given live o) (folded Either x asked)) (folded Counted x asked)) (none_holds m 0 o)
      ∙ many_asked w (given live o) asked some (omega (arith, few, few_scores asked, answers_long live cs o))) seen

  module _ (must filter should must_not : List Clause) (least : Option ℕ) where
    abbrev own_bool : Clause
    own_bool = bool (clauses_of must) (clauses_of filter) (clauses_of should) (clauses_of must_not) least

    abbrev pub HasClauses : Type 0
    HasClauses = is_empty must ≡ true → is_empty filter ≡ true → is_empty should ≡ true → is_empty must_not ≡ true → ⊥

    -- what is left of all objects by the clauses that have to hit and those that must not
    abbrev pub required_by : List Tree → Object → Option ℕ
    required_by = folded_by Without m (clauses_of must_not) (folded_by Kept m (clauses_of filter) (folded_by Both m (clauses_of must) (whatever (leaf_score m match_all 0))))

    required_same : (live : List Tree) (o : Object) → required_by live o ≡ required (hit_each m live (clauses_of must) o) (hit_each m live (clauses_of filter) o) (hit_each m live (clauses_of must_not) o)
    required_same live o =
        ap (λ (x : Option ℕ). folded Without (folded Kept (folded Both x (hit_each m live (clauses_of must) o)) (hit_each m live (clauses_of filter) o)) (hit_each m live (clauses_of must_not) o)) (all_hold m 0 o)

    pub found_asked : (made : List Scores) (w : ℕ) → HasClauses → wanted_of least must filter should ≡ w → IsSeen m view n (asked_by m (clauses_of should) w required_by) made → IsFound m view n own_bool made
    found_asked made w some is seen =
        seen_alike m view n (asked_by m (clauses_of should) w required_by) (score_by m own_bool) made
        (λ live o here.
        ap (λ (x : Option ℕ). asked_score w x (scores (hit_each m live (clauses_of should) o))) (required_same live o)
        ∙ bool_asked (hit_each m live (clauses_of must) o) (hit_each m live (clauses_of filter) o) (hit_each m live (clauses_of should) o) (hit_each m live (clauses_of must_not) o) least w
        (λ a b c d. some (no_answers live must o a) (no_answers live filter o b) (no_answers live should o c) (no_answers live must_not o d))
        (wanted_same least must filter should live o ∙ is)) seen

    pub found_plain : (made : List Scores) → HasClauses → wanted_of least must filter should ≡ 0 → IsSeen m view n (folded_by Plus m (clauses_of should) required_by) made → IsFound m view n own_bool made
    found_plain made some none seen =
        found_asked made 0 some none
        (seen_alike m view n (folded_by Plus m (clauses_of should) required_by) (asked_by m (clauses_of should) 0 required_by) made
        (λ live o here.
        let asked = hit_each m live (clauses_of should) o in
        ap (λ (x : Option ℕ). folded Plus x asked) (required_same live o)
        ∙ plus_asked (hit_each m live (clauses_of must) o) (hit_each m live (clauses_of filter) o) asked (hit_each m live (clauses_of must_not) o)
        ∙ ap (λ (x : Option ℕ). asked_score 0 x (scores asked)) (sym (required_same live o))) seen)

    all_empty : (xs : List Clause) → is_empty xs ≡ true → xs ≡ []
    all_empty [] is = refl
    all_empty (x ∷ xs) is = absurd (let no : ⊥ = cc in no)

    -- no clause at all
    pub found_everything : (made : List Scores) → is_empty must ≡ true → is_empty filter ≡ true → is_empty should ≡ true → is_empty must_not ≡ true → IsSeen m view n (whatever (leaf_score m match_all 1)) made → IsFound m view n own_bool made
    found_everything made a b c d is =
        seen_alike m view n (whatever (leaf_score m match_all 1)) (score_by m own_bool) made
        (λ live o here. all_hold m 1 o ∙ sym (everything live o)) is
      where
        everything : (live : List Tree) (o : Object) → hit m live own_bool o ≡ Some 1
        everything live o =
            ap (λ (cs : List Clause). hit m live (bool (clauses_of cs) (clauses_of filter) (clauses_of should) (clauses_of must_not) least) o) (all_empty must a)
            ∙ ap (λ (cs : List Clause). hit m live (bool no_clauses (clauses_of cs) (clauses_of should) (clauses_of must_not) least) o) (all_empty filter b)
            ∙ ap (λ (cs : List Clause). hit m live (bool no_clauses no_clauses (clauses_of cs) (clauses_of must_not) least) o) (all_empty should c)
            ∙ ap (λ (cs : List Clause). hit m live (bool no_clauses no_clauses no_clauses (clauses_of cs) least) o) (all_empty must_not d)
