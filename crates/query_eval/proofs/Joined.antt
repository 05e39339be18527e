-- What roots are given by their keys is what their trees are given by the trees that they are joined to.
use Rattle.std.proofs.Common.{◌≡◌, ℕ, ◌==◌, Bool, true, false, ◌&&◌, cond, nat_le, List, [], ◌∷◌, map, filter, slice_get, Option, Some, None, refl, sym, ap, subst, ◌∙◌, inl, inr, arith}
use Rattle.std.specs.Str.{bytes_eq}
use Rattle.std.proofs.lemmas.Bool.{cases_Bool, eqb-true}
use Rattle.std.proofs.lemmas.Slice.Eq.{bytes_eq-Decides}
use Rattle.flattener.specs.StandsFor.{Marked}
use Rattle.join_ordinals.specs.Ordinals.{IsNumbered}
use Rattle.mapping.specs.Mapping.{Mapping, relation_at}
use Rattle.query_ast.specs.Hit.{children_score, is_at_most}
use Rattle.query_ast.specs.Joined.{child_trees, has_relation, is_child_by, is_id, is_number, is_parent_by, is_parent_relation, names_parent, parent_trees}
use Rattle.score_math.specs.Scores.{mode_of}
use Rattle.score_math.specs.declared.score.ScoreMode.{ScoreMode}
use Rattle.tree_objects.specs.Object.{Object, root}
use Rattle.tree_objects.specs.Tree.{Tree}
use Rattle.tree_objects.specs.Values.{Joined, join_of}
use Rattle.query_eval.specs.Sides.{answer_for, answer_of, is_on, scores_of}
use Rattle.query_eval.specs.declared.side.Side.{Side}
use Rattle.query_eval.specs.declared.side.Side.TheVariants.{Parents, Children, ChildrenOf}
use Rattle.query_eval.specs.declared.answer.Answer.{Answer}
use Rattle.query_eval.specs.declared.answer.Answer.TheVariants as answer
use Rattle.query_eval.proofs.Keys.{Number, id_on, parent_of, relation_of, root_score, scores_among, side_id, takes}

-- ---- nothing is given by no scores

nothing_between : (mode : ScoreMode) (b : Bool) → cond b (mode_of mode []) None ≡ None
nothing_between mode true = refl
nothing_between mode false = refl

pub no_children : (mode : ScoreMode) (least : ℕ) (most : Option ℕ) → children_score mode least most [] ≡ None
no_children mode least most = nothing_between mode (nat_le least 0 && is_at_most most 0)

pub nothing_given : (asked : Answer) → answer_of asked [] ≡ None
nothing_given (answer.Children mode least most) = no_children mode least most
nothing_given (answer.Parent score boost) = refl

-- ---- trees by tests that agree

filter_same : (one other : Tree → Bool) → ((t : Tree) → one t ≡ other t) → (trees : List Tree) → filter one trees ≡ filter other trees
filter_same one other same [] = refl
filter_same one other same (t ∷ trees) =
    ap (λ (b : Bool). cond b (t ∷ filter one trees) (filter one trees)) (same t)
    ∙ ap (λ (l : List Tree). cond (other t) (t ∷ l) l) (filter_same one other same trees)

filter_none : (test : Tree → Bool) → ((t : Tree) → test t ≡ false) → (trees : List Tree) → filter test trees ≡ []
filter_none test never [] = refl
filter_none test never (t ∷ trees) = rw (never t) (filter_none test never trees)

pub and_no : (b : Bool) → (b && false) ≡ false
and_no true = refl
and_no false = refl

pub same_bytes : (a b : List ℕ) → bytes_eq a b ≡ bytes_eq b a
same_bytes a b = by_two (bytes_eq a b) (bytes_eq b a)
    (λ is. (bytes_eq-Decides b a).1 (sym ((bytes_eq-Decides a b).0 is)))
    (λ is. (bytes_eq-Decides a b).1 (sym ((bytes_eq-Decides b a).0 is)))
  where
    by_two : (x y : Bool) → (x ≡ true → y ≡ true) → (y ≡ true → x ≡ true) → x ≡ y
    by_two true y there back = sym (there refl)
    by_two false true there back = back refl
    by_two false false there back = refl

-- ---- children

module _ (m : Mapping) (r p : ℕ) (parent : (relation_at m r).parent ≡ Some p) where
  -- a parent that is of the relation
  pub child_by : (t : Tree) (own : Joined) (id : List ℕ) (child : Option Joined) → (own.relation == p) ≡ true
      → (has_relation child r && (is_parent_relation m (Some own) child && names_parent child id)) ≡ is_id (cond (is_on m (Children r) (relation_of child)) (parent_of child) None) id
  child_by t own id None is = refl
  child_by t own id (Some c) is = elim (cases_Bool (c.relation == r)) [
    | inl here ↦
        let same : c.relation ≡ r = eqb-true c.relation r here in
        let of : own.relation ≡ p = eqb-true own.relation p is in
        let number : is_number (relation_at m c.relation).parent own.relation ≡ true =
        ap (λ (n : ℕ). is_number (relation_at m n).parent own.relation) same
        ∙ ap (λ (x : Option ℕ). is_number x own.relation) parent
        ∙ eqb-refl p own.relation (sym of) in
        rw (here, number) refl
    | inr other ↦ rw other refl
  ]
    where
      eqb-refl : (a b : ℕ) → a ≡ b → (a == b) ≡ true
      eqb-refl a b same = grind arith

  pub no_child_by : (own child : Option Joined) (id : List ℕ) → is_on m (Parents p) (relation_of own) ≡ false → (has_relation child r && (is_parent_relation m own child && names_parent child id)) ≡ false
  no_child_by None child id off = and_no (has_relation child r)
  no_child_by (Some own) None id off = refl
  no_child_by (Some own) (Some c) id off = elim (cases_Bool (c.relation == r)) [
    | inl here ↦
        let same : c.relation ≡ r = eqb-true c.relation r here in
        let number : is_number (relation_at m c.relation).parent own.relation ≡ false =
        ap (λ (n : ℕ). is_number (relation_at m n).parent own.relation) same
        ∙ ap (λ (x : Option ℕ). is_number x own.relation) parent
        ∙ eqb-swap p own.relation off in
        rw (here, number) refl
    | inr other ↦ rw other refl
  ]
    where
      eqb-swap : (a b : ℕ) → (b == a) ≡ false → (a == b) ≡ false
      eqb-swap a b apart = grind arith

  -- the children of a tree are those that take part by its id
  pub children_of : (t : Tree) (id : List ℕ) (live : List Tree) → id_on m (Parents p) t ≡ Some id → child_trees m live r (root t) ≡ filter (takes m (Children r) id) live
  unfolding child_trees
  children_of t id live is = by (join_of m t) refl
    where
      by : (own : Option Joined) → join_of m t ≡ own → filter (is_child_by m r t) live ≡ filter (takes m (Children r) id) live
      by None join = absurd (let none : None ≡ Some id = ap (λ (j : Option Joined). cond (is_on m (Parents p) (relation_of j)) (Some t.id) None) (sym join) ∙ is in let no : ⊥ = cc in no)
      by (Some own) join = elim (cases_Bool (own.relation == p)) [
        | inl here ↦
            let same : Some t.id ≡ Some id = sym (ap (λ (b : Bool). cond b (Some t.id) None) here) ∙ sym (ap (λ (j : Option Joined). cond (is_on m (Parents p) (relation_of j)) (Some t.id) None) join) ∙ is in
            let same_id : t.id ≡ id = cc in
            filter_same (is_child_by m r t) (takes m (Children r) id)
            (λ s.
            ap (λ (j : Option Joined). has_relation (join_of m s) r && (is_parent_relation m j (join_of m s) && names_parent (join_of m s) t.id)) join
            ∙ child_by s own t.id (join_of m s) here
            ∙ ap (is_id (cond (is_on m (Children r) (relation_of (join_of m s))) (parent_of (join_of m s)) None)) same_id) live
        | inr other ↦
            absurd (let none : None ≡ Some id = sym (ap (λ (b : Bool). cond b (Some t.id) None) other) ∙ sym (ap (λ (j : Option Joined). cond (is_on m (Parents p) (relation_of j)) (Some t.id) None) join) ∙ is in let no : ⊥ = cc in no)
      ]

  pub no_children_of : (t : Tree) (live : List Tree) → id_on m (Parents p) t ≡ None → child_trees m live r (root t) ≡ []
  unfolding child_trees
  no_children_of t live is =
      filter_none (is_child_by m r t) (λ s. no_child_by (join_of m t) (join_of m s) t.id (off (is_on m (Parents p) (relation_of (join_of m t))) is)) live
    where
      off : (b : Bool) → cond b (Some t.id) None ≡ None → b ≡ false
      off true is = absurd (let none : ⊥ = cc in none)
      off false is = refl

-- ---- parents

module _ (m : Mapping) (p : ℕ) where
  pub parent_by_id : (s : Tree) (own : Joined) (id : List ℕ) (parent : Option Joined) → is_number (relation_at m own.relation).parent p ≡ true → own.parent ≡ Some id
      → (has_relation parent p && (is_parent_relation m parent (Some own) && names_parent (Some own) s.id)) ≡ is_id (cond (is_on m (Parents p) (relation_of parent)) (Some s.id) None) id
  parent_by_id s own id None number names = refl
  parent_by_id s own id (Some q) number names = elim (cases_Bool (q.relation == p)) [
    | inl here ↦
        let same : q.relation ≡ p = eqb-true q.relation p here in
        let is : is_number (relation_at m own.relation).parent q.relation ≡ true = ap (is_number (relation_at m own.relation).parent) same ∙ number in
        let ids : is_id own.parent s.id ≡ bytes_eq s.id id = ap (λ (x : Option (List ℕ)). is_id x s.id) names ∙ same_bytes id s.id in
        rw (here, is, ids) refl
    | inr other ↦ rw other refl
  ]

  pub off_parent : (s : Tree) (own : Joined) (parent : Option Joined) → is_number (relation_at m own.relation).parent p ≡ false → (has_relation parent p && (is_parent_relation m parent (Some own) && names_parent (Some own) s.id)) ≡ false
  off_parent s own None off = refl
  off_parent s own (Some q) off = elim (cases_Bool (q.relation == p)) [
    | inl here ↦
        let same : q.relation ≡ p = eqb-true q.relation p here in
        let is : is_number (relation_at m own.relation).parent q.relation ≡ false = ap (is_number (relation_at m own.relation).parent) same ∙ off in
        rw (here, is) refl
    | inr other ↦ rw other refl
  ]

  pub no_name : (s : Tree) (own : Joined) (parent : Option Joined) → own.parent ≡ None → (has_relation parent p && (is_parent_relation m parent (Some own) && names_parent (Some own) s.id)) ≡ false
  no_name s own parent none =
      ap (λ (x : Option (List ℕ)). has_relation parent p && (is_parent_relation m parent (Some own) && is_id x s.id)) none
      ∙ ap (λ (b : Bool). has_relation parent p && b) (and_no (is_parent_relation m parent (Some own)))
      ∙ and_no (has_relation parent p)

  -- the parents of a tree are those that take part by the id that it names
  pub parents_of : (t : Tree) (id : List ℕ) (live : List Tree) → id_on m (ChildrenOf p) t ≡ Some id → parent_trees m live p (root t) ≡ filter (takes m (Parents p) id) live
  unfolding parent_trees
  parents_of t id live is = by (join_of m t) refl
    where
      by : (own : Option Joined) → join_of m t ≡ own → filter (is_parent_by m p t) live ≡ filter (takes m (Parents p) id) live
      by None join = absurd (let none : None ≡ Some id = ap (λ (j : Option Joined). cond (is_on m (ChildrenOf p) (relation_of j)) (parent_of j) None) (sym join) ∙ is in let no : ⊥ = cc in no)
      by (Some own) join = elim (cases_Bool (is_number (relation_at m own.relation).parent p)) [
        | inl here ↦
            let names : own.parent ≡ Some id = sym (ap (λ (b : Bool). cond b own.parent None) here) ∙ sym (ap (λ (j : Option Joined). cond (is_on m (ChildrenOf p) (relation_of j)) (parent_of j) None) join) ∙ is in
            filter_same (is_parent_by m p t) (takes m (Parents p) id)
            (λ s.
            ap (λ (j : Option Joined). has_relation (join_of m s) p && (is_parent_relation m (join_of m s) j && names_parent j s.id)) join
            ∙ parent_by_id s own id (join_of m s) here names) live
        | inr other ↦
            absurd (let none : None ≡ Some id = sym (ap (λ (b : Bool). cond b own.parent None) other) ∙ sym (ap (λ (j : Option Joined). cond (is_on m (ChildrenOf p) (relation_of j)) (parent_of j) None) join) ∙ is in let no : ⊥ = cc in no)
      ]

  pub no_parents_of : (t : Tree) (live : List Tree) → id_on m (ChildrenOf p) t ≡ None → parent_trees m live p (root t) ≡ []
  unfolding parent_trees
  no_parents_of t live is = filter_none (is_parent_by m p t) (λ s. by s (join_of m t) refl) live
    where
      by : (s : Tree) (own : Option Joined) → join_of m t ≡ own → is_parent_by m p t s ≡ false
      by s None join =
          ap (λ (j : Option Joined). has_relation (join_of m s) p && (is_parent_relation m (join_of m s) j && names_parent j s.id)) join
          ∙ ap (λ (b : Bool). has_relation (join_of m s) p && b) (and_no (is_parent_relation m (join_of m s) None))
          ∙ and_no (has_relation (join_of m s) p)
      by s (Some own) join =
          ap (λ (j : Option Joined). has_relation (join_of m s) p && (is_parent_relation m (join_of m s) j && names_parent j s.id)) join
          ∙ elim (cases_Bool (is_number (relation_at m own.relation).parent p)) [
            | inl here ↦
                let none : own.parent ≡ None = sym (ap (λ (b : Bool). cond b own.parent None) here) ∙ sym (ap (λ (j : Option Joined). cond (is_on m (ChildrenOf p) (relation_of j)) (parent_of j) None) join) ∙ is in
                no_name s own (join_of m s) none
            | inr other ↦ off_parent s own (join_of m s) other
          ]

-- ---- what the trees of an entry are given

module _ (ids : List (List ℕ)) (m : Mapping) (from to : Side) (asked : Answer) (pairs : List (ℕ × ℕ)) (live : List Tree) (f given : Object → Option ℕ) where
  -- those that take part on the one side speak for each id, and what the other side is given goes by them
  pub record Speaks : Type 0 where
    pub scores : (k : ℕ) (id : List ℕ) → slice_get ids k ≡ Some id → scores_of k pairs ≡ scores_among f (takes m from id) live
    pub some : (t : Tree) (id : List ℕ) → id_on m to t ≡ Some id → given (root t) ≡ answer_of asked (scores_among f (takes m from id) live)
    pub none : (t : Tree) → id_on m to t ≡ None → given (root t) ≡ None

  answer_one : Speaks → (t : Marked Tree) (key : Option ℕ) → IsNumbered ids (side_id m to t) key → answer_for asked pairs key ≡ root_score given t
  answer_one speaks t key is = by_live t.live refl
    where
      by_live : (b : Bool) → t.live ≡ b → answer_for asked pairs key ≡ root_score given t
      by_live false dead =
          by_dead key (subst (λ (b : Bool). IsNumbered ids (cond b (id_on m to t.item) None) key) dead is) ∙ sym (ap (λ (b : Bool). cond b (given (root t.item)) None) dead)
        where
          by_dead : (key : Option ℕ) → IsNumbered ids None key → answer_for asked pairs key ≡ None
          by_dead None own = refl
          by_dead (Some k) own = absurd own
      by_live true alive =
          by_id (id_on m to t.item) refl key (subst (λ (b : Bool). IsNumbered ids (cond b (id_on m to t.item) None) key) alive is) ∙ sym (ap (λ (b : Bool). cond b (given (root t.item)) None) alive)
        where
          by_id : (id : Option (List ℕ)) → id_on m to t.item ≡ id → (key : Option ℕ) → IsNumbered ids (id_on m to t.item) key → answer_for asked pairs key ≡ given (root t.item)
          by_id None own None number = sym (speaks.none t.item own)
          by_id None own (Some k) number = absurd (let no : IsNumbered ids None (Some k) = subst (λ (x : Option (List ℕ)). IsNumbered ids x (Some k)) own number in no)
          by_id (Some id) own None number = absurd (let no : IsNumbered ids (Some id) None = subst (λ (x : Option (List ℕ)). IsNumbered ids x None) own number in no)
          by_id (Some id) own (Some k) number =
              let place : slice_get ids k ≡ Some id = subst (λ (x : Option (List ℕ)). IsNumbered ids x (Some k)) own number in
              ap (answer_of asked) (speaks.scores k id place) ∙ sym (speaks.some t.item id own)

  pub answers_are : Speaks → (trees : List (Marked Tree)) (keys : List (Option ℕ)) → Number ids (map (side_id m to) trees) keys → map (answer_for asked pairs) keys ≡ map (root_score given) trees
  answers_are speaks [] [] is = refl
  answers_are speaks [] (key ∷ keys) is = absurd is
  answers_are speaks (t ∷ trees) [] is = absurd is
  answers_are speaks (t ∷ trees) (key ∷ keys) is =
      ap (λ (x : Option ℕ). x ∷ map (answer_for asked pairs) keys) (answer_one speaks t key is.0)
      ∙ ap (λ (l : List (Option ℕ)). root_score given t ∷ l) (answers_are speaks trees keys is.1)
