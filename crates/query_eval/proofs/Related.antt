-- Roots of one child relation, by their parents.
use Rattle.std.proofs.Common.{◌≡◌, ℕ, ◌==◌, Bool, true, false, ◌&&◌, cond, List, [], ◌∷◌, Option, Some, None, is_some, refl, sym, ap, ◌∙◌, inl, inr, arith}
use Rattle.std.specs.List.{list_any}
use Rattle.std.proofs.lemmas.Bool.{cases_Bool, eqb-true}
use Rattle.join_ordinals.specs.Ordinals.{AreOrdinals, Ordinals}
use Rattle.mapping.specs.IsMapping.{IsMapping}
use Rattle.mapping.specs.Mapping.{Mapping, relation_at}
use Rattle.query_ast.specs.Hit.{parent_score}
use Rattle.query_ast.specs.Joined.{has_relation, is_child_by, is_id, is_number, is_parent_relation, names_parent}
use Rattle.segment.specs.Live.{EntryState}
use Rattle.tree_objects.specs.Object.{Object, root}
use Rattle.tree_objects.specs.Tree.{Tree}
use Rattle.tree_objects.specs.Values.{Joined, join_of}
use Rattle.query_eval.specs.Found.{AreLong, IsSeen, live_trees}
use Rattle.query_eval.specs.Sides.{by_relation, given_by, has_given_parent, is_on, told_by}
use Rattle.query_eval.specs.declared.side.Side.TheVariants.{Parents, Children}
use Rattle.query_eval.specs.declared.answer.Answer.TheVariants as answer
use Rattle.query_eval.proofs.Entries.{Scores}
use Rattle.query_eval.proofs.Joined.{same_bytes}
use Rattle.query_eval.proofs.Keys.{id_on, parent_of, relation_of, scores_among, takes}
use Rattle.query_eval.proofs.Rooted.{OneRoot, given_view, told_is, whole_view}

abbrev if_some : Bool → Option ℕ
if_some b = cond b (Some 1) None

-- a boost stands in the place of the scores, if there are any
any_scores : (f : Object → Option ℕ) (test : Tree → Bool) (trees : List Tree) → parent_score false 1 (scores_among f test trees) ≡ if_some (list_any (λ s. test s && is_some (f (root s))) trees)
any_scores f test [] = refl
any_scores f test (t ∷ trees) = by (test t) (f (root t)) refl refl (any_scores f test trees)
  where
    by : (held : Bool) (score : Option ℕ) → test t ≡ held → f (root t) ≡ score → parent_score false 1 (scores_among f test trees) ≡ if_some (list_any (λ s. test s && is_some (f (root s))) trees)
        → parent_score false 1 (scores_among f test (t ∷ trees)) ≡ if_some (list_any (λ s. test s && is_some (f (root s))) (t ∷ trees))
    by false score is own rest = rw is rest
    by true None is own rest = rw (is, own) rest
    by true (Some s) is own rest = rw (is, own) refl

any_alike : (one other : Tree → Bool) → ((t : Tree) → one t ≡ other t) → (trees : List Tree) → list_any one trees ≡ list_any other trees
any_alike one other same [] = refl
any_alike one other same (t ∷ trees) = rw (same t, any_alike one other same trees) refl

none_of : (test : Tree → Bool) → ((t : Tree) → test t ≡ false) → (trees : List Tree) → list_any test trees ≡ false
none_of test never [] = refl
none_of test never (t ∷ trees) = rw (never t) (none_of test never trees)

eqb-back : (a b : ℕ) → (a == b) ≡ (b == a)
eqb-back a b = grind arith

module _ (m : Mapping) (r p : ℕ) (parent : (relation_at m r).parent ≡ Some p) where
  -- a parent is known by the id that a child of the relation names
  parent_by_name : (s : Tree) (own : Joined) (id : List ℕ) (other : Option Joined) → (own.relation == r) ≡ true → own.parent ≡ Some id
      → (is_parent_relation m other (Some own) && names_parent (Some own) s.id) ≡ is_id (cond (is_on m (Parents p) (relation_of other)) (Some s.id) None) id
  parent_by_name s own id None here names = refl
  parent_by_name s own id (Some q) here names =
      let same : own.relation ≡ r = eqb-true own.relation r here in
      let number : is_number (relation_at m own.relation).parent q.relation ≡ (q.relation == p) =
      ap (λ (n : ℕ). is_number (relation_at m n).parent q.relation) same
      ∙ ap (λ (x : Option ℕ). is_number x q.relation) parent
      ∙ eqb-back p q.relation in
      let ids : is_id own.parent s.id ≡ is_id (Some s.id) id = ap (λ (x : Option (List ℕ)). is_id x s.id) names ∙ same_bytes id s.id in
      elim (cases_Bool (q.relation == p)) [
        | inl on ↦ rw (number, on, ids) refl
        | inr off ↦ rw (number, off) refl
      ]

  no_parent_named : (own other : Option Joined) (id : List ℕ) → cond (is_on m (Children r) (relation_of own)) (parent_of own) None ≡ None → (has_relation own r && (is_parent_relation m other own && names_parent own id)) ≡ false
  no_parent_named None other id is = refl
  no_parent_named (Some own) other id is = by (own.relation == r) own.parent refl refl
    where
      and_no : (b : Bool) → (b && false) ≡ false
      and_no true = refl
      and_no false = refl

      by : (here : Bool) (name : Option (List ℕ)) → (own.relation == r) ≡ here → own.parent ≡ name → (has_relation (Some own) r && (is_parent_relation m other (Some own) && names_parent (Some own) id)) ≡ false
      by false name on names = rw on refl
      by true None on names =
          ap (λ (b : Bool). b && (is_parent_relation m other (Some own) && is_id own.parent id)) on
          ∙ ap (λ (x : Option (List ℕ)). is_parent_relation m other (Some own) && is_id x id) names
          ∙ and_no (is_parent_relation m other (Some own))
      by true (Some k) on names = absurd (let some : Some k ≡ None = sym names ∙ sym (ap (λ (b : Bool). cond b own.parent None) on) ∙ is in let no : ⊥ = cc in no)

  -- what a root that takes part as a child is given
  named_given : (f : Object → Option ℕ) (live : List Tree) (t : Tree) (id : List ℕ) → id_on m (Children r) t ≡ Some id
      → if_some (has_given_parent m r live f (root t)) ≡ parent_score false 1 (scores_among f (takes m (Parents p) id) live)
  named_given f live t id is = by (join_of m t) refl
    where
      by : (own : Option Joined) → join_of m t ≡ own → if_some (has_given_parent m r live f (root t)) ≡ parent_score false 1 (scores_among f (takes m (Parents p) id) live)
      by None join = absurd (let none : None ≡ Some id = ap (λ (j : Option Joined). cond (is_on m (Children r) (relation_of j)) (parent_of j) None) (sym join) ∙ is in let no : ⊥ = cc in no)
      by (Some own) join = elim (cases_Bool (own.relation == r)) [
        | inl here ↦
            let names : own.parent ≡ Some id = sym (ap (λ (b : Bool). cond b own.parent None) here) ∙ sym (ap (λ (j : Option Joined). cond (is_on m (Children r) (relation_of j)) (parent_of j) None) join) ∙ is in
            ap if_some
            (any_alike (λ s. is_child_by m r s t && is_some (f (root s))) (λ s. takes m (Parents p) id s && is_some (f (root s)))
            (λ s. ap (λ (b : Bool). b && is_some (f (root s)))
            (ap (λ (j : Option Joined). has_relation j r && (is_parent_relation m (join_of m s) j && names_parent j s.id)) join
            ∙ ap (λ (b : Bool). b && (is_parent_relation m (join_of m s) (Some own) && names_parent (Some own) s.id)) here
            ∙ parent_by_name s own id (join_of m s) here names)) live)
            ∙ sym (any_scores f (takes m (Parents p) id) live)
        | inr other ↦
            absurd (let none : None ≡ Some id = sym (ap (λ (b : Bool). cond b own.parent None) other) ∙ sym (ap (λ (j : Option Joined). cond (is_on m (Children r) (relation_of j)) (parent_of j) None) join) ∙ is in let no : ⊥ = cc in no)
      ]

  unnamed_given : (f : Object → Option ℕ) (live : List Tree) (t : Tree) → id_on m (Children r) t ≡ None → if_some (has_given_parent m r live f (root t)) ≡ None
  unnamed_given f live t is =
      ap if_some
      (none_of (λ s. is_child_by m r s t && is_some (f (root s)))
      (λ s. ap (λ (b : Bool). b && is_some (f (root s))) (no_parent_named (join_of m t) (join_of m s) s.id is)) live)

module _ (one_root : OneRoot) (view : List EntryState) (ordinals : Ordinals) (o : AreOrdinals view ordinals) (m : Mapping) (is : IsMapping m) (hits made : List Scores) (given : List Tree → Object → Option ℕ) (long : AreLong view made) (seen_hits : IsSeen m view 0 given hits) where
  pub seen_by_relation : (r p : ℕ) → (relation_at m r).parent ≡ Some p → made ≡ given_by m ordinals (Children r) (answer.Parent false 1) (told_by m ordinals (Parents p) 0 view hits) 0 view → IsSeen m view 0 (by_relation m r given) made
  seen_by_relation r p parent is_given = record {
    long = long;
    are = λ trees stand.
        let live : List Tree = live_trees trees in
        let f : Object → Option ℕ = given live in
        is_given
        ∙ given_view one_root view ordinals o m is (Parents p) (Children r) (answer.Parent false 1) (told_by m ordinals (Parents p) 0 view hits) live f (by_relation m r given live)
        (record {
          scores = told_is one_root view ordinals o m is hits made given long seen_hits (Parents p) trees stand;
          some = λ t id own. named_given m r p parent f live t id own;
          none = λ t own. unnamed_given m r p parent f live t own;
        })
        0 view trees (whole_view view) stand;
  }
