-- Two trees are joined exactly where their roots have one key.
use Rattle.std.proofs.Common.{◌≡◌, ℕ, ◌==◌, ◌<◌, Bool, true, false, ◌&&◌, cond, List, [], ◌∷◌, length, get_or, slice_get, zero, suc, Option, Some, None, refl, sym, ap, subst, ◌∙◌, inl, inr, arith}
use Rattle.std.proofs.lemmas.Bool.{cases_Bool}
use Rattle.flattener.specs.StandsFor.{Marked}
use Rattle.join_ordinals.specs.Ordinals.{AreOrdinals, IsNumbered, Ordinals, StandOnce}
use Rattle.mapping.specs.Mapping.{Mapping, relation_at}
use Rattle.query_ast.specs.Joined.{has_relation, is_child_by, is_id, is_number, is_parent_by, is_parent_relation, names_parent}
use Rattle.segment.specs.Live.{EntryState}
use Rattle.tree_objects.specs.Tree.{Tree}
use Rattle.tree_objects.specs.Values.{Joined, join_of}
use Rattle.query_eval.specs.Meeting.{IsLiveRoot, meet}
use Rattle.query_eval.specs.Sides.{is_on, key_at}
use Rattle.query_eval.specs.declared.side.Side.{Side}
use Rattle.query_eval.specs.declared.side.Side.TheVariants.{Children, ChildrenOf, Parents}
use Rattle.query_eval.proofs.Joined.{and_no, child_by, no_child_by, no_name, off_parent, parent_by_id}
use Rattle.query_eval.proofs.Keys.{entry_number, id_on, parent_of, relation_of, same_key, side_id}

-- the second id is the first
abbrev same_id : Option (List ℕ) → Option (List ℕ) → Bool
same_id None other = false
same_id (Some id) other = is_id other id

keys_same : (ids : List (List ℕ)) (a b : Option (List ℕ)) (i j : Option ℕ) → StandOnce ids → IsNumbered ids a i → IsNumbered ids b j → meet i j ≡ same_id a b
keys_same ids None b None j once one two = refl
keys_same ids None b (Some i) j once one two = absurd one
keys_same ids (Some x) b None j once one two = absurd one
keys_same ids (Some x) None (Some i) None once one two = refl
keys_same ids (Some x) None (Some i) (Some j) once one two = absurd two
keys_same ids (Some x) (Some y) (Some i) None once one two = absurd two
keys_same ids (Some x) (Some y) (Some i) (Some j) once one two = same_key ids j i y x once two one

-- ---- trees by their ids

abbrev child_test : Mapping → ℕ → Tree → Tree → Option Joined → Bool
child_test m r t c j = has_relation (join_of m c) r && (is_parent_relation m j (join_of m c) && names_parent (join_of m c) t.id)

abbrev child_met : Mapping → ℕ → ℕ → Tree → Tree → Option Joined → Bool
child_met m r p t c j = same_id (cond (is_on m (Parents p) (relation_of j)) (Some t.id) None) (id_on m (Children r) c)

abbrev parent_test : Mapping → ℕ → Tree → Option Joined → Bool
parent_test m p q j = has_relation (join_of m q) p && (is_parent_relation m (join_of m q) j && names_parent j q.id)

abbrev parent_met : Mapping → ℕ → Tree → Option Joined → Bool
parent_met m p q j = same_id (cond (is_on m (ChildrenOf p) (relation_of j)) (parent_of j) None) (id_on m (Parents p) q)

module _ (m : Mapping) (r p : ℕ) (parent : (relation_at m r).parent ≡ Some p) (t c : Tree) where
  child_meets : is_child_by m r t c ≡ same_id (id_on m (Parents p) t) (id_on m (Children r) c)
  child_meets = by (join_of m t) refl
    where
      by : (own : Option Joined) → join_of m t ≡ own → is_child_by m r t c ≡ same_id (id_on m (Parents p) t) (id_on m (Children r) c)
      by None join = ap (child_test m r t c) join ∙ no_child_by m r p parent None (join_of m c) t.id refl ∙ sym (ap (child_met m r p t c) join)
      by (Some own) join = elim (cases_Bool (own.relation == p)) [
        | inl here ↦
            ap (child_test m r t c) join ∙ child_by m r p parent t own t.id (join_of m c) here
            ∙ sym (ap (child_met m r p t c) join ∙ ap (λ (b : Bool). same_id (cond b (Some t.id) None) (id_on m (Children r) c)) here)
        | inr other ↦
            ap (child_test m r t c) join ∙ no_child_by m r p parent (Some own) (join_of m c) t.id other
            ∙ sym (ap (child_met m r p t c) join ∙ ap (λ (b : Bool). same_id (cond b (Some t.id) None) (id_on m (Children r) c)) other)
      ]

module _ (m : Mapping) (p : ℕ) (t q : Tree) where
  parent_meets : is_parent_by m p t q ≡ same_id (id_on m (ChildrenOf p) t) (id_on m (Parents p) q)
  parent_meets = by (join_of m t) refl
    where
      named : (own : Joined) (id : Option (List ℕ)) → own.parent ≡ id → is_number (relation_at m own.relation).parent p ≡ true → parent_test m p q (Some own) ≡ same_id id (id_on m (Parents p) q)
      named own None names number = no_name m p q own (join_of m q) names
      named own (Some id) names number = parent_by_id m p q own id (join_of m q) number names

      by : (own : Option Joined) → join_of m t ≡ own → is_parent_by m p t q ≡ same_id (id_on m (ChildrenOf p) t) (id_on m (Parents p) q)
      by None join =
          ap (parent_test m p q) join
          ∙ ap (λ (b : Bool). has_relation (join_of m q) p && b) (and_no (is_parent_relation m (join_of m q) None))
          ∙ and_no (has_relation (join_of m q) p)
          ∙ sym (ap (parent_met m p q) join)
      by (Some own) join = elim (cases_Bool (is_number (relation_at m own.relation).parent p)) [
        | inl here ↦
            ap (parent_test m p q) join ∙ named own own.parent refl here
            ∙ sym (ap (parent_met m p q) join ∙ ap (λ (b : Bool). same_id (cond b own.parent None) (id_on m (Parents p) q)) here)
        | inr other ↦
            ap (parent_test m p q) join ∙ off_parent m p q own (join_of m q) other
            ∙ sym (ap (parent_met m p q) join ∙ ap (λ (b : Bool). same_id (cond b own.parent None) (id_on m (Parents p) q)) other)
      ]

-- ---- roots by their keys

module _ (m : Mapping) (view : List EntryState) (ordinals : Ordinals) (o : AreOrdinals view ordinals) where
  tree_at : (trees : List (Marked Tree)) (root : ℕ) (t : Marked Tree) → slice_get trees root ≡ Some t → (root < length trees) × (get_or trees root t ≡ t)
  tree_at [] root t is = absurd (let no : ⊥ = cc in no)
  tree_at (x ∷ trees) zero t is = (omega arith, (let same : x ≡ t = cc in same))
  tree_at (x ∷ trees) (suc root) t is = let more = tree_at trees root t is in (omega (arith, more.0), more.1)

  live_number : (side : Side) (place root : ℕ) (t : Tree) (it : IsLiveRoot m view place root t) → IsNumbered o.ids (id_on m side t) (key_at m ordinals side it.entry.columns place root)
  live_number side place root t it =
      let there = tree_at it.trees root (record { item = t; live = true }) it.tree_at in
      subst (λ (x : Marked Tree). IsNumbered o.ids (side_id m side x) (key_at m ordinals side it.entry.columns place root)) there.1
      (entry_number view ordinals o m side place it.entry it.trees it.at it.stands root (record { item = t; live = true }) there.0)

  pub children_meet : (relation parent place root other other_root : ℕ) (t c : Tree) (one : IsLiveRoot m view place root t) (two : IsLiveRoot m view other other_root c) → (relation_at m relation).parent ≡ Some parent
      → is_child_by m relation t c ≡ meet (key_at m ordinals (Parents parent) one.entry.columns place root) (key_at m ordinals (Children relation) two.entry.columns other other_root)
  children_meet relation parent place root other other_root t c one two is =
      child_meets m relation parent is t c
      ∙ sym (keys_same o.ids (id_on m (Parents parent) t) (id_on m (Children relation) c) (key_at m ordinals (Parents parent) one.entry.columns place root) (key_at m ordinals (Children relation) two.entry.columns other other_root) o.once
      (live_number (Parents parent) place root t one) (live_number (Children relation) other other_root c two))

  pub parents_meet : (relation place root other other_root : ℕ) (t q : Tree) (one : IsLiveRoot m view place root t) (two : IsLiveRoot m view other other_root q)
      → is_parent_by m relation t q ≡ meet (key_at m ordinals (ChildrenOf relation) one.entry.columns place root) (key_at m ordinals (Parents relation) two.entry.columns other other_root)
  parents_meet relation place root other other_root t q one two =
      parent_meets m relation t q
      ∙ sym (keys_same o.ids (id_on m (ChildrenOf relation) t) (id_on m (Parents relation) q) (key_at m ordinals (ChildrenOf relation) one.entry.columns place root) (key_at m ordinals (Parents relation) two.entry.columns other other_root) o.once
      (live_number (ChildrenOf relation) place root t one) (live_number (Parents relation) other other_root q two))
