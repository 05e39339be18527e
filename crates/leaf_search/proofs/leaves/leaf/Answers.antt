use Rattle.std.proofs.Common.{◌≡◌, ℕ, Bool as Flag, List, Option, Some, refl, sym, ap, subst, ◌∙◌}
use Rattle.std.proofs.lemmas.Option.{same_Some}
use Rattle.query_ast.specs.Clause.{Leaf, ids, on_field, parent_id, is_among, begins_with}
use Rattle.query_ast.specs.Clause.View.{clause_of}
use Rattle.query_ast.specs.declared.query.Query.{Query}
use Rattle.query_ast.specs.declared.query.Query.TheVariants.{MatchAll, MatchNone, Ids, Term, Terms, Range, Exists, Prefix, MatchWords, MatchPhrase, Bool, ConstantScore, DisMax, Nested, ToChild, HasChild, HasParent, ParentId}
use Rattle.query_ast.specs.declared.query.RangeEnd.{RangeEnd}
use Rattle.tree_objects.specs.declared.field_value.FieldValue.{FieldValue}
use Rattle.leaf_search.specs.Found.{Finds, leaf_of}
use Rattle.leaf_search.proofs.leaves.leaf.Goals as goal

-- a query of none of these forms is no leaf
no_leaf : (q : Query) → ((boost : ℕ) → q ≡ MatchAll boost → ⊥) → (q ≡ MatchNone → ⊥) → ((listed : List (List ℕ)) (boost : ℕ) → q ≡ Ids listed boost → ⊥)
    → ((field : Option ℕ) (value : FieldValue) (boost : ℕ) → q ≡ Term field value boost → ⊥) → ((field : Option ℕ) (values : List FieldValue) (boost : ℕ) → q ≡ Terms field values boost → ⊥)
    → ((field : Option ℕ) (low high : RangeEnd) (boost : ℕ) → q ≡ Range field low high boost → ⊥) → ((field : Option ℕ) (boost : ℕ) → q ≡ Exists field boost → ⊥) → ((field : Option ℕ) (start : List ℕ) (boost : ℕ) → q ≡ Prefix field start boost → ⊥)
    → ((field : Option ℕ) (value : FieldValue) (all : Flag) (boost : ℕ) → q ≡ MatchWords field value all boost → ⊥) → ((field : Option ℕ) (value : FieldValue) (boost : ℕ) → q ≡ MatchPhrase field value boost → ⊥)
    → ((child : Option ℕ) (id : List ℕ) (boost : ℕ) → q ≡ ParentId child id boost → ⊥) → (l : Leaf) → leaf_of (clause_of q) ≡ Some l → ⊥
no_leaf (MatchAll boost) a b c d e f g h i j k l is = a boost refl
no_leaf MatchNone a b c d e f g h i j k l is = b refl
no_leaf (Ids listed boost) a b c d e f g h i j k l is = c listed boost refl
no_leaf (Term field value boost) a b c d e f g h i j k l is = d field value boost refl
no_leaf (Terms field values boost) a b c d e f g h i j k l is = e field values boost refl
no_leaf (Range field low high boost) a b c d e f g h i j k l is = f field low high boost refl
no_leaf (Exists field boost) a b c d e f g h i j k l is = g field boost refl
no_leaf (Prefix field start boost) a b c d e f g h i j k l is = h field start boost refl
no_leaf (MatchWords field value all boost) a b c d e f g h i j k l is = i field value all boost refl
no_leaf (MatchPhrase field value boost) a b c d e f g h i j k l is = j field value boost refl
no_leaf (Bool must filter should must_not least) a b c d e f g h i j k l is = let no : ⊥ = cc in no
no_leaf (ConstantScore filter boost) a b c d e f g h i j k l is = let no : ⊥ = cc in no
no_leaf (DisMax queries) a b c d e f g h i j k l is = let no : ⊥ = cc in no
no_leaf (Nested scope query mode) a b c d e f g h i j k l is = let no : ⊥ = cc in no
no_leaf (ToChild scope query) a b c d e f g h i j k l is = let no : ⊥ = cc in no
no_leaf (HasChild child query mode least most) a b c d e f g h i j k l is = let no : ⊥ = cc in no
no_leaf (HasParent parent query score boost) a b c d e f g h i j k l is = let no : ⊥ = cc in no
no_leaf (ParentId child id boost) a b c d e f g h i j k l is = k child id boost refl

-- the leaf that a query is, by its form
leaf_is : (q form : Query) (own l : Leaf) → q ≡ form → leaf_of (clause_of form) ≡ Some own → leaf_of (clause_of q) ≡ Some l → own ≡ l
leaf_is q form own l is says e = same_Some own l (sym says ∙ sym (ap (λ (q : Query). leaf_of (clause_of q)) is) ∙ e)

pub returns-in_ok-all-in-MatchAll : goal.returns-in_ok-all-in-MatchAll
returns-in_ok-all-in-MatchAll c = λ l e.
    subst (λ (l : Leaf). Finds c.args.mapping.now c.args.segment.now c.args.live.now c.args.scope l c.in_ok-all-in-MatchAll.field-0) (leaf_is c.args.query.now _ _ l c.in-MatchAll.is refl e)
    (c.in_ok-all-in-MatchAll.ensures c.args.mapping.now)

pub returns-in_ok-none-in-MatchNone : goal.returns-in_ok-none-in-MatchNone
returns-in_ok-none-in-MatchNone c = λ l e.
    subst (λ (l : Leaf). Finds c.args.mapping.now c.args.segment.now c.args.live.now c.args.scope l c.in_ok-none-in-MatchNone.field-0) (leaf_is c.args.query.now _ _ l c.in-MatchNone.is refl e)
    (c.in_ok-none-in-MatchNone.ensures c.args.mapping.now)

pub returns-in_ok-with_ids-in-Ids : goal.returns-in_ok-with_ids-in-Ids
returns-in_ok-with_ids-in-Ids c = λ l e.
    subst (λ (l : Leaf). Finds c.args.mapping.now c.args.segment.now c.args.live.now c.args.scope l c.in_ok-with_ids-in-Ids.field-0) (leaf_is c.args.query.now _ _ l c.in-Ids.is refl e)
    (subst (λ (x : List (List ℕ)). Finds c.args.mapping.now c.args.segment.now c.args.live.now c.args.scope (ids x) c.in_ok-with_ids-in-Ids.field-0) c.as_slice.ensures (c.in_ok-with_ids-in-Ids.ensures c.args.mapping.now))

pub returns-in_ok-term-in-Term : goal.returns-in_ok-term-in-Term
returns-in_ok-term-in-Term c = λ l e.
    subst (λ (l : Leaf). Finds c.args.mapping.now c.args.segment.now c.args.live.now c.args.scope l c.in_ok-term-in-Term.field-0) (leaf_is c.args.query.now _ _ l c.in-Term.is refl e)
    (c.in_ok-term-in-Term.ensures c.args.mapping.now)

pub returns-in_ok-terms-in-Terms : goal.returns-in_ok-terms-in-Terms
returns-in_ok-terms-in-Terms c = λ l e.
    subst (λ (l : Leaf). Finds c.args.mapping.now c.args.segment.now c.args.live.now c.args.scope l c.in_ok-terms-in-Terms.field-0) (leaf_is c.args.query.now _ _ l c.in-Terms.is refl e)
    (subst (λ (x : List FieldValue). Finds c.args.mapping.now c.args.segment.now c.args.live.now c.args.scope (on_field c.in-Terms.field (is_among x)) c.in_ok-terms-in-Terms.field-0) c.as_slice-in-Terms.ensures (c.in_ok-terms-in-Terms.ensures c.args.mapping.now))

pub returns-in_ok-range-in-Range : goal.returns-in_ok-range-in-Range
returns-in_ok-range-in-Range c = λ l e.
    subst (λ (l : Leaf). Finds c.args.mapping.now c.args.segment.now c.args.live.now c.args.scope l c.in_ok-range-in-Range.field-0) (leaf_is c.args.query.now _ _ l c.in-Range.is refl e)
    (c.in_ok-range-in-Range.ensures c.args.mapping.now)

pub returns-in_ok-existing-in-Exists : goal.returns-in_ok-existing-in-Exists
returns-in_ok-existing-in-Exists c = λ l e.
    subst (λ (l : Leaf). Finds c.args.mapping.now c.args.segment.now c.args.live.now c.args.scope l c.in_ok-existing-in-Exists.field-0) (leaf_is c.args.query.now _ _ l c.in-Exists.is refl e)
    (c.in_ok-existing-in-Exists.ensures)

pub returns-in_ok-prefix-in-Prefix : goal.returns-in_ok-prefix-in-Prefix
returns-in_ok-prefix-in-Prefix c = λ l e.
    subst (λ (l : Leaf). Finds c.args.mapping.now c.args.segment.now c.args.live.now c.args.scope l c.in_ok-prefix-in-Prefix.field-0) (leaf_is c.args.query.now _ _ l c.in-Prefix.is refl e)
    (subst (λ (x : List ℕ). Finds c.args.mapping.now c.args.segment.now c.args.live.now c.args.scope (on_field c.in-Prefix.field (begins_with x)) c.in_ok-prefix-in-Prefix.field-0) c.as_slice-in-Prefix.ensures (c.in_ok-prefix-in-Prefix.ensures c.args.mapping.now))

pub returns-in_ok-words-in-MatchWords : goal.returns-in_ok-words-in-MatchWords
returns-in_ok-words-in-MatchWords c = λ l e.
    subst (λ (l : Leaf). Finds c.args.mapping.now c.args.segment.now c.args.live.now c.args.scope l c.in_ok-words-in-MatchWords.field-0) (leaf_is c.args.query.now _ _ l c.in-MatchWords.is refl e)
    (c.in_ok-words-in-MatchWords.ensures)

pub returns-in_ok-phrase-in-MatchPhrase : goal.returns-in_ok-phrase-in-MatchPhrase
returns-in_ok-phrase-in-MatchPhrase c = λ l e.
    subst (λ (l : Leaf). Finds c.args.mapping.now c.args.segment.now c.args.live.now c.args.scope l c.in_ok-phrase-in-MatchPhrase.field-0) (leaf_is c.args.query.now _ _ l c.in-MatchPhrase.is refl e)
    (c.in_ok-phrase-in-MatchPhrase.ensures)

pub returns-in_ok-children-in-ParentId : goal.returns-in_ok-children-in-ParentId
returns-in_ok-children-in-ParentId c = λ l e.
    subst (λ (l : Leaf). Finds c.args.mapping.now c.args.segment.now c.args.live.now c.args.scope l c.in_ok-children-in-ParentId.field-0) (leaf_is c.args.query.now _ _ l c.in-ParentId.is refl e)
    (subst (λ (x : List ℕ). Finds c.args.mapping.now c.args.segment.now c.args.live.now c.args.scope (parent_id c.in-ParentId.child x) c.in_ok-children-in-ParentId.field-0) c.as_slice-in-ParentId.ensures (c.in_ok-children-in-ParentId.ensures c.args.mapping.now))

pub returns-in_ok-none-in_default : goal.returns-in_ok-none-in_default
returns-in_ok-none-in_default c = λ l e.
    absurd (no_leaf c.args.query.now c.in_default.not-MatchAll c.in_default.not-MatchNone c.in_default.not-Ids c.in_default.not-Term c.in_default.not-Terms c.in_default.not-Range c.in_default.not-Exists c.in_default.not-Prefix
    c.in_default.not-MatchWords c.in_default.not-MatchPhrase c.in_default.not-ParentId l e)
