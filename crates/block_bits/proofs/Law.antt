-- The enclosing document and the child range.
use Rattle.std.proofs.Common.{◌≡◌, ℕ, zero, suc, ◌+◌, ◌<◌, ◌≤◌, Bool, true, List, length, get_or, Option, Some, None, is_some, refl, sym, ap, subst, ◌∙◌, inl, inr, arith, eqb}
use Rattle.std.specs.Option.{option_map_or, IfSome}
use Rattle.std.proofs.lemmas.Bool.{cases_lt, cases_eq, or_cases, eqb-true, eq-eqb, false≢true, true≢false}
use Rattle.block_bits.specs.Flags.{is_marked}
use Rattle.block_bits.specs.Places.{next_place, previous_place}
use Rattle.block_bits.specs.Scopes.{enclosing, is_above, is_above_within, IsScopeTree}
use Rattle.block_bits.specs.Blocks.{IsBlocks, Nesting, scope_at, has_scope, documents_of, enclosing_document, child_start}
use Rattle.block_bits.specs.Seen.{IsNested, scopes_seen}
use Rattle.block_bits.proofs.Above.{split_option, above_lt}
use Rattle.block_bits.proofs.Places.{next_place-is, next_place-first, next_place-some, previous_place-is, previous_place-empty, previous_place-map}
use Rattle.block_bits.proofs.Scoped.{set_read, scope_in_range}
use Rattle.block_bits.proofs.Nested.{next_in_set, first_of}

-- a later document of a scope
pub record IsLaterOf (scopes : List ℕ) (scope doc at : ℕ) : Type 0 where
  pub later : doc < at
  pub within : at < length scopes
  pub of_scope : scope_at scopes at ≡ scope

-- in blocks each document has a later one of every scope above its own
later_above : (parents : List (Option ℕ)) (scopes : List ℕ) (steps upper doc : ℕ) → IsBlocks parents scopes → doc < length scopes
    → is_above_within parents steps upper (scope_at scopes doc) ≡ true → (at : ℕ) × IsLaterOf scopes upper doc at
later_above parents scopes zero upper doc blocks h above = absurd (false≢true above)
later_above parents scopes (suc steps) upper doc blocks h above = elim (split_option (enclosing parents (scope_at scopes doc))) [
  | inl none ↦ absurd (false≢true (rw none at above))
  | inr some ↦
      let around = blocks.enclosed doc some.0 h some.1 in
      elim (or_cases (eqb some.0 upper) (is_above_within parents steps upper some.0) (rw some.1 at above)) [
        | inl here ↦ (around.0, record { later = around.1.later; within = around.1.within; of_scope = around.1.of_outer ∙ eqb-true some.0 upper here })
        | inr further ↦
            let rest = later_above parents scopes steps upper around.0 blocks around.1.within (ap (is_above_within parents steps upper) around.1.of_outer ∙ further) in
            (rest.0, record { later = omega (arith, around.1.later, rest.1.later); within = rest.1.within; of_scope = rest.1.of_scope })
      ]
]

pub found_above : (parents : List (Option ℕ)) (scopes : List ℕ) (doc scope : ℕ) → IsBlocks parents scopes → doc < length scopes
    → is_above parents scope (scope_at scopes doc) ≡ true → is_some (next_place (has_scope scope) (doc + 1) scopes) ≡ true
found_above parents scopes doc scope blocks h above =
    let at = later_above parents scopes (scope_at scopes doc) scope doc blocks h above in
    next_place-some (has_scope scope) (doc + 1) at.0 scopes 0 (omega (arith, at.1.later)) at.1.within (eq-eqb (scope_at scopes at.0) scope at.1.of_scope)

-- ---- a document below `scope` is in the range of `parent` exactly where `parent` is its enclosing document

-- the range of `parent` begins after the previous document of `scope`
pub record IsRangeOf (parents : List (Option ℕ)) (scopes : List ℕ) (parent scope doc : ℕ) : Type 0 where
  pub tree : IsScopeTree parents
  pub parent_within : parent < length scopes
  pub of_scope : scope_at scopes parent ≡ scope
  pub doc_within : doc < length scopes
  pub above : is_above parents scope (scope_at scopes doc) ≡ true

pub inside_from_range : (parents : List (Option ℕ)) (scopes : List ℕ) (parent scope doc : ℕ) → IsRangeOf parents scopes parent scope doc
    → child_start record { parents = parents; scopes = scopes } parent scope ≤ doc → doc < parent → next_place (has_scope scope) (doc + 1) scopes ≡ Some parent
inside_from_range parents scopes parent scope doc range low high =
    next_place-first (has_scope scope) (doc + 1) parent scopes 0 (omega arith) range.parent_within
    (λ k later before. elim (split_option (previous_place (has_scope scope) parent scopes)) [
      | inl none ↦ previous_place-empty (has_scope scope) parent scopes 0 none k before (omega (arith, range.parent_within))
      | inr some ↦
          let from : some.0 + 1 ≤ doc = rw some.1 at low in
          (previous_place-is (has_scope scope) parent scopes 0 some.0 some.1).after k (omega arith) before (omega (arith, range.parent_within))
    ])
    (eq-eqb (scope_at scopes parent) scope range.of_scope)

pub range_from_inside : (parents : List (Option ℕ)) (scopes : List ℕ) (parent scope doc : ℕ) → IsRangeOf parents scopes parent scope doc
    → next_place (has_scope scope) (doc + 1) scopes ≡ Some parent → (child_start record { parents = parents; scopes = scopes } parent scope ≤ doc) × (doc < parent)
range_from_inside parents scopes parent scope doc range e =
    let next = next_place-is (has_scope scope) (doc + 1) scopes 0 parent e in
    let high : doc < parent = omega (arith, next.low) in (
      elim (split_option (previous_place (has_scope scope) parent scopes)) [
        | inl none ↦ rw none (omega arith)
        | inr some ↦
            let previous = previous_place-is (has_scope scope) parent scopes 0 some.0 some.1 in
            rw some.1 (elim (cases_lt doc (some.0 + 1)) [
              | inr on ↦ on
              | inl before ↦ elim (cases_eq some.0 doc) [
                | inl same ↦
                    let own : scope_at scopes doc ≡ scope = sym (ap (scope_at scopes) same) ∙ eqb-true (scope_at scopes some.0) scope previous.here in
                    absurd (omega (arith, own, (above_lt parents scope (scope_at scopes doc) range.tree range.above).0))
                | inr other ↦ absurd (true≢false (sym previous.here ∙ next.before some.0 (omega arith) previous.low))
              ]
            ])
      ],
      high,
    )

-- ---- by the sets

pub previous_in_set : (scopes : List ℕ) (scope below : ℕ) (set : List Bool) → set ≡ documents_of scopes scope → previous_place is_marked below set ≡ previous_place (has_scope scope) below scopes
previous_in_set scopes scope below set e = ap (previous_place is_marked below) e ∙ previous_place-map is_marked (has_scope scope) below scopes

-- ---- a value of ScopeBits, by its fields

pub record IsOpen (parents : List (Option ℕ)) (bits : List (List Bool)) (nesting : Nesting) : Type 0 where
  pub view : record { parents = parents; scopes = scopes_seen bits } ≡ nesting
  pub nested : IsNested parents bits

pub open_docs : (parents : List (Option ℕ)) (bits : List (List Bool)) (nesting : Nesting) → IsOpen parents bits nesting → length (scopes_seen bits) ≡ length nesting.scopes
open_docs parents bits nesting open' = ap (λ (n : Nesting). length n.scopes) open'.view

-- what `parent_of` answers where the scope lies above
pub record AnswersParent (nesting : Nesting) (doc scope : ℕ) (answer : Option ℕ) : Type 0 where
  pub value : answer ≡ enclosing_document nesting doc scope
  pub some : is_some answer ≡ true
  pub above : is_above nesting.parents scope (scope_at nesting.scopes doc) ≡ true
  pub later : IfSome answer (λ at. (doc < at) × (at < length nesting.scopes))
  pub of_scope : IfSome answer (λ at. scope_at nesting.scopes at ≡ scope)

if_later : (scopes : List ℕ) (scope doc : ℕ) (answer : Option ℕ) → answer ≡ next_place (has_scope scope) (doc + 1) scopes → IfSome answer (λ at. (doc < at) × (at < length scopes))
if_later scopes scope doc None e = tt
if_later scopes scope doc (Some at) e = let first = first_of scopes scope (doc + 1) at (sym e) in (omega (arith, first.low), first.high)

if_of_scope : (scopes : List ℕ) (scope doc : ℕ) (answer : Option ℕ) → answer ≡ next_place (has_scope scope) (doc + 1) scopes → IfSome answer (λ at. scope_at scopes at ≡ scope)
if_of_scope scopes scope doc None e = tt
if_of_scope scopes scope doc (Some at) e = (first_of scopes scope (doc + 1) at (sym e)).here

pub answers_parent : (parents : List (Option ℕ)) (bits : List (List Bool)) (nesting : Nesting) (doc scope : ℕ) (set : List Bool) (answer : Option ℕ) → IsOpen parents bits nesting → doc < length nesting.scopes
    → is_above parents scope (scope_at (scopes_seen bits) doc) ≡ true → set ≡ get_or bits scope set → answer ≡ next_place is_marked (doc + 1) set → AnswersParent nesting doc scope answer
answers_parent parents bits nesting doc scope set answer open' h above read asked =
    let scopes = scopes_seen bits in
    let are = open'.nested.scopes in
    let inside : doc < length scopes = omega (arith, open_docs parents bits nesting open') in
    let set_is = set_read (length parents) bits scopes scope set are.bits_are (omega (arith, above_lt parents scope (scope_at scopes doc) are.tree above)) read in
    let value : answer ≡ next_place (has_scope scope) (doc + 1) scopes = asked ∙ ap (next_place is_marked (doc + 1)) set_is ∙ next_in_set scopes scope (doc + 1) in
    let P : Nesting → Type 0 = λ n. AnswersParent n doc scope answer in
    subst P open'.view record {
      value = value ∙ rw above refl;
      some = ap is_some value ∙ found_above parents scopes doc scope open'.nested.blocks inside above;
      above = above;
      later = if_later scopes scope doc answer value;
      of_scope = if_of_scope scopes scope doc answer value;
    }

-- what `child_range` answers
pub record AnswersRange (nesting : Nesting) (parent scope from : ℕ) : Type 0 where
  pub range : from ≡ child_start nesting parent scope
  pub inside : (doc : ℕ) → doc < length nesting.scopes → is_above nesting.parents scope (scope_at nesting.scopes doc) ≡ true → (from ≤ doc) × (doc < parent) → enclosing_document nesting doc scope ≡ Some parent
  pub back : (doc : ℕ) → doc < length nesting.scopes → is_above nesting.parents scope (scope_at nesting.scopes doc) ≡ true → enclosing_document nesting doc scope ≡ Some parent → (from ≤ doc) × (doc < parent)

pub answers_range : (parents : List (Option ℕ)) (bits : List (List Bool)) (nesting : Nesting) (parent scope from : ℕ) (set : List Bool) (answer : Option ℕ) → IsOpen parents bits nesting → parent < length nesting.scopes
    → scope_at nesting.scopes parent ≡ scope → set ≡ get_or bits scope set → answer ≡ previous_place is_marked parent set → from ≡ option_map_or (λ previous. previous + 1) answer 0 → AnswersRange nesting parent scope from
answers_range parents bits nesting parent scope from set answer open' h of_scope read asked is =
    let scopes = scopes_seen bits in
    let are = open'.nested.scopes in
    let inside : parent < length scopes = omega (arith, open_docs parents bits nesting open') in
    let own : scope_at scopes parent ≡ scope = ap (λ (n : Nesting). scope_at n.scopes parent) open'.view ∙ of_scope in
    let set_is = set_read (length parents) bits scopes scope set are.bits_are (omega (arith, own, scope_in_range (length parents) bits scopes parent are.bits_are inside)) read in
    let range : from ≡ child_start record { parents = parents; scopes = scopes } parent scope =
    is ∙ ap (λ (found : Option ℕ). option_map_or (λ previous. previous + 1) found 0) (asked ∙ previous_in_set scopes scope parent set set_is)
    in
    let P : Nesting → Type 0 = λ n. AnswersRange n parent scope from in
    subst P open'.view record {
      range = range;
      inside = λ doc within above both.
          rw above (inside_from_range parents scopes parent scope doc record { tree = are.tree; parent_within = inside; of_scope = own; doc_within = within; above = above }
          (rw (← range) both.0) both.1);
      back = λ doc within above e.
          rw range (range_from_inside parents scopes parent scope doc record { tree = are.tree; parent_within = inside; of_scope = own; doc_within = within; above = above }
          (rw above at e));
    }
