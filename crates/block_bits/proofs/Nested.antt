-- The documents between two places by their scopes, and what encloses them.
use Rattle.std.proofs.Common.{◌≡◌, ◌≢◌, ℕ, ◌+◌, ◌^◌, ◌<◌, ◌≤◌, Bool, true, false, ◌||◌, List, length, get_or, take, Option, Some, None, is_some, refl, sym, ap, subst, ◌∙◌, inl, inr, arith, eqb}
use Rattle.std.proofs.lemmas.List.{get_or-take, length-take, take-map}
use Rattle.std.proofs.lemmas.Bool.{cases_lt, cases_eq, cases_Bool, eqb-true, eqb-false, eq-eqb, ne_eqb, or_left, false≢true, true≢false}
use Rattle.block_bits.specs.Flags.{is_marked}
use Rattle.block_bits.specs.Places.{next_place}
use Rattle.block_bits.specs.Scopes.{enclosing, is_above, IsScopeTree}
use Rattle.block_bits.specs.Blocks.{AreBits, IsBlocks, EnclosesAt, scope_at, has_scope, documents_of}
use Rattle.block_bits.specs.Seen.{AreScopes, IsEnclosed, scopes_seen}
use Rattle.block_bits.proofs.Above.{split_option, some_not_none, is_above-step, falls}
use Rattle.block_bits.proofs.Places.{next_place-is, next_place-empty, next_place-map}
use Rattle.block_bits.proofs.Scoped.{set_read, scope_in_range, bits_long, scopes_seen-is}

-- a document of `scope`, the first from `from` on
pub record IsFirstOf (scopes : List ℕ) (scope from at : ℕ) : Type 0 where
  pub low : from ≤ at
  pub high : at < length scopes
  pub here : scope_at scopes at ≡ scope
  pub before : (k : ℕ) → from ≤ k → k < at → scope_at scopes k ≢ scope

-- a search in the set of a scope is one for its documents
pub next_in_set : (scopes : List ℕ) (scope from : ℕ) → next_place is_marked from (documents_of scopes scope) ≡ next_place (has_scope scope) from scopes
next_in_set scopes scope from = next_place-map is_marked (has_scope scope) from scopes

pub first_of : (scopes : List ℕ) (scope from at : ℕ) → next_place (has_scope scope) from scopes ≡ Some at → IsFirstOf scopes scope from at
first_of scopes scope from at e =
    let found = next_place-is (has_scope scope) from scopes 0 at e in
    record { low = found.low; high = found.high; here = eqb-true _ _ found.here; before = λ k later earlier. eqb-false _ _ (found.before k later earlier) }

pub none_of : (scopes : List ℕ) (scope from : ℕ) → next_place (has_scope scope) from scopes ≡ None → (k : ℕ) → from ≤ k → k < length scopes → scope_at scopes k ≢ scope
none_of scopes scope from e k later inside = eqb-false _ _ (next_place-empty (has_scope scope) from scopes 0 e k later inside)

-- ---- is a document of a scope above among those from `from` up to `end`?

-- the walk outwards has come to `inner`: none of the scopes passed has a document there
pub record IsPassed (parents : List (Option ℕ)) (scopes : List ℕ) (scope from end inner : ℕ) : Type 0 where
  pub within : inner < length parents
  pub same : (at : ℕ) → from ≤ at → at < end → is_above parents (scope_at scopes at) scope ≡ is_above parents (scope_at scopes at) inner

pub record HasAbove (parents : List (Option ℕ)) (scopes : List ℕ) (scope from end at : ℕ) : Type 0 where
  pub low : from ≤ at
  pub high : at < end
  pub above : is_above parents (scope_at scopes at) scope ≡ true

-- a search among the documents before `end` of the scope `outer`, whose set is `set` and whose answer is `answer`
pub record IsCutSearch (scopes : List ℕ) (outer from end : ℕ) (set : List Bool) (answer : Option ℕ) : Type 0 where
  pub set_is : set ≡ documents_of scopes outer
  pub asked : answer ≡ next_place is_marked from (take end set)

cut_answer : (scopes : List ℕ) (outer from end : ℕ) (set : List Bool) (answer : Option ℕ) → IsCutSearch scopes outer from end set answer → answer ≡ next_place (has_scope outer) from (take end scopes)
cut_answer scopes outer from end set answer cut =
    cut.asked ∙ ap (λ (flags : List Bool). next_place is_marked from (take end flags)) cut.set_is
    ∙ ap (next_place is_marked from) (take-map (has_scope outer) end scopes)
    ∙ next_in_set (take end scopes) outer from

pub cut_found : (scopes : List ℕ) (outer from end at : ℕ) (set : List Bool) (answer : Option ℕ) → IsCutSearch scopes outer from end set answer → answer ≡ Some at
    → (from ≤ at) × (at < end) × (scope_at scopes at ≡ outer)
cut_found scopes outer from end at set answer cut e =
    let first = first_of (take end scopes) outer from at (sym (cut_answer scopes outer from end set answer cut) ∙ e) in
    let inside : at < end = omega (arith, first.high, length-take end scopes) in
    (first.low, inside, sym (get_or-take end scopes at 0 inside) ∙ first.here)

pub cut_none : (scopes : List ℕ) (outer from end : ℕ) (set : List Bool) (answer : Option ℕ) → IsCutSearch scopes outer from end set answer → answer ≡ None → end ≤ length scopes
    → (at : ℕ) → from ≤ at → at < end → scope_at scopes at ≢ outer
cut_none scopes outer from end set answer cut e short at later inside here =
    none_of (take end scopes) outer from (sym (cut_answer scopes outer from end set answer cut) ∙ e) at later (omega (arith, length-take end scopes))
    (get_or-take end scopes at 0 inside ∙ here)

pub passed_none : (parents : List (Option ℕ)) (scopes : List ℕ) (scope from end : ℕ) → scope < length parents → IsPassed parents scopes scope from end scope
passed_none parents scopes scope from end h = record { within = h; same = λ at later inside. refl }

pub passed_found : (parents : List (Option ℕ)) (scopes : List ℕ) (scope from end inner outer : ℕ) (set : List Bool) (answer : Option ℕ) → IsScopeTree parents → IsPassed parents scopes scope from end inner
    → enclosing parents inner ≡ Some outer → IsCutSearch scopes outer from end set answer → is_some answer ≡ true → (at : ℕ) × HasAbove parents scopes scope from end at
passed_found parents scopes scope from end inner outer set answer tree passed around cut some = elim (split_option answer) [
  | inl none ↦ absurd (false≢true (sym (ap is_some none) ∙ some))
  | inr value ↦
      let found = cut_found scopes outer from end value.0 set answer cut value.1 in (
        value.0,
        record {
          low = found.0;
          high = found.1;
          above = passed.same value.0 found.0 found.1 ∙ is_above-step parents (scope_at scopes value.0) inner outer tree around
              ∙ or_left (eqb outer (scope_at scopes value.0)) (is_above parents (scope_at scopes value.0) outer) (eq-eqb _ _ (sym found.2));
        },
      )
]

pub passed_on : (parents : List (Option ℕ)) (scopes : List ℕ) (scope from end inner outer : ℕ) (set : List Bool) (answer : Option ℕ) → IsScopeTree parents → IsPassed parents scopes scope from end inner
    → enclosing parents inner ≡ Some outer → IsCutSearch scopes outer from end set answer → is_some answer ≡ false → end ≤ length scopes → IsPassed parents scopes scope from end outer
passed_on parents scopes scope from end inner outer set answer tree passed around cut nothing short = elim (split_option answer) [
  | inr value ↦ absurd (true≢false (sym (ap is_some value.1) ∙ nothing))
  | inl none ↦ record {
    within = omega (arith, falls parents inner outer tree around, passed.within);
    same = λ at later inside.
        passed.same at later inside ∙ is_above-step parents (scope_at scopes at) inner outer tree around
        ∙ ap (λ here. here || is_above parents (scope_at scopes at) outer) (ne_eqb _ _ (λ e. cut_none scopes outer from end set answer cut none short at later inside (sym e)));
  }
]

-- ---- are the documents of a scope enclosed?

-- those before `from` are
pub record IsEnclosedBelow (parents : List (Option ℕ)) (scopes : List ℕ) (scope outer from : ℕ) : Type 0 where
  pub within : from ≤ length scopes
  pub done : (doc : ℕ) → doc < from → scope_at scopes doc ≡ scope → (at : ℕ) × EnclosesAt parents scopes doc outer at

pub enclosed_none : (parents : List (Option ℕ)) (scopes : List ℕ) (scope outer : ℕ) → IsEnclosedBelow parents scopes scope outer 0
enclosed_none parents scopes scope outer = record { within = omega arith; done = λ doc h. absurd (omega arith) }

some_same : (a b : ℕ) → Some a ≡ Some b → a ≡ b
some_same a b e = cc

-- a scope with no scope around it asks for nothing
pub enclosed_root : (parents : List (Option ℕ)) (scopes : List ℕ) (scope : ℕ) → enclosing parents scope ≡ None → IsEnclosed parents scopes scope
enclosed_root parents scopes scope root = record { enclosed = λ doc outer h e around. let both : None ≡ Some outer = sym root ∙ around in absurd (cc) }

-- no document of the scope is left
pub enclosed_all : (parents : List (Option ℕ)) (scopes : List ℕ) (scope outer from : ℕ) → enclosing parents scope ≡ Some outer → IsEnclosedBelow parents scopes scope outer from
    → next_place (has_scope scope) from scopes ≡ None → IsEnclosed parents scopes scope
enclosed_all parents scopes scope outer from around below none = record {
  enclosed = λ doc other h of_scope other_around.
      let same : outer ≡ other = some_same outer other (sym around ∙ other_around) in
      elim (cases_lt doc from) [
        | inl earlier ↦ let P : ℕ → Type 0 = λ n. (at : ℕ) × EnclosesAt parents scopes doc n at in subst P same (below.done doc earlier of_scope)
        | inr on ↦ absurd (none_of scopes scope from none doc on h of_scope)
      ];
}

-- a document with none of the scope around it further on
pub not_enclosed : (parents : List (Option ℕ)) (scopes : List ℕ) (outer doc : ℕ) → next_place (has_scope outer) (doc + 1) scopes ≡ None → (at : ℕ) × EnclosesAt parents scopes doc outer at → ⊥
not_enclosed parents scopes outer doc none other = none_of scopes outer (doc + 1) none other.0 (omega (arith, other.1.later)) other.1.within other.1.of_outer

-- or with a document further up before it
pub passed_over : (parents : List (Option ℕ)) (scopes : List ℕ) (outer doc at between : ℕ) → IsFirstOf scopes outer (doc + 1) at
    → doc + 1 ≤ between → between < at → is_above parents (scope_at scopes between) outer ≡ true → (other : ℕ) × EnclosesAt parents scopes doc outer other → ⊥
passed_over parents scopes outer doc at between next low high above other = elim (cases_lt other.0 at) [
  | inl earlier ↦ next.before other.0 (omega (arith, other.1.later)) earlier other.1.of_outer
  | inr on ↦ true≢false (sym above ∙ other.1.first between (omega arith) (omega arith))
]

pub encloses : (parents : List (Option ℕ)) (scopes : List ℕ) (outer doc at : ℕ) → IsFirstOf scopes outer (doc + 1) at
    → ((between : ℕ) → doc + 1 ≤ between → between < at → is_above parents (scope_at scopes between) outer ≡ true → ⊥) → EnclosesAt parents scopes doc outer at
encloses parents scopes outer doc at next none = record {
  later = omega (arith, next.low);
  within = next.high;
  of_outer = next.here;
  first = λ between past before. elim (cases_Bool (is_above parents (scope_at scopes between) outer)) [
    | inl above ↦ absurd (none between (omega arith) before above)
    | inr not_above ↦ not_above
  ];
}

-- all documents of the scope up to the enclosing one are enclosed by it
pub enclosed_more : (parents : List (Option ℕ)) (scopes : List ℕ) (scope outer from doc at : ℕ) → IsScopeTree parents → enclosing parents scope ≡ Some outer → IsEnclosedBelow parents scopes scope outer from
    → IsFirstOf scopes scope from doc → EnclosesAt parents scopes doc outer at → IsEnclosedBelow parents scopes scope outer (at + 1)
enclosed_more parents scopes scope outer from doc at tree around below first it = record {
  within = omega (arith, it.within);
  done = λ other h of_scope. elim (cases_lt other from) [
    | inl earlier ↦ below.done other earlier of_scope
    | inr on ↦
        let from_doc : doc ≤ other = elim (cases_lt other doc) [ inl before ↦ absurd (first.before other on before of_scope) | inr later ↦ later ] in
        let apart : other ≢ at = λ e. let same : scope ≡ outer = sym of_scope ∙ ap (scope_at scopes) e ∙ it.of_outer in omega (arith, (falls parents scope outer tree around).0) in (
          at,
          record {
            later = omega arith;
            within = it.within;
            of_outer = it.of_outer;
            first = λ between past before. it.first between (omega arith) before;
          },
        )
  ];
}

-- ---- a search in the set that stands at a scope's place

in_set : (count : ℕ) (bits : List (List Bool)) (scopes : List ℕ) (scope from : ℕ) (set : List Bool) → AreBits count bits scopes → scope < count → set ≡ get_or bits scope set
    → next_place is_marked from set ≡ next_place (has_scope scope) from scopes
in_set count bits scopes scope from set are h read =
    ap (next_place is_marked from) (set_read count bits scopes scope set are h read) ∙ next_in_set scopes scope from

pub found_in_set : (count : ℕ) (bits : List (List Bool)) (scopes : List ℕ) (scope from at : ℕ) (set : List Bool) → AreBits count bits scopes → scope < count → set ≡ get_or bits scope set
    → Some at ≡ next_place is_marked from set → IsFirstOf scopes scope from at
found_in_set count bits scopes scope from at set are h read e = first_of scopes scope from at (sym (e ∙ in_set count bits scopes scope from set are h read))

pub none_in_set : (count : ℕ) (bits : List (List Bool)) (scopes : List ℕ) (scope from : ℕ) (set : List Bool) → AreBits count bits scopes → scope < count → set ≡ get_or bits scope set
    → None ≡ next_place is_marked from set → next_place (has_scope scope) from scopes ≡ None
none_in_set count bits scopes scope from set are h read e = sym (e ∙ in_set count bits scopes scope from set are h read)

-- ---- scope after scope

-- where the documents of each scope are enclosed, they are blocks
pub blocks_from_each : (parents : List (Option ℕ)) (bits : List (List Bool)) (place : ℕ) → AreScopes parents bits → length parents ≤ place
    → ((scope : ℕ) → scope < place → IsEnclosed parents (scopes_seen bits) scope) → IsBlocks parents (scopes_seen bits)
blocks_from_each parents bits place are all each = record {
  enclosed = λ doc outer h around.
      let in_range = scope_in_range (length parents) bits (scopes_seen bits) doc are.bits_are h in
      (each (scope_at (scopes_seen bits) doc) (omega arith)).enclosed doc outer h refl around;
  last = λ doc e.
      let scope = scope_at (scopes_seen bits) doc in
      let in_range : scope < length parents = scope_in_range (length parents) bits (scopes_seen bits) doc are.bits_are (omega arith) in
      elim (cases_lt 0 scope) [
        | inr none ↦ omega arith
        | inl some ↦ elim (split_option (enclosing parents scope)) [
          | inl root ↦ absurd (some_not_none (enclosing parents scope) (λ outer. outer < scope) (are.tree.nested scope some in_range) root)
          | inr around ↦
              let at = (each scope (omega arith)).enclosed doc around.0 (omega arith) refl around.1 in
              absurd (omega (arith, at.1.later, at.1.within))
        ]
      ];
}

pub each_from_blocks : (parents : List (Option ℕ)) (scopes : List ℕ) (scope : ℕ) → IsBlocks parents scopes → IsEnclosed parents scopes scope
each_from_blocks parents scopes scope blocks = record {
  enclosed = λ doc outer h of_scope around. blocks.enclosed doc outer h (ap (enclosing parents) of_scope ∙ around);
}

pub each_more : (parents : List (Option ℕ)) (scopes : List ℕ) (place : ℕ) → ((scope : ℕ) → scope < place → IsEnclosed parents scopes scope) → IsEnclosed parents scopes place
    → (scope : ℕ) → scope < place + 1 → IsEnclosed parents scopes scope
each_more parents scopes place each here scope h = elim (cases_eq scope place) [
  | inl same ↦ let P : ℕ → Type 0 = λ n. IsEnclosed parents scopes n in subst P (sym same) here
  | inr other ↦ each scope (omega arith)
]

-- ---- bits that give each document one scope

pub scopes_are : (parents : List (Option ℕ)) (bits : List (List Bool)) (scopes : List ℕ) → IsScopeTree parents → AreBits (length parents) bits scopes → length (scopes_seen bits) < 2 ^ 32 → AreScopes parents bits
scopes_are parents bits scopes tree are small = record {
  tree = tree;
  long = bits_long (length parents) bits scopes are;
  bits_are = let P : List ℕ → Type 0 = λ ss. AreBits (length parents) bits ss in subst P (sym (scopes_seen-is (length parents) bits scopes are)) are;
  small = small;
}

-- the scopes seen are the only ones, so that what is said of some scopes with these bits is said of them
pub blocks_seen : (parents : List (Option ℕ)) (bits : List (List Bool)) (scopes : List ℕ) → AreBits (length parents) bits scopes → IsBlocks parents (scopes_seen bits) → IsBlocks parents scopes
blocks_seen parents bits scopes are blocks = let P : List ℕ → Type 0 = λ ss. IsBlocks parents ss in subst P (scopes_seen-is (length parents) bits scopes are) blocks
