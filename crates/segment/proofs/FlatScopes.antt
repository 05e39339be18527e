-- The scope of a flat document is the one whose set has the document.
use Rattle.std.proofs.Common.{◌≡◌, ◌∙◌, inl, inr, ℕ, ◌<◌, Bool, false, List, [], ◌∷◌, length, map, get_or, refl, sym, ap, arith}
use Rattle.std.specs.Prelude.{◌==◌, slice_index_or}
use Rattle.std.specs.List.{position_or_len, range_with_len}
use Rattle.std.proofs.lemmas.Bool.Decides.{Decides-eqb}
use Rattle.std.proofs.lemmas.List.{get_or-map}
use Rattle.std.proofs.lemmas.List.FromFn.{get_or-map-range_with_len}
use Rattle.std.proofs.lemmas.List.Sums.{position_or_len_is}
use Rattle.block_bits.specs.Blocks.{has_scope, documents_of, HaveOneScope}
use Rattle.block_bits.specs.Seen.{scope_seen, scopes_seen}
use Rattle.segment_parts.specs.Agree.{AreColumns}
use Rattle.segment.specs.Flat.{FlatDocument, flat_of, flats_of}
use Rattle.segment_parts.specs.declared.columns.Columns.{Columns}
use Rattle.segment.proofs.Flats.{split}

-- a document has the flag of a scope exactly where that is its scope
flag_is : (bits : List (List Bool)) (count scope doc : ℕ) (one : HaveOneScope count bits) → scope < length bits → doc < count → slice_index_or (slice_index_or bits scope []) doc false ≡ (get_or one.0 doc 0 == scope)
flag_is bits count scope doc one within inside =
    let set : slice_index_or bits scope [] ≡ documents_of one.0 scope =
    ap (λ (sets : List (List Bool)). get_or sets scope []) one.1.sets ∙ get_or-map-range_with_len (documents_of one.0) 0 (length bits) scope scope [] within (omega arith) in
    ap (λ (flags : List Bool). get_or flags doc false) set ∙ get_or-map (has_scope scope) one.0 doc 0 false (omega (arith, inside, one.2))

other_scope : (own scope : ℕ) → scope < own → (own == scope) ≡ false
other_scope own scope below = elim (split (own == scope)) [
  | inl holds ↦ absurd (omega (arith, below, (Decides-eqb own scope).0 holds))
  | inr fails ↦ fails
]

-- the first set that has a document is that of its scope
seen_is : (bits : List (List Bool)) (count doc : ℕ) (one : HaveOneScope count bits) → doc < count → position_or_len (λ set. slice_index_or set doc false) bits ≡ get_or one.0 doc 0
seen_is bits count doc one inside =
    let own = get_or one.0 doc 0 in
    let within : own < length bits = one.1.in_range doc 0 (omega (arith, inside, one.2)) in
    position_or_len_is (λ set. slice_index_or set doc false) bits own [] (omega (arith, within))
    (λ scope below. flag_is bits count scope doc one (omega (arith, below, within)) inside ∙ other_scope own scope below)
    (λ _. flag_is bits count own doc one within inside ∙ (Decides-eqb own own).1 refl)

pub sets_shown : (c : Columns) (scope doc : ℕ) → AreColumns c → scope < length c.scopes → doc < c.documents → slice_index_or (slice_index_or c.scopes scope []) doc false ≡ ((flat_of c doc).scope == scope)
sets_shown c scope doc are within inside =
    flag_is c.scopes c.documents scope doc are.rooted.scopes within inside ∙ ap (λ own. own == scope) (sym (seen_is c.scopes c.documents doc are.rooted.scopes inside))

pub scope_within : (c : Columns) (doc : ℕ) → AreColumns c → doc < c.documents → (flat_of c doc).scope < length c.scopes
scope_within c doc are inside =
    omega (arith, seen_is c.scopes c.documents doc are.rooted.scopes inside, are.rooted.scopes.1.in_range doc 0 (omega (arith, inside, are.rooted.scopes.2)))

map-map : {X Y Z : Type 0} (f : X → Y) (g : Y → Z) (xs : List X) → map g (map f xs) ≡ map (λ x. g (f x)) xs
map-map f g [] = refl
map-map f g (x ∷ xs) = ap (λ rest. g (f x) ∷ rest) (map-map f g xs)

pub seen_shown : (c : Columns) → AreColumns c → scopes_seen c.scopes ≡ map (λ (document : FlatDocument). document.scope) (flats_of c)
unfolding scopes_seen scope_seen
seen_shown c are =
    let long : length (slice_index_or c.scopes 0 []) ≡ c.documents = are.parts.head.long 0 [] (omega (arith, are.parts.head.some)) in
    ap (λ count. map (scope_seen c.scopes) (range_with_len 0 count)) long
    ∙ sym (map-map (flat_of c) (λ (document : FlatDocument). document.scope) (range_with_len 0 c.documents))
