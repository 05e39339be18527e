-- The documents of a segment as a list, with the flags of its roots.
use Rattle.std.proofs.Common.{◌≡◌, ℕ, ◌+◌, ◌-◌, ◌<◌, ◌==◌, Bool, true, false, List, [], ◌∷◌, length, map, take, get_or, refl, sym, ap, subst, ◌∙◌, arith, eq-eqb, eqb-true}
use Rattle.std.specs.Prelude.{count_by}
use Rattle.std.specs.List.{All, range_with_len}
use Rattle.std.proofs.lemmas.List.{get_or-map, length-map}
use Rattle.std.proofs.lemmas.List.FromFn.{fill_by_all, get_or-map-range_with_len, length-map-range_with_len}
use Rattle.std.proofs.lemmas.List.Sums.{count_by_more_yes, count_by_more_no}
use Rattle.block_bits.specs.Flags.{is_marked}
use Rattle.block_bits.specs.Seen.{scopes_seen}
use Rattle.flattener.specs.Fits.{is_root}
use Rattle.mapping_body.proofs.Walks.{split}
use Rattle.segment.specs.Flat.{FlatDocument, FlatRoot, flat_of, flat_root, flats_of, roots_of}
use Rattle.segment.specs.Live.{root_of as block_root}
use Rattle.segment_parts.specs.Agree.{AreColumns}
use Rattle.segment_parts.specs.Parts.{root_flags}
use Rattle.segment_parts.specs.declared.columns.Columns.{Columns}
use Rattle.stored_sources.specs.Roots.{no_root, root_of}
use Rattle.segment_fits.specs.Tested.{generation_at, standing_of, standings_of}
use Rattle.segment_fits.specs.declared.standing.Standing.{Standing}
use Rattle.segment_fits.proofs.Marked.{before_is, count_is}
use Rattle.segment_fits.proofs.Under.{scopes_of, roots_before, root_count, before_count, LastIsRoot}

map_twice : {A B C : Type 0} (f : B → C) (g : A → B) (xs : List A) → map f (map g xs) ≡ map (λ x. f (g x)) xs
map_twice f g [] = refl
map_twice f g (x ∷ xs) = ap (λ rest. f (g x) ∷ rest) (map_twice f g xs)

last_flag : (flat : FlatDocument) (flats : List FlatDocument) → get_or (map is_root (flat ∷ flats)) (length flats) false ≡ true → LastIsRoot (flat ∷ flats)
last_flag flat [] last = last
last_flag flat (next ∷ flats) last = last_flag next flats last

-- each document has the flag of exactly its scope
abbrev pub AreScoped : Columns → Type 0
AreScoped c = (scope doc : ℕ) → scope < length c.scopes → doc < c.documents → get_or (get_or c.scopes scope []) doc false ≡ ((flat_of c doc).scope == scope)

-- where there is no root
abbrev pub r0 : FlatRoot
r0 = flat_root no_root

module _ (c : Columns) (own : AreColumns c) (sets : AreScoped c) where
  abbrev pub flats : List FlatDocument
  flats = flats_of c

  pub flats_long : length flats ≡ c.documents
  flats_long = length-map-range_with_len (flat_of c) 0 c.documents

  pub flat_at : (doc : ℕ) (d : FlatDocument) → doc < c.documents → get_or flats doc d ≡ flat_of c doc
  flat_at doc d h = get_or-map-range_with_len (flat_of c) 0 c.documents doc doc d h (omega arith)

  pub flags_are : root_flags c.scopes ≡ map is_root flats
  flags_are =
      fill_by_all (λ doc. is_root (flat_of c doc)) (root_flags c.scopes) c.documents false (own.parts.head.long 0 [] own.parts.head.some) (λ doc inside. sets 0 doc own.parts.head.some inside)
      ∙ sym (map_twice is_root (flat_of c) (range_with_len 0 c.documents))

  pub before : (doc : ℕ) → roots_before doc flats ≡ block_root (root_flags c.scopes) doc
  before doc = sym (ap (λ (flags : List Bool). count_by is_marked (take doc flags)) flags_are ∙ before_is doc flats)

  pub roots_long : length (roots_of c) ≡ length c.roots
  roots_long = length-map c.roots flat_root

  pub count : root_count flats ≡ length (roots_of c)
  count = sym (count_is flats) ∙ sym (ap (count_by is_marked) flags_are) ∙ sym own.parts.rooted ∙ sym roots_long

  ends : (fs : List FlatDocument) → fs ≡ flats → LastIsRoot fs
  ends [] e = tt
  ends (flat ∷ fs) e =
      let place : c.documents - 1 ≡ length fs = omega (arith, ap length e, flats_long) in
      last_flag flat fs
      (ap (λ (xs : List FlatDocument). get_or (map is_root xs) (length fs) false) e
      ∙ ap (λ (n : ℕ). get_or (map is_root flats) n false) (sym place)
      ∙ ap (λ (flags : List Bool). get_or flags (c.documents - 1) false) (sym flags_are)
      ∙ own.rooted.last)

  pub root_within : (doc : ℕ) → doc < c.documents → block_root (root_flags c.scopes) doc < length c.roots
  root_within doc h = omega (arith, before doc, before_count flats doc (ends flats refl) (omega (arith, h, flats_long)), count, roots_long)

  -- the root of a document
  root_at : (doc : ℕ) → doc < c.documents → get_or (roots_of c) (roots_before doc flats) r0 ≡ flat_root (root_of c.roots (block_root (root_flags c.scopes) doc))
  root_at doc h =
      ap (λ (k : ℕ). get_or (roots_of c) k r0) (before doc)
      ∙ get_or-map flat_root c.roots (block_root (root_flags c.scopes) doc) no_root r0 (root_within doc h)

  pub generation_is : (doc : ℕ) → doc < c.documents → (get_or (roots_of c) (roots_before doc flats) r0).generation ≡ generation_at c doc
  generation_is doc h = ap (λ (root : FlatRoot). root.generation) (root_at doc h)

  pub scopes_within : ((doc : ℕ) → doc < c.documents → (flat_of c doc).scope < length c.scopes) → All (λ (scope : ℕ). scope < length c.scopes) (scopes_of flats)
  scopes_within within = λ k d h.
      let inside : k < c.documents = omega (arith, h, length-map flats (λ (flat : FlatDocument). flat.scope), flats_long) in
      let at : get_or (scopes_of flats) k d ≡ (flat_of c k).scope =
      get_or-map (λ (flat : FlatDocument). flat.scope) flats k (flat_of c k) d (omega (arith, inside, flats_long)) ∙ ap (λ (flat : FlatDocument). flat.scope) (flat_at k (flat_of c k) inside) in
      omega (arith, at, within k inside)

  -- the scope of a document, as the bits show it
  pub scope_is : scopes_seen c.scopes ≡ scopes_of (flats_of c) → (doc : ℕ) → doc < c.documents → get_or (scopes_seen c.scopes) doc 0 ≡ (flat_of c doc).scope
  scope_is seen doc h =
      ap (λ (ss : List ℕ). get_or ss doc 0) seen
      ∙ get_or-map (λ (flat : FlatDocument). flat.scope) flats doc (flat_of c doc) 0 (omega (arith, h, flats_long))
      ∙ ap (λ (flat : FlatDocument). flat.scope) (flat_at doc (flat_of c doc) h)

  -- past a document there is one root more where it is one
  pub past_root : (doc : ℕ) → doc < c.documents → (flat_of c doc).scope ≡ 0 → block_root (root_flags c.scopes) (doc + 1) ≡ block_root (root_flags c.scopes) doc + 1
  past_root doc h zero_is =
      let long : doc < length (root_flags c.scopes) = omega (arith, h, own.parts.head.long 0 [] own.parts.head.some) in
      count_by_more_yes is_marked (root_flags c.scopes) doc false long (sets 0 doc own.parts.head.some h ∙ eq-eqb (flat_of c doc).scope 0 zero_is)

  pub past_other : (doc : ℕ) → doc < c.documents → ((flat_of c doc).scope ≡ 0 → ⊥) → block_root (root_flags c.scopes) (doc + 1) ≡ block_root (root_flags c.scopes) doc
  past_other doc h other =
      let long : doc < length (root_flags c.scopes) = omega (arith, h, own.parts.head.long 0 [] own.parts.head.some) in
      let isnt : ((flat_of c doc).scope == 0) ≡ false = split ((flat_of c doc).scope == 0) (λ is. absurd (other (eqb-true (flat_of c doc).scope 0 is))) (λ fails. fails) in
      count_by_more_no is_marked (root_flags c.scopes) doc false long (sets 0 doc own.parts.head.some h ∙ isnt)

  -- the list of where each document stands
  pub stand_long : (standings : List Standing) → standings ≡ standings_of c → length standings ≡ c.documents
  stand_long standings is = ap length is ∙ length-map-range_with_len (standing_of c) 0 c.documents

  pub stand_within : ((doc : ℕ) → doc < c.documents → (flat_of c doc).scope < length c.scopes) → (standings : List Standing) → standings ≡ standings_of c → All (λ (it : Standing). it.scope < length c.scopes) standings
  stand_within within standings is = λ k d h.
      let inside : k < c.documents = omega (arith, h, stand_long standings is) in
      let at : get_or standings k d ≡ standing_of c k = ap (λ (ss : List Standing). get_or ss k d) is ∙ get_or-map-range_with_len (standing_of c) 0 c.documents k k d inside (omega arith) in
      subst (λ (it : Standing). it.scope < length c.scopes) (sym at) (within k inside)
