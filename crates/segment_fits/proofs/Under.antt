-- Documents under their roots: each root has the documents behind the root before it, up to its own.
use Rattle.std.proofs.Common.{◌≡◌, ℕ, zero, suc, ◌+◌, ◌<◌, ◌≤◌, Bool, true, false, if◌then◌else◌, List, [], ◌∷◌, ◌++◌, Option, length, map, filter, get_or, refl, sym, ap, subst, ◌∙◌, append_assoc, append-nil, arith, eq-eqb, eqb-true}
use Rattle.std.specs.List.{AllByRecursion, flat_map}
use Rattle.std.proofs.lemmas.List.{map-append}
use Rattle.block_bits.specs.Blocks.{IsBlocks}
use Rattle.block_bits.specs.Scopes.{IsScopeTree}
use Rattle.flattener.specs.Fits.{is_root}
use Rattle.mapping_body.proofs.Walks.{split}
use Rattle.segment.specs.Flat.{FlatDocument, FlatRoot}
use Rattle.segment_fits.proofs.Nesting.{blocks_first, blocks_second, EndsAtRoot}

abbrev pub scopes_of : List FlatDocument → List ℕ
scopes_of flats = map (λ (flat : FlatDocument). flat.scope) flats

-- the last document, if there is one, is a root
abbrev pub LastIsRoot : List FlatDocument → Type 0
LastIsRoot [] = Unit {0}
LastIsRoot (flat ∷ []) = is_root flat ≡ true
LastIsRoot (flat ∷ next ∷ flats) = LastIsRoot (next ∷ flats)

abbrev pub root_count : List FlatDocument → ℕ
root_count flats = length (filter is_root flats)

pub some_root : (flat : FlatDocument) (flats : List FlatDocument) → LastIsRoot (flat ∷ flats) → 1 ≤ root_count (flat ∷ flats)
some_root flat [] last = rw last (omega arith)
some_root flat (next ∷ flats) last =
    let later : 1 ≤ root_count (next ∷ flats) = some_root next flats last in
    split (is_root flat)
    (λ yes. rw yes (omega (arith, later)))
    (λ no. rw no later)

pub last_is_root : (flats : List FlatDocument) → ((doc : ℕ) → doc + 1 ≡ length (scopes_of flats) → get_or (scopes_of flats) doc 0 ≡ 0) → LastIsRoot flats
last_is_root [] last = tt
last_is_root (flat ∷ []) last = eq-eqb flat.scope 0 (last 0 refl)
last_is_root (flat ∷ next ∷ flats) last = last_is_root (next ∷ flats) (λ doc h. last (suc doc) (omega (arith, h)))

-- how many roots stand before a document
abbrev pub roots_before : ℕ → List FlatDocument → ℕ
roots_before zero flats = 0
roots_before (suc doc) [] = 0
roots_before (suc doc) (flat ∷ flats) = (if is_root flat then 1 else 0) + roots_before doc flats

-- before a document that is there stand fewer than all of them
pub before_count : (flats : List FlatDocument) (doc : ℕ) → LastIsRoot flats → doc < length flats → roots_before doc flats < root_count flats
before_count [] doc last h = absurd (omega (arith, h))
before_count (flat ∷ []) zero last h = some_root flat [] last
before_count (flat ∷ []) (suc doc) last h = absurd (omega (arith, h))
before_count (flat ∷ next ∷ flats) zero last h = some_root flat (next ∷ flats) last
before_count (flat ∷ next ∷ flats) (suc doc) last h =
    let rest : roots_before doc (next ∷ flats) < root_count (next ∷ flats) = before_count (next ∷ flats) doc last (omega (arith, h)) in
    split (is_root flat)
    (λ is. rw is (omega (arith, rest)))
    (λ isnt. rw isnt (omega (arith, rest)))

abbrev pub no_document : FlatDocument
no_document = record { scope = 0; numbers = []; keywords = []; words = []; texts = [] }

module _ (P : FlatRoot → FlatDocument → Type 0) (r0 : FlatRoot) where
  -- each document has what its root asks of it
  abbrev pub AreUnder : List FlatDocument → List FlatRoot → Type 0
  AreUnder [] roots = Unit {0}
  AreUnder (flat ∷ flats) [] = ⊥
  AreUnder (flat ∷ flats) (root ∷ roots) = P root flat × AreUnder flats (if is_root flat then roots else root ∷ roots)

  -- the same by the number of the document
  abbrev pub IsUnderAt : List FlatDocument → List FlatRoot → ℕ → Type 0
  IsUnderAt flats roots doc = (roots_before doc flats < length roots) × P (get_or roots (roots_before doc flats) r0) (get_or flats doc no_document)

  -- past a document that is a root, and past one that isn't
  past_root : (flat : FlatDocument) (flats : List FlatDocument) (root : FlatRoot) (roots : List FlatRoot) (doc : ℕ) → is_root flat ≡ true → IsUnderAt (flat ∷ flats) (root ∷ roots) (suc doc) → IsUnderAt flats roots doc
  past_root flat flats root roots doc is at =
      let next : (if is_root flat then 1 else 0) + roots_before doc flats ≡ suc (roots_before doc flats) = rw is (omega arith) in
      let own = subst (λ (n : ℕ). (n < length (root ∷ roots)) × P (get_or (root ∷ roots) n r0) (get_or flats doc no_document)) next at in
      (omega (arith, own.0), own.1)

  past_other : (flat : FlatDocument) (flats : List FlatDocument) (root : FlatRoot) (roots : List FlatRoot) (doc : ℕ) → is_root flat ≡ false → IsUnderAt (flat ∷ flats) (root ∷ roots) (suc doc) → IsUnderAt flats (root ∷ roots) doc
  past_other flat flats root roots doc isnt at =
      let same : (if is_root flat then 1 else 0) + roots_before doc flats ≡ roots_before doc flats = rw isnt (omega arith) in
      subst (λ (n : ℕ). (n < length (root ∷ roots)) × P (get_or (root ∷ roots) n r0) (get_or flats doc no_document)) same at

  pub under_by : (flats : List FlatDocument) (roots : List FlatRoot) → ((doc : ℕ) → doc < length flats → IsUnderAt flats roots doc) → AreUnder flats roots
  under_by [] roots each = tt
  under_by (flat ∷ flats) [] each = absurd (omega (arith, (each 0 (omega arith)).0))
  under_by (flat ∷ flats) (root ∷ roots) each = (
    (each 0 (omega arith)).1,
    split (is_root flat)
        (λ is. rw is (under_by flats roots (λ doc h. past_root flat flats root roots doc is (each (suc doc) (omega (arith, h))))))
        (λ isnt. rw isnt (under_by flats (root ∷ roots) (λ doc h. past_other flat flats root roots doc isnt (each (suc doc) (omega (arith, h)))))),
  )

  to_root : (flat : FlatDocument) (flats : List FlatDocument) (root : FlatRoot) (roots : List FlatRoot) (doc : ℕ) → is_root flat ≡ true → P (get_or roots (roots_before doc flats) r0) (get_or flats doc no_document)
      → P (get_or (root ∷ roots) (roots_before (suc doc) (flat ∷ flats)) r0) (get_or flats doc no_document)
  to_root flat flats root roots doc is at =
      let next : suc (roots_before doc flats) ≡ (if is_root flat then 1 else 0) + roots_before doc flats = rw is (omega arith) in
      subst (λ (n : ℕ). P (get_or (root ∷ roots) n r0) (get_or flats doc no_document)) next at

  to_other : (flat : FlatDocument) (flats : List FlatDocument) (root : FlatRoot) (roots : List FlatRoot) (doc : ℕ) → is_root flat ≡ false → P (get_or (root ∷ roots) (roots_before doc flats) r0) (get_or flats doc no_document)
      → P (get_or (root ∷ roots) (roots_before (suc doc) (flat ∷ flats)) r0) (get_or flats doc no_document)
  to_other flat flats root roots doc isnt at =
      let same : roots_before doc flats ≡ (if is_root flat then 1 else 0) + roots_before doc flats = rw isnt (omega arith) in
      subst (λ (n : ℕ). P (get_or (root ∷ roots) n r0) (get_or flats doc no_document)) same at

  pub under_at : (flats : List FlatDocument) (roots : List FlatRoot) → AreUnder flats roots → (doc : ℕ) → doc < length flats → P (get_or roots (roots_before doc flats) r0) (get_or flats doc no_document)
  under_at [] roots under doc h = absurd (omega (arith, h))
  under_at (flat ∷ flats) [] under doc h = absurd under
  under_at (flat ∷ flats) (root ∷ roots) under zero h = under.0
  under_at (flat ∷ flats) (root ∷ roots) under (suc doc) h =
      split (is_root flat)
      (λ is. to_root flat flats root roots doc is (under_at flats roots (subst (λ (b : Bool). AreUnder flats (if b then roots else root ∷ roots)) is under.1) doc (omega (arith, h))))
      (λ isnt. to_other flat flats root roots doc isnt (under_at flats (root ∷ roots) (subst (λ (b : Bool). AreUnder flats (if b then roots else root ∷ roots)) isnt under.1) doc (omega (arith, h))))

  -- ---- a block in front

  pub with_block : (block rest : List FlatDocument) (root : FlatRoot) (roots : List FlatRoot) → LastIsRoot block → root_count block ≡ 1 → AllByRecursion (P root) block → AreUnder rest roots → AreUnder (block ++ rest) (root ∷ roots)
  with_block [] rest root roots last one all under = absurd (omega (arith, one))
  with_block (flat ∷ []) rest root roots last one all under = (all.0, rw last under)
  with_block (flat ∷ next ∷ flats) rest root roots last one all under =
      split (is_root flat)
      (λ is.
      let more : length (flat ∷ filter is_root (next ∷ flats)) ≡ 1 = rw is at one in
      absurd (omega (arith, more, some_root next flats last)))
      (λ isnt. (all.0, rw isnt (with_block (next ∷ flats) rest root roots last (rw isnt at one) all.1 under)))

  -- ---- cut behind each root

  module _ (parents : List (Option ℕ)) (tree : IsScopeTree parents) where
    -- a root with the documents of its block
    pub record IsOwn (root : FlatRoot) (flats : List FlatDocument) : Type 0 where
      pub each : AllByRecursion (P root) flats
      pub nested : IsBlocks parents (scopes_of flats)
      pub one_root : root_count flats ≡ 1

    abbrev pub AreOwn : List FlatRoot → List (List FlatDocument) → Type 0
    AreOwn [] [] = Unit {0}
    AreOwn [] (flats ∷ more) = ⊥
    AreOwn (root ∷ roots) [] = ⊥
    AreOwn (root ∷ roots) (flats ∷ more) = IsOwn root flats × AreOwn roots more

    pub record IsCut (flats : List FlatDocument) (roots : List FlatRoot) : Type 0 where
      pub blocks : List (List FlatDocument)
      pub joined : flats ≡ flat_map (λ (own : List FlatDocument). own) blocks
      pub are : AreOwn roots blocks

    abbrev pub IsOther : FlatDocument → Type 0
    IsOther flat = is_root flat ≡ false

    others_then_root : (front : List FlatDocument) (flat : FlatDocument) → AllByRecursion IsOther front → is_root flat ≡ true → root_count (front ++ flat ∷ []) ≡ 1
    others_then_root [] flat others is = rw is refl
    others_then_root (first ∷ front) flat others is = rw others.0 (others_then_root front flat others.1 is)

    all_push : (Q : FlatDocument → Type 0) (front : List FlatDocument) (flat : FlatDocument) → AllByRecursion Q front → Q flat → AllByRecursion Q (front ++ flat ∷ [])
    all_push Q [] flat all one = (one, tt)
    all_push Q (first ∷ front) flat all one = (all.0, all_push Q front flat all.1 one)

    ends_at_root : (front : List FlatDocument) (flat : FlatDocument) → is_root flat ≡ true → EndsAtRoot (scopes_of (front ++ flat ∷ []))
    ends_at_root [] flat is = eqb-true flat.scope 0 is
    ends_at_root (first ∷ []) flat is = ends_at_root [] flat is
    ends_at_root (first ∷ next ∷ front) flat is = ends_at_root (next ∷ front) flat is

    -- the front is of the first root
    abbrev pub IsFront : List FlatDocument → List FlatRoot → Type 0
    IsFront front [] = Unit {0}
    IsFront front (root ∷ roots) = AllByRecursion (P root) front

    no_front : (roots : List FlatRoot) → IsFront [] roots
    no_front [] = tt
    no_front (root ∷ roots) = tt

    none_left : (roots : List FlatRoot) → length roots ≡ 0 → AreOwn roots []
    none_left [] h = tt
    none_left (root ∷ roots) h = absurd (omega (arith, h))

    whole : (front : List FlatDocument) (flat : FlatDocument) (flats : List FlatDocument) → front ++ flat ∷ flats ≡ (front ++ flat ∷ []) ++ flats
    whole front flat flats = sym (append_assoc front (flat ∷ []) flats)

    pub cut : (flat : FlatDocument) (flats front : List FlatDocument) (roots : List FlatRoot) → LastIsRoot (flat ∷ flats) → AllByRecursion IsOther front → IsFront front roots → AreUnder (flat ∷ flats) roots
        → root_count (flat ∷ flats) ≡ length roots → IsBlocks parents (scopes_of (front ++ flat ∷ flats)) → IsCut (front ++ flat ∷ flats) roots
    cut flat flats front [] last others fore under count blocks = absurd under
    cut flat [] front (root ∷ roots) last others fore under count blocks =
        let few : length roots ≡ 0 = omega (arith, rw last at count) in
        record {
          blocks = (front ++ flat ∷ []) ∷ [];
          joined = sym (append-nil (front ++ flat ∷ []));
          are = (
            record { each = all_push (P root) front flat fore under.0; nested = blocks; one_root = others_then_root front flat others last },
            none_left roots few,
          );
        }
    cut flat (next ∷ flats) front (root ∷ roots) last others fore under count blocks =
        split (is_root flat)
        (λ is.
        let own = front ++ flat ∷ [] in
        let apart : scopes_of (front ++ flat ∷ next ∷ flats) ≡ scopes_of own ++ scopes_of (next ∷ flats) =
        ap scopes_of (whole front flat (next ∷ flats)) ∙ map-append (λ (f : FlatDocument). f.scope) own (next ∷ flats) in
        let both : IsBlocks parents (scopes_of own ++ scopes_of (next ∷ flats)) = subst (IsBlocks parents) apart blocks in
        let less : root_count (next ∷ flats) ≡ length roots = omega (arith, rw is at count) in
        let rest : IsCut (next ∷ flats) roots =
        cut next flats [] roots last tt (no_front roots) (subst (λ (b : Bool). AreUnder (next ∷ flats) (if b then roots else root ∷ roots)) is under.1) less (blocks_second parents (scopes_of own) (scopes_of (next ∷ flats)) both) in
        record {
          blocks = own ∷ rest.blocks;
          joined = whole front flat (next ∷ flats) ∙ ap (λ (fs : List FlatDocument). own ++ fs) rest.joined;
          are = (
            record {
              each = all_push (P root) front flat fore under.0;
              nested = blocks_first parents tree (scopes_of own) (scopes_of (next ∷ flats)) (ends_at_root front flat is) both;
              one_root = others_then_root front flat others is;
            },
            rest.are,
          );
        })
        (λ isnt.
        let rest : IsCut ((front ++ flat ∷ []) ++ next ∷ flats) (root ∷ roots) =
        cut next flats (front ++ flat ∷ []) (root ∷ roots) last (all_push IsOther front flat others isnt) (all_push (P root) front flat fore under.0)
        (subst (λ (b : Bool). AreUnder (next ∷ flats) (if b then roots else root ∷ roots)) isnt under.1) (rw isnt at count)
        (subst (λ (fs : List FlatDocument). IsBlocks parents (scopes_of fs)) (whole front flat (next ∷ flats)) blocks) in
        record { blocks = rest.blocks; joined = whole front flat (next ∷ flats) ∙ rest.joined; are = rest.are })
