-- Sets of documents made flag by flag.
use Rattle.std.proofs.Common.{◌≡◌, ℕ, suc, ◌+◌, ◌-◌, ◌<◌, ◌≤◌, ◌==◌, Bool, true, false, if◌then◌else◌, List, [], ◌∷◌, ◌++◌, length, map, take, set, get_or, replicate, refl, sym, ap, ◌∙◌, append_assoc, append-nil, arith, eq-eqb, eqb-true, length-append, length-set, get_or-set_other, get_or-set_same}
use Rattle.std.specs.List.{range_with_len}
use Rattle.std.proofs.lemmas.List.FromFn.{fill_by_all, get_or-map-range_with_len, length-map-range_with_len, map-range_with_len_more}
use Rattle.std.proofs.lemmas.List.{take_more, take_all, map-append, length-replicate, length-take-le, length-map}
use Rattle.block_bits.specs.Blocks.{documents_of, has_scope}
use Rattle.segment_builder.specs.Marks.{marked_to}
use Rattle.segment_builder.proofs.Keys.{split}

set_mid : (xs ys : List Bool) (x y : Bool) (n : ℕ) → n ≡ length xs → set (xs ++ (x ∷ ys)) n y ≡ xs ++ (y ∷ ys)
set_mid xs ys x y n is = rw is (at_length xs)
  where
    at_length : (zs : List Bool) → set (zs ++ (x ∷ ys)) (length zs) y ≡ zs ++ (y ∷ ys)
    at_length [] = refl
    at_length (z ∷ zs) = ap (λ (rest : List Bool). z ∷ rest) (at_length zs)

docs_more : (scopes : List ℕ) (scope doc : ℕ) (old new : List Bool) → doc < length scopes
    → new ≡ (if get_or scopes doc 0 == scope then set old doc true else old)
    → old ≡ documents_of (take doc scopes) scope ++ replicate (length scopes - doc) false
    → new ≡ documents_of (take (doc + 1) scopes) scope ++ replicate (length scopes - (doc + 1)) false
docs_more scopes scope doc old new inside is was =
    let front : List Bool = documents_of (take doc scopes) scope in
    let left : List Bool = replicate (length scopes - (doc + 1)) false in
    let long : doc ≡ length front = sym (length-map (take doc scopes) (has_scope scope) ∙ length-take-le doc scopes (omega (arith, inside))) in
    let count : length scopes - doc ≡ suc (length scopes - (doc + 1)) = omega (arith, inside) in
    let before : old ≡ front ++ (false ∷ left) = was ∙ ap (λ n. front ++ replicate n false) count in
    let taken : documents_of (take (doc + 1) scopes) scope ≡ front ++ (get_or scopes doc 0 == scope) ∷ [] =
    ap (λ xs. documents_of xs scope) (take_more scopes doc 0 inside) ∙ map-append (has_scope scope) (take doc scopes) (get_or scopes doc 0 ∷ []) in
    let after : documents_of (take (doc + 1) scopes) scope ++ left ≡ front ++ ((get_or scopes doc 0 == scope) ∷ left) =
    ap (λ xs. xs ++ left) taken ∙ append_assoc front ((get_or scopes doc 0 == scope) ∷ []) left in
    is ∙ sym (after ∙ split (get_or scopes doc 0 == scope)
    (λ yes_is. rw yes_is (sym (ap (λ xs. set xs doc true) before ∙ set_mid front left false true doc long)))
    (λ not_is. rw not_is (sym before)))

-- no document of a scope yet
none_marked : (scopes : List ℕ) (scope count : ℕ) (set : List Bool) → count ≡ length scopes → set ≡ replicate count false → set ≡ marked_to scopes 0 scope
none_marked scopes scope count set long is = let left : count ≡ length scopes - 0 = omega (arith, long) in is ∙ ap (λ n. replicate n false) left

pub one_more_set : (scopes : List ℕ) (scope count : ℕ) (old new : List (List Bool)) (set : List Bool) → old ≡ map (marked_to scopes 0) (range_with_len 0 scope) → count ≡ length scopes → set ≡ replicate count false → new ≡ old ++ set ∷ []
    → new ≡ map (marked_to scopes 0) (range_with_len 0 (scope + 1))
one_more_set scopes scope count old new set was long none more =
    let own : set ≡ marked_to scopes 0 scope = none_marked scopes scope count set long none in
    more ∙ ap (λ (sets : List (List Bool)). sets ++ set ∷ []) was ∙ ap (λ (last : List Bool). map (marked_to scopes 0) (range_with_len 0 scope) ++ last ∷ []) own
    ∙ sym (map-range_with_len_more (marked_to scopes 0) 0 scope scope (omega arith))

-- a document more goes into the set of its scope
marks_long : (scopes : List ℕ) (doc scope : ℕ) → doc ≤ length scopes → length (marked_to scopes doc scope) ≡ length scopes
marks_long scopes doc scope within =
    omega (
      arith,
      within,
      length-append (documents_of (take doc scopes) scope) (replicate (length scopes - doc) false),
      length-map (take doc scopes) (has_scope scope),
      length-take-le doc scopes within,
      length-replicate (length scopes - doc) false,
    )

pub set_at_scope : (scopes : List ℕ) (doc count scope : ℕ) (sets : List (List Bool)) (set d : List Bool) → scope < count → sets ≡ map (marked_to scopes doc) (range_with_len 0 count) → set ≡ get_or sets scope d → set ≡ marked_to scopes doc scope
set_at_scope scopes doc count scope sets set d low was is =
    is ∙ ap (λ (ss : List (List Bool)). get_or ss scope d) was ∙ get_or-map-range_with_len (marked_to scopes doc) 0 count scope scope d low (omega arith)

pub set_long : (scopes : List ℕ) (doc count scope : ℕ) (sets : List (List Bool)) (set d : List Bool) → doc < length scopes → scope < count → sets ≡ map (marked_to scopes doc) (range_with_len 0 count) → set ≡ get_or sets scope d → doc < length set
set_long scopes doc count scope sets set d inside low was is =
    omega (arith, inside, ap length (set_at_scope scopes doc count scope sets set d low was is), marks_long scopes doc scope (omega (arith, inside)))

pub sets_more : (scopes : List ℕ) (doc count scope : ℕ) (old new : List (List Bool)) (before after d : List Bool) → doc < length scopes → scope ≡ get_or scopes doc 0 → scope < count
    → old ≡ map (marked_to scopes doc) (range_with_len 0 count) → before ≡ get_or old scope d → after ≡ set before doc true → new ≡ set old scope after
    → new ≡ map (marked_to scopes (doc + 1)) (range_with_len 0 count)
sets_more scopes doc count scope old new before after d inside own low was taken marked is =
    let long : length old ≡ count = ap length was ∙ length-map-range_with_len (marked_to scopes doc) 0 count in
    let here : before ≡ marked_to scopes doc scope = set_at_scope scopes doc count scope old before d low was taken in
    fill_by_all (marked_to scopes (doc + 1)) new count []
    (ap length is ∙ length-set old scope after ∙ long)
    (λ s within.
    let there : get_or old s [] ≡ marked_to scopes doc s = ap (λ (ss : List (List Bool)). get_or ss s []) was ∙ get_or-map-range_with_len (marked_to scopes doc) 0 count s s [] within (omega arith) in
    split (scope == s)
    (λ same.
    let at : scope ≡ s = eqb-true scope s same in
    let this : get_or scopes doc 0 == s ≡ true = ap (λ n. n == s) (sym own) ∙ same in
    docs_more scopes s doc before (get_or new s []) inside
    (rw this (ap (λ (ss : List (List Bool)). get_or ss s []) is ∙ ap (λ n. get_or (set old n after) s []) at ∙ get_or-set_same old s after [] (omega (arith, within, long)) ∙ marked))
    (here ∙ ap (marked_to scopes doc) at))
    (λ apart.
    let other : get_or scopes doc 0 == s ≡ false = ap (λ n. n == s) (sym own) ∙ apart in
    docs_more scopes s doc (get_or old s []) (get_or new s []) inside
    (rw other (ap (λ (ss : List (List Bool)). get_or ss s []) is ∙ get_or-set_other old scope s after [] (λ at. let never : true ≡ false = sym (eq-eqb scope s (sym at)) ∙ apart in cc (never))))
    there))

pub all_marked : (scopes : List ℕ) (doc count : ℕ) (sets : List (List Bool)) → doc ≡ length scopes → sets ≡ map (marked_to scopes doc) (range_with_len 0 count) → sets ≡ map (documents_of scopes) (range_with_len 0 count)
all_marked scopes doc count sets end was = was ∙ each_same (range_with_len 0 count)
  where
    none_left : length scopes - doc ≡ 0
    none_left = omega (arith, end)

    whole : (scope : ℕ) → marked_to scopes doc scope ≡ documents_of scopes scope
    whole scope =
        ap (λ n. documents_of (take doc scopes) scope ++ replicate n false) none_left
        ∙ append-nil (documents_of (take doc scopes) scope)
        ∙ ap (λ xs. documents_of xs scope) (take_all doc scopes (omega (arith, end)))

    each_same : (ss : List ℕ) → map (marked_to scopes doc) ss ≡ map (documents_of scopes) ss
    each_same [] = refl
    each_same (s ∷ ss) = rw (whole s, each_same ss) refl
