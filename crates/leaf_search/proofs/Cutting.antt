-- Sets cut to the live documents of a scope.
use Rattle.std.proofs.Common.{◌≡◌, ℕ, ◌-◌, ◌<◌, Bool, true, false, ◌&&◌, List, [], ◌∷◌, length, map, get_or, replicate, All, refl, sym, subst, ◌∙◌, arith, nat_eq}
use Rattle.std.specs.List.{range_with_len}
use Rattle.std.proofs.lemmas.Bool.{ne_eqb}
use Rattle.std.proofs.lemmas.List.{drop_all, append-nil}
use Rattle.std.proofs.lemmas.List.Elements.{All-head, All-tail}
use Rattle.std.proofs.lemmas.List.FromFn.{fill_by_all, get_or-map-range_with_len, length-map-range_with_len}
use Rattle.std.proofs.lemmas.Simd.{map-map}
use Rattle.block_bits.specs.Flags.{cleared, intersection}
use Rattle.segment.specs.Flat.{FlatDocument, flat_of, flats_of}
use Rattle.segment_parts.specs.declared.columns.Columns.{Columns}
use Rattle.leaf_search.specs.Sets.{cut}
use Rattle.leaf_search.proofs.Tests.{and_false}

abbrev pub is_of : ℕ → FlatDocument → Bool
is_of n d = nat_eq d.scope n

three : (mark live own : Bool) → ((mark && live) && own) ≡ (live && (own && mark))
three true true true = refl
three true true false = refl
three true false own = refl
three false true true = refl
three false true false = refl
three false false own = refl

pub cut_sets : (n : ℕ) (marks lives : List Bool) (flats : List FlatDocument) → intersection (intersection marks lives) (map (is_of n) flats) ≡ cut n marks lives flats
cut_sets n [] lives flats = refl
cut_sets n (mark ∷ marks) [] flats = refl
cut_sets n (mark ∷ marks) (live ∷ lives) [] = refl
cut_sets n (mark ∷ marks) (live ∷ lives) (d ∷ flats) = rw (three mark live (nat_eq d.scope n), cut_sets n marks lives flats) refl

-- no document stands at a scope that isn't there
pub cut_none : (n : ℕ) (marks lives : List Bool) (flats : List FlatDocument) → All (λ (d : FlatDocument). d.scope < n) flats → length lives ≡ length marks → length flats ≡ length marks → cut n marks lives flats ≡ replicate (length marks) false
cut_none n [] lives flats all e f = refl
cut_none n (mark ∷ marks) [] flats all e f = absurd (omega (arith, e))
cut_none n (mark ∷ marks) (live ∷ lives) [] all e f = absurd (omega (arith, f))
cut_none n (mark ∷ marks) (live ∷ lives) (d ∷ flats) all e f =
    let P : FlatDocument → Type 0 = λ (d : FlatDocument). d.scope < n in
    rw (ne_eqb d.scope n (λ same. omega (arith, same, All-head P d flats all)), and_false live, cut_none n marks lives flats (All-tail P d flats all) (omega (arith, e)) (omega (arith, f))) refl

-- the documents of a scope by its set
pub scope_set : (c : Columns) (n : ℕ) (set : List Bool) → length set ≡ c.documents → ((doc : ℕ) → doc < c.documents → get_or set doc false ≡ nat_eq (flat_of c doc).scope n) → set ≡ map (is_of n) (flats_of c)
scope_set c n set long each =
    fill_by_all (λ doc. is_of n (flat_of c doc)) set c.documents false long each
    ∙ sym (map-map (is_of n) (flat_of c) (range_with_len 0 c.documents))

pub cleared_all : (flags : List Bool) → cleared 0 (length flags) flags ≡ replicate (length flags) false
cleared_all flags =
    let all : length flags - 0 ≡ length flags = omega arith in
    rw (all, drop_all (length flags) flags (omega arith)) (append-nil (replicate (length flags) false))

pub all_flats : (c : Columns) (P : FlatDocument → Type 0) → ((doc : ℕ) → doc < c.documents → P (flat_of c doc)) → All P (flats_of c)
all_flats c P each = λ k d below.
    let inside : k < c.documents = omega (arith, below, length-map-range_with_len (flat_of c) 0 c.documents) in
    subst P (sym (get_or-map-range_with_len (flat_of c) 0 c.documents k k d inside (omega arith))) (each k inside)
