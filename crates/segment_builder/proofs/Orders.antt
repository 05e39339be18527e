-- The orders of fields and of terms: only the same things tie.
use Rattle.std.proofs.Common.{◌≡◌, ℕ, ◌<◌, List, [], ◌∷◌, refl}
use Rattle.std.specs.Cmp.Lexicographic.{slice_cmp}
use Rattle.std.specs.Ordering.{nat_cmp, ordering_then}
use Rattle.std.specs.declared.cmp.Ordering.{Ordering}
use Rattle.std.specs.declared.cmp.Ordering.TheVariants.{Less, Equal, Greater}
use Rattle.std.proofs.lemmas.Cmp.{ranked, by_ranked, nat_cmp_total, nat_list_cmp_total, on_total, then_total}
use Rattle.term_table.specs.Terms.{term_cmp}
use Rattle.segment_builder.proofs.Merged.{IsExact}

pub nat_exact : (x y : ℕ) → nat_cmp x y ≡ Equal → x ≡ y
nat_exact x y h = by_ranked (x < y) (x ≡ y) (y < x) (nat_cmp x y) (ranked x y (nat_cmp x y) refl) (λ less _. absurd (cc (h, less))) (λ _ same. same) (λ more _. absurd (cc (h, more)))

then_equal : (a b : Ordering) → ordering_then a b ≡ Equal → (a ≡ Equal) × (b ≡ Equal)
then_equal Less b h = absurd (cc (h))
then_equal Equal b h = (refl, h)
then_equal Greater b h = absurd (cc (h))

pub bytes_exact : (x y : List ℕ) → slice_cmp nat_cmp x y ≡ Equal → x ≡ y
bytes_exact [] [] h = refl
bytes_exact [] (y ∷ ys) h = absurd (cc (h))
bytes_exact (x ∷ xs) [] h = absurd (cc (h))
bytes_exact (x ∷ xs) (y ∷ ys) h =
    let both = then_equal (nat_cmp x y) (slice_cmp nat_cmp xs ys) h in
    rw (nat_exact x y both.0, bytes_exact xs ys both.1) refl

pub pair_same : {A B : Type 0} (x y : A × B) → x.0 ≡ y.0 → x.1 ≡ y.1 → x ≡ y
pair_same (a, b) (c, d) e f = rw (e, f) refl

term_exact : (x y : ℕ × List ℕ) → term_cmp x y ≡ Equal → x ≡ y
term_exact x y h =
    let both = then_equal (nat_cmp x.0 y.0) (slice_cmp nat_cmp x.1 y.1) h in
    pair_same x y (nat_exact x.0 y.0 both.0) (bytes_exact x.1 y.1 both.1)

pub nat_order : IsExact nat_cmp
nat_order = record { total = nat_cmp_total; same = nat_exact }

pub term_order : IsExact term_cmp
term_order = record { total = then_total (on_total (λ (t : ℕ × List ℕ). t.0) nat_cmp_total) (on_total (λ (t : ℕ × List ℕ). t.1) nat_list_cmp_total); same = term_exact }

pub exact_bytes : IsExact (slice_cmp nat_cmp)
exact_bytes = record { total = nat_list_cmp_total; same = bytes_exact }
