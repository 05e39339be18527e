-- Where values are included: the steps up by the flags, as a relation.
use Rattle.std.proofs.Common.{◌≡◌, ℕ, zero, suc, ◌<◌, ◌≤◌, ◌==◌, ◌&&◌, ◌||◌, Bool, true, false, refl, sym, ap, ◌∙◌, subst, arith}
use Rattle.std.proofs.lemmas.Bool.{false≢true, eqb-true, eq-eqb}
use Rattle.mapping_body.proofs.Walks.{split}
use Rattle.mapping.specs.IsMapping.{IsMapping}
use Rattle.mapping.specs.Mapping.{Mapping, IsIncluded, itself, by_parent, by_root, home_of, included, outer, reaches, scope_at}
use Rattle.mapping.proofs.Above.{both, joint}

reached : (m : Mapping) (left n s : ℕ) → reaches m left n s ≡ true → IsIncluded m n s
reached m zero n s h = subst (IsIncluded m n) (eqb-true n s h) (itself n)
reached m (suc left) n s h =
    split (n == s)
    (λ same. subst (IsIncluded m n) (eqb-true n s same) (itself n))
    (λ other.
    split ((scope_at m n).in_parent && reaches m left (outer m n) s)
    (λ up. let parts = both (scope_at m n).in_parent (reaches m left (outer m n) s) up in by_parent n s parts.0 (reached m left (outer m n) s parts.1))
    (λ no. let parts = both (scope_at m n).in_root (s == 0) (rw (other, no) at h) in subst (IsIncluded m n) (sym (eqb-true s 0 parts.1)) (by_root n parts.0)))

pub led : (m : Mapping) (field scope : ℕ) → IsMapping m → included m field scope ≡ true → IsIncluded m (home_of m field) scope
unfolding included
led m field scope is h = reached m (home_of m field) (home_of m field) scope h

-- ---- and back

at_itself : (m : Mapping) (left n : ℕ) → reaches m left n n ≡ true
at_itself m zero n = eq-eqb n n refl
at_itself m (suc left) n = rw (eq-eqb n n refl) refl

or_third : (a b c : Bool) → c ≡ true → (a || (b || c)) ≡ true
or_third true b c h = refl
or_third false true c h = refl
or_third false false c h = h

or_second : (a b c : Bool) → b ≡ true → (a || (b || c)) ≡ true
or_second true b c h = refl
or_second false b c h = rw h refl

reaching : (m : Mapping) (n s left : ℕ) → IsMapping m → n ≤ left → IsIncluded m n s → reaches m left n s ≡ true
reaching m n s left is h (itself k) = at_itself m left k
reaching m zero s left is h (by_parent k t flag up) = let never : false ≡ true = rw is.root at flag in absurd (false≢true never)
reaching m (suc n) s zero is h (by_parent k t flag up) = absurd (omega arith)
reaching m (suc n) s (suc left) is h (by_parent k t flag up) =
    let less = is.behind (suc n) (omega arith) in
    or_second (suc n == s) _ _ (joint (scope_at m (suc n)).in_parent (reaches m left (outer m (suc n)) s) flag (reaching m (outer m (suc n)) s left is (omega (arith, less)) up))
reaching m zero s left is h (by_root k flag) = let never : false ≡ true = rw is.root at flag in absurd (false≢true never)
reaching m (suc n) s zero is h (by_root k flag) = absurd (omega arith)
reaching m (suc n) s (suc left) is h (by_root k flag) = or_third (suc n == 0) _ _ (joint (scope_at m (suc n)).in_root true flag refl)

pub included_by : (m : Mapping) (field scope : ℕ) → IsMapping m → IsIncluded m (home_of m field) scope → included m field scope ≡ true
unfolding included
included_by m field scope is up = reaching m (home_of m field) scope (home_of m field) is (omega arith) up
