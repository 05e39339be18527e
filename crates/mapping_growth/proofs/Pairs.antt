-- Lists of pairs and of relations: one more pair, and what the relations of pairs are seen as.
use Rattle.std.proofs.Common.{◌≡◌, ℕ, zero, suc, ◌+◌, ◌<◌, List, [], ◌∷◌, map, length, drop, get_or, refl, sym, ap, ◌∙◌, arith}
use Rattle.mapping_body.specs.declared.pair.Pair.{Pair as Lent}
use Rattle.mapping_growth.specs.declared.relation.Relation.{Relation as Kept}
use Rattle.mapping_body.specs.Names.{in_byte_order, put, put_all}
use Rattle.mapping_body.specs.Pairs.{Pair}
use Rattle.mapping_body.proofs.Parents.{parent_of_firsts}
use Rattle.mapping_growth.specs.Relations.{Relation, names_in_pairs, relation_by}
use Rattle.mapping_body.specs.Kept.{pair_of}
use Rattle.mapping_growth.specs.Kept.{relation_of}

abbrev itself : List ℕ → List ℕ
itself name = name

pub names_step : (ps : List Lent) (i : ℕ) (d : Lent) (before mid after : List (List ℕ)) → i < length ps
    → mid ≡ put itself (get_or ps i d).parent.now before → after ≡ put itself (get_or ps i d).child.now mid
    → put_all itself after (names_in_pairs (map pair_of (drop (i + 1) ps))) ≡ put_all itself before (names_in_pairs (map pair_of (drop i ps)))
names_step [] i d before mid after h is_mid is_after = absurd (omega arith)
names_step (q ∷ ps) zero d before mid after h is_mid is_after = rw (is_after, is_mid) refl
names_step (q ∷ ps) (suc i) d before mid after h is_mid is_after =
    let more : i < length ps = omega arith in
    let step : suc i + 1 ≡ suc (i + 1) = omega arith in
    rw step (names_step ps i d before mid after more is_mid is_after)

-- ---- relations

pub names_by : (g : ℕ) (ps : List Pair) (names ns : List (List ℕ)) → map (λ r. r.name) (map (relation_by g ps names) ns) ≡ ns
names_by g ps names [] = refl
names_by g ps names (n ∷ ns) = ap (λ (rest : List (List ℕ)). n ∷ rest) (names_by g ps names ns)

pub names_seen : (rs : List Kept) → map (λ r. r.name) (map relation_of rs) ≡ map (λ r. r.name.items) rs
names_seen [] = refl
names_seen (r ∷ rs) = ap (λ (rest : List (List ℕ)). r.name.items ∷ rest) (names_seen rs)

-- ---- what the first pairs say is what all say

pub relations_of_firsts : (g : ℕ) (ps firsts : List Lent) (names ns : List (List ℕ)) → firsts ≡ in_byte_order (λ p. p.child.now) ps
    → map (relation_by g (map pair_of firsts) names) ns ≡ map (relation_by g (map pair_of ps) names) ns
relations_of_firsts g ps firsts names [] e = refl
relations_of_firsts g ps firsts names (n ∷ ns) e =
    rw (parent_of_firsts ps firsts n e) (ap (λ (rest : List Relation). relation_by g (map pair_of ps) names n ∷ rest) (relations_of_firsts g ps firsts names ns e))
