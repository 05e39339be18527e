-- The trees that are joined to a tree, by the keys of their roots.
use Rattle.std.proofs.Common.{◌≡◌, ℕ, ◌==◌, List as Seq, [], ◌∷◌, map, filter, Bool, true, false, cond, Option, Some, None, refl, sym, ap, ◌∙◌}
use Rattle.std.specs.List.{AllByRecursion, cons_option, filter_map}
use Rattle.std.specs.Option.{option_map}
use Rattle.flattener.specs.StandsFor.{Marked}
use Rattle.mapping.specs.Mapping.{Mapping}
use Rattle.query_ast.specs.Joined.{roots}
use Rattle.tree_joins.specs.Seen.{scored}
use Rattle.tree_objects.specs.Object.{Object, root, tree_of}
use Rattle.tree_objects.specs.Tree.{Tree}
use Rattle.view_objects.specs.Hits.{hit_object}
use Rattle.view_objects.specs.declared.hit.Hit.{Hit}
use Rattle.inner_hits.specs.Kinship.{has_key, hit_of, is_key}
use Rattle.inner_hits.proofs.Paging.{by_test}

-- the hits among the trees that pass are the hits whose trees pass
scored_passing : (test : Tree → Bool) (given : Object → Option ℕ) (live : Seq Tree) → filter_map (scored given) (roots (filter test live)) ≡ filter (λ (p : Object × ℕ). test (tree_of p.0)) (filter_map (scored given) (roots live))
scored_passing test given [] = refl
scored_passing test given (t ∷ live) =
    by_test (test t)
    (λ yes. rw yes (put yes (given (root t)) (scored_passing test given live)))
    (λ no. rw no (skip no (given (root t)) (scored_passing test given live)))
  where
    put : test t ≡ true → (score : Option ℕ) → filter_map (scored given) (roots (filter test live)) ≡ filter (λ (p : Object × ℕ). test (tree_of p.0)) (filter_map (scored given) (roots live))
        → cons_option (option_map (λ s. (root t, s)) score) (filter_map (scored given) (roots (filter test live))) ≡ filter (λ (p : Object × ℕ). test (tree_of p.0)) (cons_option (option_map (λ s. (root t, s)) score) (filter_map (scored given) (roots live)))
    put held None rest = rest
    put held (Some s) rest = rw held (ap (λ l. (root t, s) ∷ l) rest)

    skip : test t ≡ false → (score : Option ℕ) → filter_map (scored given) (roots (filter test live)) ≡ filter (λ (p : Object × ℕ). test (tree_of p.0)) (filter_map (scored given) (roots live))
        → filter_map (scored given) (roots (filter test live)) ≡ filter (λ (p : Object × ℕ). test (tree_of p.0)) (cons_option (option_map (λ s. (root t, s)) score) (filter_map (scored given) (roots live)))
    skip failed None rest = rest
    skip failed (Some s) rest = rw failed rest

-- hits by a test of their objects
passing_hits : (m : Mapping) (trees : Seq (Seq (Marked Tree))) (test : Tree → Bool) (is : Hit → Bool) (hits : Seq Hit) → AllByRecursion (λ (h : Hit). is h ≡ test (tree_of (hit_object m trees h).0)) hits
    → map (hit_object m trees) (filter is hits) ≡ filter (λ (p : Object × ℕ). test (tree_of p.0)) (map (hit_object m trees) hits)
passing_hits m trees test is [] same = refl
passing_hits m trees test is (h ∷ hits) same =
    by_test (is h)
    (λ yes. let passes : test (tree_of (hit_object m trees h).0) ≡ true = sym same.0 ∙ yes in rw (yes, passes) (ap (λ l. hit_object m trees h ∷ l) (passing_hits m trees test is hits same.1)))
    (λ no. let fails : test (tree_of (hit_object m trees h).0) ≡ false = sym same.0 ∙ no in rw (no, fails) (passing_hits m trees test is hits same.1))

-- the hits of a key, by the keys of hits
pub of_keys : (key_at : Hit → Option ℕ) (key : ℕ) (hits : Seq Hit) → map hit_of (filter (has_key key) (filter_map (λ (h : Hit). option_map (λ k. record { key = k; hit = h }) (key_at h)) hits)) ≡ filter (λ (h : Hit). is_key (key_at h) key) hits
of_keys key_at key [] = refl
of_keys key_at key (h ∷ hits) = by (key_at h) (of_keys key_at key hits)
  where
    by : (own : Option ℕ) → map hit_of (filter (has_key key) (filter_map (λ (h : Hit). option_map (λ k. record { key = k; hit = h }) (key_at h)) hits)) ≡ filter (λ (h : Hit). is_key (key_at h) key) hits
        → map hit_of (filter (has_key key) (cons_option (option_map (λ k. record { key = k; hit = h }) own) (filter_map (λ (h : Hit). option_map (λ k. record { key = k; hit = h }) (key_at h)) hits))) ≡ cond (is_key own key) (h ∷ filter (λ (h : Hit). is_key (key_at h) key) hits) (filter (λ (h : Hit). is_key (key_at h) key) hits)
    by None rest = rest
    by (Some k) rest = by_test (k == key) (λ yes. rw yes (ap (λ l. h ∷ l) rest)) (λ no. rw no rest)

pub joined_hits : (m : Mapping) (trees : Seq (Seq (Marked Tree))) (test : Tree → Bool) (given : Object → Option ℕ) (live : Seq Tree) (is : Hit → Bool) (hits : Seq Hit) → AllByRecursion (λ (h : Hit). is h ≡ test (tree_of (hit_object m trees h).0)) hits
    → map (hit_object m trees) hits ≡ filter_map (scored given) (roots live)
    → map (hit_object m trees) (filter is hits) ≡ filter_map (scored given) (roots (filter test live))
joined_hits m trees test given live is hits same are =
    passing_hits m trees test is hits same
    ∙ ap (filter (λ (p : Object × ℕ). test (tree_of p.0))) are
    ∙ sym (scored_passing test given live)
