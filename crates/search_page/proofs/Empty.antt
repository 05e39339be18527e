-- A page that asks for no hit.
use Rattle.std.proofs.Common.{◌≡◌, ℕ, suc, List as Seq, [], ◌∷◌, length, map, Option, Some, None, refl, sym, ap, ◌∙◌}
use Rattle.std.specs.List.{filter_map}
use Rattle.mapping.specs.Mapping.{Mapping}
use Rattle.query_ast.specs.Clause.{Clause}
use Rattle.query_ast.specs.Hit.{hit, those_hit}
use Rattle.query_ast.specs.Joined.{roots}
use Rattle.query_ast.specs.Page.{page_of}
use Rattle.query_ast.specs.Rows.{Row, paged, row_if, rows_of}
use Rattle.query_ast.specs.Search.{found_rows, hit_of, hit_page}
use Rattle.query_ast.specs.declared.hit.Hit.{Hit}
use Rattle.query_ast.specs.declared.search.SearchBody.{SearchBody}
use Rattle.query_ast.specs.declared.sort.Sort.{Sort}
use Rattle.tree_objects.specs.Object.{Object}
use Rattle.tree_objects.specs.Tree.{Tree}

-- a row for each object that is hit
pub rows_long : (m : Mapping) (live : Seq Tree) (query : Clause) (sorts : Seq Sort) (os : Seq Object) → length (filter_map (row_if m live query sorts) os) ≡ length (those_hit m live query os)
rows_long m live query sorts [] = refl
rows_long m live query sorts (o ∷ os) = by (hit m live query o) refl (rows_long m live query sorts os)
  where
    by : (score : Option ℕ) → hit m live query o ≡ score → length (filter_map (row_if m live query sorts) os) ≡ length (those_hit m live query os)
        → length (filter_map (row_if m live query sorts) (o ∷ os)) ≡ length (those_hit m live query (o ∷ os))
    by None is rest = rw is rest
    by (Some score) is rest = rw is (ap suc rest)

none_paged : (sorts : Seq Sort) (body : SearchBody) (rows : Seq Row) → paged sorts body.after body.from 0 rows ≡ []
unfolding page_of
none_paged sorts body rows = refl

pub empty_is : (m : Mapping) (live : Seq Tree) (body : SearchBody) (hits : Seq Hit) (count : ℕ) → body.size ≡ 0 → hits ≡ [] → count ≡ length (those_hit m live body.query (roots live)) → record { hits = hits; total = count } ≡ hit_page m live body
unfolding hit_page rows_of
empty_is m live body hits count size none counted =
    ap (λ (l : Seq Hit). record { hits = l; total = count }) none
    ∙ ap (λ (n : ℕ). record { hits = []; total = n }) (counted ∙ sym (rows_long m live body.query body.sort (roots live)))
    ∙ ap (λ (rows : Seq Row). record { hits = map (hit_of m live body) rows; total = length (found_rows m live body) })
    (sym (ap (λ (n : ℕ). paged body.sort body.after body.from n (found_rows m live body)) size ∙ none_paged body.sort body (found_rows m live body)))
