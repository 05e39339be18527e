-- Pages and inner hits are larger than what they hold.
use Rattle.std.specs.Prelude.{◌+◌, ◌≤◌, ◌≡◌, List, [], ◌∷◌, refl, map}
use Rattle.std.proofs.Common.{arith}
use denote.Param.Weighed.{most}
use Rattle.query_ast.specs.Pages.{pages_of, pages_size, hits_of, hits_size}
use Rattle.query_ast.specs.Pages.View.{page_part, hit_part}
use Rattle.query_ast.specs.declared.hit.InnerPage.{InnerPage}
use Rattle.query_ast.specs.declared.hit.InnerHit.{InnerHit}
use Rattle.query_ast.specs.declared.hit.InnerHitList.TheDeep.{deep-InnerPage, deep-InnerHit}
use Rattle.query_ast.specs.declared.hit.InnerHitList.TheView as hits_view
use Rattle.query_ast.specs.declared.hit.InnerPageList.TheView as pages_view

page_falls : (page : InnerPage) → deep-InnerPage page ≤ 1 + hits_size (hits_of page.hits)
page_falls page = let e : hits_view.size page.hits ≡ hits_size (hits_of page.hits) = refl in omega arith

hit_falls : (hit : InnerHit) → deep-InnerHit hit ≤ 1 + pages_size (pages_of hit.inner)
hit_falls hit = let e : pages_view.size hit.inner ≡ pages_size (pages_of hit.inner) = refl in omega arith

pub page_list_falls : (pages : List InnerPage) → most deep-InnerPage pages ≤ pages_size (pages_of (map page_part pages))
page_list_falls [] = omega arith
page_list_falls (page ∷ pages) = omega (arith, page_falls page, page_list_falls pages)

pub hit_list_falls : (hits : List InnerHit) → most deep-InnerHit hits ≤ hits_size (hits_of (map hit_part hits))
hit_list_falls [] = omega arith
hit_list_falls (hit ∷ hits) = omega (arith, hit_falls hit, hit_list_falls hits)
