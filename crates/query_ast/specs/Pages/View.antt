-- The parts that an `InnerPage` and an `InnerHit` are.
use Rattle.query_ast.specs.Pages.{PagePart, HitPart, pages_of, hits_of}
use Rattle.query_ast.specs.declared.hit.InnerPage.{InnerPage}
use Rattle.query_ast.specs.declared.hit.InnerHit.{InnerHit}

abbrev pub page_part : InnerPage → PagePart
page_part page = record { name = page.name; hits = hits_of page.hits; total = page.total }

abbrev pub hit_part : InnerHit → HitPart
hit_part hit = record {
  head = record { id = hit.id; levels = hit.levels; score = hit.score; source = hit.source };
  inner = pages_of hit.inner;
}
