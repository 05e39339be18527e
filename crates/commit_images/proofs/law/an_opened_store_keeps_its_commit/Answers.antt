use Rattle.std.proofs.Common.{◌≡◌, Some, sym, ◌∙◌}
use Rattle.commit_images.specs.Going.{keeps_found}
use Rattle.commit_images.proofs.law.an_opened_store_keeps_its_commit.Goals as goal

pub returns : goal.returns
returns g c = λ limit found file here only placed long shows.
    keeps_found (g.S.Saying.IsGood limit) found file (g.D.Disk.image c.args.disk.now) placed long shows
    (g.met.D.Disk.gives_image c.args.disk.now file here)
    (λ image is. let same : Some image ≡ Some file = sym (only image is) ∙ here in cc)
