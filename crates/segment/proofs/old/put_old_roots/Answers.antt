use Rattle.std.proofs.Common.{refl, sym, ◌∙◌, arith}
use Rattle.stored_sources.specs.Text.{old_root_text}
use Rattle.stored_sources.specs.Stands.{IsOldRoot}
use Rattle.segment_parts.specs.Once.{many_nowhere}
use Rattle.segment.proofs.Renewal.{put_more}
use Rattle.segment.proofs.old.put_old_roots.Goals as goal

pub returns-in_default-clause-nowhere : goal.returns-in_default-clause-nowhere
returns-in_default-clause-nowhere c = λ _ roots rest long each parts.
    let never = rw c.in_default.is at c.in_ok-after.ensures.only in
    let was = c.roots.invariant in
    many_nowhere old_root_text IsOldRoot c.old_roots_have_one_text.ensures was.roots roots c.roots.rest.now rest was.reading.taking.each each (omega (arith, was.reading.long, c.roots-test.true, long)) (never refl) (sym was.reading.taking.parts ∙ parts)

pub roots-preserved : goal.roots-preserved
roots-preserved c =
    let found = rw c.in-Some.is at c.in_ok-after.ensures.found in
    put_more c.args.bytes.now c.roots.rest.now c.args.into.now.items c.roots.into.items c.roots.counter found.0 c.in-Some.after.now c.renewed_root.new.into.items c.roots.invariant found.1 found.2 found.3
