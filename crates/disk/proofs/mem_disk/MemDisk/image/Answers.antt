use Rattle.std.proofs.Common.{◌≡◌, ◌+◌, List, ℕ, sym, subst, rules}
use Rattle.disk.specs.Record.{ImageSince, after_calls}
use Rattle.disk.specs.Choices.{chosen_image}
use Rattle.disk.proofs.Chosen.{chosen_stops}
use Rattle.disk.proofs.mem_disk.MemDisk.image.Goals as goal

pub returns-clause-stop : goal.returns-clause-stop
returns-clause-stop c =
    let is : c.choose_all.new.file.items ≡ chosen_image c.args.kept.now c.args.self.now.file c.args.call = search rules in
    subst (λ (image : List ℕ). ImageSince (after_calls (c.args.call + 1) c.args.self.now.file) c.args.call image) (sym is)
    (chosen_stops c.args.kept.now c.args.self.now.file c.args.call c.requires.in_record c.requires.fits)
