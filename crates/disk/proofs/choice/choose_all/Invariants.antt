use Rattle.std.proofs.Common.{◌≡◌, drop}
use Rattle.disk.specs.Choices.{chosen}
use Rattle.disk.proofs.choice.choose_all.Given as goal

abbrev pub invariant-calls : goal.invariant-calls
invariant-calls l = chosen l.behind (drop l.call-index l.calls) l.file.items ≡ chosen l.choices l.calls l.fn.file.items
