use Rattle.std.proofs.Common.{◌≡◌, drop, map}
use Rattle.request_form.specs.Command.{name_among}
use Rattle.request_form.proofs.command.name_among.Given as goal

abbrev pub invariant-names : goal.invariant-names
invariant-names l = name_among l.word (map (λ n. (n.0.now, n.1)) (drop l.known-index l.names)) ≡ name_among l.word (map (λ n. (n.0.now, n.1)) l.names)
