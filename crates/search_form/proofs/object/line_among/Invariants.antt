use Rattle.std.proofs.Common.{◌≡◌, drop, map}
use Rattle.search_form.specs.Form.{line_among}
use Rattle.search_form.proofs.object.line_among.Given as goal

abbrev pub invariant-lines : goal.invariant-lines
invariant-lines l =
    line_among l.name (map (λ k. (k.0.now, k.1, k.2)) (drop l.known-index l.lines)) l.other
    ≡ line_among l.name (map (λ k. (k.0.now, k.1, k.2)) l.lines) l.other
