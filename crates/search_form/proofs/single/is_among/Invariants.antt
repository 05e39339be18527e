use Rattle.std.proofs.Common.{◌≡◌, drop, map}
use Rattle.std.specs.List.{list_any}
use Rattle.std.specs.Str.{bytes_eq}
use Rattle.search_form.proofs.single.is_among.Given as goal

abbrev pub invariant-words : goal.invariant-words
invariant-words l =
    list_any (bytes_eq l.text) (map (λ w. w.now) (drop l.word-index l.words)) ≡ list_any (bytes_eq l.text) (map (λ w. w.now) l.words)
