-- Where the tokens of a text stand in it.
use Rattle.std.specs.Prelude.{ℕ, ◌<◌, ◌≤◌, List, [], ◌∷◌}
use Rattle.analysis.specs.declared.token_list.Token.{Token}

-- The tokens stand one after the other in the bytes `from` up to and without `to`: none is empty, and none overlaps the next.
abbrev pub AreApart : ℕ → ℕ → List Token → Type 0
AreApart from to [] = from ≤ to
AreApart from to (token ∷ tokens) = (from ≤ token.from) × (token.from < token.to) × AreApart token.to to tokens
