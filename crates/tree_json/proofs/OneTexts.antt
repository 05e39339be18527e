-- The tokens of an object that holds one text.
use Rattle.std.proofs.Common.{◌≡◌, ℕ, List, [], ◌∷◌, Option, Some, option_and_then, refl, sym, ap, ◌∙◌}
use Rattle.json.specs.Json as json
use Rattle.json.specs.Json.{value, items, members}
use Rattle.json.specs.Lex.{tokens}
use Rattle.json.specs.Token.{Token}
use Rattle.serde_json.specs.Data as source
use Rattle.serde_json.specs.Read.{read, of_json}
use Rattle.tree_json.specs.OneText.{one_text}
use Rattle.tree_json.specs.Quick.{SaysText}

abbrev shape : List ℕ → List ℕ → List ℕ → List Token
shape outer inner within = Token.begin_object ∷ Token.key outer ∷ Token.begin_object ∷ Token.key inner ∷ Token.string within ∷ Token.end_object ∷ Token.end_object ∷ []

abbrev found : List ℕ → List ℕ → List ℕ → json.Json
found outer inner within = json.object (json.member outer (json.object (json.member inner (json.string within) json.no_members)) json.no_members)

found_in : (outer inner within : List ℕ) → value 127 (shape outer inner within) ≡ Some (found outer inner within, [])
unfolding value items members
found_in outer inner within = refl

abbrev data_in : Option (json.Json × List Token) → Option source.Data
data_in o = option_and_then of_json (option_and_then (λ p. json.if_last p.0 p.1) o)

one_text_tokens : (bytes outer inner within : List ℕ) → tokens bytes ≡ shape outer inner within → SaysText (read bytes) (one_text outer inner within)
one_text_tokens bytes outer inner within e = record {
  says = source.object (source.member outer (source.object (source.member inner (source.string within) source.no_members)) source.no_members);
  parses = ap data_in (ap (value 127) e ∙ found_in outer inner within);
  whole = refl;
}

-- token by token
pub one_text_read : (bytes outer inner within : List ℕ) (a b c d f g h i : List Token) → a ≡ tokens bytes → a ≡ Token.begin_object ∷ b → b ≡ Token.key outer ∷ c → c ≡ Token.begin_object ∷ d → d ≡ Token.key inner ∷ f
    → f ≡ Token.string within ∷ g → g ≡ Token.end_object ∷ h → h ≡ Token.end_object ∷ i → i ≡ [] → SaysText (read bytes) (one_text outer inner within)
one_text_read bytes outer inner within a b c d f g h i start p q r s t u v over =
    let e7 = v ∙ ap (λ ts. Token.end_object ∷ ts) over in
    let e6 = u ∙ ap (λ ts. Token.end_object ∷ ts) e7 in
    let e5 = t ∙ ap (λ ts. Token.string within ∷ ts) e6 in
    let e4 = s ∙ ap (λ ts. Token.key inner ∷ ts) e5 in
    let e3 = r ∙ ap (λ ts. Token.begin_object ∷ ts) e4 in
    let e2 = q ∙ ap (λ ts. Token.key outer ∷ ts) e3 in
    let e1 = p ∙ ap (λ ts. Token.begin_object ∷ ts) e2 in
    one_text_tokens bytes outer inner within (sym start ∙ e1)
