-- One more element, or one more member, of texts.
use Rattle.std.proofs.Common.{◌≡◌, ℕ, zero, suc, ◌+◌, ◌<◌, List as Seq, [], ◌∷◌, length, get_or, drop, subst, arith}
use Rattle.tree_json.specs.Value.{elements_of, members_of}
use Rattle.tree_json.specs.View.{view, values, entries}
use Rattle.tree_json.specs.declared.value.Json.{Json}
use Rattle.search_form.specs.Texts.{AreTexts, AllAreTexts, EachAreTexts}

pub element_more : (js : Seq Json) (i : ℕ) (j : Json) → i < length js → j ≡ get_or js i j → AreTexts (view j) → AllAreTexts (elements_of (values (drop (i + 1) js))) → AllAreTexts (elements_of (values (drop i js)))
element_more [] i j h is t more = absurd (omega arith)
element_more (k ∷ js) zero j h is t more = (subst (λ x. AreTexts (view x)) is t, more)
element_more (k ∷ js) (suc i) j h is t more =
    let step : suc i + 1 ≡ suc (i + 1) = omega arith in
    element_more js i j (omega arith) is t (rw step at more)

pub member_more : (ms : Seq (Seq ℕ × Json)) (i : ℕ) (m : Seq ℕ × Json) → i < length ms → m ≡ get_or ms i m → AreTexts (view m.1) → EachAreTexts (members_of (entries (drop (i + 1) ms))) → EachAreTexts (members_of (entries (drop i ms)))
member_more [] i m h is t more = absurd (omega arith)
member_more (n ∷ ms) zero m h is t more = (subst (λ (x : Seq ℕ × Json). AreTexts (view x.1)) is t, more)
member_more (n ∷ ms) (suc i) m h is t more =
    let step : suc i + 1 ≡ suc (i + 1) = omega arith in
    member_more ms i m (omega arith) is t (rw step at more)

pub ruleset texts = (element_more, member_more)
