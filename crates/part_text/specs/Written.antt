-- Bytes that were appended to: the old ones, and more.
use Rattle.std.proofs.Common.{◌≡◌, ℕ, List, [], ◌++◌, length, take, refl, sym, ap, ◌∙◌, append_assoc}
use Rattle.std.proofs.lemmas.List.{append-nil, take_at}

pub record Extends (old new : List ℕ) : Type 0 where
  pub more : List ℕ
  pub is : new ≡ old ++ more

pub extends_same : (old new : List ℕ) → new ≡ old → Extends old new
extends_same old new same = record { more = []; is = same ∙ sym (append-nil old) }

pub extends_by : (old new text : List ℕ) → new ≡ old ++ text → Extends old new
extends_by old new text by = record { more = text; is = by }

pub extends_more : (old now new : List ℕ) → Extends old now → Extends now new → Extends old new
extends_more old now new first more = record {
  more = first.more ++ more.more;
  is = more.is ∙ ap (λ front. front ++ more.more) first.is ∙ append_assoc old first.more more.more;
}

-- cut to their old length, the bytes are the old ones
pub extends_back : (old new : List ℕ) → Extends old new → take (length old) new ≡ old
extends_back old new grown = ap (take (length old)) grown.is ∙ take_at old grown.more (length old) refl

pub extends_two : (old new one two : List ℕ) → new ≡ (old ++ one) ++ two → Extends old new
extends_two old new one two by = record { more = one ++ two; is = by ∙ append_assoc old one two }

pub ruleset extends = (extends_same, extends_by, extends_two, extends_more)
