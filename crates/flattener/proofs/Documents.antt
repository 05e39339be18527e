-- A document grows field by field.
use Rattle.std.proofs.Common.{◌≡◌, ℕ, suc, ◌+◌, ◌-◌, ◌<◌, ◌≤◌, ℤ, List, [], ◌∷◌, ◌++◌, length, refl, sym, ap, ◌∙◌, true, arith, append_assoc, nat_lt}
use Rattle.std.proofs.lemmas.Bool.Decides.{nat_tests}
use Rattle.std.specs.List.{flat_map, range_with_len}
use Rattle.mapping.specs.Mapping.{Mapping}
use Rattle.segment.specs.Flat.{FlatDocument}
use Rattle.tree_json.specs.Value.{JsonValue}
use Rattle.flattener.specs.Adds.{Adds, IsBegun, begun}
use Rattle.flattener.specs.Walked.{numbers_of, keywords_of, words_of, texts_of, flat_at, kept}
use Rattle.mapping.proofs.Nearest.{append_nil}

pub range_next : (a n : ℕ) → a < n → range_with_len a (n - a) ≡ a ∷ range_with_len (a + 1) (n - (a + 1))
range_next a n h =
    let e : n - a ≡ suc (n - (a + 1)) = omega (arith, h) in
    let f : a + 1 ≡ suc a = omega arith in
    rw (e, f) refl

pub range_none : (a n : ℕ) → n ≤ a → range_with_len a (n - a) ≡ []
range_none a n h = let e : n - a ≡ 0 = omega (arith, h) in rw e refl

more : {X : Type 0} (f : ℕ → List X) (a n : ℕ) (done next all : List X) → a < n → done ++ flat_map f (range_with_len a (n - a)) ≡ all → next ≡ done ++ f a
    → next ++ flat_map f (range_with_len (a + 1) (n - (a + 1))) ≡ all
more f a n done next all h e step =
    rw step (append_assoc done (f a) (flat_map f (range_with_len (a + 1) (n - (a + 1))))
    ∙ sym (ap (λ xs. done ++ flat_map f xs) (range_next a n h)) ∙ e)

none : {X : Type 0} (f : ℕ → List X) (a n : ℕ) (done all : List X) → n ≤ a → done ++ flat_map f (range_with_len a (n - a)) ≡ all → done ≡ all
none f a n done all h e = sym (append_nil done) ∙ sym (ap (λ xs. done ++ flat_map f xs) (range_none a n h)) ∙ e

abbrev made : ℕ → List (ℕ × List ℤ) → List (ℕ × List (List ℕ)) → List ((ℕ × List ℕ) × List ℕ) → List ℕ → FlatDocument
made s numbers keywords words texts = record { scope = s; numbers = numbers; keywords = keywords; words = words; texts = texts }

made_same : (s t : ℕ) (a b : List (ℕ × List ℤ)) (c d : List (ℕ × List (List ℕ))) (e f : List ((ℕ × List ℕ) × List ℕ)) (h k : List ℕ) →
    s ≡ t → a ≡ b → c ≡ d → e ≡ f → h ≡ k → made s a c e h ≡ made t b d f k
made_same s t a b c d e f h k o p q r u = rw (o, p, q, r, u) refl

pub begun_next : (m : Mapping) (g s : ℕ) (v : JsonValue) (at : ℕ) (old new : FlatDocument) → at < length m.fields → IsBegun m g s v at old → Adds m g s v at old new → IsBegun m g s v (at + 1) new
begun_next m g s v at old new h b a = record {
  scope = a.scope ∙ b.scope;
  numbers = more (numbers_of m g s v) at (length m.fields) old.numbers new.numbers _ h b.numbers a.numbers;
  keywords = more (keywords_of m g s v) at (length m.fields) old.keywords new.keywords _ h b.keywords a.keywords;
  words = more (words_of m g s v) at (length m.fields) old.words new.words _ h b.words a.words;
  texts = more (texts_of m g s v) at (length m.fields) old.texts new.texts _ h b.texts a.texts;
}

pub begun_all : (m : Mapping) (g s : ℕ) (v : JsonValue) (at : ℕ) (d : FlatDocument) → length m.fields ≤ at → IsBegun m g s v at d → d ≡ flat_at m g s v
begun_all m g s v at d h b =
    made_same d.scope s d.numbers _ d.keywords _ d.words _ d.texts _ b.scope
    (none (numbers_of m g s v) at (length m.fields) d.numbers _ h b.numbers)
    (none (keywords_of m g s v) at (length m.fields) d.keywords _ h b.keywords)
    (none (words_of m g s v) at (length m.fields) d.words _ h b.words)
    (none (texts_of m g s v) at (length m.fields) d.texts _ h b.texts)

pub begun_empty : (m : Mapping) (g s : ℕ) (v : JsonValue) (d : FlatDocument) → d ≡ begun s → IsBegun m g s v 0 d
begun_empty m g s v d empty =
    let all : length m.fields - 0 ≡ length m.fields = omega arith in
    rw empty record {
      scope = refl;
      numbers = ap (λ n. flat_map (numbers_of m g s v) (range_with_len 0 n)) all;
      keywords = ap (λ n. flat_map (keywords_of m g s v) (range_with_len 0 n)) all;
      words = ap (λ n. flat_map (words_of m g s v) (range_with_len 0 n)) all;
      texts = ap (λ n. flat_map (texts_of m g s v) (range_with_len 0 n)) all;
    }

pub ruleset documents = (begun_next, begun_all, begun_empty)

-- ---- one field

pub kept_some : {X : Type 0} (f : ℕ) (xs : List X) → 0 < length xs → kept (f, xs) ≡ (f, xs) ∷ []
kept_some f [] h = absurd (omega (arith, h))
kept_some f (x ∷ xs) h = let some : nat_lt 0 (length (x ∷ xs)) ≡ true = grind (arith, nat_tests) in rw some refl

pub kept_none : {X : Type 0} (f : ℕ) (xs : List X) → length xs ≡ 0 → kept (f, xs) ≡ []
kept_none f [] h = refl
kept_none f (x ∷ xs) h = absurd (omega (arith, h))

pub nothing_more : {X : Type 0} (xs : List X) → xs ++ [] ≡ xs
nothing_more xs = append_nil xs

pub ruleset adding = (kept_some, kept_none, nothing_more)
