-- Tokens text by text, and words token by token.
use Rattle.std.proofs.Common.{◌≡◌, ℕ, ◌+◌, ◌≤◌, ◌==◌, List, [], ◌∷◌, ◌++◌, length, map, drop, get_or, refl, sym, ap, ◌∙◌, arith, Option, Some, None}
use Rattle.std.specs.List.{filter_map, range_with_len}
use Rattle.analysis.specs.Words.{words}
use Rattle.mapping_body.specs.declared.kind.Kind.TheVariants.{Text}
use Rattle.tree_json.specs.Value.{JsonValue}
use Rattle.tree_objects.specs.Values.{convert, text_of}
use Rattle.flattener.specs.Flat.{texts_in, placed_words}
use Rattle.flattener.specs.Walked.{one_text}
use Rattle.flattener.specs.Placing.{tokens_on, texts_among, start_of, end_after, end_of, room}
use Rattle.flattener.proofs.Numbers.{texts_next}
use Rattle.mapping_body.proofs.Walks.{split}

pub tokens_next : (end : Option ℕ) (text : List ℕ) (rest : List (List ℕ)) →
    tokens_on end (text ∷ rest) ≡ placed_words (start_of end) (words text) ++ tokens_on (end_after end (length (words text))) rest
tokens_next None text rest = refl
tokens_next (Some end) text rest = refl

pub texts_among_next : (v : JsonValue) (vs : List JsonValue) → texts_among (v ∷ vs) ≡ one_text (text_of v) ++ texts_among vs
texts_among_next v vs = texts_next text_of v vs

pub texts_convert : (vs : List JsonValue) → texts_in (filter_map (convert Text) vs) ≡ texts_among vs
unfolding convert
texts_convert [] = refl
texts_convert (v ∷ vs) = texts_next (convert Text) v vs ∙ rw (texts_convert vs) (sym (texts_next text_of v vs))

pub tokens_none : (end : Option ℕ) → tokens_on end [] ≡ []
tokens_none None = refl
tokens_none (Some end) = refl

-- ---- words with numbers

news_placed : {X : Type 0} (f : X → List ℕ) (g : X → ℕ) (new : List X) (at : ℕ) (ws : List (List ℕ))
    → map f new ≡ ws → map g new ≡ range_with_len at (length ws) → map (λ x. (f x, g x)) new ≡ placed_words at ws
news_placed f g [] at [] h k = refl
news_placed f g [] at (w ∷ ws) h k = absurd (cc (h))
news_placed f g (x ∷ xs) at [] h k = absurd (cc (h))
news_placed f g (x ∷ xs) at (w ∷ ws) h k =
    let word : f x ≡ w = ap (λ l. get_or l 0 w) h in
    let number : g x ≡ at = ap (λ l. get_or l 0 at) k in
    rw (word, number, news_placed f g xs (at + 1) ws (ap (drop 1) h) (ap (drop 1) k)) refl

-- what is added to a list is words with positions, if it is words and numbers
pub words_placed : {X : Type 0} (f : X → List ℕ) (g : X → ℕ) (old new : List X) (at : ℕ) (ws : List (List ℕ))
    → map f new ≡ map f old ++ ws → map g new ≡ map g old ++ range_with_len at (length ws)
    → map (λ x. (f x, g x)) new ≡ map (λ x. (f x, g x)) old ++ placed_words at ws
words_placed f g [] new at ws h k = news_placed f g new at ws h k
words_placed f g (o ∷ old) [] at ws h k = absurd (cc (h))
words_placed f g (o ∷ old) (x ∷ xs) at ws h k =
    let word : f x ≡ f o = ap (λ l. get_or l 0 (f o)) h in
    let number : g x ≡ g o = ap (λ l. get_or l 0 (g o)) k in
    rw (word, number, words_placed f g old xs at ws (ap (drop 1) h) (ap (drop 1) k)) refl

-- ---- positions

room_append : (texts more : List (List ℕ)) → room (texts ++ more) ≡ room texts + room more
room_append [] more = omega arith
room_append (text ∷ texts) more = omega (arith, room_append texts more)

pub room_next : (v : JsonValue) (vs : List JsonValue) → room (texts_among (v ∷ vs)) ≡ room (one_text (text_of v)) + room (texts_among vs)
room_next v vs = ap room (texts_among_next v vs) ∙ room_append (one_text (text_of v)) (texts_among vs)

pub start_after : (end : Option ℕ) → start_of end ≤ end_of end + 100
start_after None = omega arith
start_after (Some end) = omega arith

pub end_within : (end : Option ℕ) (count : ℕ) (text : List ℕ) → count ≤ length text → end_of (end_after end count) ≤ end_of end + room (text ∷ [])
end_within None count text few = omega (arith, few)
end_within (Some end) count text few =
    split (count == 0)
    (λ none. rw none (omega arith))
    (λ some. rw some (omega (arith, few)))

pub ruleset wording = (tokens_next, texts_among_next, tokens_none, room_next, start_after, end_within)

pub ruleset converting = (texts_convert, tokens_none)
