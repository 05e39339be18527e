-- Texts stand where they stood when more bytes come behind them.
use Rattle.std.specs.Prelude.{◌≡◌, ℕ, ◌-◌, List, [], ◌∷◌, ◌++◌, map, take, drop, length, Option, Some, None, Result, Ok, Err, OnErr, All, refl}
use Rattle.std.proofs.Common.{arith, ap, sym, ◌∙◌}
use Rattle.std.proofs.lemmas.List.{take_at, drop_at, take-append-le, drop-append-le, length-append, length-drop, map_push, append-nil}
use Rattle.std.proofs.lemmas.List.Elements.{All-push, recursion_from_All}
use Rattle.std.specs.List.{AllByRecursion}
use Rattle.hit_order.specs.Spans.{text_in, IsSpan, AreSpans}
use Rattle.hit_order.specs.declared.keys.Span.{Span}

text_stays : (bytes more : List ℕ) (span : Option Span) → IsSpan (length bytes) span → text_in (bytes ++ more) span ≡ text_in bytes span
text_stays bytes more None is = refl
text_stays bytes more (Some span) is =
    let long = length-drop span.start bytes in
    ap Some (ap (take (span.end - span.start)) (drop-append-le span.start bytes more (omega (arith, is.0, is.1))) ∙ take-append-le (span.end - span.start) (drop span.start bytes) more (omega (arith, is.0, is.1, long)))

texts_stay : (bytes more : List ℕ) (spans : List (Option Span)) → AllByRecursion (IsSpan (length bytes)) spans → map (text_in (bytes ++ more)) spans ≡ map (text_in bytes) spans
texts_stay bytes more [] are = refl
texts_stay bytes more (span ∷ spans) are = rw (text_stays bytes more span are.0) (ap (λ texts. text_in bytes span ∷ texts) (texts_stay bytes more spans are.1))

span_stays : (bytes more : List ℕ) (span : Option Span) → IsSpan (length bytes) span → IsSpan (length (bytes ++ more)) span
span_stays bytes more None is = tt
span_stays bytes more (Some span) is = (is.0, (let long = length-append bytes more in omega (arith, is.1, long)))

spans_stay : (bytes more : List ℕ) (spans : List (Option Span)) → All (IsSpan (length bytes)) spans → All (IsSpan (length (bytes ++ more))) spans
spans_stay bytes more spans are k d below = span_stays bytes more _ (are k d below)

-- one more text, behind the bytes
text_pushed : (bytes text : List ℕ) (spans : List (Option Span)) (start end : ℕ) → AreSpans bytes spans → start ≡ length bytes → end ≡ length (bytes ++ text) → map (text_in (bytes ++ text)) (spans ++ Some (record { start = start; end = end }) ∷ []) ≡ map (text_in bytes) spans ++ Some text ∷ []
text_pushed bytes text spans start end are from to =
    let long = length-append bytes text in
    let behind : drop start (bytes ++ text) ≡ text = drop_at bytes text start (sym from) in
    let count : length text ≡ end - start = omega (arith, from, to, long) in
    let new : take (end - start) text ≡ text = ap (take (end - start)) (sym (append-nil text)) ∙ take_at text [] (end - start) count in
    map_push (text_in (bytes ++ text)) spans (Some (record { start = start; end = end }))
    ∙ (ap (λ texts. texts ++ text_in (bytes ++ text) (Some (record { start = start; end = end })) ∷ []) (texts_stay bytes text spans (recursion_from_All (IsSpan (length bytes)) spans are.within))
    ∙ ap (λ last. map (text_in bytes) spans ++ Some last ∷ []) (ap (take (end - start)) behind ∙ new))

spans_pushed : (bytes text : List ℕ) (spans : List (Option Span)) (start end : ℕ) → AreSpans bytes spans → start ≡ length bytes → end ≡ length (bytes ++ text) → AreSpans (bytes ++ text) (spans ++ Some (record { start = start; end = end }) ∷ [])
spans_pushed bytes text spans start end are from to = record {
  within = let long = length-append bytes text in
      All-push (IsSpan (length (bytes ++ text))) spans (Some (record { start = start; end = end })) (spans_stay bytes text spans are.within)
      (omega (arith, from, to, long), omega (arith, to));
}

pub text_added : (bytes text longer : List ℕ) (spans more : List (Option Span)) (start end : ℕ) (value : List (Option (List ℕ))) → AreSpans bytes spans → map (text_in bytes) spans ≡ value → longer ≡ bytes ++ text → start ≡ length bytes → end ≡ length longer → more ≡ spans ++ Some (record { start = start; end = end }) ∷ [] → map (text_in longer) more ≡ value ++ Some text ∷ []
text_added bytes text longer spans more start end value are is grown from to pushed =
    rw (grown, pushed, ← is) (text_pushed bytes text spans start end are from (to ∙ ap length grown))

pub spans_added : (bytes text longer : List ℕ) (spans more : List (Option Span)) (start end : ℕ) → AreSpans bytes spans → longer ≡ bytes ++ text → start ≡ length bytes → end ≡ length longer → more ≡ spans ++ Some (record { start = start; end = end }) ∷ [] → AreSpans longer more
spans_added bytes text longer spans more start end are grown from to pushed =
    rw (grown, pushed) (spans_pushed bytes text spans start end are from (to ∙ ap length grown))

-- where there was no memory for the place of a text, its bytes stay behind the others
pub texts_unchanged : (bytes text longer : List ℕ) (spans more : List (Option Span)) (value : List (Option (List ℕ))) → AreSpans bytes spans → map (text_in bytes) spans ≡ value → longer ≡ bytes ++ text → more ≡ spans → map (text_in longer) more ≡ value
texts_unchanged bytes text longer spans more value are is grown same =
    rw (grown, same) (texts_stay bytes text spans (recursion_from_All (IsSpan (length bytes)) spans are.within) ∙ is)

pub spans_unchanged : (bytes text longer : List ℕ) (spans more : List (Option Span)) → AreSpans bytes spans → longer ≡ bytes ++ text → more ≡ spans → AreSpans longer more
spans_unchanged bytes text longer spans more are grown same = rw (grown, same) (record { within = spans_stay bytes text spans are.within })

pub ruleset texts = (text_added, spans_added, texts_unchanged, spans_unchanged)

pub on_err : {T E : Type 0} (r : Result T E) (P : Type 0) → P → OnErr r P
on_err (Ok x) P p = tt
on_err (Err e) P p = p
