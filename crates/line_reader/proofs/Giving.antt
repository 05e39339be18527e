-- What a reader has given, request after request.
use Rattle.std.proofs.Common.{◌≡◌, ℕ, ◌<◌, Bool, true, false, not, IsTrue, List, [], ◌∷◌, ◌++◌, ◌⊎◌, length, filter, Option, Some, None, Err, refl, sym, ap, subst, inl, inr, ◌∙◌, append_assoc, arith, length-append}
use Rattle.std.proofs.lemmas.List.{append-nil}
use Rattle.std.specs.List.{AllByRecursion}
use Rattle.std.specs.Io.KnownBytes.{Consumes, IsAtEnd}
use Rattle.line_reader.specs.Request.{Request, requests, whole_requests}
use Rattle.line_reader.specs.Seen.{InputState, KnowsEnd, longest_piece}
use Rattle.line_reader.specs.Given.{HasGiven, Gives, IsPrefix, ReadsFirst, ReadsAll, ReadsWhole, ReadsToLimit}
use Rattle.line_reader.specs.Reading.{Reads, IsRequest, RequestOf}
use Rattle.line_reader.specs.Held.{LineState}
use Rattle.line_reader.specs.declared.stop.Stop.{Stop}
use Rattle.line_reader.specs.declared.stop.Stop.TheVariants.{End, Limit, Fault}
use Rattle.line_reader.proofs.Progress.{consumes_none, consumes_more, reads_over}

-- at the start nothing is read, and nothing given
pub given_none : (most : ℕ) (start : Option (List ℕ)) (input : InputState) → input ≡ record { unread = []; allowance = most; ended = false } → HasGiven most start start input []
given_none most start input fresh = record {
  read = [];
  used = [];
  consumed = consumes_none start;
  parts = sym (ap (λ (it : InputState). it.unread) fresh);
  allowance = omega (arith, ap (λ (it : InputState). it.allowance) fresh);
  asks = λ after may. refl;
  whole = λ going. tt;
}

-- where each of a list has ended, all of it is whole
whole_all : (asked more : List Request) → AllByRecursion (λ (request : Request). request.ended ≡ true) asked →
    filter (λ (request : Request). request.ended) (asked ++ more) ≡ asked ++ filter (λ (request : Request). request.ended) more
whole_all [] more each = refl
whole_all (request ∷ asked) more each =
    let kept : filter (λ (it : Request). it.ended) (request ∷ (asked ++ more)) ≡ request ∷ filter (λ (it : Request). it.ended) (asked ++ more) = rw each.0 refl in
    kept ∙ ap (λ (rest : List Request). request ∷ rest) (whole_all asked more each.1)

all_push : (asked : List Request) (request : Request) → AllByRecursion (λ (it : Request). it.ended ≡ true) asked → request.ended ≡ true → AllByRecursion (λ (it : Request). it.ended ≡ true) (asked ++ request ∷ [])
all_push [] request each one = (one, tt)
all_push (first ∷ asked) request each one = (each.0, all_push asked request each.1 one)

whole_is : (bytes : List ℕ) → whole_requests bytes ≡ filter (λ (request : Request). request.ended) (requests bytes)
unfolding whole_requests
whole_is bytes = refl

no_requests : requests [] ≡ []
unfolding requests
no_requests = refl

-- the whole requests of what was used and other bytes
whole_after : (used after : List ℕ) (given : List Request) → requests (used ++ after) ≡ given ++ requests after → AllByRecursion (λ (request : Request). request.ended ≡ true) given →
    whole_requests (used ++ after) ≡ given ++ whole_requests after
whole_after used after given asks each =
    whole_is (used ++ after) ∙ (ap (λ (all : List Request). filter (λ (request : Request). request.ended) all) asks ∙ (whole_all given (requests after) each ∙ ap (λ (rest : List Request). given ++ rest) (sym (whole_is after))))

-- an input that goes on went on before
went_on : (old new : Bool) → (IsTrue old → IsTrue new) → new ≡ false → old ≡ false
went_on false new later going = refl
went_on true new later going = absurd (let both : true ≡ false = sym (later refl) ∙ going in cc)

-- what the source gave, and what is used of it
read_parts : (old new : InputState) (read used read' used' : List ℕ) → read ≡ used ++ old.unread → old.unread ++ read' ≡ used' ++ new.unread → read ++ read' ≡ (used ++ used') ++ new.unread
read_parts old new read used read' used' parts more =
    ap (λ (bytes : List ℕ). bytes ++ read') parts ∙ (append_assoc used old.unread read' ∙ (ap (λ (bytes : List ℕ). used ++ bytes) more ∙ sym (append_assoc used used' new.unread)))

read_all : (old new : InputState) (read used read' used' : List ℕ) → read ≡ used ++ old.unread → old.unread ++ read' ≡ used' ++ new.unread → new.unread ≡ [] → read ++ read' ≡ used ++ used'
read_all old new read used read' used' parts more none =
    read_parts old new read used read' used' parts more ∙ (ap (λ (bytes : List ℕ). (used ++ used') ++ bytes) none ∙ append-nil (used ++ used'))

-- ## one request more

pub given_next : (most : ℕ) (start left left' : Option (List ℕ)) (old new : InputState) (given : List Request) (request : Request) → HasGiven most start left old given → KnowsEnd old left →
    Reads None old new left left' (IsRequest new.ended request) → request.ended ≡ not new.ended → HasGiven most start left' new (given ++ request ∷ [])
given_next most start left left' old new given request has known reads is_ended = record {
  read = has.read ++ reads.read;
  used = has.used ++ reads.used;
  consumed = consumes_more start left left' has.read reads.read has.consumed (subst (λ (bytes : List ℕ). Consumes left left' bytes) reads.stands reads.consumed);
  parts = read_parts old new has.read has.used reads.read reads.used has.parts reads.parts;
  allowance = omega (arith, length-append has.read reads.read, has.allowance, reads.allowance);
  asks = λ after may. ap requests (append_assoc has.used reads.used after)
      ∙ (has.asks (reads.used ++ after) (λ was. ap (λ (bytes : List ℕ). bytes ++ after) (reads_over None old new left left' (IsRequest new.ended request) reads known was) ∙ may (reads.later was).1)
      ∙ (ap (λ (rest : List Request). given ++ rest) (reads.is.asks after may) ∙ sym (append_assoc given (request ∷ []) (requests after))));
  whole = λ going. all_push given request (has.whole (went_on old.ended new.ended (λ was. (reads.later was).1) going)) (is_ended ∙ ap not going);
}

pub given_first : (most : ℕ) (start left : Option (List ℕ)) (input : InputState) (given : List Request) → HasGiven most start left input given → KnowsEnd input left →
    length input.unread < longest_piece → ReadsFirst most start left given
given_first most start left input given has known near = record {
  used = has.used;
  beyond = input.unread;
  read = subst (λ (bytes : List ℕ). Consumes start left bytes) has.parts has.consumed;
  within = let long : length has.read ≡ length (has.used ++ input.unread) = ap length has.parts in omega (arith, long, has.allowance);
  asked = ap requests (sym (append-nil has.used)) ∙ (has.asks [] (λ was. refl) ∙ (ap (λ (rest : List Request). given ++ rest) no_requests ∙ append-nil given));
  near = near;
  first = by_end input.ended refl;
}
  where
    by_end : (ended : Bool) → input.ended ≡ ended → IsPrefix given (whole_requests (has.used ++ input.unread)) ⊎ (IsAtEnd left × (input.unread ≡ []))
    by_end true is = inr ((known is).1, (known is).0)
    by_end false is = inl (whole_requests input.unread, whole_after has.used input.unread given (has.asks input.unread (λ was. absurd (let both : true ≡ false = sym was ∙ is in cc))) (has.whole is))

-- ## why there is none

pub given_all : (most : ℕ) (start left left' : Option (List ℕ)) (old new : InputState) (given : List Request) → HasGiven most start left old given → KnowsEnd old left → KnowsEnd new left' →
    Reads (Some End) old new left left' (λ used. requests used ≡ []) → ReadsAll most start left' given
given_all most start left left' old new given has known over reads =
    let all : has.read ++ reads.read ≡ has.used ++ reads.used = read_all old new has.read has.used reads.read reads.used has.parts reads.parts (over reads.stands.1).0 in
    record {
      input = has.read ++ reads.read;
      read = consumes_more start left left' has.read reads.read has.consumed (subst (λ (bytes : List ℕ). Consumes left left' bytes) reads.stands.0 reads.consumed);
      ended = (over reads.stands.1).1;
      within = omega (arith, length-append has.read reads.read, has.allowance, reads.allowance);
      asked = ap requests all ∙ (has.asks reads.used (reads_over (Some End) old new left left' (λ used. requests used ≡ []) reads known)
          ∙ (ap (λ (rest : List Request). given ++ rest) reads.is ∙ append-nil given));
    }

pub given_whole : (most : ℕ) (start left left' : Option (List ℕ)) (old new : InputState) (given : List Request) → HasGiven most start left old given → KnowsEnd old left →
    Reads (Some Fault) old new left left' (λ used. whole_requests used ≡ []) → ReadsWhole most start left' given
given_whole most start left left' old new given has known reads =
    let all : has.read ++ reads.read ≡ has.used ++ reads.used = read_all old new has.read has.used reads.read reads.used has.parts reads.parts reads.stands.1 in
    record {
      input = has.read ++ reads.read;
      read = consumes_more start left left' has.read reads.read has.consumed (subst (λ (bytes : List ℕ). Consumes left left' bytes) reads.stands.0 reads.consumed);
      within = omega (arith, length-append has.read reads.read, has.allowance, reads.allowance);
      asked = ap whole_requests all ∙ (whole_after has.used reads.used given (has.asks reads.used (reads_over (Some Fault) old new left left' (λ used. whole_requests used ≡ []) reads known))
          (has.whole (went_on old.ended new.ended (λ was. (reads.later was).1) reads.stands.2)) ∙ (ap (λ (rest : List Request). given ++ rest) reads.is ∙ append-nil given));
    }

pub given_limit : (most : ℕ) (start left left' : Option (List ℕ)) (old new : InputState) (given : List Request) → HasGiven most start left old given → KnowsEnd old left →
    Reads (Some Limit) old new left left' (λ used. whole_requests used ≡ []) → ReadsToLimit most start left' given
given_limit most start left left' old new given has known reads =
    let all : has.read ++ reads.read ≡ has.used ++ reads.used = read_all old new has.read has.used reads.read reads.used has.parts reads.parts reads.stands.1 in
    let none : new.allowance ≡ 0 = reads.stands.2 in
    record {
      input = has.read ++ reads.read;
      more = reads.stands.0.0;
      read = subst (λ (bytes : List ℕ). Consumes start left' bytes) (sym (append_assoc has.read reads.read (reads.stands.0.0 ∷ [])))
          (consumes_more start left left' has.read (reads.read ++ reads.stands.0.0 ∷ []) has.consumed (subst (λ (bytes : List ℕ). Consumes left left' bytes) reads.stands.0.1 reads.consumed));
      within = omega (arith, length-append has.read reads.read, has.allowance, reads.allowance, none);
      asked = ap whole_requests all ∙ (whole_after has.used reads.used given (has.asks reads.used (reads_over (Some Limit) old new left left' (λ used. whole_requests used ≡ []) reads known))
          (has.whole (went_on old.ended new.ended (λ was. (reads.later was).1) reads.stands.3)) ∙ (ap (λ (rest : List Request). given ++ rest) reads.is ∙ append-nil given));
    }

pub given_stopped : (stop : Stop) (most : ℕ) (start left left' : Option (List ℕ)) (old new : InputState) (ended : Bool) (first second : LineState) (given : List Request) (request : Request) →
    HasGiven most start left old given → KnowsEnd old left → KnowsEnd new left' → Reads (Some stop) old new left left' (RequestOf (Err stop) ended first second) →
    Gives (Some stop) most start left' new given request
given_stopped End most start left left' old new ended first second given request has known over reads = given_all most start left left' old new given has known over reads
given_stopped Limit most start left left' old new ended first second given request has known over reads = given_limit most start left left' old new given has known reads
given_stopped Fault most start left left' old new ended first second given request has known over reads = given_whole most start left left' old new given has known reads
