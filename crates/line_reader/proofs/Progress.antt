-- What was read and used, step after step.
use Rattle.std.proofs.Common.{◌≡◌, ℕ, ◌+◌, IsTrue, List, [], ◌∷◌, ◌++◌, length, Option, Some, None, refl, sym, ap, subst, ◌∙◌, append_assoc, arith, length-append}
use Rattle.std.proofs.lemmas.List.{append-nil}
use Rattle.std.specs.Io.KnownBytes.{Consumes}
use Rattle.line_reader.specs.Seen.{InputState, KnowsEnd, ahead}
use Rattle.line_reader.specs.Reading.{Reads, Stands}
use Rattle.line_reader.specs.declared.stop.Stop.{Stop}
use Rattle.line_reader.specs.declared.stop.Stop.TheVariants.{End, Limit, Fault}

pub consumes_none : (left : Option (List ℕ)) → Consumes left left []
consumes_none None = tt
consumes_none (Some bytes) = refl

pub consumes_more : (a b c : Option (List ℕ)) (x y : List ℕ) → Consumes a b x → Consumes b c y → Consumes a c (x ++ y)
consumes_more None b c x y first second = tt
consumes_more (Some xs) None c x y first second = absurd first
consumes_more (Some xs) (Some bs) None x y first second = absurd second
consumes_more (Some xs) (Some bs) (Some cs) x y first second = first ∙ (ap (λ zs. x ++ zs) second ∙ sym (append_assoc x y cs))

stands_behind : (stop : Option Stop) (input : InputState) (before read gave : List ℕ) → Stands stop input read gave → Stands stop input (before ++ read) (before ++ gave)
stands_behind None input before read gave stands = ap (λ bytes. before ++ bytes) stands
stands_behind (Some End) input before read gave stands = (ap (λ bytes. before ++ bytes) stands.0, stands.1)
stands_behind (Some Limit) input before read gave stands =
    ((stands.0.0, ap (λ bytes. before ++ bytes) stands.0.1 ∙ sym (append_assoc before read (stands.0.0 ∷ []))), stands.1, stands.2, stands.3)
stands_behind (Some Fault) input before read gave stands = (ap (λ bytes. before ++ bytes) stands.0, stands.1, stands.2)

-- nothing was read and nothing used
pub reads_none : (input : InputState) (left : Option (List ℕ)) (Is : List ℕ → Type 0) → Is [] → Reads None input input left left Is
reads_none input left Is is = record {
  used = [];
  read = [];
  gave = [];
  consumed = consumes_none left;
  parts = append-nil input.unread;
  allowance = omega arith;
  later = λ ended. (refl, ended);
  stands = refl;
  is = is;
}

-- a piece of what was unread was used
pub reads_piece : (old new : InputState) (left : Option (List ℕ)) (piece : List ℕ) (Is : List ℕ → Type 0) →
    old.unread ≡ piece ++ new.unread → new.allowance ≡ old.allowance → new.ended ≡ old.ended → Is piece → Reads None old new left left Is
reads_piece old new left piece Is parts allowance ended is = record {
  used = piece;
  read = [];
  gave = [];
  consumed = consumes_none left;
  parts = append-nil old.unread ∙ parts;
  allowance = omega (arith, allowance);
  later = λ was. (refl, subst IsTrue (sym ended) was);
  stands = refl;
  is = is;
}

-- one after the other
pub reads_both : (stop : Option Stop) (old mid new : InputState) (left left' left'' : Option (List ℕ)) (One Two Both : List ℕ → Type 0) →
    (one : Reads None old mid left left' One) → (two : Reads stop mid new left' left'' Two) → Both (one.used ++ two.used) → Reads stop old new left left'' Both
reads_both stop old mid new left left' left'' One Two Both one two both = record {
  used = one.used ++ two.used;
  read = one.read ++ two.read;
  gave = one.read ++ two.gave;
  consumed = consumes_more left left' left'' one.read two.gave (subst (λ (bytes : List ℕ). Consumes left left' bytes) one.stands one.consumed) two.consumed;
  parts = sym (append_assoc old.unread one.read two.read) ∙ (ap (λ xs. xs ++ two.read) one.parts ∙ (append_assoc one.used mid.unread two.read
      ∙ (ap (λ xs. one.used ++ xs) two.parts ∙ sym (append_assoc one.used two.used new.unread))));
  allowance = omega (arith, length-append one.read two.read, one.allowance, two.allowance);
  later = λ was. (ap (λ bytes. bytes ++ two.read) (one.later was).0 ∙ (two.later (one.later was).1).0, (two.later (one.later was).1).1);
  stands = stands_behind stop new one.read two.read two.gave two.stands;
  is = both;
}

-- what is said of the bytes used follows from something else
pub reads_as : (stop stop' : Option Stop) (old new : InputState) (left left' : Option (List ℕ)) (One Two : List ℕ → Type 0) →
    (reads : Reads stop old new left left' One) → Stands stop' new reads.read reads.gave → Two reads.used → Reads stop' old new left left' Two
reads_as stop stop' old new left left' One Two reads stands is = record {
  used = reads.used;
  read = reads.read;
  gave = reads.gave;
  consumed = reads.consumed;
  parts = reads.parts;
  allowance = reads.allowance;
  later = reads.later;
  stands = stands;
  is = is;
}

-- what is used is no longer ahead
pub reads_ahead : (stop : Option Stop) (old new : InputState) (left left' : Option (List ℕ)) (Is : List ℕ → Type 0) → (reads : Reads stop old new left left' Is) →
    ahead new + length reads.used ≡ ahead old
reads_ahead stop old new left left' Is reads =
    omega (arith, length-append old.unread reads.read, length-append reads.used new.unread, ap length reads.parts, reads.allowance)

-- once the input has ended nothing more is used
pub reads_over : (stop : Option Stop) (old new : InputState) (left left' : Option (List ℕ)) (Is : List ℕ → Type 0) → (reads : Reads stop old new left left' Is) →
    KnowsEnd old left → IsTrue old.ended → reads.used ≡ []
reads_over stop old new left left' Is reads known ended =
    let none : reads.used ++ new.unread ≡ [] = sym reads.parts ∙ (ap (λ bytes. old.unread ++ bytes) (reads.later ended).0 ∙ (append-nil old.unread ∙ (known ended).0)) in
    nil_front reads.used new.unread none
  where
    nil_front : (front back : List ℕ) → front ++ back ≡ [] → front ≡ []
    nil_front [] back none = refl
    nil_front (b ∷ bs) back none = absurd (let long : length (b ∷ (bs ++ back)) ≡ 0 = ap length none in omega (arith, long))
