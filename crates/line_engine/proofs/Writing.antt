-- What the sink took, write after write.
use Rattle.std.proofs.Common.{◌≡◌, ℕ, List, [], ◌++◌, ◌<◌, length, take, drop, Option, Some, None, refl, sym, ap, subst, ◌∙◌, append_assoc}
use Rattle.std.proofs.lemmas.List.{append-nil, take-append-drop, nil_from_length}
use Rattle.std.specs.Io.KnownBytes.{Appends, Keeps}
use Rattle.line_engine.specs.Run.{TakesPart}

pub appends_none : (taken : Option (List ℕ)) → Appends taken taken []
appends_none None = tt
appends_none (Some bytes) = sym (append-nil bytes)

pub appends_more : (a b c : Option (List ℕ)) (x y : List ℕ) → Appends a b x → Appends b c y → Appends a c (x ++ y)
appends_more None b c x y first second = tt
appends_more (Some xs) None c x y first second = absurd first
appends_more (Some xs) (Some ys) None x y first second = absurd second
appends_more (Some xs) (Some ys) (Some zs) x y first second = second ∙ (ap (λ front. front ++ y) first ∙ append_assoc xs x y)

pub appends_kept : (a b c : Option (List ℕ)) (x : List ℕ) → Appends a b x → Keeps b c → Appends a c x
appends_kept None b c x first second = tt
appends_kept (Some xs) None c x first second = absurd first
appends_kept (Some xs) (Some ys) None x first second = absurd second
appends_kept (Some xs) (Some ys) (Some zs) x first second = second ∙ first

-- of a piece the sink has taken all but the rest
pub record Written (old new : Option (List ℕ)) (piece rest : List ℕ) : Type 0 where
  pub done : List ℕ
  pub parts : piece ≡ done ++ rest
  pub bytes : Appends old new done

pub written_none : (old : Option (List ℕ)) (piece : List ℕ) → Written old old piece piece
written_none old piece = record { done = []; parts = refl; bytes = appends_none old }

pub written_more : (old mid new : Option (List ℕ)) (piece rest : List ℕ) (count : ℕ) → Written old mid piece rest → Appends mid new (take count rest) → Written old new piece (drop count rest)
written_more old mid new piece rest count written more = record {
  done = written.done ++ take count rest;
  parts = written.parts ∙ (ap (λ (bytes : List ℕ). written.done ++ bytes) (sym (take-append-drop count rest)) ∙ sym (append_assoc written.done (take count rest) (drop count rest)));
  bytes = appends_more old mid new written.done (take count rest) written.bytes more;
}

pub written_all : (old new : Option (List ℕ)) (piece rest : List ℕ) → Written old new piece rest → length rest ≡ 0 → Appends old new piece
written_all old new piece rest written none =
    let all : written.done ≡ piece = sym (append-nil written.done) ∙ (ap (λ (bytes : List ℕ). written.done ++ bytes) (sym (nil_from_length rest none)) ∙ sym written.parts) in
    subst (λ (bytes : List ℕ). Appends old new bytes) all written.bytes

pub written_part : (old mid new : Option (List ℕ)) (piece rest : List ℕ) → Written old mid piece rest → 0 < length rest → Keeps mid new → TakesPart old new piece
written_part old mid new piece rest written some kept = record {
  part = written.done;
  rest = rest;
  parts = written.parts;
  some = some;
  written = appends_kept old mid new written.done written.bytes kept;
}

pub ruleset writes = (written_none, written_more, written_all, written_part)
