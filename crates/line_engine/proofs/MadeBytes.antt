-- The bytes of the made input that are left, piece by piece.
use Rattle.std.proofs.Common.{◌≡◌, ◌≤◌, ◌<◌, ◌+◌, ◌-◌, ℕ, min, List, [], ◌++◌, codes, length, take, drop, Option, sym, ap, ◌∙◌, append_assoc, arith}
use Rattle.std.proofs.lemmas.Grind.{flat_map-append}
use Rattle.std.proofs.lemmas.List.{drop_all, length-append, length-drop, nil_from_length, take-append-drop}
use Rattle.std.specs.Io.KnownBytes.{Appends}
use Rattle.made_load.specs.Given.{Gives}
use Rattle.made_load.specs.Lines.{lines_text}
use Rattle.tree_json.specs.Output.{OutState, room_of}
use Rattle.line_engine.specs.Run.{TakesPart}
use Rattle.line_engine.proofs.Writing.{Written, appends_more, written_all}

-- ## lines that are appended

pub given_on : (left left' : List (List ℕ)) (bytes bytes' whole : List ℕ) → Gives left left' bytes bytes' → bytes ++ lines_text left ≡ whole → bytes' ++ lines_text left' ≡ whole
given_on left left' bytes bytes' whole gives so_far =
    ap (λ (it : List ℕ). it ++ lines_text left') gives.written
    ∙ (append_assoc bytes (lines_text gives.lines) (lines_text left')
    ∙ (ap (λ (it : List ℕ). bytes ++ it) (sym (flat_map-append (λ line. line ++ codes "\n") gives.lines left'))
    ∙ (ap (λ (it : List (List ℕ)). bytes ++ lines_text it) (sym gives.parts) ∙ so_far)))

pub given_fewer : (left left' : List (List ℕ)) (bytes bytes' : List ℕ) → Gives left left' bytes bytes' → length left' < length left
given_fewer left left' bytes bytes' gives =
    let both : length left ≡ length gives.lines + length left' = ap (λ (it : List (List ℕ)). length it) gives.parts ∙ length-append gives.lines left' in
    omega (arith, both, gives.some)

-- where there is room for less than a step, something was appended
pub some_appended : (piece : OutState) (lines : List (List ℕ)) → 1024 ≤ room_of piece → piece.spare < 1024 → piece.bytes ≡ [] → lines ≡ []
some_appended piece lines room full none =
    let nothing : length piece.bytes ≡ 0 = ap (λ (it : List ℕ). length it) none in
    absurd (omega (arith, room, full, nothing))

pub ruleset appended = (given_on, given_fewer, some_appended)

-- ## a piece

pub none_ready : (at : ℕ) (bytes : List ℕ) → at ≡ length bytes → drop at bytes ≡ []
none_ready at bytes is = drop_all at bytes (omega (arith, is))

pub some_ready : (at : ℕ) (bytes : List ℕ) → at ≤ length bytes → drop at bytes ≡ [] → at ≡ length bytes
some_ready at bytes within none =
    let nothing : length (drop at bytes) ≡ 0 = ap (λ (it : List ℕ). length it) none in
    let long : length (drop at bytes) ≡ length bytes - at = length-drop at bytes in
    omega (arith, within, nothing, long)

pub ruleset filled = (none_ready, some_ready)

-- ## a read

pub given_front : (ready rest into : List ℕ) (count : ℕ) → take count into ≡ take count ready → ready ++ rest ≡ take count into ++ (drop count ready ++ rest)
given_front ready rest into count front =
    sym (ap (λ (it : List ℕ). it ++ (drop count ready ++ rest)) front
    ∙ (sym (append_assoc (take count ready) (drop count ready) rest) ∙ ap (λ (it : List ℕ). it ++ rest) (take-append-drop count ready)))

pub given_none : (ready : List ℕ) (room count : ℕ) → count ≡ min (length ready) room → count ≡ 0 → 0 < room → ready ≡ []
given_none ready room count is none some = nil_from_length ready (grind arith)

pub ruleset given = (given_front, given_none)

-- ## what is written

pub written_on : (old mid new : Option (List ℕ)) (piece ready rest : List ℕ) → Written old mid piece (ready ++ rest) → Appends mid new ready → Written old new piece rest
written_on old mid new piece ready rest written more = record {
  done = written.done ++ ready;
  parts = written.parts ∙ sym (append_assoc written.done ready rest);
  bytes = appends_more old mid new written.done ready written.bytes more;
}

pub written_cut : (old mid new : Option (List ℕ)) (piece ready rest : List ℕ) → Written old mid piece (ready ++ rest) → TakesPart mid new ready → TakesPart old new piece
written_cut old mid new piece ready rest written takes = record {
  part = written.done ++ takes.part;
  rest = takes.rest ++ rest;
  parts = written.parts
      ∙ (ap (λ (it : List ℕ). written.done ++ (it ++ rest)) takes.parts
      ∙ (ap (λ (it : List ℕ). written.done ++ it) (append_assoc takes.part takes.rest rest) ∙ sym (append_assoc written.done takes.part (takes.rest ++ rest))));
  some = let both : length (takes.rest ++ rest) ≡ length takes.rest + length rest = length-append takes.rest rest in omega (arith, both, takes.some);
  written = appends_more old mid new written.done takes.part written.bytes takes.written;
}

-- behind all that is ready
pub passed : (ready rest : List ℕ) (count : ℕ) → count ≡ length ready → drop count ready ++ rest ≡ rest
passed ready rest count is = ap (λ (it : List ℕ). it ++ rest) (drop_all count ready (omega (arith, is)))

pub ruleset made = (written_on, written_cut, written_all, passed)
