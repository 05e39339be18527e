use Rattle.std.proofs.Common.{◌≡◌, ◌≤◌, ◌+◌, ◌-◌, ◌++◌, ℕ, length, take, vec_len, sym, ap, ◌∙◌, arith}
use Rattle.std.proofs.lemmas.Grind.{common_steps}
use Rattle.line_reader.specs.Line.{longest_line}
use Rattle.line_reader.specs.Held.{LineState}
use Rattle.line_reader.proofs.Fronts.{kept_whole, kept_part}
use Rattle.line_reader.proofs.line_buffer.LineBuffer.add.Goals as goal

pub returns-then-piece-room-clause-kept : goal.returns-then-piece-room-clause-kept
returns-then-piece-room-clause-kept c =
    let had : c.self.inside.bytes.items ≡ c.args.self.now.kept = ap (λ (line : LineState). line.kept) c.self.view_is in
    let grown : c.extend_from_slice.new.self.items ≡ c.self.inside.bytes.items ++ c.args.piece.now = rw c.unwrap.ensures at c.extend_from_slice.ensures.items in
    let long : vec_len c.self.inside.bytes ≡ length c.self.inside.bytes.items = grind (arith, common_steps) in
    let fits : length c.args.self.now.kept + length c.args.piece.now ≤ longest_line = omega (arith, ap length had) in
    grown ∙ (ap (λ front. front ++ c.args.piece.now) had ∙ sym (kept_whole longest_line c.args.self.now.kept c.args.piece.now fits))

pub returns-else-piece-room-clause-kept : goal.returns-else-piece-room-clause-kept
returns-else-piece-room-clause-kept c =
    let had : c.self.inside.bytes.items ≡ c.args.self.now.kept = ap (λ (line : LineState). line.kept) c.self.view_is in
    let long : vec_len c.self.inside.bytes ≡ length c.self.inside.bytes.items = grind (arith, common_steps) in
    let room : ℕ = longest_line - c.len-room.result in
    let fits : length c.args.self.now.kept + room ≡ longest_line = omega (arith, ap length had) in
    let grown : c.extend_from_slice-else-piece-room.new.self.items ≡ c.self.inside.bytes.items ++ c.split_at.result.0.now = rw c.unwrap-else-piece-room.ensures at c.extend_from_slice-else-piece-room.ensures.items in
    grown ∙ (ap (λ piece. c.self.inside.bytes.items ++ piece) c.split_at.ensures.front ∙ (ap (λ front. front ++ take room c.args.piece.now) had ∙ sym (kept_part longest_line room c.args.self.now.kept c.args.piece.now fits)))
