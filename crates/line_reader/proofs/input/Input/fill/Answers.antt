use Rattle.std.proofs.Common.{◌≡◌, ◌≤◌, ◌++◌, true, false, List, ℕ, [], length, take, refl, sym, ap, ◌∙◌, arith, length-take}
use Rattle.std.proofs.lemmas.Grind.{common_steps}
use Rattle.line_reader.specs.Seen.{InputState}
use Rattle.line_reader.proofs.input.Input.fill.Goals as goal

pub returns-in-Ok-clause-reads : goal.returns-in-Ok-clause-reads
returns-in-Ok-clause-reads g c =
    let bytes : List ℕ = take c.in-Ok.count c.read_some.new.chunk.items in
    let had : c.self.inside.allowance ≡ c.args.self.now.allowance = ap (λ (input : InputState). input.allowance) c.self.view_is in
    let most : c.in-Ok.count ≤ c.min-most.result = c.in-Ok.ensures.bytes.1 in
    let long : length c.read_some.new.chunk.items ≡ length c.self.inside.chunk.items = c.read_some.ensures.len in
    record {
      used = [];
      read = bytes;
      gave = bytes;
      consumed = c.in-Ok.ensures.bytes.0;
      parts = ap (λ (before : List ℕ). before ++ bytes) c.requires.used;
      allowance = grind (arith, common_steps, had, most, long, length-take {A = ℕ});
      later = λ was. absurd (let both : true ≡ false = sym was ∙ (sym (ap (λ (input : InputState). input.ended) c.self.view_is) ∙ c.if-self.false) in cc);
      stands = refl;
      is = refl;
    }
