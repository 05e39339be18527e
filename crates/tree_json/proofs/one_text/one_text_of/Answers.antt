use Rattle.std.proofs.Common.{◌≡◌, [], ◌∷◌, arith, rules}
use Rattle.json.specs.Lex.{tokens}
use Rattle.json.specs.Token.{Token}
use Rattle.tree_json.proofs.OneTexts.{one_text_read}
use Rattle.tree_json.proofs.one_text.one_text_of.Goals as goal

pub returns : goal.returns
returns c =
    let start : c.in_ok-reader.reader ≡ tokens c.args.text.now = search rules in
    let first : c.in_ok-reader.reader ≡ Token.begin_object ∷ c.next.new.self = grind arith in
    let second : c.next.new.self ≡ Token.key c.in-Some-Key.outer.now ∷ c.next-2.new.self = grind arith in
    let third : c.next-2.new.self ≡ Token.begin_object ∷ c.next-3.new.self = grind arith in
    let fourth : c.next-3.new.self ≡ Token.key c.in-Some-Key-next.inner.now ∷ c.next-4.new.self = grind arith in
    let fifth : c.next-4.new.self ≡ Token.string c.in-Some-String.within.now ∷ c.next-5.new.self = grind arith in
    let sixth : c.next-5.new.self ≡ Token.end_object ∷ c.next-6.new.self = grind arith in
    let seventh : c.next-6.new.self ≡ Token.end_object ∷ c.next-7.new.self = grind arith in
    let over : c.next-7.new.self ≡ [] = grind arith in
    one_text_read c.args.text.now _ _ _ _ _ _ _ _ _ _ _ start first second third fourth fifth sixth seventh over
