use Rattle.std.proofs.Common.{◌≡◌, ◌+◌, ◌%◌, ◌^◌, cond, refl, sym, ap, ap₂, ◌∙◌, bit_and, nat_le}
use Rattle.block_join.proofs.Adding.{total, word_is, more_is}
use Rattle.block_join.proofs.reached.reached_word.Goals.{then-some, else-some}
use Rattle.block_join.proofs.reached.reached_word.Goals as goal

pub returns-clause-word : goal.returns-clause-word
returns-clause-word c = λ ps cs e h is own.
    let before : c.if-some.before ≡ cond c.args.some 1 0 = elim c.if-some.branch [
      | then-some w ↦ w.before-is ∙ ap (λ b. cond b 1 0) (sym w.if-some.true)
      | else-some w ↦ w.before-is ∙ ap (λ b. cond b 1 0) (sym w.if-some.false)
    ] in
    let sum : c.from.result + c.from-2.result + c.if-some.before ≡ total c.args.parents c.args.others c.args.some = rw (c.from.ensures, c.from-2.ensures, before) refl in
    ap (λ n. bit_and (n % 2 ^ 64) c.args.parents) sum
    ∙ ap₂ (λ a b. bit_and (total a b c.args.some % 2 ^ 64) a) is own
    ∙ word_is c.args.some ps cs e h

pub returns-clause-more : goal.returns-clause-more
returns-clause-more c = λ ps cs e full is own.
    let before : c.if-some.before ≡ cond c.args.some 1 0 = elim c.if-some.branch [
      | then-some w ↦ w.before-is ∙ ap (λ b. cond b 1 0) (sym w.if-some.true)
      | else-some w ↦ w.before-is ∙ ap (λ b. cond b 1 0) (sym w.if-some.false)
    ] in
    let sum : c.from.result + c.from-2.result + c.if-some.before ≡ total c.args.parents c.args.others c.args.some = rw (c.from.ensures, c.from-2.ensures, before) refl in
    ap (nat_le (2 ^ 64)) sum
    ∙ ap₂ (λ a b. nat_le (2 ^ 64) (total a b c.args.some)) is own
    ∙ more_is c.args.some ps cs e full
