use Rattle.std.proofs.Common.{◌+◌, ◌*◌, rules, arith, sym, ap, ◌∙◌, cond, ltb, ◌-◌, mul_comm}
use Rattle.std.proofs.lemmas.List.{take_all}
use Rattle.std.proofs.lemmas.Bool.{eqb-true, eq-eqb, false≢true}
use Rattle.std.proofs.lemmas.Nat.Bits.{bit_at-zero}
use Rattle.block_bits.specs.OneScope.{set_count}
use Rattle.block_bits.proofs.OneEach.{IsWholeSeen, set_count-nil, seen_more, shared, one_from_full, full_from_one}
use Rattle.block_bits.proofs.partition.is_word_apart.Goals as goal

pub sets-init : goal.sets-init
sets-init c = λ i h. bit_at-zero i ∙ sym (set_count-nil _)

pub returns-then-seen-word-ne0 : goal.returns-then-seen-word-ne0
returns-then-seen-word-ne0 c = (
  λ never. absurd (false≢true never),
  λ one. absurd (c.if-seen-word-ne0.true
      (shared c.args.sets.now c.args.len c.args.place c.sets.set-index c.sets.seen c.word-word.result c.set-item.result
      record { lengths = c.requires.lengths; inside = c.sets-test.true; read = c.set-item.is; word_is = c.word-word.ensures; counted = c.sets.invariant }
      (search rules) one)),
)

pub sets-preserved : goal.sets-preserved
sets-preserved c =
    seen_more c.args.sets.now c.args.len c.args.place c.sets.set-index c.sets.seen c.word-word.result c.set-item.result
    record { lengths = c.requires.lengths; inside = c.sets-test.true; read = c.set-item.is; word_is = c.word-word.ensures; counted = c.sets.invariant }
    c.if-seen-word-ne0.false

-- every set was seen
whole : (c : goal.After-full_word) → IsWholeSeen c.args.sets.now c.args.len c.args.place c.sets.seen c.full_word.result
whole c = record {
  lengths = c.requires.lengths;
  fits = search rules;
  full_fits = search rules;
  full_is = λ bit h. c.full_word.ensures bit h ∙ ap (λ left. cond (ltb bit (c.args.len - left)) 1 0) (mul_comm c.args.place 64);
  counted = λ bit h. c.sets.invariant bit h ∙ ap (λ sets. set_count sets (64 * c.args.place + bit)) (take_all c.sets.set-index c.args.sets.now (omega arith));
}

pub returns : goal.returns
returns c = (
  λ same. one_from_full _ _ _ _ _ (whole c) (eqb-true _ _ same),
  λ one. eq-eqb _ _ (full_from_one _ _ _ _ _ (whole c) one),
)
