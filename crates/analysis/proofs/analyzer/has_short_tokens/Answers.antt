use Rattle.std.proofs.Common.{◌/◌, ◌≤◌, length, arith}
use Rattle.std.proofs.lemmas.Bool.{leb-true}
use Rattle.analysis.proofs.Lengths.{short_words}
use Rattle.analysis.proofs.analyzer.has_short_tokens.Goals as goal

pub returns : goal.returns
returns c h =
    let few : length c.args.text.now ≤ c.args.most / 12 = leb-true _ _ h in
    short_words c.args.text.now c.args.most c.utf8.text (omega (arith, few))
