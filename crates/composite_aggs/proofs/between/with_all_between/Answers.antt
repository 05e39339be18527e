use Rattle.std.proofs.Common.{rules, ◌≡◌, map, length, sym, ap, ◌∙◌, arith}
use Rattle.std.specs.Int.{w64}
use Rattle.std.proofs.lemmas.Int.{to_z-of_z}
use mir.Val.{SFits, of_z, to_z}
use Rattle.composite_aggs.specs.Spread.{merged, spread, starts_from_to}
use Rattle.composite_aggs.specs.Kept.{bucket_of}
use Rattle.composite_aggs.proofs.Filling.{if_err, if_ok, no_first_in, no_last_in, spanned, walk_cause}
use Rattle.composite_aggs.proofs.Steps.{on_ok}
use Rattle.composite_aggs.proofs.between.with_all_between.Goals as goal

pub returns-in-None-clause-made : goal.returns-in-None-clause-made
returns-in-None-clause-made c = (no_first_in c.args.interval c.args.kept.items c.as_slice.result.now c.requires.starts c.as_slice.ensures.value c.in-None.ensures).0

pub returns-in-None-clause-few : goal.returns-in-None-clause-few
returns-in-None-clause-few c = (no_first_in c.args.interval c.args.kept.items c.as_slice.result.now c.requires.starts c.as_slice.ensures.value c.in-None.ensures).1

pub returns-in-None-start_at-clause-made : goal.returns-in-None-start_at-clause-made
returns-in-None-start_at-clause-made c =
    absurd (no_last_in c.args.interval c.args.kept.items c.as_slice.result.now c.as_slice-in-Some.result.now c.saturating_sub.result c.in-Some.least c.requires.starts c.as_slice.ensures.value c.as_slice-in-Some.ensures.value (omega (arith, ap length c.as_slice.ensures.value)) c.in-Some.ensures c.in-None-start_at.ensures)

pub returns-in-None-start_at-clause-few : goal.returns-in-None-start_at-clause-few
returns-in-None-start_at-clause-few c =
    absurd (no_last_in c.args.interval c.args.kept.items c.as_slice.result.now c.as_slice-in-Some.result.now c.saturating_sub.result c.in-Some.least c.requires.starts c.as_slice.ensures.value c.as_slice-in-Some.ensures.value (omega (arith, ap length c.as_slice.ensures.value)) c.in-Some.ensures c.in-None-start_at.ensures)

pub from_to-requires-clause-least : goal.from_to-requires-clause-least
from_to-requires-clause-least c =
    let at = spanned c.args.interval c.args.kept.items c.as_slice.result.now c.as_slice-in-Some.result.now c.saturating_sub.result c.in-Some.least c.in-Some-start_at.greatest c.requires.ascending c.requires.starts c.as_slice.ensures.value c.as_slice-in-Some.ensures.value (omega (arith, ap length c.as_slice.ensures.value)) c.in-Some.ensures c.in-Some-start_at.ensures in
    let fits : SFits w64 c.in-Some.least = search rules in
    rw (to_z-of_z w64 c.in-Some.least fits) at.0

pub from_to-requires-clause-greatest : goal.from_to-requires-clause-greatest
from_to-requires-clause-greatest c =
    let at = spanned c.args.interval c.args.kept.items c.as_slice.result.now c.as_slice-in-Some.result.now c.saturating_sub.result c.in-Some.least c.in-Some-start_at.greatest c.requires.ascending c.requires.starts c.as_slice.ensures.value c.as_slice-in-Some.ensures.value (omega (arith, ap length c.as_slice.ensures.value)) c.in-Some.ensures c.in-Some-start_at.ensures in
    let fits : SFits w64 c.in-Some-start_at.greatest = search rules in
    rw (to_z-of_z w64 c.in-Some-start_at.greatest fits) at.1

pub from_to-requires-clause-order : goal.from_to-requires-clause-order
from_to-requires-clause-order c =
    let at = spanned c.args.interval c.args.kept.items c.as_slice.result.now c.as_slice-in-Some.result.now c.saturating_sub.result c.in-Some.least c.in-Some-start_at.greatest c.requires.ascending c.requires.starts c.as_slice.ensures.value c.as_slice-in-Some.ensures.value (omega (arith, ap length c.as_slice.ensures.value)) c.in-Some.ensures c.in-Some-start_at.ensures in
    let low : SFits w64 c.in-Some.least = search rules in
    let high : SFits w64 c.in-Some-start_at.greatest = search rules in
    rw (to_z-of_z w64 c.in-Some.least low, to_z-of_z w64 c.in-Some-start_at.greatest high) at.2

pub returns-in-Some-start_at-clause-made : goal.returns-in-Some-start_at-clause-made
returns-in-Some-start_at-clause-made c =
    let at = spanned c.args.interval c.args.kept.items c.as_slice.result.now c.as_slice-in-Some.result.now c.saturating_sub.result c.in-Some.least c.in-Some-start_at.greatest c.requires.ascending c.requires.starts c.as_slice.ensures.value c.as_slice-in-Some.ensures.value (omega (arith, ap length c.as_slice.ensures.value)) c.in-Some.ensures c.in-Some-start_at.ensures in
    let low : SFits w64 c.in-Some.least = search rules in
    let high : SFits w64 c.in-Some-start_at.greatest = search rules in
    let same : starts_from_to c.args.interval (to_z w64 (of_z w64 c.in-Some.least)) (to_z w64 (of_z w64 c.in-Some-start_at.greatest)) ≡ spread c.args.interval (map bucket_of c.args.kept.items) = rw (to_z-of_z w64 c.in-Some.least low, to_z-of_z w64 c.in-Some-start_at.greatest high) (sym at.3) in
    if_ok c.from_to.result (λ made e. e ∙ ap (λ l. merged l (map bucket_of c.args.kept.items)) same) c.from_to.ensures.made

pub returns-in-Some-start_at-clause-few : goal.returns-in-Some-start_at-clause-few
returns-in-Some-start_at-clause-few c =
    let at = spanned c.args.interval c.args.kept.items c.as_slice.result.now c.as_slice-in-Some.result.now c.saturating_sub.result c.in-Some.least c.in-Some-start_at.greatest c.requires.ascending c.requires.starts c.as_slice.ensures.value c.as_slice-in-Some.ensures.value (omega (arith, ap length c.as_slice.ensures.value)) c.in-Some.ensures c.in-Some-start_at.ensures in
    let low : SFits w64 c.in-Some.least = search rules in
    let high : SFits w64 c.in-Some-start_at.greatest = search rules in
    let same : starts_from_to c.args.interval (to_z w64 (of_z w64 c.in-Some.least)) (to_z w64 (of_z w64 c.in-Some-start_at.greatest)) ≡ spread c.args.interval (map bucket_of c.args.kept.items) = rw (to_z-of_z w64 c.in-Some.least low, to_z-of_z w64 c.in-Some-start_at.greatest high) (sym at.3) in
    on_ok c.from_to.result (λ h. rw (← same) h) c.from_to.ensures.few

pub returns-in-Some-start_at-clause-cause : goal.returns-in-Some-start_at-clause-cause
returns-in-Some-start_at-clause-cause c =
    let at = spanned c.args.interval c.args.kept.items c.as_slice.result.now c.as_slice-in-Some.result.now c.saturating_sub.result c.in-Some.least c.in-Some-start_at.greatest c.requires.ascending c.requires.starts c.as_slice.ensures.value c.as_slice-in-Some.ensures.value (omega (arith, ap length c.as_slice.ensures.value)) c.in-Some.ensures c.in-Some-start_at.ensures in
    let low : SFits w64 c.in-Some.least = search rules in
    let high : SFits w64 c.in-Some-start_at.greatest = search rules in
    let same : starts_from_to c.args.interval (to_z w64 (of_z w64 c.in-Some.least)) (to_z w64 (of_z w64 c.in-Some-start_at.greatest)) ≡ spread c.args.interval (map bucket_of c.args.kept.items) = rw (to_z-of_z w64 c.in-Some.least low, to_z-of_z w64 c.in-Some-start_at.greatest high) (sym at.3) in
    if_err c.from_to.result (λ e h. walk_cause c.args.interval (to_z w64 (of_z w64 c.in-Some.least)) (to_z w64 (of_z w64 c.in-Some-start_at.greatest)) (map bucket_of c.args.kept.items) e (sym same) h) c.from_to.ensures.cause
