use Rattle.std.proofs.Common.{◌≡◌, ◌<◌, ◌+◌, ◌-◌, ◌++◌, ◌∷◌, ℕ, ℤ, Bool, true, false, cond, List, [], length, get_or, drop, sym, ap, subst, ◌∙◌, arith, rules, append_assoc, w64}
use Rattle.std.specs.List.{flat_map}
use Rattle.std.proofs.lemmas.Int.{to_z-of_z}
use mir.Val.{SFits}
use Rattle.bucket_aggs.specs.Sums.{HasRoom, IsAdded}
use Rattle.bucket_aggs.specs.declared.metrics.Running.{Running}
use Rattle.bucket_aggs.proofs.Documents.{nothing_behind}
use Rattle.bucket_aggs.proofs.Sums.{room_less}
use Rattle.bucket_aggs.proofs.Told.{document_below, rows_told, told, told_end, told_own}
use Rattle.bucket_aggs.proofs.metrics.with_long_sum.Goals.{then-has, else-has}
use Rattle.bucket_aggs.proofs.metrics.with_long_sum.Goals as goal

pub has-requires : goal.has-requires
has-requires c =
    let low : c.rows.at < length c.args.rows.now = omega (arith, c.rows-test.true, c.len-at-end.ensures) in
    document_below c.args.rows.now c.rows.at c.row-own.result.0 (length c.args.set.now) (c.row-own.result.1 ∷ []) low c.row-own.ensures c.requires.within

pub add-requires : goal.add-requires
add-requires c = room_less 1 (4294967295 - c.rows.at) c.rows.sums (omega (arith, c.rows-test.true, c.rows.auto.at-end)) c.rows.invariant.0

pub rows-preserved : goal.rows-preserved
rows-preserved c =
    let rows : List (ℕ × List ℤ) = c.args.rows.now in
    let flags : List Bool = c.args.set.now in
    let at : ℕ = c.rows.at in
    let low : at < length rows = omega (arith, c.rows-test.true, c.len-at-end.ensures) in
    let doc : ℕ = c.row-own.result.0 in
    let number : ℤ = c.row-own.result.1 in
    let fits : SFits w64 number = search rules in
    let rest : List ℤ = flat_map (told flags 0) (drop (at + 1) rows) in
    let was = c.rows.invariant.1 in
    let left : ℕ = 4294967295 - (at + 1) in
    let step : flat_map (told flags 0) (drop at rows) ≡ cond (get_or flags doc false) (number ∷ []) [] ++ rest = told_own flags rows at doc (number ∷ []) low c.row-own.ensures in
    elim c.if-has.branch [
      | then-has w ↦
          let held : get_or flags doc false ≡ true = sym c.has.ensures ∙ w.if-has.true in
          let own : flat_map (told flags 0) (drop at rows) ≡ (number ∷ []) ++ rest = step ∙ ap (λ (b : Bool). cond b (number ∷ []) [] ++ rest) held in
          let added : IsAdded c.args.start (was.0 ++ number ∷ []) w.add.new.self =
          subst (λ (n : ℤ). IsAdded c.args.start (was.0 ++ n ∷ []) w.add.new.self) (to_z-of_z w64 number fits) (w.add.ensures.added c.args.start was.0 was.1) in (
            subst (λ (s : Running). HasRoom left s) (sym w.sums-is)
                (w.add.ensures.room left (room_less (left + 1) (4294967295 - at) c.rows.sums (omega (arith, c.rows-test.true, c.rows.auto.at-end)) c.rows.invariant.0)),
            (
              was.0 ++ number ∷ [],
              subst (λ (s : Running). IsAdded c.args.start (was.0 ++ number ∷ []) s) (sym w.sums-is) added,
              append_assoc was.0 (number ∷ []) rest ∙ ap (λ (l : List ℤ). was.0 ++ l) (sym own) ∙ was.2,
            ),
          )
      | else-has w ↦
          let failed : get_or flags doc false ≡ false = sym c.has.ensures ∙ w.if-has.false in
          let none : flat_map (told flags 0) (drop at rows) ≡ rest = step ∙ ap (λ (b : Bool). cond b (number ∷ []) [] ++ rest) failed in (
            subst (λ (s : Running). HasRoom left s) (sym w.sums-is) (room_less left (4294967295 - at) c.rows.sums (omega arith) c.rows.invariant.0),
            (
              was.0,
              subst (λ (s : Running). IsAdded c.args.start was.0 s) (sym w.sums-is) was.1,
              ap (λ (l : List ℤ). was.0 ++ l) (sym none) ∙ was.2,
            ),
          )
    ]

pub returns : goal.returns
returns c =
    let was = c.rows.invariant.1 in
    let rows : List (ℕ × List ℤ) = c.args.rows.now in
    let done : was.0 ≡ flat_map (told c.args.set.now 0) rows =
    nothing_behind was.0
    ∙ ap (λ (l : List ℤ). was.0 ++ l) (sym (told_end c.args.set.now rows c.rows.at (omega (arith, c.rows-test.false, c.len-at-end.ensures))))
    ∙ was.2 in
    subst (λ (l : List ℤ). IsAdded c.args.start l c.rows.sums) (done ∙ sym (rows_told c.args.set.now rows c.requires.ascending)) was.1
