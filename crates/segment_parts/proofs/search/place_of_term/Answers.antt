use Rattle.std.proofs.Common.{◌+◌, ◌-◌, ◌/◌, ◌<◌, ℕ, List, length, map, ap, ◌∙◌, sym, arith}
use Rattle.std.proofs.lemmas.List.{length-map, get_or-map}
use Rattle.term_table.specs.declared.rows.TermRow.{TermRow}
use Rattle.segment_parts.proofs.Searches.{narrowed_above, narrowed_below, term_found, term_missing}
use Rattle.segment_parts.proofs.search.place_of_term.Goals as goal

pub search-preserved-in-Less : goal.search-preserved-in-Less
search-preserved-in-Less c =
    let term : TermRow → ℕ × List ℕ = λ row. row.term in
    let rows = c.args.rows.now in
    let middle = c.search.low + (c.search.high - c.search.low) / 2 in
    let own = c.index-rows-middle.result in
    let inside : middle < length rows = omega (arith, c.search-test.true, c.search.invariant.within, length-map rows term) in
    narrowed_above (map term rows) (c.args.field, c.args.bytes.now) own.term c.search.low middle c.search.high c.requires.ascending c.search.invariant
    (omega (arith, c.search-test.true)) (ap term c.index-rows-middle.is ∙ sym (get_or-map term rows middle own own.term inside)) (sym c.in-Less.ensures)

pub returns-in-Equal-clause-found : goal.returns-in-Equal-clause-found
returns-in-Equal-clause-found c =
    let term : TermRow → ℕ × List ℕ = λ row. row.term in
    let rows = c.args.rows.now in
    let middle = c.search.low + (c.search.high - c.search.low) / 2 in
    let own = c.index-rows-middle.result in
    let inside : middle < length rows = omega (arith, c.search-test.true, c.search.invariant.within, length-map rows term) in
    term_found (map term rows) (c.args.field, c.args.bytes.now) own.term middle (omega (arith, inside, length-map rows term)) (ap term c.index-rows-middle.is ∙ sym (get_or-map term rows middle own own.term inside)) (sym c.in-Equal.ensures)

pub search-preserved : goal.search-preserved
search-preserved c =
    let term : TermRow → ℕ × List ℕ = λ row. row.term in
    let rows = c.args.rows.now in
    let middle = c.search.low + (c.search.high - c.search.low) / 2 in
    let own = c.index-rows-middle.result in
    let inside : middle < length rows = omega (arith, c.search-test.true, c.search.invariant.within, length-map rows term) in
    narrowed_below (map term rows) (c.args.field, c.args.bytes.now) own.term c.search.low middle c.search.high c.requires.ascending c.search.invariant
    (omega (arith, c.search-test.true)) (ap term c.index-rows-middle.is ∙ sym (get_or-map term rows middle own own.term inside)) (sym c.in-Greater.ensures)

pub returns-clause-missing : goal.returns-clause-missing
returns-clause-missing c =
    let term : TermRow → ℕ × List ℕ = λ row. row.term in
    term_missing (map term c.args.rows.now) (c.args.field, c.args.bytes.now) c.search.low c.search.high c.search.invariant (omega (arith, c.search-test.false))
