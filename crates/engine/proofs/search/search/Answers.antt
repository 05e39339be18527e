use Rattle.std.proofs.Common.{◌≡◌, ◌≤◌, ◌+◌, ℕ, Err, Some, None, ap, refl, subst, sym, ◌∙◌}
use Rattle.tree_json.specs.View.{view}
use Rattle.machine.specs.Answer.{Answer, outcome_of}
use Rattle.machine.specs.Searching.{search_by, search_step}
use Rattle.machine.specs.State.{sealed_state}
use Rattle.query_ast.specs.declared.search.SearchBody.{SearchBody}
use Rattle.query_ast.specs.Search.{hit_page}
use Rattle.query_parser.specs.Search.{search_of}
use Rattle.reply_text.specs.Weight.{ArePagesApart}
use Rattle.search_walk.specs.Refusal.{first_refusal}
use Rattle.engine.specs.Parts.{Ends, answered_of}
use Rattle.search_walk.specs.declared.refusal.SearchRefusal.TheVariants.{UnknownPath, PathOutOfScope, UnknownRelation, BadValue, SortFieldUnmapped, BadSort, DuplicateInnerName, WindowTooLarge, InnerWindowTooLarge, TooManyClauses, QueryTooDeep, TooManyTerms, NoMemory}
use Rattle.tree_json.specs.Value.{JsonValue}
use Rattle.engine.proofs.Finding.{FirstIs, body_ends, body_passes, body_reads}
use Rattle.engine.proofs.Naming.{found_apart}
use Rattle.engine.proofs.search.search.Goals as goal

pub returns-in-Ok-resolved-clause-answers : goal.returns-in-Ok-resolved-clause-answers
returns-in-Ok-resolved-clause-answers g c = λ state f stand.
    let first : first_refusal c.args.mapping.now (view c.args.body.now) ≡ None = ap (first_refusal c.args.mapping.now) (sym c.in-Ok.ensures.shape) ∙ c.in-Ok-resolved.ensures.accepted refl in
    let found : c.in-Ok-resolved.search ≡ search_of c.args.mapping.now (view c.args.body.now) = c.in-Ok-resolved.ensures.search ∙ ap (search_of c.args.mapping.now) c.in-Ok.ensures.shape in
    let e : search_step c.args.limits.now (view c.args.body.now) c.args.mapping.now (sealed_state state) ≡ search_by c.args.limits.now c.args.mapping.now c.in-Ok-resolved.search (sealed_state state) =
    body_passes c.args.limits.now (view c.args.body.now) c.args.mapping.now state first ∙ ap (λ (it : SearchBody). search_by c.args.limits.now c.args.mapping.now it (sealed_state state)) (sym found) in
    subst (λ (answer : Answer). Ends state (outcome_of state answer) (answered_of c.search_over.result) c.search_over.new.out.bytes (Some c.args.mapping.now) c.search_over.new.index) (sym e) (c.search_over.ensures.answers state f stand)

pub returns-in-Ok-resolved-clause-reads : goal.returns-in-Ok-resolved-clause-reads
returns-in-Ok-resolved-clause-reads g c = λ state f stand.
    let first : first_refusal c.args.mapping.now (view c.args.body.now) ≡ None = ap (first_refusal c.args.mapping.now) (sym c.in-Ok.ensures.shape) ∙ c.in-Ok-resolved.ensures.accepted refl in
    let found : c.in-Ok-resolved.search ≡ search_of c.args.mapping.now (view c.args.body.now) = c.in-Ok-resolved.ensures.search ∙ ap (search_of c.args.mapping.now) c.in-Ok.ensures.shape in
    subst (λ (most : ℕ). c.search_over.new.steps ≤ c.args.steps.now + most)
    (body_reads (view c.args.body.now) c.args.mapping.now c.in-Ok-resolved.search state first found) (c.search_over.ensures.reads state f stand)

pub returns-in-Err-clause-answers : goal.returns-in-Err-clause-answers
returns-in-Err-clause-answers g c = λ state f stand.
    let shape = c.in-Ok.ensures.shape in
    let first : FirstIs (first_refusal c.args.mapping.now c.in-Ok.shape) c.in-Err.why =
    elim c.in-Err.why as (λ w. c.in-Err.why ≡ w → FirstIs (first_refusal c.args.mapping.now c.in-Ok.shape) w) [
      | UnknownPath ↦ λ e. c.in-Err.ensures.unknown_path (ap Err e)
      | PathOutOfScope ↦ λ e. c.in-Err.ensures.path_out_of_scope (ap Err e)
      | UnknownRelation ↦ λ e. c.in-Err.ensures.unknown_relation (ap Err e)
      | BadValue ↦ λ e. c.in-Err.ensures.bad_value (ap Err e)
      | SortFieldUnmapped ↦ λ e. c.in-Err.ensures.sort_field_unmapped (ap Err e)
      | BadSort ↦ λ e. c.in-Err.ensures.bad_sort (ap Err e)
      | DuplicateInnerName ↦ λ e. c.in-Err.ensures.duplicate_inner_name (ap Err e)
      | WindowTooLarge ↦ λ e. c.in-Err.ensures.window_too_large (ap Err e)
      | InnerWindowTooLarge ↦ λ e. c.in-Err.ensures.inner_window_too_large (ap Err e)
      | TooManyClauses ↦ λ e. c.in-Err.ensures.too_many_clauses (ap Err e)
      | QueryTooDeep ↦ λ e. c.in-Err.ensures.query_too_deep (ap Err e)
      | TooManyTerms ↦ λ e. c.in-Err.ensures.too_many_terms (ap Err e)
      | NoMemory ↦ λ e. tt
    ] refl in
    body_ends c.args.limits.now (view c.args.body.now) c.args.mapping.now c.args.index.now state c.in-Err.why c.refuse_search.result c.refuse_search.new.out.bytes f
    (subst (λ (json : JsonValue). FirstIs (first_refusal c.args.mapping.now json) c.in-Err.why) shape first) c.refuse_search.ensures.refused

pub search_over-requires-clause-apart : goal.search_over-requires-clause-apart
search_over-requires-clause-apart g c = λ live.
    let first : first_refusal c.args.mapping.now (view c.args.body.now) ≡ None = ap (first_refusal c.args.mapping.now) (sym c.in-Ok.ensures.shape) ∙ c.in-Ok-resolved.ensures.accepted refl in
    let found : c.in-Ok-resolved.search ≡ search_of c.args.mapping.now (view c.args.body.now) = c.in-Ok-resolved.ensures.search ∙ ap (search_of c.args.mapping.now) c.in-Ok.ensures.shape in
    subst (λ (it : SearchBody). ArePagesApart (hit_page c.args.mapping.now live it)) (sym found) (found_apart c.args.mapping.now (view c.args.body.now) live first)
