use Rattle.std.proofs.Common.{◌≡◌, Bool, ◌&&◌, get_or, sym, ap, ◌∙◌, vec_len, arith}
use Rattle.std.proofs.lemmas.List.FromFn.{get_or-map-range_with_len}
use Rattle.mapping.specs.Mapping.{included, shows}
use Rattle.segment_fits.proofs.columns.is_shown.Goals as goal

pub returns-then-knows : goal.returns-then-knows
returns-then-knows c =
    let m = c.args.shown.now.mapping.now in
    let f = c.args.shown.now.field in
    let s = c.args.it.scope in
    let r = c.index.result.now in
    let here : r ≡ included m f s =
    c.index.ensures ∙ ap (λ xs. get_or xs s r) c.requires.shown.included_are
    ∙ get_or-map-range_with_len (included m f) 0 (vec_len c.args.shown.now.scopes) s s r c.requires.scope (omega arith) in
    let same : shows m c.args.it.generation f s ≡ r = ap (λ (b : Bool). b && included m f s) (sym c.if-knows.ensures) ∙ sym here in
    (λ holds. same ∙ holds, λ shown. sym same ∙ shown)
