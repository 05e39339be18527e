use Rattle.std.proofs.Common.{◌≡◌, ◌∙◌, sym, rules, map}
use Rattle.std.proofs.lemmas.Fn.{always_returns_same}
use Rattle.mapping_body.specs.Names.{put}
use Rattle.mapping_body.proofs.Puts.{AreAscending-put}
use Rattle.mapping_body.proofs.Ranks.{compared, put_between, put_there, rises}
use Rattle.mapping_body.proofs.names.put.Goals as goal

pub returns-in-Ok-clause-put : goal.returns-in-Ok-clause-put
returns-in-Ok-clause-put g c =
    let at = c.in-Ok.ensures.position (λ y. compared (g.T.Named.name y) (g.T.Named.name c.args.item)) (always_returns_same _ _ _ (λ a r q k. search rules)) in
    sym (put_there g.T.Named.name c.args.item c.args.items.now.items c.in-Ok.field-0 c.requires (rw c.deref.ensures.value at c.in-Ok.ensures.bound) (rw c.deref.ensures.value at at))

pub returns-in_ok-insert-in-Err-clause-put : goal.returns-in_ok-insert-in-Err-clause-put
returns-in_ok-insert-in-Err-clause-put g c =
    let at = c.in-Err.ensures.position (λ y. compared (g.T.Named.name y) (g.T.Named.name c.args.item)) (always_returns_same _ _ _ (λ a r q k. search rules)) in
    c.in_ok-insert-in-Err.ensures.items
    ∙ sym (put_between g.T.Named.name c.args.item c.args.items.now.items c.in-Err.place
    (rw c.deref.ensures.value at at (rises g.T.Named.name (g.T.Named.name c.args.item) c.args.items.now.items c.requires)) (rw c.deref.ensures.value at c.in-Err.ensures.bound))

pub returns-in_ok-insert-in-Err-clause-ascending : goal.returns-in_ok-insert-in-Err-clause-ascending
returns-in_ok-insert-in-Err-clause-ascending g c =
    let put_in : c.insert.new.self.items ≡ put g.T.Named.name c.args.item c.args.items.now.items = returns-in_ok-insert-in-Err-clause-put g c in
    rw put_in (AreAscending-put g.T.Named.name c.args.item c.args.items.now.items c.requires)
