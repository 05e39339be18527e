use Rattle.std.proofs.Common.{◌≡◌, ℕ, List, length, sym, ◌∙◌, ap, subst}
use Rattle.disk.specs.Memory.{written}
use Rattle.disk.specs.Stops.{Torn, Follows}
use Rattle.store_text.specs.Header.{slot_at}
use Rattle.store_text.specs.Pieces.{Piece}
use Rattle.commit_images.specs.Commits.{slot_of}
use Rattle.commit_images.specs.Keeping.{idle}
use Rattle.commit_images.specs.Going.{some_image, all_written, slot_follows, others_written, step_preserved, step_still, step_on}
use Rattle.commit_images.proofs.steps.write_slot.Goals as goal

pub returns-in_err-write_at-clause-step : goal.returns-in_err-write_at-clause-step
returns-in_err-write_at-clause-step g c = λ told limit active side keeps.
    let long : length c.slot_bytes-slot.result ≡ 24 = ap length (c.slot_bytes-slot.ensures c.args.side) in
    let here : c.slot_at-offset.result ≡ slot_at (idle active) = c.slot_at-offset.ensures.place ∙ ap slot_at side in
    let torn : Follows (Torn (slot_at (idle active)) 24) (g.D.Disk.image c.args.disk.now) (g.D.Disk.image c.write_at.new.self)
    = subst (λ (it : ℕ). Follows (Torn it 24) (g.D.Disk.image c.args.disk.now) (g.D.Disk.image c.write_at.new.self)) here
    (subst (λ (it : ℕ). Follows (Torn c.slot_at-offset.result it) (g.D.Disk.image c.args.disk.now) (g.D.Disk.image c.write_at.new.self)) long c.write_at.ensures.images) in
    let follows = slot_follows (g.S.Saying.IsGood limit) active (g.D.Disk.image c.args.disk.now) (g.D.Disk.image c.write_at.new.self) keeps torn in
    let first = step_preserved (g.S.Saying.IsGood limit) active (g.D.Disk.image c.args.disk.now) (g.D.Disk.image c.write_at.new.self) (g.D.Disk.image c.write_at.new.self) keeps follows follows
    (some_image (g.D.Disk.content c.write_at.new.self) (g.D.Disk.image c.write_at.new.self) (g.met.D.Disk.gives_image c.write_at.new.self) told)
    c.write_at.ensures.time in
    first

pub returns-in_err-sync-clause-step : goal.returns-in_err-sync-clause-step
returns-in_err-sync-clause-step g c = λ told limit active side keeps.
    let long : length c.slot_bytes-slot.result ≡ 24 = ap length (c.slot_bytes-slot.ensures c.args.side) in
    let here : c.slot_at-offset.result ≡ slot_at (idle active) = c.slot_at-offset.ensures.place ∙ ap slot_at side in
    let torn : Follows (Torn (slot_at (idle active)) 24) (g.D.Disk.image c.args.disk.now) (g.D.Disk.image c.write_at.new.self)
    = subst (λ (it : ℕ). Follows (Torn it 24) (g.D.Disk.image c.args.disk.now) (g.D.Disk.image c.write_at.new.self)) here
    (subst (λ (it : ℕ). Follows (Torn c.slot_at-offset.result it) (g.D.Disk.image c.args.disk.now) (g.D.Disk.image c.write_at.new.self)) long c.write_at.ensures.images) in
    let follows = slot_follows (g.S.Saying.IsGood limit) active (g.D.Disk.image c.args.disk.now) (g.D.Disk.image c.write_at.new.self) keeps torn in
    let first = step_preserved (g.S.Saying.IsGood limit) active (g.D.Disk.image c.args.disk.now) (g.D.Disk.image c.write_at.new.self) (g.D.Disk.image c.write_at.new.self) keeps follows follows
    (some_image (g.D.Disk.content c.write_at.new.self) (g.D.Disk.image c.write_at.new.self) (g.met.D.Disk.gives_image c.write_at.new.self) (c.sync.ensures.told told))
    c.write_at.ensures.time in
    step_on first
    (step_still (g.S.Saying.IsGood limit) active (g.D.Disk.image c.write_at.new.self) (g.D.Disk.image c.sync.new.self) first.keeps c.sync.ensures.images
    (some_image (g.D.Disk.content c.sync.new.self) (g.D.Disk.image c.sync.new.self) (g.met.D.Disk.gives_image c.sync.new.self) told) c.sync.ensures.time)
    (λ image it. it) (λ image it. it)

pub returns-clause-step : goal.returns-clause-step
returns-clause-step g c = λ told limit active side keeps.
    let long : length c.slot_bytes-slot.result ≡ 24 = ap length (c.slot_bytes-slot.ensures c.args.side) in
    let here : c.slot_at-offset.result ≡ slot_at (idle active) = c.slot_at-offset.ensures.place ∙ ap slot_at side in
    let torn : Follows (Torn (slot_at (idle active)) 24) (g.D.Disk.image c.args.disk.now) (g.D.Disk.image c.write_at.new.self)
    = subst (λ (it : ℕ). Follows (Torn it 24) (g.D.Disk.image c.args.disk.now) (g.D.Disk.image c.write_at.new.self)) here
    (subst (λ (it : ℕ). Follows (Torn c.slot_at-offset.result it) (g.D.Disk.image c.args.disk.now) (g.D.Disk.image c.write_at.new.self)) long c.write_at.ensures.images) in
    let follows = slot_follows (g.S.Saying.IsGood limit) active (g.D.Disk.image c.args.disk.now) (g.D.Disk.image c.write_at.new.self) keeps torn in
    let first = step_preserved (g.S.Saying.IsGood limit) active (g.D.Disk.image c.args.disk.now) (g.D.Disk.image c.write_at.new.self) (g.D.Disk.image c.write_at.new.self) keeps follows follows
    (some_image (g.D.Disk.content c.write_at.new.self) (g.D.Disk.image c.write_at.new.self) (g.met.D.Disk.gives_image c.write_at.new.self) (c.sync.ensures.told told))
    c.write_at.ensures.time in
    step_on first
    (step_still (g.S.Saying.IsGood limit) active (g.D.Disk.image c.write_at.new.self) (g.D.Disk.image c.sync.new.self) first.keeps c.sync.ensures.images
    (some_image (g.D.Disk.content c.sync.new.self) (g.D.Disk.image c.sync.new.self) (g.met.D.Disk.gives_image c.sync.new.self) told) c.sync.ensures.time)
    (λ image it. it) (λ image it. it)

pub returns-clause-ready : goal.returns-clause-ready
returns-clause-ready g c = λ told limit active new side next same keeps extents image is.
    let long : length c.slot_bytes-slot.result ≡ 24 = ap length (c.slot_bytes-slot.ensures c.args.side) in
    let bytes : c.slot_bytes-slot.result ≡ (slot_of new).bytes = c.slot_bytes-slot.ensures c.args.side ∙ ap (λ (it : Piece). it.bytes) same in
    let here : c.slot_at-offset.result ≡ slot_at (idle active) = c.slot_at-offset.ensures.place ∙ ap slot_at side in
    let torn : Follows (Torn (slot_at (idle active)) 24) (g.D.Disk.image c.args.disk.now) (g.D.Disk.image c.write_at.new.self)
    = subst (λ (it : ℕ). Follows (Torn it 24) (g.D.Disk.image c.args.disk.now) (g.D.Disk.image c.write_at.new.self)) here
    (subst (λ (it : ℕ). Follows (Torn c.slot_at-offset.result it) (g.D.Disk.image c.args.disk.now) (g.D.Disk.image c.write_at.new.self)) long c.write_at.ensures.images) in
    let follows = slot_follows (g.S.Saying.IsGood limit) active (g.D.Disk.image c.args.disk.now) (g.D.Disk.image c.write_at.new.self) keeps torn in
    let first = step_preserved (g.S.Saying.IsGood limit) active (g.D.Disk.image c.args.disk.now) (g.D.Disk.image c.write_at.new.self) (g.D.Disk.image c.write_at.new.self) keeps follows follows
    (some_image (g.D.Disk.content c.write_at.new.self) (g.D.Disk.image c.write_at.new.self) (g.met.D.Disk.gives_image c.write_at.new.self) (c.sync.ensures.told told))
    c.write_at.ensures.time in
    let all = all_written c.slot_at-offset.result c.slot_bytes-slot.result (g.D.Disk.content c.args.disk.now) (g.D.Disk.content c.write_at.new.self)
    (g.D.Disk.content c.sync.new.self) (g.D.Disk.image c.sync.new.self) (c.write_at.ensures.told (c.sync.ensures.told told)) c.in_ok-write_at.ensures.content
    c.in_ok-sync.ensures.content c.in_ok-sync.ensures.only in
    let place : c.slot_at-offset.result ≡ slot_at new.side = here ∙ ap slot_at (sym next.side) in
    others_written active new all.0 image next.placed (first.keeps.each image (c.sync.ensures.images image is)).stands (extents all.0 all.1)
    (all.2 image is
    ∙ ap (λ (it : ℕ). written it c.slot_bytes-slot.result all.0) place
    ∙ ap (λ (it : List ℕ). written (slot_at new.side) it all.0) bytes)
