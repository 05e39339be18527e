use Rattle.std.proofs.Common.{◌≡◌, ℕ, ◌≤◌, sym, ◌∙◌, ap, subst}
use Rattle.store_text.specs.Header.{header_size}
use Rattle.commit_store.specs.Known.{StoreState}
use Rattle.commit_store.specs.Preparing.{end_named, with_closed}
use Rattle.commit_store.specs.Saying.{FoundAs}
use Rattle.commit_store.specs.Stepping.{IsStep}
use Rattle.store_compact.proofs.Cutting.{behind_header, cut_on, ends_behind}
use Rattle.store_compact.proofs.trim.trimmed.Goals as goal

pub returns-in-Ok-clause-step : goal.returns-in-Ok-clause-step
returns-in-Ok-clause-step g c = λ told found keeps.
    let now : StoreState = c.args.store.now in
    let closed : c.idle_closed.new.self ≡ with_closed now = c.in_ok-idle_closed.ensures.closed in
    let one : IsStep (with_closed now) found found (FoundAs now.limit (g.D.Disk.image c.args.disk.now)) (g.D.Disk.image c.idle_closed.new.disk) (g.D.Disk.moment c.args.disk.now)
    (g.D.Disk.moment c.idle_closed.new.disk) (g.D.Disk.image_since c.args.disk.now) (g.D.Disk.image_since c.idle_closed.new.disk)
    = subst
    (λ (it : StoreState). IsStep it found found (FoundAs now.limit (g.D.Disk.image c.args.disk.now)) (g.D.Disk.image c.idle_closed.new.disk) (g.D.Disk.moment c.args.disk.now)
    (g.D.Disk.moment c.idle_closed.new.disk) (g.D.Disk.image_since c.args.disk.now) (g.D.Disk.image_since c.idle_closed.new.disk))
    closed (c.idle_closed.ensures.step (c.cut_behind.ensures.told told) found keeps) in
    let len : c.named_end-len.result ≡ end_named now.named = c.named_end-len.ensures.end ∙ ap (λ (it : StoreState). end_named it.named) closed in
    let long : header_size ≤ c.named_end-len.result = subst (λ (n : ℕ). header_size ≤ n) (sym len) (behind_header now.named) in
    subst
    (λ (it : StoreState). IsStep it found found (FoundAs now.limit (g.D.Disk.image c.args.disk.now)) (g.D.Disk.image c.cut_behind.new.disk) (g.D.Disk.moment c.args.disk.now)
    (g.D.Disk.moment c.cut_behind.new.disk) (g.D.Disk.image_since c.args.disk.now) (g.D.Disk.image_since c.cut_behind.new.disk))
    (sym closed)
    (cut_on now found (g.D.Disk.image c.args.disk.now) (g.D.Disk.image c.idle_closed.new.disk) (g.D.Disk.image c.cut_behind.new.disk) (g.D.Disk.moment c.args.disk.now) (g.D.Disk.moment c.idle_closed.new.disk)
    (g.D.Disk.moment c.cut_behind.new.disk) (g.D.Disk.image_since c.args.disk.now) (g.D.Disk.image_since c.idle_closed.new.disk) (g.D.Disk.image_since c.cut_behind.new.disk) keeps one
    (c.cut_behind.ensures.step told now.limit found long (ends_behind (with_closed now) found c.named_end-len.result one.knows len) one.step.keeps))

pub returns-in-Err-clause-step : goal.returns-in-Err-clause-step
returns-in-Err-clause-step g c = λ told found keeps.
    let now : StoreState = c.args.store.now in
    let closed : c.idle_closed.new.self ≡ with_closed now = c.in_ok-idle_closed.ensures.closed in
    let one : IsStep (with_closed now) found found (FoundAs now.limit (g.D.Disk.image c.args.disk.now)) (g.D.Disk.image c.idle_closed.new.disk) (g.D.Disk.moment c.args.disk.now)
    (g.D.Disk.moment c.idle_closed.new.disk) (g.D.Disk.image_since c.args.disk.now) (g.D.Disk.image_since c.idle_closed.new.disk)
    = subst
    (λ (it : StoreState). IsStep it found found (FoundAs now.limit (g.D.Disk.image c.args.disk.now)) (g.D.Disk.image c.idle_closed.new.disk) (g.D.Disk.moment c.args.disk.now)
    (g.D.Disk.moment c.idle_closed.new.disk) (g.D.Disk.image_since c.args.disk.now) (g.D.Disk.image_since c.idle_closed.new.disk))
    closed (c.idle_closed.ensures.step (c.cut_behind.ensures.told told) found keeps) in
    let len : c.named_end-len.result ≡ end_named now.named = c.named_end-len.ensures.end ∙ ap (λ (it : StoreState). end_named it.named) closed in
    let long : header_size ≤ c.named_end-len.result = subst (λ (n : ℕ). header_size ≤ n) (sym len) (behind_header now.named) in
    subst
    (λ (it : StoreState). IsStep it found found (FoundAs now.limit (g.D.Disk.image c.args.disk.now)) (g.D.Disk.image c.cut_behind.new.disk) (g.D.Disk.moment c.args.disk.now)
    (g.D.Disk.moment c.cut_behind.new.disk) (g.D.Disk.image_since c.args.disk.now) (g.D.Disk.image_since c.cut_behind.new.disk))
    (sym closed)
    (cut_on now found (g.D.Disk.image c.args.disk.now) (g.D.Disk.image c.idle_closed.new.disk) (g.D.Disk.image c.cut_behind.new.disk) (g.D.Disk.moment c.args.disk.now) (g.D.Disk.moment c.idle_closed.new.disk)
    (g.D.Disk.moment c.cut_behind.new.disk) (g.D.Disk.image_since c.args.disk.now) (g.D.Disk.image_since c.idle_closed.new.disk) (g.D.Disk.image_since c.cut_behind.new.disk) keeps one
    (c.cut_behind.ensures.step told now.limit found long (ends_behind (with_closed now) found c.named_end-len.result one.knows len) one.step.keeps))
