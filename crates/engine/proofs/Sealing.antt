-- What sealing leaves of the buffer.
use Rattle.std.proofs.Common.{◌≡◌, ℕ, zero, suc, Bool, true, false, if◌then◌else◌, [], length, Option, Some, None, refl, ap, ◌∙◌}
use Rattle.index_core.specs.Kept.{IndexState, layout_kept}
use Rattle.layout.specs.Layout.{Layout, all_evened, all_remade, each_remade, evened, evened_at, is_half_dead, is_spent, last_uneven, remade, sealed, settled, with_buffer_last}

if_buffer : {A : Type 0} (b : Bool) (n : ℕ) (layout : Layout A) → (if b then remade n 1 layout else layout).buffer ≡ layout.buffer
if_buffer true n layout = refl
if_buffer false n layout = refl

each_buffer : {A : Type 0} (test : Layout A → ℕ → Bool) (n : ℕ) (layout : Layout A) → (each_remade test n layout).buffer ≡ layout.buffer
each_buffer test zero layout = refl
each_buffer test (suc n) layout = each_buffer test n (if test layout n then remade n 1 layout else layout) ∙ if_buffer (test layout n) n layout

at_buffer : {A : Type 0} (index : Option ℕ) (layout : Layout A) → (evened_at index layout).buffer ≡ layout.buffer
at_buffer None layout = refl
at_buffer (Some index) layout = refl

evened_buffer : {A : Type 0} (steps factor : ℕ) (layout : Layout A) → (evened steps factor layout).buffer ≡ layout.buffer
evened_buffer zero factor layout = refl
evened_buffer (suc steps) factor layout = evened_buffer steps factor (evened_at (last_uneven factor layout) layout) ∙ at_buffer (last_uneven factor layout) layout

settled_buffer : {A : Type 0} (factor : Option ℕ) (layout : Layout A) → (settled factor layout).buffer ≡ layout.buffer
settled_buffer None layout = refl
settled_buffer (Some factor) layout =
    let spent = all_remade is_spent layout in
    let even = all_evened factor spent in
    each_buffer is_half_dead (length even.segments) even ∙ evened_buffer (length spent.segments) factor spent ∙ each_buffer is_spent (length layout.segments) layout

pub sealed_buffer : {A : Type 0} (layout : Layout A) → (sealed layout).buffer ≡ []
unfolding sealed
sealed_buffer layout = settled_buffer layout.factor (with_buffer_last layout)

pub buffer_sealed : (index index' : IndexState) → layout_kept index' ≡ sealed (layout_kept index) → index'.buffer ≡ []
buffer_sealed index index' e = ap (λ layout. layout.buffer) e ∙ sealed_buffer (layout_kept index)
