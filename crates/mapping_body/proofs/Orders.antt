-- How a path stands to a name below another path, in byte order.
use Rattle.std.proofs.Common.{◌≡◌, ℕ, ◌≤◌, List, [], ◌∷◌, ◌++◌, length, take, drop, refl, sym, ap, ◌∙◌, arith, Ordering, Less, Equal, Greater, nat_cmp}
use Rattle.std.specs.Ordering.{ordering_then}
use Rattle.std.specs.Cmp.Lexicographic.{slice_cmp}

abbrev compared : List ℕ → List ℕ → Ordering
compared = slice_cmp nat_cmp

then_twice : (o p q : Ordering) → ordering_then (ordering_then o p) q ≡ ordering_then o (ordering_then p q)
then_twice Less p q = refl
then_twice Equal p q = refl
then_twice Greater p q = refl

-- a path that is no longer: where it agrees, it comes first
pub order_short : (other path tail : List ℕ) (n : ℕ) → length other ≤ length path
    → compared other (path ++ (n ∷ tail)) ≡ ordering_then (compared other (take (length other) path)) Less
order_short [] [] tail n h = refl
order_short [] (y ∷ path) tail n h = refl
order_short (x ∷ other) [] tail n h = absurd (omega arith)
order_short (x ∷ other) (y ∷ path) tail n h =
    let more : length other ≤ length path = omega arith in
    ap (ordering_then (nat_cmp x y)) (order_short other path tail n more) ∙ sym (then_twice (nat_cmp x y) _ Less)

-- a longer one: first what stands beside the path, then the rest
pub order_long : (other path tail : List ℕ) → length path ≤ length other
    → compared other (path ++ tail) ≡ ordering_then (compared (take (length path) other) path) (compared (drop (length path) other) tail)
order_long other [] tail h = refl
order_long [] (y ∷ path) tail h = absurd (omega arith)
order_long (x ∷ other) (y ∷ path) tail h =
    let more : length path ≤ length other = omega arith in
    ap (ordering_then (nat_cmp x y)) (order_long other path tail more) ∙ sym (then_twice (nat_cmp x y) _ _)

pub ruleset orders = (order_short, order_long)
