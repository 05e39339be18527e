use Rattle.std.proofs.Common.{◌≡◌, None, drop, map}
use Rattle.std.specs.Option.{option_copied}
use Rattle.reply_text.specs.Next.{rise}
use Rattle.reply_text.proofs.order.rise.Given as goal

-- the names that are left rise from the last one on, where all do
abbrev pub invariant-names : goal.invariant-names
invariant-names g l = rise (option_copied l.last) (map g.T.Named.entry (drop l.item-index l.list)) ≡ rise None (map g.T.Named.entry l.list)
