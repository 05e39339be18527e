-- Which limits a session may be held to.
use Rattle.std.specs.Prelude.{◌≤◌, ◌^◌}
use Rattle.machine.specs.declared.limits.Limits.{Limits}

abbrev pub standard_limits : Limits
standard_limits = record { objects = 2 ^ 26; reply_bytes = 67108864; store_bytes = 2 ^ 38; session_bytes = 2 ^ 50 }

-- each is at least 1 and at most the standard one, and a store holds at least its header and a little more
pub record AreLimits (limits : Limits) : Type 0 where
  pub some_objects : 1 ≤ limits.objects
  pub objects : limits.objects ≤ 2 ^ 26
  pub some_reply : 1 ≤ limits.reply_bytes
  pub reply : limits.reply_bytes ≤ 67108864
  pub some_store : 4096 ≤ limits.store_bytes
  pub store : limits.store_bytes ≤ 2 ^ 38
  pub some_session : 1 ≤ limits.session_bytes
  pub session : limits.session_bytes ≤ 2 ^ 50
