-- Refusals that one call takes over from another.
use Rattle.commit_store.specs.declared.refusal.CommitRefusal.{CommitRefusal}
use Rattle.commit_store.specs.declared.refusal.CommitRefusal.TheVariants as commits
use Rattle.commit_store.specs.declared.refusal.FinishRefusal.{FinishRefusal}
use Rattle.commit_store.specs.declared.refusal.FinishRefusal.TheVariants.{DiskFault, NoMemory}

-- a commit is refused for what its end is refused for
abbrev pub as_commit : FinishRefusal → CommitRefusal
as_commit DiskFault = commits.DiskFault
as_commit NoMemory = commits.NoMemory
