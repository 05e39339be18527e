-- The elements of a list and the members of an object are smaller than it is: walks over values end.
use Rattle.mapping_body.proofs.Walks.{size_at, member_size_at}

pub ruleset sizes = (size_at, member_size_at)
