use Rattle.std.proofs.Common.{◌≡◌, ◌-◌, [], sym, arith}
use Rattle.mapping_body.proofs.Parents.{parent_found, parent_missing}
use Rattle.mapping_body.proofs.pair.parent_in.Goals as goal

pub returns-in-Some : goal.returns-in-Some
returns-in-Some c =
    let whole : c.in-Some.place - 0 ≡ c.in-Some.place = omega arith in
    let found = parent_found c.args.firsts.now c.args.name.now 0 c.in-Some.place (record { parent = record { ref_ptr = (0, 0); now = [] }; child = record { ref_ptr = (0, 0); now = [] } }) (sym c.in-Some.ensures.place) in
    rw whole at found

pub returns-in-None : goal.returns-in-None
returns-in-None c = parent_missing c.args.firsts.now c.args.name.now 0 (sym c.in-None.ensures.place)
