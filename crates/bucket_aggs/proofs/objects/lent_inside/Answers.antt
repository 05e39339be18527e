use Rattle.bucket_aggs.proofs.Formed.{inside_all, inside_some}
use Rattle.bucket_aggs.proofs.Handed.{Laws}
use Rattle.bucket_aggs.proofs.objects.lent_inside.Goals as goal

pub returns-in_ok-every-clause-inside : goal.returns-in_ok-every-clause-inside
returns-in_ok-every-clause-inside c = λ given is.
    let m = c.args.mapping.now in
    let known = c.scope_count-scopes.ensures.is_mapping in
    let laws : Laws m = record {
      parted = λ n p tree above. c.objects_are_parted.ensures.parted m n p tree known above;
      around = λ o p above. c.objects_are_parted.ensures.around m o p known above;
      tree = λ tree. c.objects_are_parted.ensures.tree m tree known;
      places = λ tree i j o less low. c.objects_nest.ensures.places m tree i j o known less low;
    } in
    inside_all m c.args.entries.now c.args.scope c.args.path given c.in_ok-every.field-0 laws c.requires.path (c.in_ok-are_all.ensures m given is c.if-branch.true) (c.in_ok-every.ensures m)

pub returns-in_ok-every-clause-long : goal.returns-in_ok-every-clause-long
returns-in_ok-every-clause-long c = (c.in_ok-every.ensures c.args.mapping.now).long

pub returns-in_ok-below-clause-inside : goal.returns-in_ok-below-clause-inside
returns-in_ok-below-clause-inside c = λ given is.
    let m = c.args.mapping.now in
    let known = c.scope_count-scopes.ensures.is_mapping in
    let laws : Laws m = record {
      parted = λ n p tree above. c.objects_are_parted.ensures.parted m n p tree known above;
      around = λ o p above. c.objects_are_parted.ensures.around m o p known above;
      tree = λ tree. c.objects_are_parted.ensures.tree m tree known;
      places = λ tree i j o less low. c.objects_nest.ensures.places m tree i j o known less low;
    } in
    inside_some m c.args.entries.now c.args.scope c.args.path given c.in_ok-below.field-0 laws c.requires.path (c.in_ok-below.ensures.seen m given c.requires.path is)
