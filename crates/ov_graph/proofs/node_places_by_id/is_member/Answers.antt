use Rattle.std.proofs.Common.{◌∙◌}
use Rattle.ov_ids.proofs.Members.{has_tested}
use Rattle.ov_graph.proofs.BitRows.Halving.{found_test}
use Rattle.ov_graph.proofs.node_places_by_id.is_member.Goals as goal

pub returns : goal.returns
returns c =
    let e = c.is_some.ensures ∙ found_test c.args.ids.now c.args.id c.place_of.result c.place_of.ensures.some
    c.place_of.ensures.none in
    record { member = has_tested c.args.ids.now c.args.id c.is_some.result e; test = e }
