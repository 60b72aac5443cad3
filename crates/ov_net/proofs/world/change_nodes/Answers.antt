use Rattle.ov_net.proofs.Keeping.{kept_small}
use Rattle.ov_net.proofs.world.change_nodes.Goals as goal

pub remove_newborn-requires : goal.remove_newborn-requires
remove_newborn-requires c =
    kept_small _ c.args.graph.now c.add_newborn.new.self c.requires.newborn c.in_ok-add_newborn.ensures.ok
