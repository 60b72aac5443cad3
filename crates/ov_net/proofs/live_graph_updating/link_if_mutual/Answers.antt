use Rattle.ov_net.proofs.live_graph_updating.link_if_mutual.Goals as goal
use Rattle.std.proofs.Common.{inl, refl}

pub link-requires-clause-a : goal.link-requires-clause-a
link-requires-clause-a c = c.requires.live c.args.node (c.requires.fits.up c.args.node c.args.other (inl refl))

pub link-requires-clause-b : goal.link-requires-clause-b
link-requires-clause-b c =
    let held = (c.is_mutual.ensures.0 c.if-is_mutual.true).1 in c.requires.live c.args.other (held.0, held.1)
