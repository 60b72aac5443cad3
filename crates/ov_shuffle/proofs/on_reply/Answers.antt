use Rattle.std.proofs.Common.{arith}
use Rattle.ov_views.proofs.Sufficing.{words_integrate}
use Rattle.ov_shuffle.proofs.on_reply.Goals as goal

pub integrate-requires : goal.integrate-requires
integrate-requires c =
    words_integrate c.args.views.now c.args.ids.now c.as_slice.result.now c.args.draws.now
    (omega (arith, c.requires.words, c.requires.ids))
