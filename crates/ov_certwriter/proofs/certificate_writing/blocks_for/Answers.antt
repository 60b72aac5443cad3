-- No entry needs more room than the larger of the two largest.
use Rattle.std.proofs.Common.{List, ℕ, subst, sym, arith}
use Rattle.ov_cert.specs.declared.cert.FanPaths.{FanPaths}
use Rattle.ov_cert.specs.declared.cert.PairPaths.{PairPaths}
use Rattle.ov_certwriter.specs.Code.Blocks.{AreWithin}
use Rattle.ov_certwriter.proofs.Filled.{within_more}
use Rattle.ov_certwriter.proofs.certificate_writing.blocks_for.Goals as goal

pub returns-clause-fans : goal.returns-clause-fans
returns-clause-fans g c =
    let most = c.max-room.ensures in
    let own = c.in_ok-fan_room.ensures (omega (arith, most, c.in_ok-new.ensures.small, c.in_ok-new.ensures.room)) in
    let room = c.in_ok-fan_room.fan_room in
    let fans = subst (λ (xs : List FanPaths). AreWithin (λ e. e.paths) room xs) c.as_slice-fans.ensures.value own in
    let all = within_more (λ (e : FanPaths). e.paths) room c.max-room.result c.args.entries.now.fans.items
    (omega (arith, most)) fans in
    subst (λ (r : ℕ). AreWithin (λ (e : FanPaths). e.paths) r c.args.entries.now.fans.items)
    (sym c.in_ok-new.ensures.room) all

pub returns-clause-pairs : goal.returns-clause-pairs
returns-clause-pairs g c =
    let most = c.max-room.ensures in
    let own = c.in_ok-pair_room.ensures (omega (arith, most, c.in_ok-new.ensures.small, c.in_ok-new.ensures.room)) in
    let room = c.in_ok-pair_room.pair_room in
    let pairs = subst (λ (xs : List PairPaths). AreWithin (λ e. e.paths) room xs) c.as_slice-pairs.ensures.value own in
    let all = within_more (λ (e : PairPaths). e.paths) room c.max-room.result c.args.entries.now.pairs.items
    (omega (arith, most)) pairs in
    subst (λ (r : ℕ). AreWithin (λ (e : PairPaths). e.paths) r c.args.entries.now.pairs.items)
    (sym c.in_ok-new.ensures.room) all
