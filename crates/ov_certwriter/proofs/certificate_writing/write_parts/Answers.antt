-- The parts and the entries went to the writer one after another; if it failed, a prefix of them did.
use Rattle.std.proofs.Common.{◌≡◌, false, List, ap}
use Rattle.std.proofs.KnownBytes.{Appends-trans}
use Rattle.ov_cert.specs.declared.cert.FanPaths.{FanPaths}
use Rattle.ov_cert.specs.declared.cert.PairPaths.{PairPaths}
use Rattle.ov_certfile.specs.DataOf.{fan_data, pair_data}
use Rattle.ov_certwriter.specs.Code.Blocks.{items_after}
use Rattle.ov_certwriter.proofs.Sending.{sent_before, sent_behind, same_sent, same_begun}
use Rattle.ov_certwriter.proofs.certificate_writing.write_parts.Goals as goal
use Rattle.ov_certwriter.proofs.certificate_writing.write_parts.Goals.{After-as_slice, After-as_slice-2}

-- the fans that are lent, and the pairs, are all entries
fans_are : (g : _) (c : After-as_slice g)
    → items_after fan_data false c.as_slice.result.now ≡ items_after fan_data false c.args.entries.now.fans.items
fans_are g c = ap (λ (xs : List FanPaths). items_after fan_data false xs) c.as_slice.ensures.value

pairs_are : (g : _) (c : After-as_slice-2 g)
    → items_after pair_data false c.as_slice-2.result.now ≡ items_after pair_data false c.args.entries.now.pairs.items
pairs_are g c = ap (λ (xs : List PairPaths). items_after pair_data false xs) c.as_slice-2.ensures.value

pub returns-in_err-write_all-clause-prefix : goal.returns-in_err-write_all-clause-prefix
returns-in_err-write_all-clause-prefix g c =
    sent_before _ _ _ _ (same_begun _ _ _ _ c.head.ensures c.in_err-write_all.ensures.prefix)

pub returns-in_err-write_entries-clause-prefix : goal.returns-in_err-write_entries-clause-prefix
returns-in_err-write_entries-clause-prefix g c =
    let fans = fans_are g (goal.at.returns-in_err-write_entries-clause-prefix g c).After-as_slice in
    sent_behind _ _ _ _ _ (same_sent _ _ _ _ c.head.ensures c.in_ok-write_all.ensures.bytes)
    (sent_before _ _ _ _ (same_begun _ _ _ _ fans c.in_err-write_entries.ensures.prefix))

pub returns-in_err-write_all-2-clause-prefix : goal.returns-in_err-write_all-2-clause-prefix
returns-in_err-write_all-2-clause-prefix g c =
    let fans = fans_are g (goal.at.returns-in_err-write_all-2-clause-prefix g c).After-as_slice in
    sent_behind _ _ _ _ _ (same_sent _ _ _ _ c.head.ensures c.in_ok-write_all.ensures.bytes)
    (sent_behind _ _ _ _ _ (same_sent _ _ _ _ fans c.in_ok-write_entries.ensures.bytes)
    (sent_before _ _ _ _ (same_begun _ _ _ _ c.middle.ensures c.in_err-write_all-2.ensures.prefix)))

pub returns-in_err-write_entries-2-clause-prefix : goal.returns-in_err-write_entries-2-clause-prefix
returns-in_err-write_entries-2-clause-prefix g c =
    let at = goal.at.returns-in_err-write_entries-2-clause-prefix g c in
    let fans = fans_are g at.After-as_slice in
    let pairs = pairs_are g at.After-as_slice-2 in
    sent_behind _ _ _ _ _ (same_sent _ _ _ _ c.head.ensures c.in_ok-write_all.ensures.bytes)
    (sent_behind _ _ _ _ _ (same_sent _ _ _ _ fans c.in_ok-write_entries.ensures.bytes)
    (sent_behind _ _ _ _ _ (same_sent _ _ _ _ c.middle.ensures c.in_ok-write_all-2.ensures.bytes)
    (sent_before _ _ _ _ (same_begun _ _ _ _ pairs c.in_err-write_entries-2.ensures.prefix))))

pub returns-in_err-write_all-3-clause-prefix : goal.returns-in_err-write_all-3-clause-prefix
returns-in_err-write_all-3-clause-prefix g c =
    let at = goal.at.returns-in_err-write_all-3-clause-prefix g c in
    let fans = fans_are g at.After-as_slice in
    let pairs = pairs_are g at.After-as_slice-2 in
    sent_behind _ _ _ _ _ (same_sent _ _ _ _ c.head.ensures c.in_ok-write_all.ensures.bytes)
    (sent_behind _ _ _ _ _ (same_sent _ _ _ _ fans c.in_ok-write_entries.ensures.bytes)
    (sent_behind _ _ _ _ _ (same_sent _ _ _ _ c.middle.ensures c.in_ok-write_all-2.ensures.bytes)
    (sent_behind _ _ _ _ _ (same_sent _ _ _ _ pairs c.in_ok-write_entries-2.ensures.bytes)
    (same_begun _ _ _ _ c.tail.ensures c.in_err-write_all-3.ensures.prefix))))

pub returns-clause-bytes : goal.returns-clause-bytes
returns-clause-bytes g c =
    let at = goal.at.returns-clause-bytes g c in
    let fans = fans_are g at.After-as_slice in
    let pairs = pairs_are g at.After-as_slice-2 in
    Appends-trans _ _ _ _ _ (same_sent _ _ _ _ c.head.ensures c.in_ok-write_all.ensures.bytes)
    (Appends-trans _ _ _ _ _ (same_sent _ _ _ _ fans c.in_ok-write_entries.ensures.bytes)
    (Appends-trans _ _ _ _ _ (same_sent _ _ _ _ c.middle.ensures c.in_ok-write_all-2.ensures.bytes)
    (Appends-trans _ _ _ _ _ (same_sent _ _ _ _ pairs c.in_ok-write_entries-2.ensures.bytes)
    (same_sent _ _ _ _ c.tail.ensures c.in_ok-write_all-3.ensures.bytes))))

pub returns-clause-prefix : goal.returns-clause-prefix
returns-clause-prefix g c =
    let at = goal.at.returns-clause-prefix g c in
    let fans = fans_are g at.After-as_slice in
    let pairs = pairs_are g at.After-as_slice-2 in
    sent_behind _ _ _ _ _ (same_sent _ _ _ _ c.head.ensures c.in_ok-write_all.ensures.bytes)
    (sent_behind _ _ _ _ _ (same_sent _ _ _ _ fans c.in_ok-write_entries.ensures.bytes)
    (sent_behind _ _ _ _ _ (same_sent _ _ _ _ c.middle.ensures c.in_ok-write_all-2.ensures.bytes)
    (sent_behind _ _ _ _ _ (same_sent _ _ _ _ pairs c.in_ok-write_entries-2.ensures.bytes)
    (same_begun _ _ _ _ c.tail.ensures c.in_ok-write_all-3.ensures.prefix))))
