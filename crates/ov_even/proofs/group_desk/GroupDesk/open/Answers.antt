-- A new desk is sound.
use Rattle.std.proofs.Common.{ℕ, List, subst}
use Rattle.ov_ids.specs.Workers.{MayWork}
use Rattle.ov_even.specs.Desk.{AreToShare}
use Rattle.ov_even.proofs.DeskTurns.Staying.{sound_opened}
use Rattle.ov_even.proofs.group_desk.GroupDesk.open.Goals as goal

pub returns-clause-sound : goal.returns-clause-sound
returns-clause-sound c =
    let g = c.args.graph.now in
    let q = c.args.group.items in
    let may = subst MayWork c.count.ensures.count c.count.ensures.may_work in
    sound_opened g c.args.moment q c.args.workers _ c.requires may record {
      total = c.total_to_share-total.result;
      share = subst (λ (xs : List ℕ). AreToShare g xs c.total_to_share-total.result) c.deref.ensures.value
          c.total_to_share-total.ensures.share;
      desk = λ i. record {
        moment = c.args.moment;
        members = q;
        claims = c.in_ok-claims.ensures i;
        hands = c.in_ok-hands.ensures i;
        settled = c.in_ok-hauls.ensures i;
      };
    }
