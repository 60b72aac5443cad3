use Rattle.std.proofs.Common.{ap, ◌∙◌}
use Rattle.ov_hall.specs.Code.Rules.{log_in}
use Rattle.ov_hall.proofs.Counting.{splits_all, joins, writes, at_meeting, after_meeting, back_home}
use Rattle.ov_hall.proofs.ghost_log_rule.meet.Goals as goal

pub split_seat-drivers-requires : goal.split_seat-drivers-requires
split_seat-drivers-requires g c = (c.requires.ids.1, c.requires.ids.2, splits_all _ _)

pub join_seat-requires : goal.join_seat-requires
join_seat-requires g c =
    let s = c.split_seat-drivers.ensures in
    (c.requires.ids.0, s.3 ∙ c.requires.ids.1, ap (λ m. m.1) s.4, c.requires.ids.2, joins _ _ _ _)

pub load-requires : goal.load-requires
load-requires g c =
    let at = at_meeting (log_in c.args.all.now.me.0) c.args.seat.now.me.0 _ _ c.join_seat.new.seat.me
    c.join_seat.ensures.2 c.requires.keeper c.split_seat-drivers.ensures.4 in (
      c.join_seat.ensures.0 ∙ c.requires.ids.0,
      c.requires.ids.2,
      writes _ _ (log_in c.args.all.now.me.0) g.L.Log.log
          c.args.seat.now.me.0.tickets c.join_seat.new.seat.me at c.requires.grows,
    )

pub split_seat-drivers-requires-2 : goal.split_seat-drivers-requires-2
split_seat-drivers-requires-2 g c = (
  c.load.ensures.0 ∙ (c.join_seat.ensures.0 ∙ c.requires.ids.0),
  c.requires.ids.2,
  splits_all _ _,
)

pub join_seat-requires-2 : goal.join_seat-requires-2
join_seat-requires-2 g c =
    let s = c.split_seat-drivers-2.ensures in (
      c.split_seat-drivers.ensures.0 ∙ c.requires.ids.1,
      s.3 ∙ (c.load.ensures.0
          ∙ (c.join_seat.ensures.0 ∙ c.requires.ids.0)),
      ap (λ m. m.1) s.4,
      c.requires.ids.2,
      joins _ _ _ _,
    )

pub returns-clause-keeper : goal.returns-clause-keeper
returns-clause-keeper g c =
    let at = at_meeting (log_in c.args.all.now.me.0) c.args.seat.now.me.0 _ _ c.join_seat.new.seat.me
    c.join_seat.ensures.2 c.requires.keeper c.split_seat-drivers.ensures.4 in
    let e = c.load.ensures.2 (log_in c.args.all.now.me.0) c.args.seat.now.me.0.tickets (ap (λ m. m.0) at) in
    after_meeting _ _ c.join_seat.new.seat.me c.load.new.seat.me _ e.0 e.1 (ap (λ m. m.1) at)
    c.split_seat-drivers-2.ensures.2

pub returns-clause-seat : goal.returns-clause-seat
returns-clause-seat g c =
    let at = at_meeting (log_in c.args.all.now.me.0) c.args.seat.now.me.0 _ _ c.join_seat.new.seat.me
    c.join_seat.ensures.2 c.requires.keeper c.split_seat-drivers.ensures.4 in
    let e = c.load.ensures.2 (log_in c.args.all.now.me.0) c.args.seat.now.me.0.tickets (ap (λ m. m.0) at) in
    back_home _ _ c.args.seat.now.me c.load.new.seat.me c.split_seat-drivers.new.seat.me
    c.split_seat-drivers-2.result.me _ c.requires.seat c.split_seat-drivers.ensures.2 e.0
    c.split_seat-drivers-2.ensures.4 c.join_seat-2.ensures.2
