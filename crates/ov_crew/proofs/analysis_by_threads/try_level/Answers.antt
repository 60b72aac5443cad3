-- All workers have ended, so the board can be closed, and the level was tried.
use Rattle.std.proofs.Common.{List, length, ap, subst, arith}
use Rattle.std.specs.Prelude.{All}
use Rattle.ov_crew.specs.Code.Crews.{Outcome, HasWorked}
use Rattle.ov_crew.proofs.Trying.{crew_right, crew_tried}
use Rattle.ov_crew.proofs.Gathering.{HaveAllWorked, outcomes_long, all_new, all_worked}
use Rattle.ov_crew.proofs.analysis_by_threads.try_level.Goals.{In_ok-hauls}
use Rattle.ov_crew.proofs.analysis_by_threads.try_level.Goals as goal

-- all workers have worked at the board
worked : (g : _) (c : In_ok-hauls g) → HaveAllWorked c.args.keeping c.args.graph.now c.args.group.now
    c.args.numbers.first c.in_ok-board.board c.in_ok-hauls.seats.items c.in_ok-hauls.hauls.items
worked g c = all_worked c.args.keeping c.args.graph.now c.args.group.now c.args.numbers.first c.in_ok-board.board
    c.in_ok-hauls.seats.items c.in_ok-hauls.hauls.items c.in_ok-hauls.ensures.count
    (subst (λ (os : List Outcome). All (HasWorked c.args.keeping c.args.graph.now c.args.group.now c.args.numbers.first
    c.in_ok-board.board) os) c.in_ok-hauls.ensures.same c.in_ok-done.ensures.each)

pub run-requires-clause-new : goal.run-requires-clause-new
run-requires-clause-new g c κs within = all_new c.in_ok-board.board c.in_ok-board.seats.items c.args.workers
    c.in_ok-board.ensures.count c.in_ok-board.ensures.seats

pub close-requires-clause-all : goal.close-requires-clause-all
close-requires-clause-all g c =
    let e = c.in_ok-hauls.ensures in
    let long = outcomes_long c.in_ok-hauls.hauls.items c.in_ok-hauls.seats.items e.count in
    let same = ap length e.same in
    let done = c.in_ok-done.ensures.count in
    let seats = c.in_ok-board.ensures.count in
    let workers = c.in_ok-board.ensures.workers in
    omega (arith, long, same, done, seats, workers)

pub close-requires-clause-mine : goal.close-requires-clause-mine
close-requires-clause-mine g c = (worked g c).board

pub close-requires-clause-ended : goal.close-requires-clause-ended
close-requires-clause-ended g c = (worked g c).ended

pub returns-clause-right : goal.returns-clause-right
returns-clause-right g c = crew_right c.args.keeping c.args.graph.now c.args.group.now c.args.numbers.first
    c.in_ok-hauls.seats.items c.in_ok-hauls.hauls.items (all_worked c.args.keeping c.args.graph.now c.args.group.now
    c.args.numbers.first c.in_ok-board.board c.in_ok-hauls.seats.items c.in_ok-hauls.hauls.items
    c.in_ok-hauls.ensures.count (subst (λ (os : List Outcome). All (HasWorked c.args.keeping c.args.graph.now
    c.args.group.now c.args.numbers.first c.in_ok-board.board) os) c.in_ok-hauls.ensures.same
    c.in_ok-done.ensures.each)).hauls

pub returns-clause-tried : goal.returns-clause-tried
returns-clause-tried g c level before known numbers =
    let all = all_worked c.args.keeping c.args.graph.now c.args.group.now c.args.numbers.first c.in_ok-board.board
    c.in_ok-hauls.seats.items c.in_ok-hauls.hauls.items c.in_ok-hauls.ensures.count
    (subst (λ (os : List Outcome). All (HasWorked c.args.keeping c.args.graph.now c.args.group.now c.args.numbers.first
    c.in_ok-board.board) os) c.in_ok-hauls.ensures.same c.in_ok-done.ensures.each) in
    crew_tried c.args.keeping c.args.graph.now c.args.group.now c.in_ok-board.board c.in_ok-hauls.seats.items
    c.in_ok-hauls.hauls.items level before c.args.numbers.first c.args.numbers.size c.close.result
    c.close.ensures.closed c.in_ok-board.ensures.total known numbers all.hauls
