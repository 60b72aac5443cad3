-- One line more, which is at fault or not, and all lines.
use Rattle.std.proofs.Common.{rules, ◌++◌, Some}
use Rattle.std.specs.Prelude.{option_to_list}
use Rattle.ov_scenario.specs.Code.Judging.{Judges, faulty_of}
use Rattle.ov_scenario.specs.Scenarios.{AreFirstOf, stated_lines}
use Rattle.ov_scenario.proofs.Scenarios.Counted.{none_counted, line_counted, all_counted}
use Rattle.ov_scenario.proofs.fault_listing.faulty_lines.Goals.{in-Some-faulty+in_ok-add, in_default-faulty}
use Rattle.ov_scenario.proofs.fault_listing.faulty_lines.Goals as goal

pub loop-judging-init : goal.loop-judging-init
loop-judging-init c =
    none_counted (stated_lines c.args.bytes.now) c.in_ok-judging.judging.ahead c.in_ok-judging.judging.before
    c.args.most c.none-faulty.result c.in_ok-judging.ensures.lines c.in_ok-judging.ensures.before
    c.none-faulty.ensures.first c.none-faulty.ensures.count

pub loop-judging-preserved : goal.loop-judging-preserved
loop-judging-preserved c =
    let old = c.loop-judging.judging in
    let new = c.next_line.new.self in
    let so_far = c.loop-judging.invariant in
    let judged = c.in-Some.judged in
    let judges : Judges old (Some judged) new = search rules in
    let first : AreFirstOf c.args.most (so_far.all ++ option_to_list (faulty_of judged)) c.match-faulty.faulty =
    elim c.match-faulty.branch [
      | in-Some-faulty+in_ok-add w ↦ search rules
      | in_default-faulty w ↦ search rules
    ] in
    line_counted (stated_lines c.args.bytes.now) old new judged c.args.most c.loop-judging.faulty
    c.match-faulty.faulty so_far judges first

pub returns : goal.returns
returns c =
    all_counted (stated_lines c.args.bytes.now) c.loop-judging.judging.ahead c.loop-judging.judging.before
    c.args.most c.loop-judging.faulty c.loop-judging.invariant (search rules)
