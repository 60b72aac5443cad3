-- What was read is a scenario, and what it prints was written; if the run ended early, a prefix of it.
use Rattle.std.proofs.Common.{rules, Err, ap, arith, refl, subst}
use Rattle.ov_snap.specs.CoreState.{opening_core}
use Rattle.ov_run_meaning.specs.Strict.{StopsLines}
use Rattle.ov_run.specs.Code.Outcomes.{RanLines}
use Rattle.ov_run.proofs.Printing.WholeRuns.{finished, stopped, without_room}
use Rattle.ov_run.proofs.engine.run_bytes.Goals as goal

pub returns-in-Ok : goal.returns-in-Ok
returns-in-Ok g c =
    let said = c.in_ok-scenario in
    let ran = subst (λ result. RanLines c.args.strictness g.W.Write.contents (opening_core said.scenario.params)
    said.scenario.lines.items said.scenario.lines.file_lines c.args.sink.now c.run_in_hall.new.sink result)
    c.in-Ok.is c.in_ok-ran.ensures.ran in
    let printed = ran.prints in
    let begun = ran.begun in
    record {
      read = λ e. absurd cc;
      run = finished c.args.strictness c.args.bytes.now g.W.Write.contents c.args.sink.now c.run_in_hall.new.sink (
        c.args.bytes.now,
        printed.1.0,
        refl,
        record {
          scenario = said.scenario;
          says = said.ensures.scenario;
          core = printed.0;
          lines = printed.1.1;
        },
        printed.1.2,
      ) (
        c.args.bytes.now,
        begun.0,
        refl,
        record { scenario = said.scenario; says = said.ensures.scenario; lines = begun.1 },
        begun.2,
      ) (λ strict. let own = ran.accepts strict in (
        c.args.bytes.now,
        own.1.0,
        refl,
        record {
          scenario = said.scenario;
          says = said.ensures.scenario;
          core = own.0;
          lines = own.1.1;
        },
        own.1.2,
      )) ran.faults;
    }

pub returns-in_err-opening : goal.returns-in_err-opening
returns-in_err-opening g c = record {
  read = search rules;
  run = without_room c.args.strictness c.args.bytes.now g.W.Write.contents c.args.sink.now
      c.from_residual-in_err-opening.result
      c.from_residual-in_err-opening.ensures.1;
}

pub returns-in_err-ran : goal.returns-in_err-ran
returns-in_err-ran g c = record {
  read = search rules;
  run = rw c.in_err-ran.ensures.nothing
      (without_room c.args.strictness c.args.bytes.now g.W.Write.contents c.args.sink.now
      c.from_residual-in_err-ran.result c.from_residual-in_err-ran.ensures.1);
}

pub returns-in-Err : goal.returns-in-Err
returns-in-Err g c =
    let file = c.in_ok-scenario in
    let ran = subst (λ result. RanLines c.args.strictness g.W.Write.contents (opening_core file.scenario.params)
    file.scenario.lines.items file.scenario.lines.file_lines c.args.sink.now c.run_in_hall.new.sink result)
    c.in-Err.is c.in_ok-ran.ensures.ran in
    record {
      read = search rules;
      run = stopped c.args.strictness c.args.bytes.now g.W.Write.contents c.args.sink.now
          c.run_in_hall.new.sink (Err c.in-Err.fault)
          c.in-Err.fault refl (
            c.args.bytes.now,
            ran.begun.0,
            refl,
            record { scenario = file.scenario; says = file.ensures.scenario; lines = ran.begun.1 },
            ran.begun.2,
          ) ran.kind ran.faults (λ memory. let ended = ran.memory (ap Err memory) in (
            c.args.bytes.now,
            ended.0,
            refl,
            record { scenario = file.scenario; says = file.ensures.scenario; lines = ended.1 },
            ended.2,
          )) (λ n refusal is. let own = ran.stops n refusal (ap Err is) in (
            own.0,
            (
              c.args.bytes.now,
              own.1.0,
              refl,
              record {
                scenario = file.scenario;
                says = file.ensures.scenario;
                lines = subst (λ ls. StopsLines (opening_core file.scenario.params) file.scenario.lines.items ls n
                    refusal
                    own.1.0) file.ensures.file_lines own.1.1;
              },
              own.1.2,
            ),
          ));
    }

-- there is a driver for each section of the largest block
pub run_in_hall-requires-clause-drivers : goal.run_in_hall-requires-clause-drivers
run_in_hall-requires-clause-drivers g c =
    let needed = c.in_ok-scenario.ensures.scenario.drivers in
    let made = c.in_ok-opening.ensures in
    let count = c.count.ensures.count in
    omega (arith, needed, made, count)
