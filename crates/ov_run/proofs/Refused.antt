-- What a scenario file that is refused makes of a run.
use Rattle.std.proofs.Common.{ℕ, List, refl}
use Rattle.ov_scenario.specs.Scenarios.{IsReadingFault}
use Rattle.ov_scenario.specs.declared.scenario_fault.LineFault.{LineFault}
use Rattle.ov_scenario.specs.declared.scenario_fault.LineFault.TheVariants as line_fault
use Rattle.ov_scenario.specs.declared.scenario_fault.ScenarioFault.{ScenarioFault}
use Rattle.ov_scenario.specs.declared.scenario_fault.ScenarioFault.TheVariants as scenario
use Rattle.ov_run_meaning.specs.Faults.{fault_at, fault_of_scenario, IsScenarioFileFault}
use Rattle.ov_run.specs.Code.Failing.{IsBeforeLines}
use Rattle.ov_run_meaning.specs.declared.run_fault.RunFault.TheVariants.{Line, Params}

unread : (bytes : List ℕ) (n : ℕ) → IsScenarioFileFault bytes (Line n) → IsBeforeLines bytes (Line n)
unread bytes n is = record {
  fault = is;
  not_written = λ e. absurd cc;
  not_read = λ e. absurd cc;
  not_refused = λ m refusal e. absurd cc;
}

out_of_limits : (bytes : List ℕ) (n : ℕ) → IsScenarioFileFault bytes (Params n) → IsBeforeLines bytes (Params n)
out_of_limits bytes n is = record {
  fault = is;
  not_written = λ e. absurd cc;
  not_read = λ e. absurd cc;
  not_refused = λ m refusal e. absurd cc;
}

at_line :
    (bytes : List ℕ) (n : ℕ) (f : LineFault) → IsScenarioFileFault bytes (fault_at n f)
    → IsBeforeLines bytes (fault_at n f)
at_line bytes n (line_fault.Unread unread_at) is = unread bytes n is
at_line bytes n (line_fault.BehindEvent setting event) is = unread bytes n is
at_line bytes n (line_fault.SetBefore setting line) is = unread bytes n is
at_line bytes n (line_fault.OutOfLimits numbers) is = out_of_limits bytes n is
at_line bytes n (line_fault.NoEventNext next) is = unread bytes n is
at_line bytes n line_fault.NoEnd is = unread bytes n is
at_line bytes n line_fault.NotInSection is = unread bytes n is
at_line bytes n (line_fault.TooManySections together) is = unread bytes n is
at_line bytes n (line_fault.NotHeld together) is = unread bytes n is

-- the fault of a scenario file
pub of_scenario : (bytes : List ℕ) (own : ScenarioFault) → IsReadingFault bytes own
    → IsBeforeLines bytes (fault_of_scenario own)
of_scenario bytes (scenario.Line l) is = at_line bytes l.line l.fault (scenario.Line l, is, refl)
of_scenario bytes scenario.OutOfMemory is = record {
  fault = tt;
  not_written = λ e. absurd cc;
  not_read = λ e. absurd cc;
  not_refused = λ m refusal e. absurd cc;
}
