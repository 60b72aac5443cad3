-- No line is at fault, and this is what the lines give and ask for.
use Rattle.std.proofs.Common.{◌∙◌, ap, sym}
use Rattle.ov_lines.specs.Lines.{kept_lines}
use Rattle.ov_scenario.specs.Draws.{seeded}
use Rattle.ov_scenario.specs.RunLines.{drivers_for}
use Rattle.ov_scenario.specs.Scenarios.{stated_lines}
use Rattle.ov_scenario.proofs.Scenarios.Asked.{are_to_run}
use Rattle.ov_scenario.proofs.Scenarios.Drivers.{drivers_needed}
use Rattle.ov_scenario.proofs.Scenarios.Readable.{faultless_readable}
use Rattle.ov_scenario.proofs.scenario_reading.read_scenario.Goals as goal

pub new-lines-requires : goal.new-lines-requires
new-lines-requires c =
    record { readable = faultless_readable c.args.bytes.now c.in-Ok.ensures.faultless }

pub returns-clause-scenario : goal.returns-clause-scenario
returns-clause-scenario c =
    let bytes = c.args.bytes.now in
    let given = c.in-Ok.ensures in
    record {
      faultless = given.faultless;
      params = c.params-params.ensures.params (stated_lines bytes) given.faultless given.params;
      refill = c.params-params.ensures.refill (stated_lines bytes) given.refill;
      scale = c.params-params.ensures.scale (stated_lines bytes) given.scale;
      seed = c.seed-seed.ensures (stated_lines bytes) given.seed;
      lines = are_to_run (kept_lines bytes) c.seed-seed.result c.new-lines.result.items c.new-lines.ensures.lines;
      drivers =
          c.drivers-drivers.ensures ∙ given.drivers
          ∙ drivers_needed bytes (seeded c.seed-seed.result) given.faultless
          ∙ ap drivers_for (sym c.new-lines.ensures.lines);
    }
