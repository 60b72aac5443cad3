-- A script begins without a line to run.
use Rattle.std.proofs.Common.{◌≡◌, ◌∙◌, ◌<◌, ◌^◌, ap₂, arith, rules}
use Rattle.ov_scenario.specs.Draws.{seeded}
use Rattle.ov_script.specs.Code.Kept.{text_of}
use Rattle.ov_script.proofs.KeepingLines.{text_begun}
use Rattle.ov_script.proofs.Opening.{none_opened, script_opened}
use Rattle.ov_script.proofs.scenario_written_line_by_line.Script.new.Goals as goal

pub returns-clause-text : goal.returns-clause-text
returns-clause-text c =
    let heading : c.new-heading.result ≡ c.args.heading.now = search rules in
    ap₂ (λ h ls. text_of h c.args.params c.args.seed ls) heading c.new.ensures.items
    ∙ text_begun c.args.heading.now c.args.params c.args.seed

pub invariant_of-result : goal.invariant_of-result
unfolding seeded
invariant_of-result c =
    let fits : c.args.seed < 2 ^ 64 = omega (arith, c.ranges.seed.fits) in
    script_opened c.args.heading.now _ c.args.params c.args.seed c.from_pcg-next.result _
    c.active-limits.ensures.limits fits (returns-clause-text c) (search rules) c.from_pcg-next.ensures.count

pub returns-clause-lines : goal.returns-clause-lines
returns-clause-lines c =
    let fits : c.args.seed < 2 ^ 64 = omega (arith, c.ranges.seed.fits) in
    none_opened c.args.heading.now _ c.args.params c.args.seed c.active-limits.ensures.limits fits
    (returns-clause-text c)
