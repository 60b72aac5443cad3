-- One line more, and all lines.
use Rattle.std.proofs.Common.{◌≡◌, ◌∙◌, max, [], Some, ap, sym, subst}
use Rattle.std.specs.Option.{option_or}
use Rattle.ov_scenario.specs.Code.Judging.{Judges, first_in, params_in, refill_in, scale_in, sections_of, seed_in}
use Rattle.ov_scenario.specs.Scenarios.{stated_lines}
use Rattle.ov_scenario.specs.declared.line_judging.Before.{Before}
use Rattle.ov_scenario.proofs.Scenarios.Drivers.{all_needed, needs_begun, needs_more, none_open}
use Rattle.ov_scenario.proofs.Scenarios.Judged.{faultless_begun, faultless_next, first_found, none_at_fault}
use Rattle.ov_scenario.proofs.Scenarios.Settled.{gives_more}
use Rattle.ov_scenario.proofs.scenario_reading.read_settings.Goals as goal

pub loop-judging-init : goal.loop-judging-init
loop-judging-init c =
    let all = stated_lines c.args.bytes.now in
    let left = c.in_ok-judging.judging.ahead in
    let before = c.in_ok-judging.judging.before in
    let same = c.in_ok-judging.ensures.lines in
    let settings = c.nothing-settings.result in
    record {
      judged = faultless_begun all left before same c.in_ok-judging.ensures.before;
      params =
          ap (λ o. option_or o (first_in params_in left)) c.nothing-settings.ensures.params
          ∙ ap (λ ls. first_in params_in ls) same;
      drivers =
          needs_begun all left settings.drivers before.block same c.nothing-settings.ensures.drivers
          (ap (λ (b : Before). b.block) c.in_ok-judging.ensures.before ∙ none_open);
      seed =
          ap (λ o. option_or o (first_in seed_in left)) c.nothing-settings.ensures.seed
          ∙ ap (λ ls. first_in seed_in ls) same;
      refill =
          ap (λ o. option_or o (first_in refill_in left)) c.nothing-settings.ensures.refill
          ∙ ap (λ ls. first_in refill_in ls) same;
      scale =
          ap (λ o. option_or o (first_in scale_in left)) c.nothing-settings.ensures.scale
          ∙ ap (λ ls. first_in scale_in ls) same;
    }

pub loop-judging-preserved : goal.loop-judging-preserved
loop-judging-preserved c =
    let all = stated_lines c.args.bytes.now in
    let old = c.loop-judging.judging in
    let new = c.next_line.new.self in
    let judged = c.in-Some.judged in
    let before = c.loop-judging.invariant in
    let judges : Judges old (Some judged) new = subst (λ j. Judges old j new) c.in-Some.is c.in_ok-judged.ensures in
    record {
      judged = faultless_next all old new judged before.judged judges (sym c.faulty.ensures ∙ c.in-None.is);
      params =
          gives_more params_in all c.loop-judging.settings.params c.with-settings.result.params old.ahead
          new.ahead judged.line before.params judges.0 c.with-settings.ensures.params;
      drivers =
          needs_more all old.ahead new.ahead judged.line c.loop-judging.settings.drivers c.with-settings.result.drivers
          old.before.block new.before.block before.drivers judges.0 (ap (λ (b : Before). b.block) (sym judges.1))
          (c.with-settings.ensures.drivers
          ∙ ap (λ o. max c.loop-judging.settings.drivers (sections_of o)) c.open_block.ensures);
      seed =
          gives_more seed_in all c.loop-judging.settings.seed c.with-settings.result.seed old.ahead
          new.ahead judged.line before.seed judges.0 c.with-settings.ensures.seed;
      refill =
          gives_more refill_in all c.loop-judging.settings.refill c.with-settings.result.refill old.ahead
          new.ahead judged.line before.refill judges.0 c.with-settings.ensures.refill;
      scale =
          gives_more scale_in all c.loop-judging.settings.scale c.with-settings.result.scale old.ahead
          new.ahead judged.line before.scale judges.0 c.with-settings.ensures.scale;
    }

pub returns-in-Some-faulty-clause-fault : goal.returns-in-Some-faulty-clause-fault
returns-in-Some-faulty-clause-fault c =
    let old = c.loop-judging.judging in
    let new = c.next_line.new.self in
    let judged = c.in-Some.judged in
    let judges : Judges old (Some judged) new = subst (λ j. Judges old j new) c.in-Some.is c.in_ok-judged.ensures in
    first_found (stated_lines c.args.bytes.now) old new judged c.in-Some-faulty.first
    c.loop-judging.invariant.judged judges (sym c.faulty.ensures ∙ c.in-Some-faulty.is)

pub returns-clause-faultless : goal.returns-clause-faultless
returns-clause-faultless c =
    let all = stated_lines c.args.bytes.now in
    let old = c.loop-judging.judging in
    let none : old.ahead ≡ [] =
    subst (λ j. Judges old j c.next_line.new.self) c.in_default.is c.in_ok-judged.ensures in
    none_at_fault all old.ahead old.before c.loop-judging.invariant.judged none

pub returns-clause-drivers : goal.returns-clause-drivers
returns-clause-drivers c =
    let all = stated_lines c.args.bytes.now in
    let old = c.loop-judging.judging in
    let none : old.ahead ≡ [] =
    subst (λ j. Judges old j c.next_line.new.self) c.in_default.is c.in_ok-judged.ensures in
    all_needed all old.ahead c.loop-judging.settings.drivers old.before.block c.loop-judging.invariant.drivers none
