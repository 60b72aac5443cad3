-- What an act and a comment of a recording are to growing.
use Rattle.std.proofs.Common.{◌≡◌, ℕ, List, ◌++◌, ap, subst}
use Rattle.std.specs.Prelude.{option_map}
use Rattle.ov_net.specs.declared.journal_entry_and_changes.Entry.{Entry}
use Rattle.ov_snap.specs.Run.{Happened}
use Rattle.ov_scenario.specs.Scenarios.{IsScenario}
use Rattle.ov_scenario.specs.declared.scenario.Line.TheVariants as line
use Rattle.ov_script.specs.Acts.{act_line, event_of}
use Rattle.ov_grow.specs.BroadcastLog.{marks_after}
use Rattle.ov_script.specs.Scripts.{scenario_of}
use Rattle.ov_script.specs.WrittenLines.{comment_line, ended}
use Rattle.ov_script.specs.declared.recordable_event.Act.{Act}
use Rattle.ov_grow.specs.Recordings.{HasOneLineMore}
use Rattle.ov_grow.specs.Growth.{Does, Writes}
use Rattle.ov_grow.specs.Code.Logging.{log_of}
use Rattle.ov_grow.specs.Code.Standing.{Goes, growth_of}
use Rattle.ov_grow.specs.declared.growth_in_progress.Growing.{Growing}
use Rattle.ov_grow.proofs.Going.{kept_same}

-- an act was taken and written
pub act_goes : (b u : Growing) (what : Act) (e : Entry) (text : List ℕ) → u.choices ≡ b.choices
    → (growth_of u).log
    ≡ option_map (marks_after (event_of what) b.recording.core.world.net u.recording.core.world.net) (growth_of b).log
    → Happened b.recording.core (event_of what) b.recording.script.next e u.recording.core
    → HasOneLineMore b.recording.script (act_line what) (line.Event (event_of what) b.recording.script.next)
    u.recording.script
    → text ≡ u.recording.script.text → IsScenario text (scenario_of u.recording.script)
    → Goes (λ s v. Does s what v) b u
act_goes b u what e text choices log happened written same says = record {
  way = record {
    words = b.recording.script.next;
    entry = e;
    text = written.text;
    asked = (
      scenario_of u.recording.script,
      b.recording.script.lines,
      subst (λ t. IsScenario t (scenario_of u.recording.script)) same says,
      written.lines,
    );
    judged = happened.judged;
    step = record { step = happened.step; journal = happened.journal; number = happened.number };
    choices = choices;
    log = log;
  };
  kept = kept_same b.recording.core u.recording.core happened.reports;
}

-- a comment was written
pub comment_goes : (b u : Growing) (said : List ℕ) → u.choices ≡ b.choices → u.log ≡ b.log
    → u.recording ≡ record b.recording {
      script = record b.recording.script { text = b.recording.script.text ++ ended (comment_line said) };
    }
    → Goes (λ s v. Writes s (comment_line said) v) b u
comment_goes b u said choices log written = record {
  way = λ i. record {
    text = (ap (λ r. r.script.text) written) i;
    world = (ap (λ r. r.core.world) written) i;
    choices = choices i;
    log = (ap (λ l. log_of l) log) i;
  };
  kept = kept_same b.recording.core u.recording.core (ap (λ r. r.core.reports) written);
}
