-- One line more, and all of them; and if a line ends the run, or the next can't be read, what was printed up to there.
use Rattle.std.proofs.Common.{◌≡◌, ◌≤◌, ◌∙◌, ◌++◌, ◌∷◌, [], ℕ, List, Option, Err, MatchOption, ap, inl, inr}
use Rattle.std.proofs.Common.{subst, sym, refl, arith}
use Rattle.std.proofs.KnownBytes.{Appends-nil, Appends-trans}
use Rattle.ov_scenario.specs.declared.lines_to_run.LineToRun.{LineToRun}
use Rattle.ov_scenario.specs.declared.scenario.Line.{Line}
use Rattle.ov_scenario.specs.RunLines.{drivers_for}
use Rattle.ov_run.proofs.Blocks.Drivers.{drivers_more}
use Rattle.ov_run_meaning.specs.Strict.{RefusesLine}
use Rattle.ov_run.specs.Code.Outcomes.{WritesRest, rest_of}
use Rattle.ov_run_meaning.specs.declared.run_fault.RunFault.TheVariants.{OutOfMemory, Write}
use Rattle.ov_run_meaning.proofs.Writing.Prefixes.{all_went, none_went, prefix_went}
use Rattle.ov_run.proofs.Printing.Ending.{begun_so_too, followed, nothing, whole}
use Rattle.ov_run.proofs.Printing.HandedOn.{stopped_at, stopped_by}
use Rattle.ov_run.proofs.Printing.Running.{AcceptedSoFar, SoFar, accepted_begun, accepted_ended, accepted_more}
use Rattle.ov_run.proofs.Printing.Running.{begun, more, ended, unread}
use Rattle.ov_run.proofs.Printing.Settling.{came_refused, ended_at, goes_on, said, went_on}
use Rattle.ov_run.proofs.line_running.run_each.Goals as goal

pub loop-recent-init : goal.loop-recent-init
loop-recent-init g c = record {
  printed = ([], begun _ _ _, Appends-nil _, λ strict. accepted_begun _ _ _);
  drivers = c.requires.drivers;
  faults = refl;
}

-- the next line is the first of those that were left
abbrev step_of : (items items' : List Line) (next : Option LineToRun) → Type 0
step_of items items' next = MatchOption next (items ≡ []) (λ l. items ≡ l.line ∷ items')

abbrev asked_of : (asked asked' : List (ℕ × List ℕ)) (next : Option LineToRun) → Type 0
asked_of asked asked' next = MatchOption next (asked ≡ []) (λ l. asked ≡ (l.number, l.text.now) ∷ asked')

pub run_line-requires-clause-drivers : goal.run_line-requires-clause-drivers
run_line-requires-clause-drivers g c κs within =
    let line = c.in-Some.next.line in
    let lines = c.next_line.new.self.items in
    let step : c.loop-recent.left.items ≡ line ∷ lines =
    subst (step_of c.loop-recent.left.items lines) c.in-Some.is c.in_ok-next.ensures.line in
    (drivers_more g.N.HallName.drivers line lines
    (subst (λ (ls : List Line). drivers_for ls ≤ g.N.HallName.drivers) step c.loop-recent.invariant.drivers)).0

pub loop-recent-preserved : goal.loop-recent-preserved
loop-recent-preserved g c =
    let start = c.args.hall in
    let all = c.args.lines.items in
    let all_asked = c.args.lines.file_lines in
    let now = c.loop-recent.hall in
    let next = c.in_ok-came.after in
    let came = c.in_ok-came.came in
    let line = c.in-Some.next.line in
    let lines = c.next_line.new.self.items in
    let own_asked : ℕ × List ℕ = (c.in-Some.next.number, c.in-Some.next.text.now) in
    let asked = c.next_line.new.self.file_lines in
    let printed = c.loop-recent.invariant.printed in
    let text = printed.0 in
    let number = c.ran_line-ran.result.number in
    let stop = c.in_ok-stop.ensures in
    let none = c.in_default-stop.is in
    let own = said now next number _ _ line came c.in_ok-came.ensures.ran.came in
    let rest = subst (WritesRest _ _ came) none stop.bytes in
    let step : c.loop-recent.left.items ≡ line ∷ lines =
    subst (step_of c.loop-recent.left.items lines) c.in-Some.is c.in_ok-next.ensures.line in
    let asks : c.loop-recent.left.file_lines ≡ own_asked ∷ asked =
    subst (asked_of c.loop-recent.left.file_lines asked) c.in-Some.is c.in_ok-next.ensures.file_line in
    let so_far = subst (λ (ls : List Line). SoFar c.args.strictness start all now ls text) step printed.1 in
    let ran = c.in_ok-came.ensures.ran.faults in
    let wrote = stop.faults in
    let before = c.loop-recent.invariant.faults in
    record {
      printed = (
        text ++ (own.own ++ rest_of came),
        more c.args.strictness start all now next line lines text (own.own ++ rest_of came) so_far
            (goes_on c.args.strictness now line next number came _ own.prints own.accepts (sym stop.stop ∙ none)),
        Appends-trans _ _ _ _ _ printed.2 (Appends-trans _ _ _ _ _ own.went rest),
        λ strict. accepted_more start all all_asked now next line lines own_asked asked text (own.own ++ rest_of came)
            (subst (λ (ls : List Line). AcceptedSoFar start all all_asked now ls (own_asked ∷ asked) text) step
            (subst (λ (ns : List (ℕ × List ℕ)). AcceptedSoFar start all all_asked now c.loop-recent.left.items ns text)
            asks (printed.3 strict)))
            (own.accepts (went_on c.args.strictness number came (sym stop.stop ∙ none) strict)),
      );
      drivers = (drivers_more g.N.HallName.drivers line lines
          (subst (λ (ls : List Line). drivers_for ls ≤ g.N.HallName.drivers) step c.loop-recent.invariant.drivers)).1;
      faults = omega (arith, ran, wrote, before);
    }

pub returns : goal.returns
returns g c =
    let start = c.args.hall in
    let all = c.args.lines.items in
    let all_asked = c.args.lines.file_lines in
    let now = c.loop-recent.hall in
    let printed = c.loop-recent.invariant.printed in
    let before = c.loop-recent.invariant.faults in
    let empty : c.loop-recent.left.items ≡ [] =
    subst (step_of c.loop-recent.left.items c.next_line.new.self.items) c.in_default.is c.in_ok-next.ensures.line in
    let so_far = subst (λ (ls : List Line). SoFar c.args.strictness start all now ls printed.0) empty printed.1 in
    let prints = ended c.args.strictness start all now printed.0 so_far in
    record {
      ran = record {
        prints = (now, (printed.0, prints, printed.2));
        accepts = λ strict. (
          now,
          (
            printed.0,
            accepted_ended start all all_asked now c.loop-recent.left.file_lines printed.0
                (subst (λ (ls : List Line). AcceptedSoFar start all all_asked now ls
                c.loop-recent.left.file_lines printed.0)
                empty (printed.3 strict)),
            printed.2,
          ),
        );
        begun = (printed.0 ++ [], so_far.prefix [] refl, prefix_went _ _ _ printed.0 [] printed.2 (none_went _ []));
        memory = λ e. absurd cc;
        stops = λ n refusal e. absurd cc;
        faults = omega (arith, before);
        kind = tt;
      };
    }

pub returns-in_err-next : goal.returns-in_err-next
returns-in_err-next g c =
    let start = c.args.hall in
    let all = c.args.lines.items in
    let now = c.loop-recent.hall in
    let left = c.loop-recent.left.items in
    let printed = c.loop-recent.invariant.printed in
    let before = c.loop-recent.invariant.faults in
    record {
      ran =
          stopped_by c.args.strictness g.W.Write.contents start all c.args.lines.file_lines c.args.sink.now
          c.loop-recent.sink c.from_residual.result OutOfMemory c.from_residual.ensures.1 (
            printed.0 ++ [],
            printed.1.prefix [] (nothing c.args.strictness now left),
            prefix_went _ _ _ printed.0 [] printed.2 (none_went _ []),
          ) (inr refl) (omega (arith, before)) (λ is. (
            printed.0 ++ [],
            printed.1.ends [] (unread c.args.strictness now left c.in_err-next.ensures.memory),
            Appends-trans _ _ _ _ _ printed.2 (Appends-nil _),
          ));
    }

pub returns-in_err-came : goal.returns-in_err-came
returns-in_err-came g c =
    let start = c.args.hall in
    let all = c.args.lines.items in
    let now = c.loop-recent.hall in
    let line = c.in-Some.next.line in
    let lines = c.next_line.new.self.items in
    let printed = c.loop-recent.invariant.printed in
    let before = c.loop-recent.invariant.faults in
    let own = c.in_err-came.ensures.ran in
    let counted = own.faults in
    let failed = c.from_residual-in_err-came in
    let step : c.loop-recent.left.items ≡ line ∷ lines =
    subst (step_of c.loop-recent.left.items lines) c.in-Some.is c.in_ok-next.ensures.line in
    let so_far = subst (λ (ls : List Line). SoFar c.args.strictness start all now ls printed.0) step printed.1 in
    record {
      ran =
          stopped_by c.args.strictness g.W.Write.contents start all c.args.lines.file_lines c.args.sink.now
          c.run_line.new.sink failed.result c.in_err-came.field-0.0 failed.ensures.1 (
            printed.0 ++ own.begun.0,
            so_far.prefix own.begun.0 (followed c.args.strictness now line lines own.begun.0
                (begun_so_too c.args.strictness now line own.begun.0 own.begun.1)),
            prefix_went _ _ _ printed.0 own.begun.0 printed.2 own.begun.2,
          ) own.kind (omega (arith, before, counted)) (λ is. let ends = own.memory (ap Err is) in (
            printed.0 ++ ends.0,
            so_far.ends ends.0 (inr (inl ends.1)),
            Appends-trans _ _ _ _ _ printed.2 ends.2,
          ));
    }

pub returns-in_err-stop : goal.returns-in_err-stop
returns-in_err-stop g c =
    let start = c.args.hall in
    let all = c.args.lines.items in
    let now = c.loop-recent.hall in
    let next = c.in_ok-came.after in
    let came = c.in_ok-came.came in
    let line = c.in-Some.next.line in
    let lines = c.next_line.new.self.items in
    let printed = c.loop-recent.invariant.printed in
    let before = c.loop-recent.invariant.faults in
    let ran = c.in_ok-came.ensures.ran.faults in
    let counted = c.in_err-stop.ensures.faults in
    let failed = c.from_residual-in_err-stop in
    let own = said now next c.ran_line-ran.result.number _ _ line came c.in_ok-came.ensures.ran.came in
    let step : c.loop-recent.left.items ≡ line ∷ lines =
    subst (step_of c.loop-recent.left.items lines) c.in-Some.is c.in_ok-next.ensures.line in
    let so_far = subst (λ (ls : List Line). SoFar c.args.strictness start all now ls printed.0) step printed.1 in
    let text = own.own ++ rest_of came in
    record {
      ran =
          stopped_by c.args.strictness g.W.Write.contents start all c.args.lines.file_lines c.args.sink.now
          c.settle.new.sink failed.result Write failed.ensures.1 (
            printed.0 ++ text,
            so_far.prefix text (followed c.args.strictness now line lines text
                (whole c.args.strictness now line next text (goes_on c.args.strictness now line next
                c.ran_line-ran.result.number came text own.prints own.accepts c.in_err-stop.ensures.goes_on))),
            prefix_went _ _ _ printed.0 text printed.2
                (prefix_went _ _ _ own.own (rest_of came) own.went c.in_err-stop.ensures.prefix),
          ) (inl refl) (omega (arith, before, ran, counted)) (λ is. absurd cc);
    }

pub returns-in-Some-stop : goal.returns-in-Some-stop
returns-in-Some-stop g c =
    let start = c.args.hall in
    let all = c.args.lines.items in
    let all_asked = c.args.lines.file_lines in
    let now = c.loop-recent.hall in
    let next = c.in_ok-came.after in
    let came = c.in_ok-came.came in
    let line = c.in-Some.next.line in
    let lines = c.next_line.new.self.items in
    let own_asked : ℕ × List ℕ = (c.in-Some.next.number, c.in-Some.next.text.now) in
    let asked = c.next_line.new.self.file_lines in
    let printed = c.loop-recent.invariant.printed in
    let text = printed.0 in
    let before = c.loop-recent.invariant.faults in
    let ran = c.in_ok-came.ensures.ran.faults in
    let number = c.ran_line-ran.result.number in
    let stop = c.in_ok-stop.ensures in
    let wrote = stop.faults in
    let n = c.in-Some-stop.line in
    let refusal = c.in-Some-stop.refusal in
    let at = ended_at c.args.strictness number n came refusal (sym stop.stop ∙ c.in-Some-stop.is) in
    let refuses = came_refused now next _ _ line number n refusal came c.in_ok-came.ensures.ran.came at.1 in
    let here = subst (λ m. RefusesLine now line m n refusal) c.ran_line-ran.ensures.number refuses.0 in
    let rest = subst (WritesRest _ _ came) c.in-Some-stop.is stop.bytes in
    let went = Appends-trans _ _ _ _ _ printed.2 (Appends-trans _ _ _ _ _ refuses.1 rest) in
    let step : c.loop-recent.left.items ≡ line ∷ lines =
    subst (step_of c.loop-recent.left.items lines) c.in-Some.is c.in_ok-next.ensures.line in
    let asks : c.loop-recent.left.file_lines ≡ own_asked ∷ asked =
    subst (asked_of c.loop-recent.left.file_lines asked) c.in-Some.is c.in_ok-next.ensures.file_line in
    let so_far = subst (λ (ls : List Line). SoFar c.args.strictness start all now ls text) step printed.1 in
    let accepted = subst (λ (ls : List Line). AcceptedSoFar start all all_asked now ls (own_asked ∷ asked) text) step
    (subst (λ (ns : List (ℕ × List ℕ)). AcceptedSoFar start all all_asked now c.loop-recent.left.items ns text) asks
    (printed.3 at.0)) in
    record {
      ran =
          stopped_at c.args.strictness g.W.Write.contents start all all_asked c.args.sink.now c.settle.new.sink
          n refusal
          at.0 (text ++ [], accepted.stops n refusal [] (inl (here, refl)), went)
          (text ++ [], so_far.prefix [] (nothing c.args.strictness now (line ∷ lines)), all_went _ _ (text ++ []) went)
          (omega (arith, before, ran, wrote));
    }
