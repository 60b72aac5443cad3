-- What is asked for is what the arguments give.
use Rattle.std.proofs.Common.{◌≡◌, ◌∙◌, Some, map, string_bytes}
use Rattle.std.proofs.lemmas.Result.{IfOk-weaker}
use Rattle.clap.specs.Words.{app_of, found_of, first_value}
use Rattle.ov_arguments.specs.Arguments.{AreTakenAsCommand, IsAsked, IsAskedByCommand, command_given, text_given}
use Rattle.ov_arguments.specs.declared.arguments.ArgumentsFault.TheVariants.{BadArguments, OutOfMemory}
use Rattle.ov_arguments.proofs.Asked.{asked_given, asked_readable, err_of, fails_for_memory, no_fault_found}
use Rattle.ov_arguments.proofs.Asked.{none_found, none_readable, readable_given, run_given}
use Rattle.ov_arguments.proofs.arguments.read_command.Goals as goal

pub returns-clause-given : goal.returns-clause-given
returns-clause-given c =
    let arguments = map (λ argument. string_bytes argument) c.args.arguments.now in
    let found = found_of c.in-Some.found.now in
    IfOk-weaker c.request_of.result (IsAsked (Some c.in-Some.command.now) (first_value found)) (IsAskedByCommand arguments)
    (asked_given (app_of c.in_ok-command.field-0) arguments c.in_ok-matches.matches found c.in-Some.command.now
    c.in_ok-command.ensures c.in_ok-matches.ensures.matches c.in-Some.ensures.name c.in-Some.ensures.rows)
    c.request_of.ensures.asked

pub returns-clause-taken : goal.returns-clause-taken
returns-clause-taken c taken =
    let arguments = map (λ argument. string_bytes argument) c.args.arguments.now in
    let found = found_of c.in-Some.found.now in
    c.request_of.ensures.readable
    (readable_given (app_of c.in_ok-command.field-0) arguments c.in_ok-matches.matches found c.in-Some.command.now
    c.in_ok-command.ensures c.in_ok-matches.ensures.matches c.in-Some.ensures.name c.in-Some.ensures.rows taken.1)

pub returns-clause-only : goal.returns-clause-only
returns-clause-only c =
    let arguments = map (λ argument. string_bytes argument) c.args.arguments.now in
    let found = found_of c.in-Some.found.now in
    let app = app_of c.in_ok-command.field-0 in
    let no_fault = no_fault_found app arguments c.in_ok-command.ensures c.in_ok-matches.ensures.kinds in
    let given = asked_given app arguments c.in_ok-matches.matches found c.in-Some.command.now c.in_ok-command.ensures
    c.in_ok-matches.ensures.matches c.in-Some.ensures.name c.in-Some.ensures.rows in
    IfOk-weaker c.request_of.result (IsAsked (Some c.in-Some.command.now) (first_value found)) (λ _. AreTakenAsCommand arguments)
    (λ r is. (no_fault, asked_readable (command_given arguments) (text_given arguments) r (given r is)))
    c.request_of.ensures.asked

pub returns-in_err-matches-clause-taken : goal.returns-in_err-matches-clause-taken
returns-in_err-matches-clause-taken c taken bad =
    let arguments = map (λ argument. string_bytes argument) c.args.arguments.now in
    let memory = fails_for_memory (app_of c.in_ok-command.field-0) arguments c.in_err-matches.field-0.0
    c.in_ok-command.ensures taken.0 c.in_err-matches.ensures.kinds in
    let same : BadArguments ≡ OutOfMemory =
    err_of _ c.from_residual-in_err-matches.result BadArguments c.from_residual-in_err-matches.ensures.1 bad ∙ memory in
    absurd cc

pub returns-in-None-clause-given : goal.returns-in-None-clause-given
returns-in-None-clause-given c =
    let arguments = map (λ argument. string_bytes argument) c.args.arguments.now in
    run_given arguments (none_found (app_of c.in_ok-command.field-0) arguments c.in_ok-matches.matches
    c.in_ok-command.ensures c.in_ok-matches.ensures.matches c.in-None.ensures.name)

pub returns-in-None-clause-only : goal.returns-in-None-clause-only
returns-in-None-clause-only c =
    let arguments = map (λ argument. string_bytes argument) c.args.arguments.now in
    let app = app_of c.in_ok-command.field-0 in (
      no_fault_found app arguments c.in_ok-command.ensures c.in_ok-matches.ensures.kinds,
      none_readable arguments (none_found app arguments c.in_ok-matches.matches c.in_ok-command.ensures
          c.in_ok-matches.ensures.matches c.in-None.ensures.name),
    )
