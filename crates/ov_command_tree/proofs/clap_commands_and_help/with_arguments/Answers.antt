-- One option more.
use Rattle.std.proofs.Common.{◌∙◌, ◌+◌, refl, sym, ap, drop}
use Rattle.std.proofs.lemmas.List.{at_drop_all}
use Rattle.clap.specs.Words.{app_of}
use Rattle.ov_command_tree.specs.Code.Options.{with_options}
use Rattle.ov_command_tree.proofs.Adding.{one_option_more, with_one_more}
use Rattle.ov_command_tree.proofs.clap_commands_and_help.with_arguments.Goals as goal

pub loop-row-init : goal.loop-row-init
loop-row-init c =
    ap (λ app. with_options app c.args.options.now)
    (with_one_more _ _ _ _ _ c.in_ok-command.ensures c.file_argument.ensures.local c.named.ensures
    c.file_argument.ensures.rule)

pub loop-row-preserved : goal.loop-row-preserved
loop-row-preserved c =
    let more = with_one_more _ _ _ _ _ c.in_ok-command-2.ensures c.argument.ensures.local refl c.argument.ensures.rule
    in ap (λ app. with_options app (drop (c.loop-row.row-index + 1) c.args.options.now)) more
    ∙ one_option_more _ c.args.options.now c.loop-row.row-index _ c.loop-row-test.true ∙ c.loop-row.invariant

pub returns : goal.returns
unfolding with_options
returns c =
    sym (at_drop_all (with_options (app_of c.loop-row.command)) c.args.options.now c.loop-row.row-index
    c.loop-row-test.false)
    ∙ c.loop-row.invariant
