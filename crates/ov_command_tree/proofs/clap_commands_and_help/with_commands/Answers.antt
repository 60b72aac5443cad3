-- One command more.
use Rattle.std.proofs.Common.{◌∙◌, ◌+◌, refl, sym, ap, drop}
use Rattle.std.proofs.lemmas.List.{at_drop_all}
use Rattle.clap.specs.Words.{app_of}
use Rattle.ov_command_tree.specs.Code.Options.{with_commands}
use Rattle.ov_command_tree.proofs.Adding.{file_and_options_plain, one_command_more, with_subcommand_more}
use Rattle.ov_command_tree.proofs.clap_commands_and_help.with_commands.Goals as goal

pub loop-row-init : goal.loop-row-init
loop-row-init c = refl

pub loop-row-preserved : goal.loop-row-preserved
loop-row-preserved c =
    let more = with_subcommand_more _ _ _ _ _ c.in_ok-command.ensures refl c.in_ok-more.ensures
    (file_and_options_plain _ _) in
    ap (λ app. with_commands app (drop (c.loop-row.row-index + 1) c.args.rows.now)) more
    ∙ one_command_more _ c.args.rows.now c.loop-row.row-index _ c.loop-row-test.true ∙ c.loop-row.invariant

pub returns : goal.returns
unfolding with_commands
returns c =
    sym (at_drop_all (with_commands (app_of c.loop-row.command)) c.args.rows.now c.loop-row.row-index
    c.loop-row-test.false)
    ∙ c.loop-row.invariant
