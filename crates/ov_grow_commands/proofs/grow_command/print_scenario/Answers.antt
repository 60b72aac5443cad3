-- What was written is the text of what was grown.
use Rattle.std.proofs.Common.{◌∙◌, ℕ, List, inl, inr, refl, sym, subst}
use Rattle.std.specs.Prelude.{Err}
use Rattle.std.specs.Io.KnownBytes.{Appends}
use Rattle.ov_io.specs.Device.{AppendsPrefixOf}
use Rattle.ov_grow_options.specs.declared.options.GrowOptions.{GrowOptions}
use Rattle.ov_grow.specs.Growing.{Grows}
use Rattle.ov_grow.specs.declared.phase_moment_and_deliveries.PhaseEnd.{PhaseEnd}
use Rattle.ov_grow.specs.Replay.{Replays}
use Rattle.ov_snap.specs.CoreState.{CoreState}
use Rattle.ov_grow_commands.specs.Growing.{IsGrownBy, WasPrinted}
use Rattle.ov_grow_commands.specs.declared.grow_command_fault.GrowCommandFault.{GrowCommandFault}
use Rattle.ov_grow_commands.proofs.grow_command.print_scenario.Goals as goal

-- what was grown is grown by its text
is_grown : (o : GrowOptions) (text : List ℕ) (core : CoreState) (settled crashed healed : PhaseEnd)
    → Grows o text core.world settled crashed healed → Replays text core → IsGrownBy o text
is_grown o text core settled crashed healed grows replays = record {
  core = core;
  settled = settled;
  crashed = crashed;
  healed = healed;
  grows = grows;
  replays = replays;
}

pub returns-in-Ok-write_all-clause-printed : goal.returns-in-Ok-write_all-clause-printed
unfolding is_grown
returns-in-Ok-write_all-clause-printed g c =
    let grown = c.in-Ok.grown in (
      grown.script.text,
      is_grown c.args.options.now grown.script.text grown.core grown.settled grown.crashed grown.healed
          c.in-Ok.ensures.grows c.in-Ok.ensures.replays,
      subst (λ (text : List ℕ). Appends (g.W.Write.contents c.args.sink.now.writer) (g.W.Write.contents
          c.write_all.new.self.writer) text) (c.deref.ensures.value ∙ c.in-Ok-text.ensures.value)
          c.in-Ok-write_all.ensures.bytes,
      refl,
    )

pub returns-in-Ok-text-clause-printed : goal.returns-in-Ok-text-clause-printed
returns-in-Ok-text-clause-printed g c =
    let grown = c.in-Ok.grown in
    subst (λ (fault : GrowCommandFault). WasPrinted c.args.options.now g.W.Write.contents c.args.sink.now.writer
    c.write_all.new.self.writer (Err fault)) (sym c.told.ensures) (
      grown.script.text,
      is_grown c.args.options.now grown.script.text grown.core grown.settled grown.crashed grown.healed
          c.in-Ok.ensures.grows c.in-Ok.ensures.replays,
      subst (λ (text : List ℕ). AppendsPrefixOf text (g.W.Write.contents c.args.sink.now.writer) (g.W.Write.contents
          c.write_all.new.self.writer)) (c.deref.ensures.value ∙ c.in-Ok-text.ensures.value)
          c.write_all.ensures.prefix,
    )

-- memory ran out as the text was written
pub returns-in-Ok-clause-printed : goal.returns-in-Ok-clause-printed
returns-in-Ok-clause-printed g c =
    subst (λ (fault : GrowCommandFault). WasPrinted c.args.options.now g.W.Write.contents c.args.sink.now.writer
    c.args.sink.now.writer (Err fault)) (sym c.not_grown.ensures)
    (record { full = inr (inr refl); reason = inl refl }, refl)
