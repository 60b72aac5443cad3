-- What `overlay grow` prints.
use Rattle.std.specs.Prelude.{◌≡◌, ℕ, List, [], ◌∷◌, ◌++◌, Option, Result, Ok, Err, codes, decimal}
use Rattle.std.specs.Io.KnownBytes.{Appends}
use Rattle.ov_grow_options.specs.declared.options.GrowOptions.{GrowOptions}
use Rattle.ov_grow.specs.Growing.{Grows, IsGrowRefusal}
use Rattle.ov_grow.specs.declared.phase_moment_and_deliveries.PhaseEnd.{PhaseEnd}
use Rattle.ov_io.specs.Device.{AppendsPrefixOf}
use Rattle.ov_grow.specs.Replay.{Replays}
use Rattle.ov_snap.specs.CoreState.{CoreState}
use Rattle.ov_grow_commands.specs.declared.grow_command_fault.GrowCommandFault.{GrowCommandFault}
use Rattle.ov_grow_commands.specs.declared.grow_command_fault.GrowCommandFault.TheVariants as growth

-- with these options an overlay is grown by the scenario of this text, which replays its core
pub record IsGrownBy (o : GrowOptions) (text : List ℕ) : Type 0 where
  pub core : CoreState
  pub settled : PhaseEnd
  pub crashed : PhaseEnd
  pub healed : PhaseEnd
  pub grows : Grows o text core.world settled crashed healed
  pub replays : Replays text core

-- the lines by which a scenario asks for the certificates of the reports of three moments
abbrev pub certificate_lines : ℕ → ℕ → ℕ → List ℕ
certificate_lines settled crashed healed =
    codes "certificate " ++ (decimal settled ++ (codes "\ncertificate " ++ (decimal crashed ++ (codes "\ncertificate "
    ++ (decimal healed ++ codes "\n")))))

-- what a writer took: all of such a text, and the moments at the end of the phases are known; a prefix of it, if
-- writing failed; and nothing, if growing was refused for this reason
abbrev pub WasPrinted :
    {W : Type 0} → GrowOptions → (W → Option (List ℕ)) → W → W → Result (List ℕ) GrowCommandFault → Type 0
WasPrinted o contents old new (Ok moments) =
    (text : List ℕ) × (grown : IsGrownBy o text) × Appends (contents old) (contents new) text
    × (moments ≡ grown.settled.moment ∷ grown.crashed.moment ∷ grown.healed.moment ∷ [])
WasPrinted o contents old new (Err growth.Write) =
    (text : List ℕ) × IsGrownBy o text × AppendsPrefixOf text (contents old) (contents new)
WasPrinted o contents old new (Err (growth.Growing fault)) = IsGrowRefusal o fault × (new ≡ old)
WasPrinted o contents old new (Err other) = ⊥
