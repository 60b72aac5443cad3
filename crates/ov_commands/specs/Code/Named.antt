-- Why lists name no nodes.
use Rattle.std.specs.Prelude.{◌≡◌, ◌⊎◌, ℕ, Bool, List, Option, Some, None, Result, Ok, Err}
use Rattle.ov_graphfile.specs.Groups.{IsGroupNamed, IsGroupFault, parts_of}
use Rattle.ov_graph.specs.declared.size_limit.SizeLimit.{SizeLimit}
use Rattle.ov_graphfile.specs.NamesState.{NamesState}
use Rattle.ov_run_meaning.specs.declared.run_fault.RunFault.TheVariants as run
use Rattle.ov_io.specs.Device.{SinkState}
use Rattle.ov_answers.specs.Telling.{IsToldOf}
use Rattle.ov_answers.specs.declared.request.ToldAnalysis.{ToldAnalysis}
use Rattle.ov_commands.specs.Naming.{NamesNobody}
use Rattle.ov_commands.specs.Statuses.{alarm_status}
use Rattle.ov_commands.specs.declared.command_fault.CommandFault.{CommandFault}
use Rattle.ov_commands.specs.declared.command_fault.CommandFault.TheVariants.{Group, Run}

-- these nodes are named by these names, if there is a list
abbrev pub AreNamed : NamesState → Option (List ℕ) → Option (List ℕ) → Type 0
AreNamed names None listed = listed ≡ None
AreNamed names (Some text) None = ⊥
AreNamed names (Some text) (Some nodes) = IsGroupNamed names (parts_of text) nodes

-- no nodes are found by these names: the list names none, or memory ran out
abbrev pub IsNotNamedBy : NamesState → Option (List ℕ) → CommandFault → Type 0
IsNotNamedBy names text (Run fault) = fault ≡ run.OutOfMemory
IsNotNamedBy names None (Group fault) = ⊥
IsNotNamedBy names (Some text) (Group fault) = IsGroupFault names (parts_of text) fault
IsNotNamedBy names text other = ⊥

-- nodes are not found: one of these two lists names none, or memory ran out
abbrev pub IsNotFound : List ℕ → Bool → Option (List ℕ) → Option (List ℕ) → CommandFault → Type 0
IsNotFound bytes named those these (Run fault) = fault ≡ run.OutOfMemory
IsNotFound bytes named those these (Group fault) =
    NamesNobody bytes named those fault ⊎ NamesNobody bytes named these fault
IsNotFound bytes named those these other = ⊥

-- what came of an analysis without these nodes and of this group, and the status of the alarm
abbrev pub WasAnswered : {W : Type 0} → SizeLimit → List ℕ → List ℕ → Option (List ℕ) → Bool → Bool → Option ℕ
    → (W → Option (List ℕ)) → SinkState W → SinkState W → Result ℕ CommandFault → Type 0
WasAnswered limit bytes gone group certificate named least contents old new (Ok status) =
    (told : ToldAnalysis) × IsToldOf limit bytes contents old gone group certificate named new (Ok told)
    × (status ≡ alarm_status least told.answered)
WasAnswered limit bytes gone group certificate named least contents old new (Err (Run fault)) =
    IsToldOf limit bytes contents old gone group certificate named new (Err fault)
WasAnswered limit bytes gone group certificate named least contents old new (Err other) = ⊥
