-- What `overlay analyse` prints with `--names` or `--explain`, and where lists name nodes: those of a group, and those
-- that are gone.
use Rattle.std.specs.Prelude.{◌≡◌, ◌≢◌, ◌⊎◌, ℕ, Bool, true, false, List, [], ◌∷◌, drop, flat_map, length, option_map}
use Rattle.std.specs.Prelude.{replicate, unwrap_or, Option, Some, None, Result, Ok, Err}
use Rattle.ov_graph.specs.Links.{LinkGraph}
use Rattle.ov_graph.specs.declared.size_limit.SizeLimit.{SizeLimit}
use Rattle.ov_graphfile.specs.GraphFiles.{IsGraphFile, IsGraphFileFault}
use Rattle.ov_graphfile.specs.declared.fault.GraphFileFault.{GraphFileFault}
use Rattle.ov_graphfile.specs.declared.fault.GraphFileFault.TheVariants as graph_file
use Rattle.ov_graphfile.specs.NamesState.{NamesState, names_of}
use Rattle.ov_graphfile.specs.NameLines.{AreNamesOf}
use Rattle.ov_graphfile.specs.Groups.{IsGroupNamed, IsGroupFault, parts_of}
use Rattle.ov_graphfile.specs.declared.group_names_fault.GroupFault.{GroupFault}
use Rattle.ov_ids.specs.Sets.{without_all}
use Rattle.ov_io.specs.Device.{SinkState}
use Rattle.ov_lines.specs.Lines.{kept_lines}
use Rattle.ov_answers.specs.Analysing.{IsAnalysisOf}
use Rattle.ov_answers.specs.Telling.{IsToldOf}
use Rattle.ov_answers.specs.declared.request.ToldAnalysis.{ToldAnalysis}
use Rattle.ov_arguments.specs.declared.arguments.AnalysisRequest.{AnalysisRequest}
use Rattle.ov_run_meaning.specs.declared.run_fault.RunFault.TheVariants as run
use Rattle.ov_commands.specs.Sizes.{limit_of}
use Rattle.ov_commands.specs.Statuses.{HasAnalysed, alarm_status}
use Rattle.ov_commands.specs.declared.command_fault.CommandFault.{CommandFault}
use Rattle.ov_commands.specs.declared.command_fault.CommandFault.TheVariants.{Group, Run}
use Rattle.ov_commands.specs.declared.node_list_texts.NodeLists.{NodeLists}

-- ---- lists of nodes

-- the text of a list that is in a file: its lines that are not skipped, with a comma between two
abbrev pub list_text : List ℕ → List ℕ
list_text bytes = drop 1 (flat_map (λ line. 44 ∷ line.1) (kept_lines bytes))

-- the argument names the file of a list: a path stands behind `@`
abbrev pub NamesFile : List ℕ → Type 0
NamesFile argument = (path : List ℕ) × (argument ≡ 64 ∷ path)

-- an argument is given, and it names the file of a list
abbrev pub NamesFileGiven : Option (List ℕ) → Type 0
NamesFileGiven None = ⊥
NamesFileGiven (Some argument) = NamesFile argument

-- the text of the list that an argument gives: the argument itself, or the list in the bytes of the file that it names
abbrev pub IsListText : List ℕ → List ℕ → Type 0
IsListText argument text =
    ((¬ NamesFile argument) × (text ≡ argument))
    ⊎ (NamesFile argument × ((bytes : List ℕ) × (text ≡ list_text bytes)))

-- the text of a list, if an argument gives one
abbrev pub IsListGiven : Option (List ℕ) → Option (List ℕ) → Type 0
IsListGiven None text = text ≡ None
IsListGiven (Some argument) None = ⊥
IsListGiven (Some argument) (Some text) = IsListText argument text

-- the same of the nodes that are gone, of which a file may have none
abbrev pub IsGoneGiven : Option (List ℕ) → Option (List ℕ) → Type 0
IsGoneGiven None text = text ≡ None
IsGoneGiven (Some argument) None = NamesFile argument × IsListText argument []
IsGoneGiven (Some argument) (Some text) = IsListText argument text × (NamesFile argument → text ≢ [])

-- what is asked of an analysis, besides its graph file: the ids of the group, or the text of the list that names it;
-- the text of the list of the nodes that are gone; whether the certificate file and the lines with names are asked for;
-- the least number k; and how many nodes the graph may have
pub record AnalysisAsked : Type 0 where
  pub ids : Option (List ℕ)
  pub group : Option (List ℕ)
  pub gone : Option (List ℕ)
  pub certificate : Bool
  pub named : Bool
  pub least : Option ℕ
  pub limit : SizeLimit

-- what these arguments and these lists ask for
abbrev pub asked_of : AnalysisRequest → NodeLists → AnalysisAsked
asked_of analysis lists = record {
  ids = option_map (λ ids. ids.items) analysis.group;
  group = option_map (λ text. text.items) lists.group;
  gone = option_map (λ text. text.items) lists.gone;
  certificate = analysis.certificate;
  named = analysis.names;
  least = analysis.at_least;
  limit = limit_of analysis.large;
}

-- these are the names that the graph file of these bytes keeps of its nodes
abbrev pub KeepsNames : List ℕ → NamesState → Type 0
KeepsNames bytes names = (g : LinkGraph) × IsGraphFile bytes g × AreNamesOf bytes g names

-- the graph, without a name for any node
abbrev pub nameless : LinkGraph → NamesState
nameless g = names_of g (replicate (length g.nodes) None)

-- the names by which lists are read: those that the graph file of these bytes keeps, if names are asked for. Otherwise
-- there are none, and each part of a list is an id
abbrev pub AreListNames : List ℕ → Bool → NamesState → Type 0
AreListNames bytes true names = KeepsNames bytes names
AreListNames bytes false names = (g : LinkGraph) × IsGraphFile bytes g × (names ≡ nameless g)

-- the bytes are no graph file of at most so many nodes
abbrev pub IsNoGraphFile : SizeLimit → List ℕ → Type 0
IsNoGraphFile limit bytes =
    (fault : GraphFileFault) × (fault ≢ graph_file.OutOfMemory) × IsGraphFileFault limit bytes fault

-- the nodes that a list names, by its text: none without a list, and none in bytes that are no graph file of at most so
-- many nodes
abbrev pub AreListed : SizeLimit → List ℕ → Bool → Option (List ℕ) → Option (List ℕ) → Type 0
AreListed limit bytes named None listed = listed ≡ None
AreListed limit bytes named (Some text) None = IsNoGraphFile limit bytes
AreListed limit bytes named (Some text) (Some nodes) =
    (names : NamesState) × AreListNames bytes named names × IsGroupNamed names (parts_of text) nodes

-- a list names no nodes for this reason
abbrev pub NamesNobody : List ℕ → Bool → Option (List ℕ) → GroupFault → Type 0
NamesNobody bytes named None fault = ⊥
NamesNobody bytes named (Some text) fault =
    (names : NamesState) × AreListNames bytes named names × IsGroupFault names (parts_of text) fault

-- the nodes that are gone, of the graph file of these bytes: those of the list, if there is one
abbrev pub AreGone : List ℕ → AnalysisAsked → List ℕ → Type 0
AreGone bytes asked nodes =
    (listed : Option (List ℕ)) × AreListed asked.limit bytes asked.named asked.gone listed
    × (nodes ≡ unwrap_or listed [])

-- the group that is named, or else that of these ids
abbrev pub picked : Option (List ℕ) → Option (List ℕ) → Option (List ℕ)
picked (Some members) ids = Some members
picked None ids = ids

-- the group: the members that are asked for, without the nodes that are gone. None is asked for if all nodes that are
-- left are the group
abbrev pub IsGroupLeft : List ℕ → AnalysisAsked → List ℕ → Option (List ℕ) → Type 0
IsGroupLeft bytes asked gone group =
    (listed : Option (List ℕ)) × AreListed asked.limit bytes asked.named asked.group listed
    × (group ≡ option_map (without_all gone) (picked listed asked.ids))

-- ---- what comes of it

-- What came of an analysis of the graph file of these bytes, from a sink before it to what it is after it: it is told
-- of the graph without the nodes that are gone and of the group, by `IsToldOf`, and the status is that of the alarm; or
-- nothing is written, since a list is refused or memory ran out.
abbrev pub WasTold : {W : Type 0} → List ℕ → AnalysisAsked → (W → Option (List ℕ)) → SinkState W → SinkState W
    → Result ℕ CommandFault → Type 0
WasTold bytes asked contents old new (Ok status) =
    (gone : List ℕ) × (group : Option (List ℕ)) × (told : ToldAnalysis) × AreGone bytes asked gone
    × IsGroupLeft bytes asked gone group
    × IsToldOf asked.limit bytes contents old gone group asked.certificate asked.named new (Ok told)
    × (status ≡ alarm_status asked.least told.answered)
WasTold bytes asked contents old new (Err (Run fault)) =
    ((gone : List ℕ) × (group : Option (List ℕ)) × AreGone bytes asked gone × IsGroupLeft bytes asked gone group
    × IsToldOf asked.limit bytes contents old gone group asked.certificate asked.named new (Err fault))
    ⊎ ((fault ≡ run.OutOfMemory) × (new ≡ old))
WasTold bytes asked contents old new (Err (Group fault)) =
    (NamesNobody bytes asked.named asked.gone fault ⊎ NamesNobody bytes asked.named asked.group fault) × (new ≡ old)
WasTold bytes asked contents old new (Err other) = ⊥

-- what came of an analysis of the graph file of these bytes that prints no lines with names, and for which no list is
-- given: it is printed, and the status is that of the alarm
abbrev pub WasPrintedAlone : {W : Type 0} → List ℕ → AnalysisAsked → (W → Option (List ℕ)) → SinkState W → SinkState W
    → Result ℕ CommandFault → Type 0
WasPrintedAlone bytes asked contents old new result =
    (asked.gone ≡ None) × (asked.group ≡ None) × (asked.named ≡ false)
    × HasAnalysed asked.least
    (IsAnalysisOf asked.limit (Some bytes) contents old asked.ids asked.certificate new) result

-- what came of an analysis of the graph file of these bytes
abbrev pub WasAnalysed : {W : Type 0} → List ℕ → AnalysisAsked → (W → Option (List ℕ)) → SinkState W → SinkState W
    → Result ℕ CommandFault → Type 0
WasAnalysed bytes asked contents old new result =
    WasTold bytes asked contents old new result ⊎ WasPrintedAlone bytes asked contents old new result
