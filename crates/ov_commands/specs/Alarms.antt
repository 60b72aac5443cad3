-- With which status `overlay analyse` ends if it has no fault, by what its arguments ask for.
use Rattle.std.specs.Prelude.{◌≡◌, ℕ, ◌≤◌, List, length, Option, IfSome, option_map, string_bytes}
use Rattle.ov_graph.specs.Links.{LinkGraph, HasNode, IsGroup, most_of}
use Rattle.ov_graphfile.specs.GraphFiles.{IsGraphFile}
use Rattle.ov_cert.specs.Valid.{IsValidForGroup, k_of}
use Rattle.ov_cert.specs.declared.cert.Cert.{Cert}
use Rattle.ov_even.specs.Answer.{IsAnswer}
use Rattle.ov_run_meaning.specs.Subjects.{members_of}
use Rattle.ov_answers.specs.Fewer.{LosesNodes}
use Rattle.ov_answers.specs.declared.report_or_refusal.ReportOrRefusal.{ReportOrRefusal}
use Rattle.ov_answers.specs.declared.report_or_refusal.ReportOrRefusal.TheVariants.{Report, NoNodes, BadGroup}
use Rattle.ov_arguments.specs.declared.arguments.AnalysisRequest.{AnalysisRequest}
use Rattle.ov_commands.specs.Naming.{AnalysisAsked, AreGone, IsGoneGiven, IsGroupLeft, IsListGiven}
use Rattle.ov_commands.specs.Sizes.{limit_of}
use Rattle.ov_commands.specs.Statuses.{alarm_status}

-- these arguments ask for this. The text of a list is the argument itself, or that in the file that it names
pub record IsAskedBy (analysis : AnalysisRequest) (asked : AnalysisAsked) : Type 0 where
  pub ids : asked.ids ≡ option_map (λ ids. ids.items) analysis.group
  pub group : IsListGiven (option_map (λ text. string_bytes text) analysis.group_list) asked.group
  pub gone : IsGoneGiven (option_map (λ text. string_bytes text) analysis.gone) asked.gone
  pub certificate : asked.certificate ≡ analysis.certificate
  pub named : asked.named ≡ analysis.names
  pub least : asked.least ≡ analysis.at_least
  pub limit : asked.limit ≡ limit_of analysis.large

-- what an analysis answers of a graph and a group: the number k of a certificate that is valid for them; or there is no
-- answer, since the graph has no node, or since the ids are no group of its nodes
abbrev pub IsAnswered : LinkGraph → List ℕ → ReportOrRefusal → Type 0
IsAnswered g q (Report k) = (c : Cert) × IsAnswer g q c × IsValidForGroup g q c × (k ≡ k_of c)
IsAnswered g q NoNodes = ¬ HasNode g
IsAnswered g q BadGroup = HasNode g × (¬ IsGroup g q)

-- this is answered of the graph file of these bytes, as is asked: of its graph, which has at most as many nodes as may
-- be, without the nodes that are gone, and of the members of the group that are left
pub record IsAnsweredOf (bytes : List ℕ) (asked : AnalysisAsked) (answered : ReportOrRefusal) : Type 0 where
  pub graph : LinkGraph
  pub says : IsGraphFile bytes graph
  pub within : length graph.nodes ≤ most_of asked.limit
  pub gone : List ℕ
  pub without : AreGone bytes asked gone
  pub left : LinkGraph
  pub loses : LosesNodes graph gone left
  pub group : Option (List ℕ)
  pub members : IsGroupLeft bytes asked gone group
  pub answers : IsAnswered left (members_of group left) answered

-- the status of what is answered of the graph file of these bytes
abbrev pub IsStatusFor : List ℕ → AnalysisAsked → ℕ → Type 0
IsStatusFor bytes asked status =
    (answered : ReportOrRefusal) × IsAnsweredOf bytes asked answered × (status ≡ alarm_status asked.least answered)

-- the status of what is answered of the graph file of a reader that had these bytes, if they are known
abbrev pub IsStatusOfReader : Option (List ℕ) → AnalysisAsked → ℕ → Type 0
IsStatusOfReader reader asked status =
    (bytes : List ℕ) × IfSome reader (λ xs. bytes ≡ xs) × IsStatusFor bytes asked status

-- the status of what these arguments ask for, of the graph file of such a reader. The bytes of the files of lists are
-- known to no contract
abbrev pub IsStatusAsked : Option (List ℕ) → AnalysisRequest → ℕ → Type 0
IsStatusAsked reader analysis status =
    (asked : AnalysisAsked) × IsAskedBy analysis asked × IsStatusOfReader reader asked status
