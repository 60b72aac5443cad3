-- The status of an analysis is that of what was answered.
use Rattle.std.proofs.Common.{◌≡◌, ℕ, Bool, List, [], Option, Some, None, Result, Ok, Err, IfOk, IfSome, option_map}
use Rattle.std.proofs.Common.{refl, string_bytes, subst, sym, inl, inr}
use Rattle.ov_graph.specs.Links.{LinkGraph}
use Rattle.ov_graphfile.specs.NamesState.{NamesState}
use Rattle.ov_ids.specs.Sets.{without_all}
use Rattle.ov_io.specs.Device.{SinkState}
use Rattle.ov_answers.specs.Analysing.{IsAnalysis, PrintsAnswer}
use Rattle.ov_answers.specs.Telling.{IsTelling, TellsAnswer}
use Rattle.ov_answers.specs.declared.report_or_refusal.ReportOrRefusal.{ReportOrRefusal}
use Rattle.ov_answers.specs.declared.report_or_refusal.ReportOrRefusal.TheVariants.{Report, NoNodes, BadGroup}
use Rattle.ov_answers.proofs.Fewer.{loses_nobody}
use Rattle.ov_arguments.specs.declared.arguments.AnalysisRequest.{AnalysisRequest}
use Rattle.ov_commands.specs.Alarms.{IsAnswered, IsAnsweredOf, IsAskedBy, IsStatusFor, IsStatusOfReader}
use Rattle.ov_commands.specs.Naming.{AnalysisAsked, AreGone, AreListed, IsGoneGiven, IsGroupLeft, IsListGiven}
use Rattle.ov_commands.specs.Naming.{WasAnalysed, WasPrintedAlone, WasTold, asked_of, picked}
use Rattle.ov_commands.specs.Statuses.{alarm_status}
use Rattle.ov_commands.specs.declared.command_fault.CommandFault.{CommandFault}
use Rattle.ov_commands.specs.declared.node_list_texts.NodeLists.{NodeLists}

-- what was printed is what was answered
printed : (g : LinkGraph) (q : List ℕ) (certificate : Bool) (answered : ReportOrRefusal) (text : List ℕ)
    → PrintsAnswer g q certificate answered text → IsAnswered g q answered
printed g q certificate (Report k) text is = (is.0, is.1, is.2, is.3)
printed g q certificate NoNodes text is = is.0
printed g q certificate BadGroup text is = (is.0, is.1)

-- and so is what was told
told : (g : LinkGraph) (q : List ℕ) (names : NamesState) (certificate named : Bool) (answered : ReportOrRefusal)
    (text : List ℕ) → TellsAnswer g q names certificate named answered text → IsAnswered g q answered
told g q names certificate named (Report k) text is = (is.0, is.2, is.3, is.4)
told g q names certificate named NoNodes text is = is.0
told g q names certificate named BadGroup text is = (is.0, is.1)

-- without lists nobody is gone, and the group is that of the ids
all_left : (ids : Option (List ℕ)) → ids ≡ option_map (without_all []) (picked None ids)
all_left None = refl
all_left (Some members) = refl

-- an analysis without lists answers as is asked
plain : (bytes text : List ℕ) (asked : AnalysisAsked) (certificate : Bool) (answered : ReportOrRefusal)
    → asked.gone ≡ None → asked.group ≡ None → IsAnalysis asked.limit bytes asked.ids certificate answered text
    → IsAnsweredOf bytes asked answered
plain bytes text asked certificate answered no_gone no_group is = record {
  graph = is.graph;
  says = is.says;
  within = is.within;
  gone = [];
  without = (None, subst (λ t. AreListed asked.limit bytes asked.named t None) (sym no_gone) refl, refl);
  left = is.graph;
  loses = loses_nobody is.graph is.says.graph;
  group = asked.ids;
  members = (None, subst (λ t. AreListed asked.limit bytes asked.named t None) (sym no_group) refl, all_left asked.ids);
  answers = printed is.graph _ certificate answered text is.prints;
}

-- one that tells more does
more : (bytes text : List ℕ) (asked : AnalysisAsked) (gone : List ℕ) (group : Option (List ℕ)) (answered : ReportOrRefusal)
    → AreGone bytes asked gone → IsGroupLeft bytes asked gone group
    → IsTelling asked.limit bytes gone group asked.certificate asked.named answered text
    → IsAnsweredOf bytes asked answered
more bytes text asked gone group answered are left is = record {
  graph = is.graph;
  says = is.says;
  within = is.within;
  gone = gone;
  without = are;
  left = is.left;
  loses = is.loses;
  group = group;
  members = left;
  answers = told is.left _ is.names asked.certificate asked.named answered text is.tells;
}

-- these lists are those that the arguments give
pub asked_by : (analysis : AnalysisRequest) (lists : NodeLists)
    → IsGoneGiven (option_map (λ text. string_bytes text) analysis.gone) (option_map (λ text. text.items) lists.gone)
    → IsListGiven (option_map (λ text. string_bytes text) analysis.group_list)
    (option_map (λ text. text.items) lists.group)
    → IsAskedBy analysis (asked_of analysis lists)
asked_by analysis lists gone group = record {
  ids = refl;
  group = group;
  gone = gone;
  certificate = refl;
  named = refl;
  least = refl;
  limit = refl;
}

-- the status of an analysis of the graph file of these bytes
module _ {W : Type 0} (bytes : List ℕ) (asked : AnalysisAsked) (contents : W → Option (List ℕ)) (old new : SinkState W)
  where
    status_told : (status : ℕ) → WasTold bytes asked contents old new (Ok status) → IsStatusFor bytes asked status
    status_told status (gone, group, did, are, left, is, same) =
        let t = is.tells in
        (did.answered, more bytes t.0 asked gone group did.answered are left t.1, same)

    status_printed : (status : ℕ) → WasPrintedAlone bytes asked contents old new (Ok status)
        → IsStatusFor bytes asked status
    status_printed status (no_gone, no_group, no_names, (Ok answered, is, same)) =
        let p = is.prints in
        let answers = plain p.0 p.1 asked asked.certificate answered no_gone no_group p.3 in
        let same_status : status ≡ alarm_status asked.least answered = cc in
        (answered, subst (λ b. IsAnsweredOf b asked answered) p.2 answers, same_status)
    status_printed status (no_gone, no_group, no_names, (Err f, is, same)) = absurd cc

    status_of_bytes : (status : ℕ) → WasAnalysed bytes asked contents old new (Ok status)
        → IsStatusFor bytes asked status
    status_of_bytes status (inl is) = status_told status is
    status_of_bytes status (inr is) = status_printed status is

    -- and of a reader that had them
    pub status_of_reader : (reader : Option (List ℕ)) (result : Result ℕ CommandFault)
        → IfSome reader (λ xs. bytes ≡ xs) → WasAnalysed bytes asked contents old new result
        → IfOk result (IsStatusOfReader reader asked)
    status_of_reader reader (Ok status) same is = (bytes, same, status_of_bytes status is)
    status_of_reader reader (Err f) same is = tt
