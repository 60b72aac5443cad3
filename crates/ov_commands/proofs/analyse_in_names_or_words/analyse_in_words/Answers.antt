-- What was told is of the nodes that are left.
use Rattle.std.proofs.Common.{[], option_map, refl, subst, unwrap_or}
use Rattle.ov_graph.specs.declared.size_limit.SizeLimit.{SizeLimit}
use Rattle.ov_commands.specs.Naming.{AreGone, AreListed, IsGroupLeft, asked_of}
use Rattle.ov_commands.proofs.Listed.{answered}
use Rattle.ov_commands.proofs.analyse_in_names_or_words.analyse_in_words.Goals as goal

pub returns-clause-told : goal.returns-clause-told
returns-clause-told g c =
    let asked = asked_of c.args.analysis.now c.args.lists.now in
    let listed = option_map (λ ids. ids.items) c.in_ok-nodes.nodes.gone in
    let named = option_map (λ ids. ids.items) c.in_ok-nodes.nodes.group in
    let gone = unwrap_or listed [] in
    let group = option_map (λ ids. ids.items) c.in-Ok.group in
    let same = c.limit_of-limit.ensures in
    let are : AreGone c.args.bytes.now asked gone = (
      listed,
      subst (λ (l : SizeLimit). AreListed l c.args.bytes.now asked.named asked.gone listed) same
          c.in_ok-nodes.ensures.gone,
      refl,
    ) in
    let is : IsGroupLeft c.args.bytes.now asked gone group = (
      named,
      subst (λ (l : SizeLimit). AreListed l c.args.bytes.now asked.named asked.group named) same
          c.in_ok-nodes.ensures.group,
      c.in-Ok.ensures.left,
    ) in
    let asks = c.request_of-request.ensures in
    answered c.request_of-request.result.limit c.args.bytes.now asked gone c.request_of-request.result.gone.now group
    _ _ _ g.W.Write.contents c.args.sink.now c.tell.new.sink c.tell.result are is asks.limit asks.gone asks.group
    asks.certificate asks.names c.tell.ensures.answered
