-- What the search finds is right for the piece.
use Rattle.std.proofs.Common.{◌≡◌, ◌<◌, ℕ, IfOk, map, sym, subst}
use Rattle.std.specs.Option.{MatchOption}
use Rattle.ov_graph.specs.Links.{IsGraph}
use Rattle.ov_graph.specs.Paths.{node_at}
use Rattle.ov_split.specs.SplitNetState.{IsFanOf}
use Rattle.ov_flow.specs.Flow.{IsFullBy}
use Rattle.ov_fans.specs.Group.{SettlerState}
use Rattle.ov_fans.specs.Pieces.{IsPiece, IsLinkedPair, level_of}
use Rattle.ov_fans.specs.Cuts.{IsFoundFor, IsParted}
use Rattle.ov_fans.specs.Code.Nets.{net_of}
use Rattle.ov_fans.specs.declared.piece_result.Found.TheVariants.{Paths}
use Rattle.ov_fans.proofs.PieceNets.Settling.{right_paths}
use Rattle.ov_fans.proofs.settler_of_width.WideSettler.sought.Goals as goal
use Rattle.ov_fans.proofs.settler_of_width.WideSettler.sought.Goals.{in-None+in_ok-paths-in-None}
use Rattle.ov_fans.proofs.settler_of_width.WideSettler.sought.Goals.{in-Some+in_ok-parting-in-Some}

pub returns-clause-found : goal.returns-clause-found
returns-clause-found g c =
    let m = c.self.inside.group in
    let p = c.args.piece in
    let e = c.seek.ensures in
    let k = c.seek.new.flow.held in
    let net = c.seek.new.flow.net in
    let at = subst (λ (s : SettlerState). IsPiece s.graph s.members p) (sym c.self.view_is) c.requires.piece in
    elim c.match-seek.branch [
      | in-None+in_ok-paths-in-None w ↦
          let held : k ≡ level_of p = subst (λ o. MatchOption o (k ≡ level_of p)
          (λ s. (k < level_of p) × IsFullBy (net_of m.graph m.members p) k s)) w.in-None.is e.held in
          let ps = w.in_ok-paths-in-None.field-0 in
          let fan = subst (λ (l : ℕ). IsFanOf net l (map (map (node_at net.graph)) ps)) held
          w.in_ok-paths-in-None.ensures.fan in
          let right = right_paths m.graph m.members p net ps e.graph e.group at e.net fan
          w.in_ok-paths-in-None.ensures.places in
          let apart = subst (λ (s : SettlerState). ¬ IsLinkedPair s.graph s.members p) (sym c.self.view_is)
          c.requires.apart in
          subst (λ r. IfOk r (λ f. IsFoundFor c.args.self.now.graph c.args.self.now.members p f)) (sym w.result-is)
          (subst (λ (s : SettlerState). IsFoundFor s.graph s.members p (Paths ps)) c.self.view_is (apart, right))
      | in-Some+in_ok-parting-in-Some w ↦
          subst (λ r. IfOk r (λ f. IsFoundFor c.args.self.now.graph c.args.self.now.members p f)) (sym w.result-is)
          (subst (λ (s : SettlerState). IsParted s.graph s.members p w.in_ok-parting-in-Some.parting.value)
          c.self.view_is w.in_ok-parting-in-Some.ensures)
    ]

pub returns-clause-graph : goal.returns-clause-graph
returns-clause-graph g c = subst (λ (s : SettlerState). IsGraph s.graph) c.self.view_is c.seek.ensures.graph
