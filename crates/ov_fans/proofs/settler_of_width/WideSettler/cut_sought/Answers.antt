-- The paths that are held are those that the piece asks for.
use Rattle.std.proofs.Common.{◌≡◌, ◌<◌, ℕ, IfOk, IfNone, subst, inr, sym}
use Rattle.std.specs.Option.{MatchOption}
use Rattle.ov_split.specs.SplitNetState.{SplitNetState, IsFanOf}
use Rattle.ov_flow.specs.Flow.{IsFullBy}
use Rattle.ov_fans.specs.Group.{SettlerState}
use Rattle.ov_fans.specs.Pieces.{IsPiece, IsGood, level_of, paths_of}
use Rattle.ov_fans.specs.Code.Nets.{net_of}
use Rattle.ov_fans.proofs.PieceNets.Routes.{asked_paths}
use Rattle.ov_fans.proofs.settler_of_width.WideSettler.cut_sought.Goals as goal
use Rattle.ov_fans.proofs.settler_of_width.WideSettler.cut_sought.Goals.{in-None, in-Some+in_ok-parting-in-Some}

pub returns-clause-none : goal.returns-clause-none
returns-clause-none g c =
    let m = c.self.inside.group in
    let p = c.args.piece in
    let e = c.seek.ensures in
    let k = c.seek.new.flow.held in
    let at = subst (λ (s : SettlerState). IsPiece s.graph s.members p) (sym c.self.view_is) c.requires.piece in
    let good = IsGood c.args.self.now.graph c.args.self.now.members p in
    elim c.match-seek.branch [
      | in-None w ↦
          let held : k ≡ level_of p = subst (λ o. MatchOption o (k ≡ level_of p)
          (λ s. (k < level_of p) × IsFullBy (net_of m.graph m.members p) k s)) w.in-None.is e.held in
          let of_piece = subst (λ (n : SplitNetState). IsFanOf n k e.fan.0) e.net e.fan.1 in
          let fan = subst (λ (l : ℕ). IsFanOf (net_of m.graph m.members p) l e.fan.0) held of_piece in
          subst (λ r. IfOk r (λ cut. IfNone cut good)) (sym w.result-is)
          (subst (λ (s : SettlerState). IsGood s.graph s.members p) c.self.view_is
          (inr (paths_of m.members p e.fan.0, asked_paths m.graph m.members p e.fan.0 e.graph e.group at fan)))
      | in-Some+in_ok-parting-in-Some w ↦ subst (λ r. IfOk r (λ cut. IfNone cut good)) (sym w.result-is) tt
    ]
