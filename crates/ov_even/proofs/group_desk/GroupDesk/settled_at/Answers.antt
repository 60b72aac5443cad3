-- The piece of a number below the total is a piece of the group.
use Rattle.std.proofs.Common.{◌∙◌, ℕ, List, length, sym, ap, subst, arith}
use Rattle.ov_fans.specs.Pieces.{IsPieceOf}
use Rattle.ov_even.specs.Order.{AreSoMany}
use Rattle.ov_even.proofs.AnalysisSteps.Narrowing.{members_few}
use Rattle.ov_even.proofs.PieceNumbers.Numbering.{numbered_piece}
use Rattle.ov_even.specs.Desk.{GroupDeskState}
use Rattle.ov_even.proofs.group_desk.GroupDesk.settled_at.Goals as goal

pub group_piece_at-piece-requires-clause-members : goal.group_piece_at-piece-requires-clause-members
group_piece_at-piece-requires-clause-members c =
    let few = members_few c.args.graph.now c.args.self.now.members c.requires.group in
    let nodes = ap length c.nodes-2.ensures.nodes in
    let len = c.len.ensures ∙ c.self.inside.members.ok.0
    ∙ ap (λ (s : GroupDeskState). length s.members) c.self.view_is in
    omega (arith, few, nodes, len)

pub group_piece_at-piece-requires-clause-below : goal.group_piece_at-piece-requires-clause-below
group_piece_at-piece-requires-clause-below c = λ total many.
    let len = c.len.ensures ∙ c.self.inside.members.ok.0
    ∙ ap (λ (s : GroupDeskState). length s.members) c.self.view_is in
    c.requires.below total (subst (λ (m : ℕ). AreSoMany (length c.args.graph.now.nodes) m total) len
    (subst (λ (nodes : List ℕ). AreSoMany (length nodes) c.len.result total) c.nodes-2.ensures.nodes many))

pub settle_group-requires-clause-piece : goal.settle_group-requires-clause-piece
settle_group-requires-clause-piece c =
    let piece = c.group_piece_at-piece.result in
    let is =
    numbered_piece (length c.nodes-2.result.now) c.len.result c.args.number piece c.group_piece_at-piece.ensures in
    let of_group : IsPieceOf (length c.args.graph.now.nodes) (length c.deref.result.now) piece =
    subst (λ (m : ℕ). IsPieceOf (length c.args.graph.now.nodes) m piece)
    (c.len.ensures ∙ c.self.inside.members.ok.0 ∙ sym (ap length c.deref.ensures.value))
    (subst (λ (nodes : List ℕ). IsPieceOf (length nodes) c.len.result piece) c.nodes-2.ensures.nodes is) in
    of_group
