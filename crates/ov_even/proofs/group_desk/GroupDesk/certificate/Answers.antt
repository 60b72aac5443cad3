-- If all workers of a sound desk have ended, their hauls suffice for a certificate.
use Rattle.std.proofs.Common.{◌≡◌, ◌∙◌, ℕ, List, sym, ap, subst}
use Rattle.ov_even.specs.Hauls.{Suffice}
use Rattle.ov_even.specs.Desk.{GroupDeskState}
use Rattle.ov_even.specs.Code.KeptDesk.{pieces_in}
use Rattle.ov_even.proofs.DeskTurns.Deciding.{ended_suffices}
use Rattle.ov_even.proofs.group_desk.GroupDesk.certificate.Goals as goal

pub assemble_group-requires-clause-suffice : goal.assemble_group-requires-clause-suffice
assemble_group-requires-clause-suffice c =
    let g = c.args.graph.now in
    let d = c.args.self.now in
    let hauls = c.deref-2.result.now in
    let members : c.deref.result.now ≡ d.members =
    c.deref.ensures.value ∙ ap (λ (s : GroupDeskState). s.members) c.self.view_is in
    let settled : pieces_in hauls ≡ d.settled =
    ap pieces_in c.deref-2.ensures.value ∙ ap (λ (s : GroupDeskState). s.settled) c.self.view_is in
    subst (λ (q : List ℕ). Suffice g q hauls) (sym members)
    (ended_suffices g d hauls c.nodes.ensures.graph c.requires.sound c.requires.ended settled)
