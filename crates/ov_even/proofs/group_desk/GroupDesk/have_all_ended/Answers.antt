use Rattle.std.proofs.Common.{◌↔◌, IsTrue, subst}
use Rattle.ov_board.specs.Theorems.{AllEnded}
use Rattle.ov_even.specs.Desk.{GroupDeskState}
use Rattle.ov_even.proofs.group_desk.GroupDesk.have_all_ended.Goals as goal

pub returns : goal.returns
returns c =
    subst (λ (s : GroupDeskState). IsTrue c.all_ended.result ↔ AllEnded s.claims) c.self.view_is
    c.all_ended.ensures.ended
