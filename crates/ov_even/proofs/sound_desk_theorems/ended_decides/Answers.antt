use Rattle.ov_even.proofs.DeskTurns.Deciding.{ended_decides}
use Rattle.ov_even.proofs.sound_desk_theorems.ended_decides.Goals as goal

pub returns : goal.returns
returns c = ended_decides
