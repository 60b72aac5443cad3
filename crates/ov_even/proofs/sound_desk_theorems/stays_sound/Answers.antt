use Rattle.ov_even.proofs.DeskTurns.Staying.{stays_sound}
use Rattle.ov_even.proofs.sound_desk_theorems.stays_sound.Goals as goal

pub returns : goal.returns
returns c = stays_sound
