use Rattle.ov_net.proofs.Journal.Telling.{links_stay, links_were}
use Rattle.ov_net.proofs.journal_and_step_theorems.links_stay.Goals as goal

pub returns : goal.returns
returns c = λ journal more m g within. (links_stay journal more m g within, links_were journal more m g within)
