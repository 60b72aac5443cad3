use Rattle.ov_hall.proofs.Counting.{opens}
use Rattle.ov_hall.proofs.hall_opening.Opening.new.Goals as goal

pub of_words-requires : goal.of_words-requires
of_words-requires c = opens c.args.drivers
