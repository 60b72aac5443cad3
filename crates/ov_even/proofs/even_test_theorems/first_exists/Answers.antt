use Rattle.std.proofs.Common.{length}
use Rattle.ov_even.specs.Code.Levels.{all_pieces}
use Rattle.ov_even.proofs.PieceNumbers.AllLevels.{all_listed}
use Rattle.ov_even.proofs.EvenTest.Searching.{first_among}
use Rattle.ov_even.proofs.even_test_theorems.first_exists.Goals as goal

pub returns : goal.returns
returns c = λ g q graph group apart.
    let n = length g.nodes in
    let m = length q in
    first_among g q (all_pieces n m) graph group apart (all_listed n m)
