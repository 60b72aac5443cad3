-- The rows of the table have the names of the options, and the texts of their defaults.
use Rattle.std.proofs.Common.{arith, refl}
use Rattle.std.proofs.lemmas.Fmt.{decimal_digit}
use Rattle.ov_grow_options.specs.CommandLine.{options_named}
use Rattle.ov_grow_options.proofs.Defaults.{hundred, thirty}
use Rattle.ov_grow_options.proofs.option_table.growing_options.Goals as goal

pub returns : goal.returns
unfolding options_named
returns c =
    rw (
      hundred,
      thirty,
      decimal_digit 5 (omega arith),
      decimal_digit 6 (omega arith),
      decimal_digit 3 (omega arith),
      decimal_digit 4 (omega arith),
      decimal_digit 0 (omega arith),
      decimal_digit 2 (omega arith),
    ) refl
