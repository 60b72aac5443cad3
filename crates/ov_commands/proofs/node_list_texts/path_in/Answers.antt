-- What `strip_prefix` leaves behind a character of one byte.
use Rattle.std.proofs.Common.{◌≡◌, ◌≢◌, ℕ, List, ◌∷◌, Bor, Option, None, Some, arith}
use Rattle.std.proofs.lemmas.Str.Pattern.{strip_prefix_char}
use Rattle.std.specs.Prelude.{MatchOption}
use Rattle.ov_commands.specs.Naming.{NamesFile}
use Rattle.ov_commands.proofs.node_list_texts.path_in.Goals as goal

-- where nothing is left, no path stands behind the character
no_path : (left : Option (Bor (List ℕ))) (argument : List ℕ)
    → MatchOption left ((path : List ℕ) → argument ≢ 64 ∷ path) (λ path. argument ≡ 64 ∷ path.now)
    → MatchOption left (¬ NamesFile argument) (λ path. argument ≡ 64 ∷ path.now)
no_path None argument none = λ named. none named.0 named.1
no_path (Some path) argument is = is

pub returns : goal.returns
returns g =
    no_path g.strip_prefix.result g.args.argument.now
    (strip_prefix_char 64 g.args.argument.now g.strip_prefix.result g.strip_prefix.ensures.cases (omega (arith)))
