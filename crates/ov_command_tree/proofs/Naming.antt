-- Names of commands.
use Rattle.std.proofs.Common.{◌≡◌, ◌||◌, ℕ, Bool, true, false, List, Some, None, codes, is_some, if◌then◌else◌, refl}
use Rattle.std.specs.Str.{bytes_eq}
use Rattle.clap.specs.Simple.{Shape}
use Rattle.ov_command_tree.specs.CommandNames.{is_command, reads_file}
use Rattle.ov_command_tree.specs.Telling.{command_named}
use Rattle.ov_command_tree.specs.declared.help_and_version.CommandTopic.TheVariants.{Run, Analyse, Import, Picture, Graph}
use Rattle.ov_command_tree.specs.declared.help_and_version.CommandTopic.TheVariants.{Grow, Sweep}

-- by the answers of the names to a word: a file is read by the first five of seven
by_answers : (a b c d e f g : Bool) (r s t u v : Shape)
    → reads_file (if a then Some Run else if b then Some Analyse else if c then Some Import else if d then Some Picture
    else if e then Some Graph else if f then Some Grow else if g then Some Sweep else None)
    ≡ is_some (if a || false then Some r else if b || false then Some s else if c || false then Some t
    else if d || false then Some u else if e || false then Some v else None)
by_answers true b c d e f g r s t u v = refl
by_answers false true c d e f g r s t u v = refl
by_answers false false true d e f g r s t u v = refl
by_answers false false false true e f g r s t u v = refl
by_answers false false false false true f g r s t u v = refl
by_answers false false false false false true g r s t u v = refl
by_answers false false false false false false true r s t u v = refl
by_answers false false false false false false false r s t u v = refl

-- the commands that read files are those that `clap` knows
pub file_command : (word : List ℕ) → reads_file (command_named word) ≡ is_command word
file_command word =
    by_answers (bytes_eq (codes "run") word) (bytes_eq (codes "analyse") word) (bytes_eq (codes "import") word)
    (bytes_eq (codes "picture") word) (bytes_eq (codes "graph") word) (bytes_eq (codes "grow") word)
    (bytes_eq (codes "sweep") word) _ _ _ _ _
