-- Which words of a command line ask `overlay` to tell of itself: for help, or for its version. Chosen here.
use Rattle.std.specs.Prelude.{ℕ, Bool, false, ◌&&◌, ◌||◌, not, List, [], ◌∷◌, codes, Option, Some, None}
use Rattle.std.specs.Prelude.{find, if◌then◌else◌, option_map}
use Rattle.std.specs.Str.{bytes_eq}
use Rattle.ov_command_tree.specs.declared.help_and_version.CommandTopic.{CommandTopic}
use Rattle.ov_command_tree.specs.declared.help_and_version.CommandTopic.TheVariants.{Run, Analyse, Import, Picture, Graph}
use Rattle.ov_command_tree.specs.declared.help_and_version.CommandTopic.TheVariants.{Grow, Sweep}
use Rattle.ov_command_tree.specs.declared.help_and_version.Telling.{Telling}
use Rattle.ov_command_tree.specs.declared.help_and_version.Telling.TheVariants.{Help, Version}

-- the word asks for the version
abbrev pub is_version_option : List ℕ → Bool
is_version_option word = bytes_eq word (codes "--version") || bytes_eq word (codes "-V")

-- the word asks for help
abbrev pub is_help_option : List ℕ → Bool
is_help_option word = bytes_eq word (codes "--help") || bytes_eq word (codes "-h")

-- one of these words asks for help, and `--` does not stand before it
abbrev pub ask_for_help : List (List ℕ) → Bool
ask_for_help [] = false
ask_for_help (word ∷ more) = not (bytes_eq word (codes "--")) && (is_help_option word || ask_for_help more)

-- the name of a command
abbrev pub name_of : CommandTopic → List ℕ
name_of Run = codes "run"
name_of Analyse = codes "analyse"
name_of Import = codes "import"
name_of Picture = codes "picture"
name_of Graph = codes "graph"
name_of Grow = codes "grow"
name_of Sweep = codes "sweep"

-- all commands
abbrev pub commands : List CommandTopic
commands = Run ∷ Analyse ∷ Import ∷ Picture ∷ Graph ∷ Grow ∷ Sweep ∷ []

-- the command of this name
abbrev pub command_named : List ℕ → Option CommandTopic
command_named word = find (λ command. bytes_eq (name_of command) word) commands

-- help of a command, if there is one
abbrev pub help_of : Option CommandTopic → Option Telling
help_of command = option_map (λ c. Help (Some c)) command

-- what the words behind the word `help` ask for: help of all of `overlay`, or of the command of this name
abbrev pub help_behind : List (List ℕ) → Option Telling
help_behind [] = Some (Help None)
help_behind (name ∷ []) = help_of (command_named name)
help_behind (name ∷ other ∷ more) = None

-- What these arguments ask to be told: the version, by `--version` or `-V` in front; help of all of `overlay`, by
-- `--help`, `-h` or `help` in front; or help of a command, by `help` and its name, or by `--help` or `-h` behind its
-- name, with any other words.
abbrev pub telling_asked : List (List ℕ) → Option Telling
telling_asked [] = None
telling_asked (first ∷ more) =
    if is_version_option first then Some Version
    else if is_help_option first then Some (Help None)
    else if bytes_eq first (codes "help") then help_behind more
    else if ask_for_help more then help_of (command_named first)
    else None
