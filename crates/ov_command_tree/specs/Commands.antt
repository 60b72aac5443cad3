-- The commands that read files, in the words of `clap`, which says what a command finds in which arguments. Chosen here.
use Rattle.std.specs.Prelude.{ℕ, true, List, Some, codes}
use Rattle.clap.specs.Simple.{on_top}
use Rattle.clap.specs.Words.{App, Rule, new_app, new_rule, with_rule, with_subcommand}
use Rattle.clap.specs.declared.builder.action.ArgAction.TheVariants.{Set, SetTrue}

-- an option with a text, `--NAME TEXT` or `--NAME=TEXT`
abbrev pub option : List ℕ → Rule
option name = record (new_rule name) { long = Some name; action = Some Set }

-- an option without a text, `--NAME`
abbrev pub flag : List ℕ → Rule
flag name = record (new_rule name) { long = Some name; action = Some SetTrue }

-- `run [FILE] [--explain] [--strict] [--progress]`
abbrev pub run_command : App
run_command =
    with_rule
    (with_rule
    (with_rule (with_rule (new_app (codes "run")) (new_rule (codes "file"))) (flag (codes "explain")))
    (flag (codes "strict")))
    (flag (codes "progress"))

-- `analyse [FILE] [--group TEXT] [--without TEXT] [--at-least TEXT] [--workers TEXT] [--certificate] [--names]
-- [--explain] [--progress] [--large]`
abbrev pub analyse_command : App
analyse_command =
    with_rule
    (with_rule
    (with_rule
    (with_rule
    (with_rule
    (with_rule
    (with_rule
    (with_rule
    (with_rule (with_rule (new_app (codes "analyse")) (new_rule (codes "file"))) (option (codes "group")))
    (option (codes "without")))
    (option (codes "at-least")))
    (option (codes "workers")))
    (flag (codes "certificate")))
    (flag (codes "names")))
    (flag (codes "explain")))
    (flag (codes "progress")))
    (flag (codes "large"))

-- `import [FILE] [--views] [--edges] [--dot] [--either] [--entries] [--large]`
abbrev pub import_command : App
import_command =
    with_rule
    (with_rule
    (with_rule
    (with_rule
    (with_rule
    (with_rule (with_rule (new_app (codes "import")) (new_rule (codes "file"))) (flag (codes "views")))
    (flag (codes "edges")))
    (flag (codes "dot")))
    (flag (codes "either")))
    (flag (codes "entries")))
    (flag (codes "large"))

-- `picture [FILE] [--names TEXT] [--pair TEXT] [--fan TEXT] [--dot]`
abbrev pub picture_command : App
picture_command =
    with_rule
    (with_rule
    (with_rule
    (with_rule (with_rule (new_app (codes "picture")) (new_rule (codes "file"))) (option (codes "names")))
    (option (codes "pair")))
    (option (codes "fan")))
    (flag (codes "dot"))

-- `graph [FILE] [--large]`
abbrev pub graph_command : App
graph_command = with_rule (with_rule (new_app (codes "graph")) (new_rule (codes "file"))) (flag (codes "large"))

-- `overlay` alone; its own name is none of the arguments
abbrev pub overlay_app : App
overlay_app = on_top (λ s. record s { no_binary_name = true }) (new_app (codes "overlay"))

-- `overlay` with these five
abbrev pub overlay_command : App
overlay_command =
    with_subcommand
    (with_subcommand
    (with_subcommand
    (with_subcommand
    (with_subcommand overlay_app run_command.top)
    analyse_command.top)
    import_command.top)
    picture_command.top)
    graph_command.top
