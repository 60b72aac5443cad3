-- What the arguments of a command line ask for, and why they can't be read. Chosen here.
use Rattle.std.specs.Prelude.{◌≡◌, ◌≢◌, ◌⊎◌, ℕ, Bool, true, false, ◌<◌, ⊤, List, [], ◌∷◌, length, Option, Some, None}
use Rattle.std.specs.Prelude.{IfSome, codes, nat_eq, nat_le, option_map, string_bytes, if◌then◌else◌}
use Rattle.std.specs.List.{starts_with}
use Rattle.std.specs.Str.{bytes_eq}
use Rattle.std.specs.declared.io.ErrorKind.{ErrorKind}
use Rattle.std.specs.declared.io.ErrorKind.TheVariants.{InvalidData}
use Rattle.clap.specs.Words.{fault_of, first_of, subcommand_of}
use Rattle.clap.specs.declared.error.kind.ErrorKind.{ErrorKind as ParseErrorKind}
use Rattle.clap.specs.declared.error.kind.ErrorKind.TheVariants as parse_error
use Rattle.ov_ids.specs.Options.{◌>>=◌}
use Rattle.ov_lines.specs.Lines.{ids_of, long_bits, number_within, workers_of}
use Rattle.ov_command_tree.specs.Commands.{overlay_command}
use Rattle.ov_command_tree.specs.Flags.{is_flagged}
use Rattle.ov_command_tree.specs.Telling.{telling_asked}
use Rattle.ov_arguments.specs.declared.arguments.Request.{Request}
use Rattle.ov_arguments.specs.declared.arguments.Request.TheVariants.{Run, Analyse, Import, Picture, Graph, Tell}
use Rattle.ov_arguments.specs.declared.import_and_picture_requests.AskedEntry.{AskedEntry}
use Rattle.ov_arguments.specs.declared.import_and_picture_requests.AskedEntry.TheVariants.{Pair, Fan}
use Rattle.ov_arguments.specs.declared.import_and_picture_requests.DumpFormat.{DumpFormat}
use Rattle.ov_arguments.specs.declared.import_and_picture_requests.DumpFormat.TheVariants.{Views, Edges, Dot}
use Rattle.ov_arguments.specs.declared.arguments.ArgumentsFault.{ArgumentsFault}
use Rattle.ov_arguments.specs.declared.arguments.ArgumentsFault.TheVariants.{BadArguments, OutOfMemory}

-- ---- what is in the arguments, in the words of `clap`, which says what a command finds in which arguments

-- the name of the command that the arguments give, if they give one
abbrev pub command_given : List (List ℕ) → Option (List ℕ)
command_given arguments = option_map (λ found. found.0) (subcommand_of overlay_command arguments)

-- the text of a file or an option of this name, if the arguments give it. A flag that they give has the text `true`
abbrev pub text_given : List (List ℕ) → List ℕ → Option (List ℕ)
text_given arguments name = subcommand_of overlay_command arguments >>= λ found. first_of name found.1

-- ---- what is asked for

-- if an analysis for a group is asked for, the group has one or more ids
abbrev pub HasGroupOfIds : Request → Type 0
HasGroupOfIds (Analyse file analysis) = IfSome analysis.group (λ ids. 0 < length ids.items)
HasGroupOfIds other = ⊤

-- whether the text of a list names a file that has the list, by `@` before its name
abbrev pub is_in_file : List ℕ → Bool
is_in_file text = starts_with nat_eq text (codes "@")

-- whether the text of `--group` is a list that is read later: beside `--names`, where it may be any text, and if the
-- list is in a file
abbrev pub is_read_later : Bool → List ℕ → Bool
is_read_later true text = true
is_read_later false text = is_in_file text

-- the group of ids that the text of `--group` asks for, and none if it is not there or is read later
abbrev pub group_asked : Bool → Option (List ℕ) → Option (Option (List ℕ))
group_asked names None = Some None
group_asked names (Some text) = if is_read_later names text then Some None else option_map Some (ids_of text)

-- the text of the list that `--group` asks for, if it is read later
abbrev pub group_list_asked : Bool → Option (List ℕ) → Option (List ℕ)
group_list_asked names None = None
group_list_asked names (Some text) = if is_read_later names text then Some text else None

-- the largest number k: it is smaller than the number of nodes, of which there are 1,024 at most, or 32,768 if a large
-- graph is asked for
abbrev pub largest_k : Bool → ℕ
largest_k false = 1023
largest_k true = 32767

-- the number, if it may be asked for as the least k
abbrev pub as_least : Bool → ℕ → Option ℕ
as_least large n = if nat_le n (largest_k large) then Some n else None

-- the least number k that a text spells
abbrev pub least_of : Bool → List ℕ → Option ℕ
least_of large text = number_within long_bits text >>= as_least large

-- the least number k that the text of `--at-least` asks for, and none if it is not there
abbrev pub least_asked : Bool → Option (List ℕ) → Option (Option ℕ)
least_asked large None = Some None
least_asked large (Some text) = option_map Some (least_of large text)

-- the number of workers that the text of `--workers` asks for, and one if it is not there
abbrev pub workers_asked : Option (List ℕ) → Option ℕ
workers_asked None = Some 1
workers_asked (Some text) = workers_of text

-- the file that the text of FILE asks for, and none, for standard input, if it is `-` or not there
abbrev pub file_asked : Option (List ℕ) → Option (List ℕ)
file_asked None = None
file_asked (Some text) = if bytes_eq text (codes "-") then None else Some text

-- the form of a dump that the flags of `import` ask for: that of the one that is there. None of them asks for the form
-- that the dump itself suggests, and two for nothing
abbrev pub format_asked : Bool → Bool → Bool → Option (Option DumpFormat)
format_asked false false false = Some None
format_asked true false false = Some (Some Views)
format_asked false true false = Some (Some Edges)
format_asked false false true = Some (Some Dot)
format_asked views edges dot = None

-- the entry of a pair of ids
abbrev pub pair_asked : Option (List ℕ) → Option AskedEntry
pair_asked (Some (i ∷ j ∷ [])) = Some (Pair i j)
pair_asked other = None

-- the entry of one id
abbrev pub fan_asked : Option (List ℕ) → Option AskedEntry
fan_asked (Some (j ∷ [])) = Some (Fan j)
fan_asked other = None

-- the entry of a certificate that the texts of `--pair` and `--fan` ask for: two ids with a comma, or one id. Without
-- them it is no entry, and both together ask for nothing
abbrev pub entry_asked : Option (List ℕ) → Option (List ℕ) → Option (Option AskedEntry)
entry_asked None None = Some None
entry_asked (Some pair) None = option_map Some (pair_asked (ids_of pair))
entry_asked None (Some fan) = option_map Some (fan_asked (ids_of fan))
entry_asked (Some pair) (Some fan) = None

-- the form of a dump that these texts of flags ask for
abbrev pub format_of : (List ℕ → Option (List ℕ)) → Option (Option DumpFormat)
format_of text =
    format_asked (is_flagged (text (codes "views"))) (is_flagged (text (codes "edges")))
    (is_flagged (text (codes "dot")))

-- the entry of a certificate that these texts of options ask for
abbrev pub entry_of : (List ℕ → Option (List ℕ)) → Option (Option AskedEntry)
entry_of text = entry_asked (text (codes "pair")) (text (codes "fan"))

-- the name is none of those that ask for something other than a run
abbrev pub IsOfRun : Option (List ℕ) → Type 0
IsOfRun command =
    (command ≢ Some (codes "analyse")) × (command ≢ Some (codes "import")) × (command ≢ Some (codes "picture"))
    × (command ≢ Some (codes "graph"))

-- what is asked for is what the command's name and these texts of its file and its options ask for
abbrev pub IsAsked : Option (List ℕ) → (List ℕ → Option (List ℕ)) → Request → Type 0
IsAsked command text (Run file run) =
    IsOfRun command
    × (file_asked (text (codes "file")) ≡ option_map (λ f. string_bytes f) file)
    × (is_flagged (text (codes "explain")) ≡ run.explain)
    × (is_flagged (text (codes "strict")) ≡ run.strict)
    × (is_flagged (text (codes "progress")) ≡ run.progress)
IsAsked command text (Analyse file analysis) =
    (command ≡ Some (codes "analyse"))
    × (file_asked (text (codes "file")) ≡ option_map (λ f. string_bytes f) file)
    × (group_asked (is_flagged (text (codes "names"))) (text (codes "group"))
    ≡ Some (option_map (λ ids. ids.items) analysis.group))
    × (group_list_asked (is_flagged (text (codes "names"))) (text (codes "group"))
    ≡ option_map (λ list. string_bytes list) analysis.group_list)
    × (text (codes "without") ≡ option_map (λ list. string_bytes list) analysis.gone)
    × (least_asked (is_flagged (text (codes "large"))) (text (codes "at-least")) ≡ Some analysis.at_least)
    × (workers_asked (text (codes "workers")) ≡ Some analysis.workers)
    × (is_flagged (text (codes "certificate")) ≡ analysis.certificate)
    × (is_flagged (text (codes "names")) ≡ analysis.names)
    × (is_flagged (text (codes "explain")) ≡ analysis.explain)
    × (is_flagged (text (codes "progress")) ≡ analysis.progress)
    × (is_flagged (text (codes "large")) ≡ analysis.large)
IsAsked command text (Import file dump) =
    (command ≡ Some (codes "import"))
    × (file_asked (text (codes "file")) ≡ option_map (λ f. string_bytes f) file)
    × (format_of text ≡ Some dump.format)
    × (is_flagged (text (codes "either")) ≡ dump.either)
    × (is_flagged (text (codes "entries")) ≡ dump.entries)
    × (is_flagged (text (codes "large")) ≡ dump.large)
IsAsked command text (Picture file picture) =
    (command ≡ Some (codes "picture"))
    × (file_asked (text (codes "file")) ≡ option_map (λ f. string_bytes f) file)
    × (text (codes "names") ≡ option_map (λ f. string_bytes f) picture.names)
    × (entry_of text ≡ Some picture.entry)
    × (is_flagged (text (codes "dot")) ≡ picture.dot)
IsAsked command text (Graph file large) =
    (command ≡ Some (codes "graph"))
    × (file_asked (text (codes "file")) ≡ option_map (λ f. string_bytes f) file)
    × (is_flagged (text (codes "large")) ≡ large)
IsAsked command text (Tell telling) = ⊥

-- the group, the least number and the number of workers that these texts ask for can be read
pub record AreReadable (text : List ℕ → Option (List ℕ)) : Type 0 where
  pub group : group_asked (is_flagged (text (codes "names"))) (text (codes "group")) ≢ None
  pub least : least_asked (is_flagged (text (codes "large"))) (text (codes "at-least")) ≢ None
  pub workers : workers_asked (text (codes "workers")) ≢ None

-- the texts of a command of this name can be read: of `analyse` the group, the least number and the workers, of
-- `import` the form of the dump, of `picture` the entry. The texts of another command need no reading
pub record AreReadableFor (command : Option (List ℕ)) (text : List ℕ → Option (List ℕ)) : Type 0 where
  pub analysis : command ≡ Some (codes "analyse") → AreReadable text
  pub dump : command ≡ Some (codes "import") → format_of text ≢ None
  pub picture : command ≡ Some (codes "picture") → entry_of text ≢ None

-- what is asked for is what the command of these arguments asks for, with the file and the options that they give it
abbrev pub IsAskedByCommand : List (List ℕ) → Request → Type 0
IsAskedByCommand arguments request = IsAsked (command_given arguments) (text_given arguments) request

-- what is asked for is what these arguments give: to tell what they ask to be told; and if that is nothing, what their
-- command asks for
abbrev pub IsOfGiven : List (List ℕ) → Request → Type 0
IsOfGiven arguments (Tell telling) = telling_asked arguments ≡ Some telling
IsOfGiven arguments request = (telling_asked arguments ≡ None) × IsAskedByCommand arguments request

-- `clap` finds no fault in these arguments, so no request for help either, and what they give to their command can be
-- read
abbrev pub AreTakenAsCommand : List (List ℕ) → Type 0
AreTakenAsCommand arguments =
    (fault_of overlay_command arguments ≡ []) × AreReadableFor (command_given arguments) (text_given arguments)

-- these arguments ask for something: to be told, or by a command
abbrev pub AreTaken : List (List ℕ) → Type 0
AreTaken arguments = (telling_asked arguments ≢ None) ⊎ AreTakenAsCommand arguments

-- the fault's number
abbrev pub number_of : ArgumentsFault → ℕ
number_of BadArguments = 73
number_of OutOfMemory = 99

-- why the arguments can't be had: those that are no text are no arguments of the command
abbrev pub fault_of_text : ErrorKind → ArgumentsFault
fault_of_text InvalidData = BadArguments
fault_of_text kind = OutOfMemory

-- why `clap` finds nothing in the arguments: it found a fault in them, or was out of memory
abbrev pub fault_of_parse : ParseErrorKind → ArgumentsFault
fault_of_parse parse_error.OutOfMemory = OutOfMemory
fault_of_parse kind = BadArguments
