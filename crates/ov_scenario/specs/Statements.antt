-- What one line of a scenario file says. The form of the lines is chosen here.
use Rattle.std.specs.Prelude.{ℕ, ◌==◌, List, [], ◌∷◌, ◌++◌, length, map, codes}
use Rattle.std.specs.Prelude.{Option}
use Rattle.std.specs.Prelude.{Some, None, option_map, if◌then◌else◌}
use Rattle.ov_net.specs.declared.event.Event.{Event}
use Rattle.ov_net.specs.declared.event.Event.TheVariants as event
use Rattle.ov_ids.specs.Options.{◌>>=◌}
use Rattle.ov_ids.specs.RefillNames.{refill_named}
use Rattle.ov_ids.specs.Scales.{scale_named}
use Rattle.ov_ids.specs.declared.refill_rule.Refill.{Refill}
use Rattle.ov_ids.specs.declared.world_scale.Scale.{Scale}
use Rattle.ov_lines.specs.Lines.{words_of, behind_word, without_space, same, row, number_within, one, two, three}
use Rattle.ov_lines.specs.Lines.{each_number, short_bits, one_list, long_bits, workers_first}
use Rattle.ov_scenario.specs.EventWords.{event_words}
use Rattle.ov_scenario.specs.declared.scenario.Look.TheVariants as look
use Rattle.ov_scenario.specs.declared.scenario.Subject.{Subject}
use Rattle.ov_scenario.specs.declared.statement.Statement.{Statement}
use Rattle.ov_scenario.specs.declared.statement.Statement.TheVariants as says

-- the numbers, if there are seven
abbrev pub seven : List ℕ → Option (List ℕ)
seven ns = if length ns == 7 then Some ns else None

-- the first node hears that the second one crashed
abbrev pub crash_report_of : ℕ × ℕ → Event
crash_report_of p = event.CrashReport p.0 p.1

-- a timer of the first node, of the message with this origin and this number
abbrev pub timer_of : ℕ × (ℕ × ℕ) → Event
timer_of p = event.Timer p.0 (record { origin = p.1.0; seq = p.1.1 })

-- the numbers of seven parameters
abbrev pub seven_numbers : List (List ℕ) → Option (List ℕ)
seven_numbers words = each_number short_bits words >>= seven

-- one word, which is the word for a rule at DISCONNECT, and no further word
abbrev pub one_rule : List (List ℕ) → Option Refill
one_rule [] = None
one_rule (v ∷ []) = refill_named v
one_rule (v ∷ w ∷ more) = None

-- one word, which is the word for a scale, and no further word
abbrev pub one_scale : List (List ℕ) → Option Scale
one_scale [] = None
one_scale (v ∷ []) = scale_named v
one_scale (v ∷ w ∷ more) = None

-- `boot N` and `boot N by C`, after the name
abbrev pub boot_of : List (List ℕ) → Option Event
boot_of [] = None
boot_of (n ∷ []) = number_within short_bits n >>= λ a. Some (event.Boot a None)
boot_of (n ∷ by ∷ more) =
    if same by (codes "by")
    then (number_within short_bits n >>= λ a. one short_bits more >>= λ c. Some (event.Boot a (Some c)))
    else None

-- the ids after `group`
abbrev pub group_at : ℕ → List (List ℕ) → Option Subject
group_at moment words = one_list words >>= λ ids. Some (record { moment = moment; group = Some ids })

-- what follows a moment: nothing, for all nodes, or `group IDS`, for a group of them
abbrev pub subject_at : ℕ → List (List ℕ) → Option Subject
subject_at moment [] = Some (record { moment = moment; group = None })
subject_at moment (group ∷ more) = if same group (codes "group") then group_at moment more else None

-- `M` and `M group IDS`, after the name: a moment, for all nodes or for a group of them
abbrev pub subject_of : List (List ℕ) → Option Subject
subject_of [] = None
subject_of (m ∷ more) = number_within short_bits m >>= λ a. subject_at a more

-- the number of workers, if these words name one, and the words after it: that of `workers W` if they begin with
-- `workers`, otherwise none, and all words are left
abbrev pub workers_named : List (List ℕ) → Option (Option ℕ × List (List ℕ))
workers_named [] = Some (None, [])
workers_named (name ∷ more) =
    if same name (codes "workers")
    then option_map (λ p. (Some p.0, p.1)) (workers_first more)
    else Some (None, name ∷ more)

-- the number of workers of an analysis: the one that is named, or else one
abbrev pub workers_or_one : Option ℕ → ℕ
workers_or_one None = 1
workers_or_one (Some workers) = workers

-- `M`, `M workers W`, `M group IDS` and `M workers W group IDS`, after the name: what is analysed, and by how many
-- workers, if a number is named
abbrev pub analysis_of : List (List ℕ) → Option Statement
analysis_of [] = None
analysis_of (m ∷ more) =
    number_within short_bits m >>= λ a. workers_named more >>= λ p.
    option_map (λ s. says.Analyse s p.0) (subject_at a p.1)

-- `broadcast N TEXT`, of which this is left after the name: the payload is all that follows the one space after the
-- node, and nothing if no space follows the node
abbrev pub broadcast_of : List ℕ → List (List ℕ) → Option Event
broadcast_of text [] = None
broadcast_of text (n ∷ more) =
    number_within short_bits n >>= λ a. Some (event.Broadcast a (without_space (behind_word text)))

-- a line without a further word says this
abbrev pub alone : {A : Type 0} → A → List (List ℕ) → Option A
alone x words = if length words == 0 then Some x else None

-- the lines that set something for lines after them, by their names: what they say with these words after the name
abbrev pub setting_rows : List (List ℕ) → List (List ℕ × Option Statement)
setting_rows words =
    (codes "params", option_map says.Params (seven_numbers words))
    ∷ (codes "seed", option_map says.Seed (one long_bits words))
    ∷ (codes "refill", option_map says.Refill (one_rule words))
    ∷ (codes "scale", option_map says.Scale (one_scale words))
    ∷ (codes "words", option_map says.Words (event_words words))
    ∷ []

-- the events, by the names of their lines: what they are with this text, and these words, after the name. For
-- `broadcast` the text counts, and for all others only the words
abbrev pub event_rows : List ℕ → List (List ℕ) → List (List ℕ × Option Statement)
event_rows text words =
    (codes "boot", option_map says.Event (boot_of words))
    ∷ (codes "deliver", option_map (λ n. says.Event (event.Deliver n)) (one short_bits words))
    ∷ (codes "lose", option_map (λ n. says.Event (event.Lose n)) (one short_bits words))
    ∷ (codes "repeat", option_map (λ n. says.Event (event.Repeat n)) (one short_bits words))
    ∷ (codes "crash", option_map (λ n. says.Event (event.Crash n)) (one short_bits words))
    ∷ (codes "report", option_map (λ p. says.Event (crash_report_of p)) (two words))
    ∷ (codes "shuffle", option_map (λ n. says.Event (event.Shuffle n)) (one short_bits words))
    ∷ (codes "broadcast", option_map says.Event (broadcast_of text words))
    ∷ (codes "timer", option_map (λ p. says.Event (timer_of p)) (three words))
    ∷ (codes "snapshot", alone (says.Event event.Snapshot) words)
    ∷ []

-- the analyses and the looks, by the names of their lines: what they are with these words after the name
abbrev pub look_rows : List (List ℕ) → List (List ℕ × Option Statement)
look_rows words =
    (codes "analyse", analysis_of words)
    ∷ (codes "certificate", option_map (λ s. says.Look (look.Certificate s)) (subject_of words))
    ∷ (codes "show", option_map (λ n. says.Look (look.Show n)) (one short_bits words))
    ∷ (codes "packets", alone (says.Look look.Packets) words)
    ∷ []

-- the lines that begin and end sections, by their names: they stand alone
abbrev pub section_rows : List (List ℕ) → List (List ℕ × Option Statement)
section_rows words =
    (codes "together", alone says.Together words)
    ∷ (codes "also", alone says.Also words)
    ∷ (codes "end", alone says.End words)
    ∷ []

-- all lines by their names, in the order in which the names are printed: what they say with this text, and these words,
-- after the name
abbrev pub line_rows : List ℕ → List (List ℕ) → List (List ℕ × Option Statement)
line_rows text words = setting_rows words ++ event_rows text words ++ look_rows words ++ section_rows words

-- the names that a line may begin with, in that order
abbrev pub line_names : List (List ℕ)
line_names = map (λ row. row.0) (line_rows [] [])

-- what a line with these words says
abbrev pub stated : List ℕ → List (List ℕ) → Option Statement
stated line [] = None
stated line (name ∷ words) = row name (line_rows (behind_word line) words) None

-- what a line says, or None if it can't be read
abbrev pub statement_of : List ℕ → Option Statement
statement_of line = stated line (words_of line)

-- a line of a file, with its number, and what it says, or None if it can't be read
abbrev pub ToldLine : Type 0
ToldLine = (ℕ × List ℕ) × Option Statement

-- lines of a file, each with its number, and what each says
abbrev pub told : List (ℕ × List ℕ) → List ToldLine
told lines = map (λ line. (line, statement_of line.1)) lines

-- a line of this number, and what it says, or None if it can't be read
pub record Stated : Type 0 where
  pub number : ℕ
  pub says : Option Statement
