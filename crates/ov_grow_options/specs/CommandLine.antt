-- The command that grows an overlay with given options.
use Rattle.std.specs.Prelude.{ℕ, Bool, false, List, [], ◌∷◌, ◌++◌, Option, Some, None, codes, decimal, option_map}
use Rattle.std.specs.Prelude.{if◌then◌else◌, not, ◌&&◌}
use Rattle.std.specs.List.{filter}
use Rattle.std.specs.Str.{bytes_eq}
use Rattle.ov_ids.specs.RefillNames.{refill_name}
use Rattle.ov_grow_options.specs.Options.{default_options}
use Rattle.ov_grow_options.specs.declared.option_table.OptionRow.{OptionRow}
use Rattle.ov_grow_options.specs.declared.options.GrowOptions.{GrowOptions}
use Rattle.ov_grow_options.specs.declared.options.Order.{Order}
use Rattle.ov_grow_options.specs.declared.options.Order.TheVariants.{Random, Oldest}
use Rattle.ov_grow_options.specs.declared.options.Crash.{Crash}
use Rattle.ov_grow_options.specs.declared.options.Crash.TheVariants.{Share, Cut}
use Rattle.ov_grow_options.specs.declared.options_as_command.Shown.{Shown}
use Rattle.ov_grow_options.specs.declared.options_as_command.Shown.TheVariants.{Nothing, Name, Number, Rule, Turn}

-- the word for whose turn is next
abbrev pub order_name : Order → List ℕ
order_name Random = codes "random"
order_name Oldest = codes "oldest"

-- an option without a text is given by its name
abbrev pub flag_value : Bool → Shown
flag_value asked = if asked then Name else Nothing

-- a number that may be left out
abbrev pub number_value : Option ℕ → Shown
number_value None = Nothing
number_value (Some number) = Number number

-- how many of 100 nodes crash: `--crash N`
abbrev pub share_value : Crash → Shown
share_value (Share share) = Number share
share_value Cut = Nothing

-- whether the nodes of the cut crash: `--crash-cut`
abbrev pub cut_value : Crash → Shown
cut_value (Share share) = Nothing
cut_value Cut = Name

-- the value of each option, in the order of their table
abbrev pub option_values : GrowOptions → List Shown
option_values o =
    Number o.nodes ∷ Number o.params.active ∷ Number o.params.passive ∷ Number o.params.arwl ∷ Number o.params.prwl
    ∷ Number o.params.ka ∷ Number o.params.kp ∷ Number o.params.shuffle_ttl ∷ Rule o.params.refill ∷ Number o.seed
    ∷ Number o.loss_join ∷ Number o.loss ∷ Number o.repeat ∷ Turn o.order ∷ number_value o.pace ∷ Number o.rounds
    ∷ share_value o.crash ∷ cut_value o.crash ∷ Number o.heal ∷ Number o.broadcasts ∷ flag_value o.sequential
    ∷ number_value o.sender ∷ flag_value o.detect ∷ []

-- an option's name, and the text of its default, if it has one
abbrev pub NamedOption : Type 0
NamedOption = List ℕ × Option (List ℕ)

-- the names of the options of growing, in the order of their table
abbrev pub option_names : List (List ℕ)
option_names =
    codes "nodes" ∷ codes "active" ∷ codes "passive" ∷ codes "arwl" ∷ codes "prwl" ∷ codes "ka" ∷ codes "kp"
    ∷ codes "ttl" ∷ codes "refill" ∷ codes "seed" ∷ codes "loss-join" ∷ codes "loss" ∷ codes "repeat" ∷ codes "order"
    ∷ codes "pace" ∷ codes "rounds" ∷ codes "crash" ∷ codes "crash-cut" ∷ codes "heal" ∷ codes "broadcasts"
    ∷ codes "sequential" ∷ codes "sender" ∷ codes "detect" ∷ []

-- the text of a value, if it has one
abbrev pub text_of_value : Shown → Option (List ℕ)
text_of_value Nothing = None
text_of_value Name = None
text_of_value (Number number) = Some (decimal number)
text_of_value (Rule rule) = Some (refill_name rule)
text_of_value (Turn order) = Some (order_name order)

-- options of these names, whose defaults are these values, one for each
unfoldable pub options_named : List (List ℕ) → List Shown → List NamedOption
options_named [] values = []
options_named (name ∷ names) [] = []
options_named (name ∷ names) (value ∷ values) = (name, text_of_value value) ∷ options_named names values

-- the options of growing, in the order of their table
abbrev pub named_options : List NamedOption
named_options = options_named option_names (option_values default_options)

-- the option of this name tells settings of a sweep apart: each does but the seed, and `--crash-cut`, which is a value
-- of `--crash`
abbrev pub is_of_setting : List ℕ → Bool
is_of_setting name = not (bytes_eq name (codes "seed")) && not (bytes_eq name (codes "crash-cut"))

-- the names of the options that tell settings apart, in the order of their table
abbrev pub setting_names : List (List ℕ)
setting_names = filter is_of_setting option_names

-- what a row of the table says of both
abbrev pub name_and_default : OptionRow → NamedOption
name_and_default row = (row.name.now, option_map (λ usual. usual.now) row.usual)

-- a text is this default, if there is one
abbrev pub is_default : Option (List ℕ) → List ℕ → Bool
is_default None text = false
is_default (Some usual) text = bytes_eq usual text

-- an option with a text: it is not said at its default
abbrev pub text_option : NamedOption → List ℕ → List ℕ
text_option option text =
    if is_default option.1 text then [] else (codes " --" ++ (option.0 ++ (codes " " ++ text)))

-- an option with a value
abbrev pub shown_option : NamedOption → Shown → List ℕ
shown_option option Nothing = []
shown_option option Name = codes " --" ++ option.0
shown_option option (Number number) = text_option option (decimal number)
shown_option option (Rule rule) = text_option option (refill_name rule)
shown_option option (Turn order) = text_option option (order_name order)

-- options with their values, one for each
unfoldable pub shown_options : List NamedOption → List Shown → List ℕ
shown_options [] values = []
shown_options (option ∷ options) [] = []
shown_options (option ∷ options) (value ∷ values) = shown_option option value ++ shown_options options values

-- the command: each option that is not at its default, in the order of their table
abbrev pub command_line : GrowOptions → List ℕ
command_line o = codes "overlay grow" ++ shown_options named_options (option_values o)
