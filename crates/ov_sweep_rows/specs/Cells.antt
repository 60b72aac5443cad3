-- What stands in the columns of a row, and how it is written and read.
use Rattle.std.specs.Prelude.{ℕ, ◌+◌, ◌-◌, ◌*◌, ◌/◌, ◌%◌, Bool, ◌&&◌, ◌==◌, nat_le, nat_lt, if◌then◌else◌}
use Rattle.std.specs.Prelude.{List, [], ◌∷◌, ◌++◌, length, take, drop, codes, decimal, Option, Some, None}
use Rattle.std.specs.Prelude.{get_or, option_map}
use Rattle.ov_ids.specs.Options.{◌>>=◌}
use Rattle.ov_ids.specs.ParamsState.{ParamsState}
use Rattle.ov_ids.specs.RefillNames.{refill_name, refill_named}
use Rattle.ov_lines.specs.Lines.{long_bits, number_within, same}
use Rattle.ov_grow_options.specs.Limits.{most_nodes, most_of_hundred, most_rounds, most_share, most_turns}
use Rattle.ov_grow_options.specs.declared.options.Crash.{Crash}
use Rattle.ov_grow_options.specs.declared.options.Crash.TheVariants as crash
use Rattle.ov_grow_options.specs.declared.options.GrowOptions.{GrowOptions}
use Rattle.ov_grow_options.specs.declared.options.Order.{Order}
use Rattle.ov_grow_options.specs.declared.options.Order.TheVariants as turn
use Rattle.ov_sweep_rows.specs.declared.cell.Cell.{Cell}
use Rattle.ov_sweep_rows.specs.declared.cell.Cell.TheVariants as cell
use Rattle.ov_sweep_rows.specs.declared.delivered_share.DeliveredShare.{DeliveredShare}
use Rattle.ov_sweep_rows.specs.declared.four_decimals.FourDecimals.{FourDecimals}
use Rattle.ov_sweep_rows.specs.declared.row.PhaseRow.{PhaseRow}
use Rattle.ov_sweep_rows.specs.declared.row_fault.FieldForm.{FieldForm}
use Rattle.ov_sweep_rows.specs.declared.row_fault.FieldForm.TheVariants as form
use Rattle.ov_sweep_rows.specs.Rows.{phase_name}

-- ---- cells, and those of groups of columns

-- a number, if there is one
abbrev pub number_cell : Option ℕ → Cell
number_cell None = cell.Empty
number_cell (Some number) = cell.Number number

-- a number with four decimal digits, if there is one
abbrev pub decimals_cell : Option FourDecimals → Cell
decimals_cell None = cell.Empty
decimals_cell (Some number) = cell.Decimals number

-- a delivered share; none without broadcasts
abbrev pub share_cell : Option DeliveredShare → Cell
share_cell None = cell.Empty
share_cell (Some share) = cell.Decimals (record { parts = share.parts })

-- how many of 100 nodes crash, or that the cut does
abbrev pub crash_cell : Crash → Cell
crash_cell (crash.Share share) = cell.Number share
crash_cell crash.Cut = cell.Cut

-- whether an option is asked for: 1 or 0
abbrev pub flag_cell : Bool → Cell
flag_cell asked = cell.Number (if asked then 1 else 0)

-- HyParView's seven parameters
abbrev pub parameter_cells : ParamsState → List Cell
parameter_cells p =
    cell.Number p.active ∷ cell.Number p.passive ∷ cell.Number p.arwl ∷ cell.Number p.prwl ∷ cell.Number p.ka
    ∷ cell.Number p.kp ∷ cell.Number p.shuffle_ttl ∷ []

-- the options of a run but the further ones and its seed
abbrev pub setting_cells : GrowOptions → List Cell
setting_cells o =
    cell.Number o.nodes
    ∷ (parameter_cells o.params
    ++ (cell.Refill o.params.refill ∷ cell.Number o.loss_join ∷ cell.Number o.loss ∷ cell.Number o.repeat
    ∷ cell.Order o.order ∷ number_cell o.pace ∷ cell.Number o.rounds ∷ crash_cell o.crash ∷ cell.Number o.heal
    ∷ cell.Number o.broadcasts ∷ []))

-- the further options
abbrev pub further_cells : GrowOptions → List Cell
further_cells o = flag_cell o.sequential ∷ number_cell o.sender ∷ flag_cell o.detect ∷ []

-- what a run came to after a phase
abbrev pub phase_cells : PhaseRow → List Cell
phase_cells p =
    cell.Number p.nodes ∷ cell.Number p.k ∷ cell.Number p.least_degree ∷ cell.Number p.links ∷ cell.Number p.entries
    ∷ share_cell p.delivered ∷ []

-- the cell at a place, counted from 0; nothing behind the last
abbrev pub cell_at : List Cell → ℕ → Cell
cell_at cells place = get_or cells place cell.Empty

-- ---- how a cell is written

-- the word for whose turn is next
abbrev pub order_name : Order → List ℕ
order_name turn.Random = codes "random"
order_name turn.Oldest = codes "oldest"

-- so many parts of 10,000: the number, a point and four digits behind it
abbrev pub decimals_text : ℕ → List ℕ
decimals_text parts =
    decimal (parts / 10000)
    ++ (codes "."
    ++ (decimal (parts / 1000 % 10)
    ++ (decimal (parts / 100 % 10) ++ (decimal (parts / 10 % 10) ++ decimal (parts % 10)))))

-- the text of a cell
abbrev pub cell_text : Cell → List ℕ
cell_text cell.Empty = []
cell_text (cell.Number number) = decimal number
cell_text (cell.Decimals number) = decimals_text number.parts
cell_text (cell.Refill rule) = refill_name rule
cell_text (cell.Order order) = order_name order
cell_text cell.Cut = codes "cut"
cell_text (cell.Phase p) = phase_name p

-- ---- how a text is read

-- the number that the text spells, if it has these limits
abbrev pub number_between : ℕ → ℕ → List ℕ → Option Cell
number_between least most text =
    number_within long_bits text >>= λ n. if nat_le least n && nat_le n most then Some (cell.Number n) else None

-- the largest number of 32 bits
abbrev pub most_short : ℕ
most_short = 4294967295

-- the largest number of 64 bits
abbrev pub most_long : ℕ
most_long = 18446744073709551615

-- the sum, if 64 bits count it
abbrev pub fitting : ℕ → Option ℕ
fitting parts = if nat_le parts most_long then Some parts else None

-- so many parts of 10,000: what the text in front of the point spells, and what the four digits behind it spell
abbrev pub parts_of_texts : List ℕ → List ℕ → Option ℕ
parts_of_texts front digits =
    number_within long_bits front >>= λ ones. number_within long_bits digits >>= λ rest. fitting (ones * 10000 + rest)

-- the same of a text that is cut in front of its point
abbrev pub parts_of_cut : List ℕ → List ℕ → Option ℕ
parts_of_cut front [] = None
parts_of_cut front (point ∷ digits) = if point == 46 then parts_of_texts front digits else None

-- the parts of 10,000 that a text spells, if 64 bits count them: a number, a point, and four digits behind it
unfoldable pub parts_in : List ℕ → Option ℕ
parts_in text =
    if nat_lt 4 (length text) then parts_of_cut (take (length text - 5) text) (drop (length text - 5) text) else None

-- the number with four decimal digits that a text spells
abbrev pub decimals_in : List ℕ → Option Cell
decimals_in text = option_map (λ parts. cell.Decimals (record { parts = parts })) (parts_in text)

-- what is read of a text, which may be empty
abbrev pub or_nothing : (List ℕ → Option Cell) → List ℕ → Option Cell
or_nothing read [] = Some cell.Empty
or_nothing read (byte ∷ more) = read (byte ∷ more)

-- whose turn is next
abbrev pub order_in : List ℕ → Option Cell
order_in text =
    if same text (codes "random") then Some (cell.Order turn.Random)
    else if same text (codes "oldest") then Some (cell.Order turn.Oldest)
    else None

-- how many of 100 nodes crash, or that the cut does
abbrev pub crash_in : List ℕ → Option Cell
crash_in text = if same text (codes "cut") then Some cell.Cut else number_between 0 most_share text

-- whether an option is asked for
abbrev pub flag_in : List ℕ → Option Cell
flag_in text =
    if same text (codes "0") then Some (cell.Number 0)
    else if same text (codes "1") then Some (cell.Number 1)
    else None

-- what a column that takes this form reads in a text; None if the text is not of the form
abbrev pub read_as : FieldForm → List ℕ → Option Cell
read_as form.Nodes text = number_between 1 most_nodes text
read_as form.Params text = number_between 0 most_short text
read_as form.Refill text = option_map cell.Refill (refill_named text)
read_as form.Chance text = number_between 0 most_of_hundred text
read_as form.Share text = number_between 0 most_share text
read_as form.Order text = order_in text
read_as form.Pace text = or_nothing (number_between 0 most_turns) text
read_as form.Count text = number_between 0 most_rounds text
read_as form.Crash text = crash_in text
read_as form.Seed text = number_between 0 most_long text
read_as form.Number text = number_between 0 most_short text
read_as form.Decimals text = decimals_in text
read_as form.DecimalsOrNothing text = or_nothing decimals_in text
read_as form.Flag text = flag_in text
read_as form.Sender text = or_nothing (number_between 1 most_nodes) text

-- the cells that columns of these forms read in the fields of a record: one in each, and no field is left
unfoldable pub cells_read : List FieldForm → List (List ℕ) → Option (List Cell)
cells_read [] [] = Some []
cells_read [] (text ∷ texts) = None
cells_read (takes ∷ more) [] = None
cells_read (takes ∷ more) (text ∷ texts) =
    read_as takes text >>= λ first. cells_read more texts >>= λ others. Some (first ∷ others)
