-- What a column reads is what it takes.
use Rattle.std.proofs.Common.{◌≡◌, ◌&&◌, ℕ, suc, Bool, true, false, if◌then◌else◌, nat_le, List, [], ◌∷◌}
use Rattle.std.proofs.Common.{Option, Some, None, refl, ap, subst, arith}
use Rattle.std.specs.Prelude.{codes, option_map, unwrap_or}
use Rattle.std.proofs.lemmas.Bool.{and_parts, leb-true}
use Rattle.ov_ids.specs.Options.{◌>>=◌}
use Rattle.ov_ids.specs.RefillNames.{refill_named}
use Rattle.ov_ids.specs.declared.refill_rule.Refill.{Refill}
use Rattle.ov_lines.specs.Lines.{long_bits, number_within, same}
use Rattle.ov_grow_options.specs.Limits.{most_nodes, most_of_hundred, most_rounds, most_share, most_turns}
use Rattle.ov_grow_options.specs.declared.options.Order.TheVariants as turn
use Rattle.ov_sweep_rows.specs.declared.cell.Cell.{Cell}
use Rattle.ov_sweep_rows.specs.declared.cell.Cell.TheVariants as cell
use Rattle.ov_sweep_rows.specs.declared.row_fault.FieldForm.{FieldForm}
use Rattle.ov_sweep_rows.specs.declared.row_fault.FieldForm.TheVariants as form
use Rattle.ov_sweep_rows.specs.Cells.{cells_read, decimals_in, most_long, most_short, number_between}
use Rattle.ov_sweep_rows.specs.Cells.{or_nothing, parts_in, read_as}
use Rattle.ov_sweep_rows.specs.Code.Taking.{IsBetween, IsBetweenOrNothing, IsCrash, IsDecimals, IsDecimalsOrNothing}
use Rattle.ov_sweep_rows.specs.Code.Taking.{IsOrder, IsRefill, TakeFrom, Takes}
use Rattle.ov_sweep_rows.proofs.CellByCell.{first_read, too_few}

-- the cell that an option has
one_cell : (IsSo : Cell → Type 0) (a c : Cell) → Some a ≡ Some c → IsSo a → IsSo c
one_cell IsSo a c is so = subst IsSo (ap (λ o. unwrap_or o c) is) so

tested : (least most n : ℕ) (c : Cell) (t : Bool) → (nat_le least n && nat_le n most) ≡ t
    → (if t then Some (cell.Number n) else None) ≡ Some c → IsBetween least most c
tested least most n c true e is =
    let both = and_parts (nat_le least n) (nat_le n most) e in
    one_cell (IsBetween least most) (cell.Number n) c is (leb-true least n both.0, leb-true n most both.1)
tested least most n c false e is = cc is

between_of : (least most : ℕ) (c : Cell) (o : Option ℕ)
    → (o >>= λ n. if nat_le least n && nat_le n most then Some (cell.Number n) else None) ≡ Some c
    → IsBetween least most c
between_of least most c None is = cc is
between_of least most c (Some n) is = tested least most n c (nat_le least n && nat_le n most) refl is

between : (least most : ℕ) (text : List ℕ) (c : Cell) → number_between least most text ≡ Some c → IsBetween least most c
between least most text c is = between_of least most c (number_within long_bits text) is

or_none : (least most : ℕ) (c : Cell) → IsBetween least most c → IsBetweenOrNothing least most c
or_none least most (cell.Number n) is = is
or_none least most cell.Empty is = absurd is
or_none least most (cell.Decimals d) is = absurd is
or_none least most (cell.Refill r) is = absurd is
or_none least most (cell.Order o) is = absurd is
or_none least most cell.Cut is = absurd is
or_none least most (cell.Phase p) is = absurd is

between_or_none : (least most : ℕ) (text : List ℕ) (c : Cell) → or_nothing (number_between least most) text ≡ Some c
    → IsBetweenOrNothing least most c
between_or_none least most [] c is = one_cell (IsBetweenOrNothing least most) cell.Empty c is tt
between_or_none least most (b ∷ text) c is = or_none least most c (between least most (b ∷ text) c is)

decimals_of : (c : Cell) (o : Option ℕ) → option_map (λ parts. cell.Decimals (record { parts = parts })) o ≡ Some c
    → IsDecimals c
decimals_of c None is = cc is
decimals_of c (Some n) is = one_cell IsDecimals (cell.Decimals (record { parts = n })) c is tt

or_no_decimals : (c : Cell) → IsDecimals c → IsDecimalsOrNothing c
or_no_decimals (cell.Decimals d) is = is
or_no_decimals (cell.Number n) is = absurd is
or_no_decimals cell.Empty is = absurd is
or_no_decimals (cell.Refill r) is = absurd is
or_no_decimals (cell.Order o) is = absurd is
or_no_decimals cell.Cut is = absurd is
or_no_decimals (cell.Phase p) is = absurd is

decimals_or_none : (text : List ℕ) (c : Cell) → or_nothing decimals_in text ≡ Some c → IsDecimalsOrNothing c
decimals_or_none [] c is = one_cell IsDecimalsOrNothing cell.Empty c is tt
decimals_or_none (b ∷ text) c is = or_no_decimals c (decimals_of c (parts_in (b ∷ text)) is)

refill_of : (c : Cell) (o : Option Refill) → option_map cell.Refill o ≡ Some c → IsRefill c
refill_of c None is = cc is
refill_of c (Some r) is = one_cell IsRefill (cell.Refill r) c is tt

order_of : (c : Cell) (s t : Bool)
    → (if s then Some (cell.Order turn.Random) else if t then Some (cell.Order turn.Oldest) else None) ≡ Some c
    → IsOrder c
order_of c true t is = one_cell IsOrder (cell.Order turn.Random) c is tt
order_of c false true is = one_cell IsOrder (cell.Order turn.Oldest) c is tt
order_of c false false is = cc is

crashing : (c : Cell) → IsBetween 0 most_share c → IsCrash c
crashing (cell.Number n) is = is
crashing cell.Empty is = absurd is
crashing (cell.Decimals d) is = absurd is
crashing (cell.Refill r) is = absurd is
crashing (cell.Order o) is = absurd is
crashing cell.Cut is = absurd is
crashing (cell.Phase p) is = absurd is

crash_of : (c : Cell) (text : List ℕ) (s : Bool)
    → (if s then Some cell.Cut else number_between 0 most_share text) ≡ Some c → IsCrash c
crash_of c text true is = one_cell IsCrash cell.Cut c is tt
crash_of c text false is = crashing c (between 0 most_share text c is)

flag_of : (c : Cell) (s t : Bool)
    → (if s then Some (cell.Number 0) else if t then Some (cell.Number 1) else None) ≡ Some c → IsBetween 0 1 c
flag_of c true t is = one_cell (IsBetween 0 1) (cell.Number 0) c is (omega arith, omega arith)
flag_of c false true is = one_cell (IsBetween 0 1) (cell.Number 1) c is (omega arith, omega arith)
flag_of c false false is = cc is

-- what a column reads, it takes
took : (takes : FieldForm) (text : List ℕ) (c : Cell) → read_as takes text ≡ Some c → Takes takes c
took form.Nodes text c is = between 1 most_nodes text c is
took form.Params text c is = between 0 most_short text c is
took form.Refill text c is = refill_of c (refill_named text) is
took form.Chance text c is = between 0 most_of_hundred text c is
took form.Share text c is = between 0 most_share text c is
took form.Order text c is = order_of c (same text (codes "random")) (same text (codes "oldest")) is
took form.Pace text c is = between_or_none 0 most_turns text c is
took form.Count text c is = between 0 most_rounds text c is
took form.Crash text c is = crash_of c text (same text (codes "cut")) is
took form.Seed text c is = between 0 most_long text c is
took form.Number text c is = between 0 most_short text c is
took form.Decimals text c is = decimals_of c (parts_in text) is
took form.DecimalsOrNothing text c is = decimals_or_none text c is
took form.Flag text c is = flag_of c (same text (codes "0")) (same text (codes "1")) is
took form.Sender text c is = between_or_none 1 most_nodes text c is

-- one cell in front
behind : (c : Cell) (cs : List Cell) (k : ℕ) (xs : List FieldForm) → TakeFrom cs k xs → TakeFrom (c ∷ cs) (suc k) xs
behind c cs k [] all = tt
behind c cs k (x ∷ xs) all = (all.0, behind c cs (suc k) xs all.1)

-- what columns read, they take
pub all_took : (takes : List FieldForm) (texts : List (List ℕ)) (cs : List Cell) → cells_read takes texts ≡ Some cs
    → TakeFrom cs 0 takes
all_took [] texts cs is = tt
all_took (f ∷ takes) [] cs is = absurd (too_few f takes cs is)
all_took (f ∷ takes) (t ∷ texts) cs is =
    let (c, es, first, rest, all) = first_read f takes t texts cs is in
    subst (λ (ds : List Cell). TakeFrom ds 0 (f ∷ takes)) all
    (took f t c first, behind c es 0 takes (all_took takes texts es rest))
