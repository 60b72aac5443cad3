-- What a table says, whose cells count only by its stamp.
use Rattle.std.proofs.Common.{◌≡◌, ◌≢◌, ◌∙◌, ℕ, ◌<◌, List, map, set, get_or, cond, Bool, Option, Some, None, refl}
use Rattle.std.proofs.Common.{sym, ap, eq-eqb, ne_eqb, arith}
use Rattle.std.proofs.lemmas.List.{map-set}
use Rattle.std.proofs.Math.ListN.{get_or-map}
use Rattle.ov_flow.specs.declared.place_table.Cell.{Cell}
use Rattle.ov_flow.specs.Code.Stamped.{said_by, AreStamped}
use Rattle.ov_flow.specs.Code.Walked.{table_of}

-- a cell with the stamp of the table says its place
pub said_own : (stamp before : ℕ) → said_by stamp (record { stamp = stamp; before = before }) ≡ Some before
said_own stamp before = ap (λ (b : Bool). cond b (Some before) None) (eq-eqb stamp stamp refl)

-- a cell with another stamp says none
pub said_none : (stamp : ℕ) (cell : Cell) → cell.stamp ≢ stamp → said_by stamp cell ≡ None
said_none stamp cell other = ap (λ (b : Bool). cond b (Some cell.before) None) (ne_eqb cell.stamp stamp other)

-- one cell is written
pub said_set : (stamp : ℕ) (cells : List Cell) (v : ℕ) (cell : Cell) (says : Option ℕ) → said_by stamp cell ≡ says
    → map (said_by stamp) (set cells v cell) ≡ set (map (said_by stamp) cells) v says
said_set stamp cells v cell says is =
    map-set (said_by stamp) cells v cell ∙ ap (λ (o : Option ℕ). set (map (said_by stamp) cells) v o) is

-- a later stamp is that of no cell
pub none_said : (stamp last : ℕ) (cells : List Cell) → AreStamped last cells → last < stamp → (v : ℕ)
    → table_of (map (said_by stamp) cells) v ≡ None
none_said stamp last cells stamped later v =
    let blank : Cell = record { stamp = 0; before = 0 } in
    let at = stamped v in
    ap (λ (o : Option ℕ). get_or (map (said_by stamp) cells) v o)
    (sym (said_none stamp blank (λ e. omega (arith, e, later))))
    ∙ get_or-map (said_by stamp) cells v blank
    ∙ said_none stamp (get_or cells v blank) (λ e. omega (arith, e, at, later))
