-- A text says the rows of one list alone.
use Rattle.std.proofs.Common.{◌≡◌, ◌∙◌, ℕ, Bool, true, false, List, [], ◌∷◌, ◌++◌}
use Rattle.std.proofs.Common.{length, drop, Option, Some, None, refl, sym, ap, ap₂, subst, arith}
use Rattle.std.proofs.lemmas.List.{length-append}
use Rattle.std.specs.Prelude.{codes, get_or, nat_eq, unwrap_or}
use Rattle.std.specs.List.{filter, list_any}
use Rattle.std.specs.Cmp.Lexicographic.{pointwise}
use Rattle.csv.specs.Machine.{next_record}
use Rattle.csv.specs.Reading.{Reached, default_config, strip_bom}
use Rattle.csv.specs.declared.parser.Config.{Config}
use Rattle.csv.specs.declared.parser.State.{State}
use Rattle.csv.specs.declared.parser.State.TheVariants as st
use Rattle.ov_ids.specs.declared.refill_rule.Refill.{Refill}
use Rattle.ov_ids.specs.declared.refill_rule.Refill.TheVariants as rule
use Rattle.ov_grow_options.specs.declared.options.Crash.{Crash}
use Rattle.ov_grow_options.specs.declared.options.Crash.TheVariants as crash
use Rattle.ov_grow_options.specs.declared.options.GrowOptions.{GrowOptions}
use Rattle.ov_grow_options.specs.declared.options.Order.{Order}
use Rattle.ov_grow_options.specs.declared.options.Order.TheVariants as turn
use Rattle.ov_sweep_rows.specs.declared.cell.Cell.{Cell}
use Rattle.ov_sweep_rows.specs.declared.cell.Cell.TheVariants as cell
use Rattle.ov_sweep_rows.specs.declared.phase_costs.PhaseCosts.{PhaseCosts}
use Rattle.ov_sweep_rows.specs.declared.phase_shape.PhaseShape.{PhaseShape}
use Rattle.ov_sweep_rows.specs.declared.delivered_share.DeliveredShare.{DeliveredShare}
use Rattle.ov_sweep_rows.specs.declared.four_decimals.FourDecimals.{FourDecimals}
use Rattle.ov_sweep_rows.specs.declared.row.PhaseRow.{PhaseRow}
use Rattle.ov_sweep_rows.specs.declared.row.Row.{Row}
use Rattle.ov_sweep_rows.specs.declared.row_form.RowForm.{RowForm}
use Rattle.ov_sweep_rows.specs.Cells.{crash_cell, decimals_cell, flag_cell, further_cells}
use Rattle.ov_sweep_rows.specs.RowCells.{cells}
use Rattle.ov_sweep_rows.specs.PhaseCosts.{cost_cells}
use Rattle.ov_sweep_rows.specs.Cells.{number_cell, phase_cells, setting_cells, share_cell}
use Rattle.ov_sweep_rows.specs.PhaseShape.{shape_cells}
use Rattle.ov_sweep_rows.specs.Columns.{columns, if_asked}
use Rattle.ov_sweep_rows.specs.Fields.{HasNoMore, SayRow}
use Rattle.ov_sweep_rows.specs.Reading.{AreRowsOf, SayRows, is_no_header}
use Rattle.ov_sweep_rows.proofs.Forms.{form_of}
use Rattle.ov_sweep_rows.proofs.Rebuilding.{costs_long, row_of, shape_long}

-- ---- one value of each cell

-- what a cell has
abbrev number_in : Cell → ℕ
number_in (cell.Number n) = n
number_in other = 0

abbrev parts_of : Cell → ℕ
parts_of (cell.Decimals d) = d.parts
parts_of other = 0

abbrev rule_in : Cell → Refill
rule_in (cell.Refill r) = r
rule_in other = rule.Never

abbrev turn_in : Cell → Order
turn_in (cell.Order o) = o
turn_in other = turn.Random

-- the number in the cell at a place
abbrev number_at : ℕ → List Cell → ℕ
number_at k cs = number_in (get_or cs k cell.Empty)

one_number : (a b : Option ℕ) → number_cell a ≡ number_cell b → a ≡ b
one_number None None e = refl
one_number None (Some n) e = cc e
one_number (Some n) None e = cc e
one_number (Some m) (Some n) e = ap (λ c. Some (number_in c)) e

one_crash : (a b : Crash) → crash_cell a ≡ crash_cell b → a ≡ b
one_crash crash.Cut crash.Cut e = refl
one_crash crash.Cut (crash.Share n) e = cc e
one_crash (crash.Share n) crash.Cut e = cc e
one_crash (crash.Share m) (crash.Share n) e = ap (λ c. crash.Share (number_in c)) e

one_flag : (a b : Bool) → flag_cell a ≡ flag_cell b → a ≡ b
one_flag true true e = refl
one_flag false false e = refl
one_flag true false e = cc e
one_flag false true e = cc e

one_decimals : (a b : Option FourDecimals) → decimals_cell a ≡ decimals_cell b → a ≡ b
one_decimals None None e = refl
one_decimals None (Some n) e = cc e
one_decimals (Some n) None e = cc e
one_decimals (Some m) (Some n) e = ap (λ c. Some (record { parts = parts_of c })) e

one_share : (a b : Option DeliveredShare) → share_cell a ≡ share_cell b → a ≡ b
one_share None None e = refl
one_share None (Some n) e = cc e
one_share (Some n) None e = cc e
one_share (Some m) (Some n) e = ap (λ c. Some (record { parts = parts_of c })) e

one_costs : (a b : Option PhaseCosts) → cost_cells a ≡ cost_cells b → a ≡ b
one_costs None None e = refl
one_costs None (Some n) e = cc (ap (λ cs. get_or cs 0 cell.Empty) e)
one_costs (Some n) None e = cc (ap (λ cs. get_or cs 0 cell.Empty) e)
one_costs (Some m) (Some n) e =
    let hops = one_decimals m.hops n.hops (ap (λ cs. get_or cs 4 cell.Empty) e) in
    let redundancy = one_decimals m.redundancy n.redundancy (ap (λ cs. get_or cs 5 cell.Empty) e) in
    λ i. Some (record {
      gossip = ap (number_at 0) e i;
      ihave = ap (number_at 1) e i;
      graft = ap (number_at 2) e i;
      prune = ap (number_at 3) e i;
      hops = hops i;
      redundancy = redundancy i;
    })

one_shape : (a b : Option PhaseShape) → shape_cells a ≡ shape_cells b → a ≡ b
one_shape None None e = refl
one_shape None (Some n) e = cc (ap (λ cs. get_or cs 0 cell.Empty) e)
one_shape (Some n) None e = cc (ap (λ cs. get_or cs 0 cell.Empty) e)
one_shape (Some m) (Some n) e =
    let path = one_decimals m.path n.path (ap (λ cs. get_or cs 2 cell.Empty) e) in
    λ i. Some (record {
      largest = ap (number_at 0) e i;
      clustering = record { parts = ap (λ cs. parts_of (get_or cs 1 cell.Empty)) e i };
      path = path i;
      diameter = ap (number_at 3) e i;
      degree_25 = ap (number_at 4) e i;
      degree_50 = ap (number_at 5) e i;
      degree_75 = ap (number_at 6) e i;
      articulations = ap (number_at 7) e i;
    })

one_phase : (a b : PhaseRow) → phase_cells a ≡ phase_cells b → a.costs ≡ b.costs → a.shape ≡ b.shape → a ≡ b
one_phase a b e costs shape =
    let delivered = one_share a.delivered b.delivered (ap (λ cs. get_or cs 5 cell.Empty) e) in
    λ i. record {
      nodes = ap (number_at 0) e i;
      k = ap (number_at 1) e i;
      least_degree = ap (number_at 2) e i;
      links = ap (number_at 3) e i;
      entries = ap (number_at 4) e i;
      delivered = delivered i;
      costs = costs i;
      shape = shape i;
    }

one_options : (o p : GrowOptions)
    → setting_cells o ++ (cell.Number o.seed ∷ []) ≡ setting_cells p ++ (cell.Number p.seed ∷ [])
    → o.params.scale ≡ p.params.scale → o.sequential ≡ p.sequential → o.sender ≡ p.sender → o.detect ≡ p.detect
    → o ≡ p
one_options o p e scale sequential sender detect =
    let pace = one_number o.pace p.pace (ap (λ cs. get_or cs 13 cell.Empty) e) in
    let crash = one_crash o.crash p.crash (ap (λ cs. get_or cs 15 cell.Empty) e) in
    let params : o.params ≡ p.params = λ i. record {
      active = ap (number_at 1) e i;
      passive = ap (number_at 2) e i;
      arwl = ap (number_at 3) e i;
      prwl = ap (number_at 4) e i;
      ka = ap (number_at 5) e i;
      kp = ap (number_at 6) e i;
      shuffle_ttl = ap (number_at 7) e i;
      refill = ap (λ cs. rule_in (get_or cs 8 cell.Empty)) e i;
      scale = scale i;
    } in
    λ i. record {
      nodes = ap (number_at 0) e i;
      params = params i;
      seed = ap (number_at 18) e i;
      loss_join = ap (number_at 9) e i;
      loss = ap (number_at 10) e i;
      repeat = ap (number_at 11) e i;
      order = ap (λ cs. turn_in (get_or cs 12 cell.Empty)) e i;
      pace = pace i;
      rounds = ap (number_at 14) e i;
      crash = crash i;
      heal = ap (number_at 16) e i;
      broadcasts = ap (number_at 17) e i;
      sequential = sequential i;
      sender = sender i;
      detect = detect i;
    }

-- ---- one row of a record

-- two lists of groups are one, group by group
same_front : (xs us ys vs : List Cell) → length xs ≡ length us → xs ++ ys ≡ us ++ vs → (xs ≡ us) × (ys ≡ vs)
same_front [] [] ys vs long e = (refl, e)
same_front [] (u ∷ us) ys vs long e = absurd (omega (arith, long))
same_front (x ∷ xs) [] ys vs long e = absurd (omega (arith, long))
same_front (x ∷ xs) (u ∷ us) ys vs long e =
    let more = same_front xs us ys vs (omega (arith, long)) (ap (λ l. drop 1 l) e) in
    (ap₂ (λ (a : Cell) (b : List Cell). a ∷ b) (ap (λ l. get_or l 0 x) e) more.0, more.1)

-- a group that may be missing
same_asked : (asked : Bool) (xs us ys vs : List Cell) → length xs ≡ length us
    → if_asked asked xs ++ ys ≡ if_asked asked us ++ vs → (asked ≡ true → xs ≡ us) × (ys ≡ vs)
same_asked true xs us ys vs long e = let both = same_front xs us ys vs long e in (λ asked. both.0, both.1)
same_asked false xs us ys vs long e = (λ never. cc never, e)

same_end : (asked : Bool) (xs us : List Cell) → if_asked asked xs ≡ if_asked asked us → asked ≡ true → xs ≡ us
same_end true xs us e asked = e
same_end false xs us e asked = cc asked

-- what is there, or is missing
either_same : {A : Type 0} (asked : Bool) (a b : Option A) → (asked ≡ true → a ≡ b) → (asked ≡ false → a ≡ None)
    → (asked ≡ false → b ≡ None) → a ≡ b
either_same true a b same first second = same refl
either_same false a b same first second = first refl ∙ sym (second refl)

either_flag : (asked a b : Bool) → (asked ≡ true → a ≡ b) → (asked ≡ false → a ≡ false) → (asked ≡ false → b ≡ false)
    → a ≡ b
either_flag true a b same first second = same refl
either_flag false a b same first second = first refl ∙ sym (second refl)

-- the costs of three phases are one, and their shapes
same_costs : (a b c x y z : Option PhaseCosts)
    → cost_cells a ++ (cost_cells b ++ cost_cells c) ≡ cost_cells x ++ (cost_cells y ++ cost_cells z) → (a ≡ x) ×
    (b ≡ y) × (c ≡ z)
same_costs a b c x y z e =
    let (first, more) = same_front (cost_cells a) (cost_cells x) (cost_cells b ++ cost_cells c)
    (cost_cells y ++ cost_cells z)
    (costs_long a ∙ sym (costs_long x)) e in
    let (second, third) = same_front (cost_cells b) (cost_cells y) (cost_cells c) (cost_cells z)
    (costs_long b ∙ sym (costs_long y)) more in
    (one_costs a x first, one_costs b y second, one_costs c z third)

same_shapes : (a b c x y z : Option PhaseShape)
    → shape_cells a ++ (shape_cells b ++ shape_cells c) ≡ shape_cells x ++ (shape_cells y ++ shape_cells z) →
    (a ≡ x) × (b ≡ y) × (c ≡ z)
same_shapes a b c x y z e =
    let (first, more) = same_front (shape_cells a) (shape_cells x) (shape_cells b ++ shape_cells c)
    (shape_cells y ++ shape_cells z)
    (shape_long a ∙ sym (shape_long x)) e in
    let (second, third) = same_front (shape_cells b) (shape_cells y) (shape_cells c) (shape_cells z)
    (shape_long b ∙ sym (shape_long y)) more in
    (one_shape a x first, one_shape b y second, one_shape c z third)

-- as many cells of three phases
as_long : (a b c x y z : List Cell) → length a ≡ length x → length b ≡ length y → length c ≡ length z
    → length (a ++ (b ++ c)) ≡ length (x ++ (y ++ z))
as_long a b c x y z p q r =
    omega (arith, p, q, r, length-append a (b ++ c), length-append b c, length-append x (y ++ z), length-append y z)

-- two rows of three phases with the same cells are one
same_row : (f : RowForm) (o p : GrowOptions) (a b c x y z : PhaseRow)
    → cells f (row_of o a b c) ≡ cells f (row_of p x y z) → HasNoMore f (row_of o a b c) → HasNoMore f (row_of p x y z)
    → row_of o a b c ≡ row_of p x y z
same_row f o p a b c x y z e first second =
    let costs = cost_cells a.costs ++ (cost_cells b.costs ++ cost_cells c.costs) in
    let prices = cost_cells x.costs ++ (cost_cells y.costs ++ cost_cells z.costs) in
    let shapes = shape_cells a.shape ++ (shape_cells b.shape ++ shape_cells c.shape) in
    let figures = shape_cells x.shape ++ (shape_cells y.shape ++ shape_cells z.shape) in
    let costs_as_long = as_long (cost_cells a.costs) (cost_cells b.costs) (cost_cells c.costs) (cost_cells x.costs)
    (cost_cells y.costs) (cost_cells z.costs) (costs_long a.costs ∙ sym (costs_long x.costs))
    (costs_long b.costs ∙ sym (costs_long y.costs)) (costs_long c.costs ∙ sym (costs_long z.costs)) in
    let tail = if_asked f.costs costs ++ if_asked f.shape shapes in
    let end = if_asked f.costs prices ++ if_asked f.shape figures in
    let (options, e1) = same_front (setting_cells o ++ (cell.Number o.seed ∷ []))
    (setting_cells p ++ (cell.Number p.seed ∷ []))
    (phase_cells a ++ (phase_cells b ++ (phase_cells c ++ (if_asked f.further (further_cells o) ++ tail))))
    (phase_cells x ++ (phase_cells y ++ (phase_cells z ++ (if_asked f.further (further_cells p) ++ end)))) refl e in
    let (settle, e2) = same_front (phase_cells a) (phase_cells x)
    (phase_cells b ++ (phase_cells c ++ (if_asked f.further (further_cells o) ++ tail)))
    (phase_cells y ++ (phase_cells z ++ (if_asked f.further (further_cells p) ++ end))) refl e1 in
    let (crash, e3) = same_front (phase_cells b) (phase_cells y)
    (phase_cells c ++ (if_asked f.further (further_cells o) ++ tail))
    (phase_cells z ++ (if_asked f.further (further_cells p) ++ end)) refl e2 in
    let (heal, e4) = same_front (phase_cells c) (phase_cells z) (if_asked f.further (further_cells o) ++ tail)
    (if_asked f.further (further_cells p) ++ end) refl e3 in
    let (more, e5) = same_asked f.further (further_cells o) (further_cells p) tail end refl e4 in
    let (priced, e6) = same_asked f.costs costs prices (if_asked f.shape shapes) (if_asked f.shape figures)
    costs_as_long e5 in
    let shaped = same_end f.shape shapes figures e6 in
    let of_costs : f.costs ≡ true → (a.costs ≡ x.costs) × (b.costs ≡ y.costs) × (c.costs ≡ z.costs) =
    λ t. same_costs a.costs b.costs c.costs x.costs y.costs z.costs (priced t) in
    let of_shapes : f.shape ≡ true → (a.shape ≡ x.shape) × (b.shape ≡ y.shape) × (c.shape ≡ z.shape) =
    λ t. same_shapes a.shape b.shape c.shape x.shape y.shape z.shape (shaped t) in
    let sequential = either_flag f.further o.sequential p.sequential
    (λ t. one_flag o.sequential p.sequential (ap (λ cs. get_or cs 0 cell.Empty) (more t))) first.alone second.alone in
    let sender = either_same f.further o.sender p.sender
    (λ t. one_number o.sender p.sender (ap (λ cs. get_or cs 1 cell.Empty) (more t))) first.chosen second.chosen in
    let detect = either_flag f.further o.detect p.detect
    (λ t. one_flag o.detect p.detect (ap (λ cs. get_or cs 2 cell.Empty) (more t))) first.learned second.learned in
    let same_o = one_options o p options (first.unscaled ∙ sym second.unscaled) sequential sender
    detect in
    let same_a = one_phase a x settle
    (either_same f.costs a.costs x.costs (λ t. (of_costs t).0) (λ t. first.unpriced t 0 a (omega arith))
    (λ t. second.unpriced t 0 x (omega arith)))
    (either_same f.shape a.shape x.shape (λ t. (of_shapes t).0) (λ t. first.shapeless t 0 a (omega arith))
    (λ t. second.shapeless t 0 x (omega arith))) in
    let same_b = one_phase b y crash
    (either_same f.costs b.costs y.costs (λ t. (of_costs t).1) (λ t. first.unpriced t 1 b (omega arith))
    (λ t. second.unpriced t 1 y (omega arith)))
    (either_same f.shape b.shape y.shape (λ t. (of_shapes t).1) (λ t. first.shapeless t 1 b (omega arith))
    (λ t. second.shapeless t 1 y (omega arith))) in
    let same_c = one_phase c z heal
    (either_same f.costs c.costs z.costs (λ t. (of_costs t).2) (λ t. first.unpriced t 2 c (omega arith))
    (λ t. second.unpriced t 2 z (omega arith)))
    (either_same f.shape c.shape z.shape (λ t. (of_shapes t).2) (λ t. first.shapeless t 2 c (omega arith))
    (λ t. second.shapeless t 2 z (omega arith))) in
    λ i. row_of (same_o i) (same_a i) (same_b i) (same_c i)

as_three : (ps : List PhaseRow) → length ps ≡ 3
    → (a : PhaseRow) × (b : PhaseRow) × (c : PhaseRow) × (ps ≡ a ∷ b ∷ c ∷ [])
as_three [] long = absurd (omega (arith, long))
as_three (a ∷ []) long = absurd (omega (arith, long))
as_three (a ∷ b ∷ []) long = absurd (omega (arith, long))
as_three (a ∷ b ∷ c ∷ []) long = (a, b, c, refl)
as_three (a ∷ b ∷ c ∷ d ∷ more) long = absurd (omega (arith, long))

-- a record says one row
pub one_row : (f : RowForm) (fields : List (List ℕ)) (r s : Row) → SayRow f fields r → SayRow f fields s → r ≡ s
one_row f fields r s says told =
    let (a, b, c, ps) = as_three r.phases says.three in
    let (x, y, z, qs) = as_three s.phases told.three in
    let left : r ≡ row_of r.options a b c = λ i. record { options = r.options; phases = ps i } in
    let right : s ≡ row_of s.options x y z = λ i. record { options = s.options; phases = qs i } in
    let e : cells f r ≡ cells f s = ap (λ o. unwrap_or o (cells f r)) (sym says.said ∙ told.said) in
    left
    ∙ same_row f r.options s.options a b c x y z (sym (ap (cells f) left) ∙ e ∙ ap (cells f) right)
    (subst (HasNoMore f) left says.no_more) (subst (HasNoMore f) right told.no_more)
    ∙ sym right

-- records say one list of rows
one_rows : (f : RowForm) (records : List (List (List ℕ))) (rows others : List Row) → SayRows f records rows
    → SayRows f records others → rows ≡ others
unfolding SayRows
one_rows f [] [] [] said told = refl
one_rows f [] [] (o ∷ others) said told = absurd told
one_rows f [] (r ∷ rows) others said told = absurd said
one_rows f (t ∷ records) [] others said told = absurd said
one_rows f (t ∷ records) (r ∷ rows) [] said told = absurd told
one_rows f (t ∷ records) (r ∷ rows) (o ∷ others) said told =
    ap₂ (λ (a : Row) (b : List Row). a ∷ b) (one_row f t r o said.0 told.0)
    (one_rows f records rows others said.1 told.1)

-- ---- one list of records of a text

same_records : (cfg : Config) (s a b : State) (xs ys zs : List ℕ) (first second : List (List (List ℕ)))
    → Reached cfg s xs first a ys → next_record cfg a [] [] ys ≡ None → Reached cfg s xs second b zs
    → next_record cfg b [] [] zs ≡ None → first ≡ second
unfolding Reached
same_records cfg s a b xs ys zs [] [] m n p q = refl
same_records cfg s a b xs ys zs [] (r ∷ rs) m n p q =
    cc (sym p.1 ∙ ap₂ (λ (t : State) (us : List ℕ). next_record cfg t [] [] us) m.0 m.1 ∙ n)
same_records cfg s a b xs ys zs (r ∷ rs) [] m n p q =
    cc (sym m.1 ∙ ap₂ (λ (t : State) (us : List ℕ). next_record cfg t [] [] us) p.0 p.1 ∙ q)
same_records cfg s a b xs ys zs (r ∷ rs) (t ∷ ts) m n p q =
    let same : m.0 ≡ p.0 = ap (λ o. unwrap_or o m.0) (sym m.1 ∙ p.1) in
    ap₂ (λ (one : List (List ℕ)) (more : List (List (List ℕ))). one ∷ more) (m.2 ∙ ap (λ k. k.0) same ∙ sym p.2)
    (same_records cfg p.0.1 a b p.0.2 ys zs rs ts
    (subst (λ (k : List (List ℕ) × State × List ℕ). Reached cfg k.1 k.2 rs a ys) same m.3) n p.3 q)

-- a name stands in a header
abbrev has : List ℕ → List (List ℕ) → Bool
has name names = list_any (pointwise nat_eq name) names

-- the form that a header tells
abbrev form_in : List (List ℕ) → RowForm
form_in names =
    form_of (has (codes "sequential") names) (has (codes "settle_gossip") names) (has (codes "settle_largest") names)

form_known : (f : RowForm) → form_in (columns f) ≡ f
form_known f = by f.further f.costs f.shape where
  by : (a b c : Bool) → form_in (columns (form_of a b c)) ≡ form_of a b c
  by false false false = refl
  by false false true = refl
  by false true false = refl
  by false true true = refl
  by true false false = refl
  by true false true = refl
  by true true false = refl
  by true true true = refl

-- a header is that of one form
pub one_form : (f g : RowForm) → columns f ≡ columns g → f ≡ g
one_form f g same = sym (form_known f) ∙ ap form_in same ∙ form_known g

-- a text says the rows of one list alone
pub one_reading : (text : List ℕ) (rows others : List Row) → AreRowsOf text rows → AreRowsOf text others
    → rows ≡ others
one_reading text rows others are also =
    let all = same_records default_config st.StartRecord are.are_all.0 also.are_all.0 (strip_bom text) are.are_all.1
    also.are_all.1 (columns are.form ∷ are.records) (columns also.form ∷ also.records) are.are_all.2 are.are_all.3
    also.are_all.2 also.are_all.3 in
    let headers : columns are.form ≡ columns also.form = ap (λ l. get_or l 0 (columns are.form)) all in
    let same_form : are.form ≡ also.form = one_form are.form also.form headers in
    let same_rest : are.records ≡ also.records = ap (λ l. drop 1 l) all in
    one_rows also.form (filter (is_no_header also.form) also.records) rows others
    (subst (λ (g : RowForm). SayRows g (filter (is_no_header g) also.records) rows) same_form
    (subst (λ (rs : List (List (List ℕ))). SayRows are.form (filter (is_no_header are.form) rs) rows) same_rest
    are.are_said))
    also.are_said
