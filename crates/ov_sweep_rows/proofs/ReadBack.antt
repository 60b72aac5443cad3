-- What columns read in the texts of cells: the cells again.
use Rattle.std.proofs.Common.{◌≡◌, ◌∙◌, ◌<◌, ◌≤◌, ◌+◌, ◌-◌, ◌*◌, ◌/◌, ◌%◌, ◌^◌, ◌&&◌, ℕ, Bool, true, false}
use Rattle.std.proofs.Common.{if◌then◌else◌, nat_le, nat_lt, List, [], ◌∷◌, ◌++◌, length}
use Rattle.std.proofs.Common.{Option, Some, None, option_map, refl, sym, ap, subst, arith}
use Rattle.std.specs.Prelude.{codes, decimal}
use Rattle.std.specs.Str.Parse.{IsNumeral, digits_value}
use Rattle.std.specs.Char.{digit_value}
use Rattle.std.specs.Cmp.Lexicographic.{bytes_decides}
use Rattle.std.proofs.Math.Seq.{take-append_seam, drop-append_seam}
use Rattle.std.proofs.lemmas.Bool.{and_from, le-leb, lt-ltb}
use Rattle.std.proofs.lemmas.Fmt.{decimal_digit, decimal_is_IsNumeral, decimal_nonempty}
use Rattle.std.proofs.lemmas.List.{length-append}
use Rattle.ov_ids.specs.Options.{◌>>=◌}
use Rattle.ov_ids.specs.RefillNames.{refill_name}
use Rattle.ov_ids.specs.declared.refill_rule.Refill.{Refill}
use Rattle.ov_ids.specs.declared.refill_rule.Refill.TheVariants as refill
use Rattle.ov_grow_options.specs.declared.options.Order.{Order}
use Rattle.ov_grow_options.specs.declared.options.Order.TheVariants as turn
use Rattle.ov_lines.specs.Lines.{long_bits, number_within, same}
use Rattle.ov_lines.proofs.Lines.Numerals.{numbered}
use Rattle.ov_lines.proofs.Lines.Written.{numeral_read}
use Rattle.ov_grow_options.specs.Limits.{most_share}
use Rattle.ov_sweep_rows.specs.declared.cell.Cell.{Cell}
use Rattle.ov_sweep_rows.specs.declared.cell.Cell.TheVariants as cell
use Rattle.ov_sweep_rows.specs.declared.row_fault.FieldForm.{FieldForm}
use Rattle.ov_sweep_rows.specs.declared.row_fault.FieldForm.TheVariants as form
use Rattle.ov_sweep_rows.specs.Cells.{cell_text, cells_read, flag_in, order_name, read_as, crash_in, decimals_in}
use Rattle.ov_sweep_rows.specs.Cells.{decimals_text, fitting, most_long}
use Rattle.ov_sweep_rows.specs.Cells.{number_between, or_nothing, parts_in, parts_of_cut}

-- a test of limits passes
within_limits : (least most n : ℕ) → least ≤ n → n ≤ most → (nat_le least n && nat_le n most) ≡ true
within_limits least most n low high =
    and_from (nat_le least n) (nat_le n most) (le-leb least n low) (le-leb n most high)

-- a number within limits
pub number_back : (least most n : ℕ) → least ≤ n → n ≤ most → n < 2 ^ 64
    → number_between least most (decimal n) ≡ Some (cell.Number n)
number_back least most n low high long =
    ap (λ o. o >>= λ k. if nat_le least k && nat_le k most then Some (cell.Number k) else None)
    (numeral_read 64 n long long)
    ∙ ap (λ t. if t then Some (cell.Number n) else None) (within_limits least most n low high)

-- what is read of a text that is not empty
pub some_back : (read : List ℕ → Option Cell) (text : List ℕ) (c : Cell) → 0 < length text → read text ≡ Some c
    → or_nothing read text ≡ Some c
some_back read [] c some is = absurd (omega (arith, some))
some_back read (b ∷ text) c some is = is

-- a number within limits, which may be missing
pub number_or_nothing_back : (least most n : ℕ) → least ≤ n → n ≤ most → n < 2 ^ 64
    → or_nothing (number_between least most) (decimal n) ≡ Some (cell.Number n)
number_or_nothing_back least most n low high long =
    some_back (number_between least most) (decimal n) (cell.Number n) (decimal_nonempty n long)
    (number_back least most n low high long)

-- decimal digits are no word
no_word : number_within long_bits (codes "cut") ≡ None
unfolding number_within
no_word = refl

pub no_cut : (n : ℕ) → n < 2 ^ 64 → same (decimal n) (codes "cut") ≡ false
no_cut n long = by (same (decimal n) (codes "cut")) refl where
  by : (t : Bool) → same (decimal n) (codes "cut") ≡ t → t ≡ false
  by true e =
      let word : decimal n ≡ codes "cut" = (bytes_decides (decimal n) (codes "cut")).0 e in
      cc (sym (numeral_read 64 n long long) ∙ ap (number_within long_bits) word ∙ no_word)
  by false e = refl

-- how many of 100 nodes crash
pub crash_back : (n : ℕ) → n ≤ most_share → crash_in (decimal n) ≡ Some (cell.Number n)
crash_back n high =
    let long : n < 2 ^ 64 = omega (arith, high) in
    ap (λ t. if t then Some cell.Cut else number_between 0 most_share (decimal n)) (no_cut n long)
    ∙ number_back 0 most_share n (omega arith) high long

-- ---- numbers with four decimal digits

-- four digits, one by one
abbrev digits_of : ℕ → ℕ → ℕ → ℕ → List ℕ
digits_of a b c d = (48 + a) ∷ (48 + b) ∷ (48 + c) ∷ (48 + d) ∷ []

four_shown : (a b c d : ℕ) → a < 10 → b < 10 → c < 10 → d < 10
    → decimal a ++ (decimal b ++ (decimal c ++ decimal d)) ≡ digits_of a b c d
four_shown a b c d p q r s = rw (decimal_digit a p, decimal_digit b q, decimal_digit c r, decimal_digit d s) refl

value_of : (a : ℕ) → a < 10 → digit_value (48 + a) ≡ a
value_of a less =
    let is = (decimal_is_IsNumeral a (omega (arith, less))).1 in
    let shown = subst (λ (t : List ℕ). digits_value 10 t ≡ a) (decimal_digit a less) is in
    omega (arith, shown)

four_numeral : (a b c d : ℕ) → a < 10 → b < 10 → c < 10 → d < 10 → IsNumeral 10 (digits_of a b c d)
four_numeral a b c d p q r s =
    let va = value_of a p in
    let vb = value_of b q in
    let vc = value_of c r in
    let vd = value_of d s in
    (omega arith, (omega (arith, va), (omega (arith, vb), (omega (arith, vc), (omega (arith, vd), tt)))))

four_value : (a b c d : ℕ) → a < 10 → b < 10 → c < 10 → d < 10
    → a * 1000 + b * 100 + c * 10 + d ≡ digits_value 10 (digits_of a b c d)
four_value a b c d p q r s = omega (arith, value_of a p, value_of b q, value_of c r, value_of d s)

pub four_back : (a b c d : ℕ) → a < 10 → b < 10 → c < 10 → d < 10
    → number_within long_bits (digits_of a b c d) ≡ Some (a * 1000 + b * 100 + c * 10 + d)
four_back a b c d p q r s =
    numbered 64 (a * 1000 + b * 100 + c * 10 + d) (digits_of a b c d) (four_numeral a b c d p q r s)
    (four_value a b c d p q r s) (omega (arith, p, q, r, s))

-- a text is cut in front of its last five bytes
cut_back : (front back : List ℕ) → length back ≡ 5 → parts_in (front ++ back) ≡ parts_of_cut front back
unfolding parts_in
cut_back front back five =
    let long : length (front ++ back) ≡ length front + 5 = length-append front back ∙ ap (λ n. length front + n) five in
    let place : length (front ++ back) - 5 ≡ length front = omega (arith, long) in
    let tested : nat_lt 4 (length (front ++ back)) ≡ true =
    lt-ltb 4 (length (front ++ back)) (omega (arith, long)) in
    rw (tested, place, take-append_seam front back, drop-append_seam front back) refl

fits : (p : ℕ) → p < 2 ^ 64 → fitting p ≡ Some p
fits p long = ap (λ t. if t then Some p else None) (le-leb p most_long (omega (arith, long)))

whole_again : (p : ℕ)
    → p / 10000 * 10000 + (p / 1000 % 10 * 1000 + p / 100 % 10 * 100 + p / 10 % 10 * 10 + p % 10) ≡ p
whole_again p = omega arith

pub parts_back : (p : ℕ) → p < 2 ^ 64 → parts_in (decimals_text p) ≡ Some p
parts_back p long =
    let a = p / 1000 % 10 in
    let b = p / 100 % 10 in
    let c = p / 10 % 10 in
    let d = p % 10 in
    let pa : a < 10 = omega arith in
    let pb : b < 10 = omega arith in
    let pc : c < 10 = omega arith in
    let pd : d < 10 = omega arith in
    let ones : p / 10000 < 2 ^ 64 = omega (arith, long) in
    ap (λ t. parts_in (decimal (p / 10000) ++ (46 ∷ t))) (four_shown a b c d pa pb pc pd)
    ∙ cut_back (decimal (p / 10000)) (46 ∷ digits_of a b c d) refl
    ∙ ap (λ o. o >>= λ one. number_within long_bits (digits_of a b c d) >>= λ rest. fitting (one * 10000 + rest))
    (numeral_read 64 (p / 10000) ones ones)
    ∙ ap (λ o. o >>= λ rest. fitting (p / 10000 * 10000 + rest)) (four_back a b c d pa pb pc pd)
    ∙ ap fitting (whole_again p)
    ∙ fits p long

pub decimals_back : (p : ℕ) → p < 2 ^ 64
    → decimals_in (decimals_text p) ≡ Some (cell.Decimals (record { parts = p }))
decimals_back p long = ap (option_map (λ parts. cell.Decimals (record { parts = parts }))) (parts_back p long)

pub decimals_or_nothing_back : (p : ℕ) → p < 2 ^ 64
    → or_nothing decimals_in (decimals_text p) ≡ Some (cell.Decimals (record { parts = p }))
decimals_or_nothing_back p long =
    let ones : p / 10000 < 2 ^ 64 = omega (arith, long) in
    let front = decimal (p / 10000) in
    let back = 46 ∷ (decimal (p / 1000 % 10)
    ++ (decimal (p / 100 % 10) ++ (decimal (p / 10 % 10) ++ decimal (p % 10)))) in
    some_back decimals_in (decimals_text p) (cell.Decimals (record { parts = p }))
    (omega (arith, decimal_nonempty (p / 10000) ones, length-append front back)) (decimals_back p long)

-- ---- lists of cells

-- one column more
pub read_more : (takes : FieldForm) (more : List FieldForm) (text : List ℕ) (texts : List (List ℕ)) (c : Cell)
    (cs : List Cell) → read_as takes text ≡ Some c → cells_read more texts ≡ Some cs
    → cells_read (takes ∷ more) (text ∷ texts) ≡ Some (c ∷ cs)
unfolding cells_read
read_more takes more text texts c cs first others = rw (first, others) refl

-- no column more
pub read_all : cells_read [] [] ≡ Some []
unfolding cells_read
read_all = refl

-- a cell with a number within limits
pub between_back : (least most n : ℕ) (c : Cell) → c ≡ cell.Number n → least ≤ n → n ≤ most → n < 2 ^ 64
    → number_between least most (cell_text c) ≡ Some c
between_back least most n c same low high long =
    subst (λ (one : Cell). number_between least most (cell_text one) ≡ Some one) (sym same)
    (number_back least most n low high long)

-- the word for a rule, and the word for an order
pub refill_back : (rule : Refill) → read_as form.Refill (refill_name rule) ≡ Some (cell.Refill rule)
refill_back refill.Never = refl
refill_back refill.Alone = refl
refill_back refill.Always = refl

pub order_back : (order : Order) → read_as form.Order (order_name order) ≡ Some (cell.Order order)
order_back turn.Random = refl
order_back turn.Oldest = refl

-- both flags
pub flag_on : flag_in (decimal 1) ≡ Some (cell.Number 1)
flag_on = ap flag_in (decimal_digit 1 (omega arith))

pub flag_off : flag_in (decimal 0) ≡ Some (cell.Number 0)
flag_off = ap flag_in (decimal_digit 0 (omega arith))
