-- Texts that are put one behind another into memory that is there.
use Rattle.std.proofs.Common.{◌≡◌, ◌∙◌, ℕ, ◌+◌, ◌≤◌, ◌<◌, Bool, true, false, List, [], ◌∷◌, ◌++◌, length, map, codes}
use Rattle.std.proofs.Common.{take, set, refl, sym, ap, subst, arith}
use Rattle.std.proofs.Common.{append_assoc, append-nil, length-append, length-set}
use Rattle.std.proofs.lemmas.List.{take_more_set}
use Rattle.serde_json.specs.Data.{Data}
use Rattle.serde_json.specs.View.{items_of}
use Rattle.serde_json.specs.Written.{comma_if, compact_text, items_text}
use Rattle.ov_certfile.specs.DataOf.{list_data}
use Rattle.ov_certwriter.specs.Code.Blocks.{Puts, items_after}

pub puts_nothing : (old : List ℕ) (at : ℕ) → Puts [] old at old at
puts_nothing old at = record { kept = refl; fits = λ h. (omega arith, sym (append-nil (take at old))) }

-- a byte
pub puts_byte : (byte : ℕ) (old : List ℕ) (at : ℕ) → at < length old
    → Puts (byte ∷ []) old at (set old at byte) (at + 1)
puts_byte byte old at low = record { kept = length-set old at byte; fits = λ h. (refl, take_more_set old at byte low) }

-- a text, and then another
pub puts_then : (s t old mid new : List ℕ) (at mid_at end : ℕ) → Puts s old at mid mid_at → Puts t mid mid_at new end
    → Puts (s ++ t) old at new end
puts_then s t old mid new at mid_at end p q = record {
  kept = q.kept ∙ p.kept;
  fits = λ h.
      let long = length-append s t in
      let first = p.fits (omega (arith, h, long)) in
      let second = q.fits (omega (arith, h, long, p.kept, first.0)) in (
        omega (arith, first.0, second.0, long),
        second.1 ∙ ap (λ l. l ++ t) first.1 ∙ append_assoc (take at old) s t,
      );
}

-- the same text, written otherwise
pub puts_same : (s t old new : List ℕ) (at end : ℕ) → s ≡ t → Puts s old at new end → Puts t old at new end
puts_same s t old new at end e p = subst (λ l. Puts l old at new end) e p

-- ---- lists

-- a list with its closing bracket
pub items_closed : {X : Type 0} (as_data : X → Data) (later : Bool) (xs : List X)
    → items_after as_data later xs ++ codes "]" ≡ items_text later (items_of (map as_data xs))
items_closed as_data later [] = refl
items_closed as_data later (x ∷ xs) =
    let text = compact_text (as_data x) in
    let rest = items_after as_data true xs in
    append_assoc (comma_if later) (text ++ rest) (codes "]")
    ∙ ap (λ l. comma_if later ++ l) (append_assoc text rest (codes "]")
    ∙ ap (λ l. text ++ l) (items_closed as_data true xs))

-- one more item
pub item_more : {X : Type 0} (as_data : X → Data) (x : X) (rest : List X) (later : Bool) (done all : List ℕ)
    → done ++ items_after as_data later (x ∷ rest) ≡ all
    → (done ++ (comma_if later ++ compact_text (as_data x))) ++ items_after as_data true rest ≡ all
item_more as_data x rest later done all h =
    let text = compact_text (as_data x) in
    let more = items_after as_data true rest in
    append_assoc done (comma_if later ++ text) more
    ∙ ap (λ l. done ++ l) (append_assoc (comma_if later) text more) ∙ h

-- where none is left, all items were put between the brackets
pub list_put : {X : Type 0} (as_data : X → Data) (xs left : List X) (later : Bool)
    (done old opened begun new : List ℕ) (at opened_at begun_at end : ℕ) → left ≡ []
    → Puts (91 ∷ []) old at opened opened_at → Puts done opened opened_at begun begun_at
    → done ++ items_after as_data later left ≡ items_after as_data false xs → Puts (93 ∷ []) begun begun_at new end
    → Puts (compact_text (list_data as_data xs)) old at new end
list_put as_data xs left later done old opened begun new at opened_at begun_at end none p q h r =
    let all : done ≡ items_after as_data false xs =
    sym (append-nil done) ∙ ap (λ ys. done ++ items_after as_data later ys) (sym none) ∙ h in
    let whole = puts_then (91 ∷ []) (done ++ 93 ∷ []) old opened new at opened_at end p
    (puts_then done (93 ∷ []) opened begun new opened_at begun_at end q r) in
    let is : 91 ∷ (done ++ 93 ∷ []) ≡ compact_text (list_data as_data xs) =
    ap (λ l. 91 ∷ l) (ap (λ d. d ++ codes "]") all ∙ items_closed as_data false xs) in
    puts_same _ _ old new at end is whole

comma_short : (later : Bool) → length (comma_if later) ≤ 1
comma_short true = omega arith
comma_short false = omega arith

-- one more item is short
pub item_short : {X : Type 0} (as_data : X → Data) (x : X) (rest : List X) (later : Bool) (most room : ℕ)
    → length (compact_text (as_data x)) ≤ most → length (items_after as_data true rest) ≤ room
    → length (items_after as_data later (x ∷ rest)) ≤ (1 + most) + room
item_short as_data x rest later most room h r =
    let text = compact_text (as_data x) in
    let more = items_after as_data true rest in
    omega (arith, h, r, comma_short later, length-append (comma_if later) (text ++ more), length-append text more)

-- so is the list with its brackets
pub list_short : {X : Type 0} (as_data : X → Data) (xs : List X) (room : ℕ)
    → length (items_after as_data false xs) ≤ room → length (compact_text (list_data as_data xs)) ≤ 2 + room
list_short as_data xs room h =
    let is = ap length (items_closed as_data false xs) in
    omega (arith, h, is, length-append (items_after as_data false xs) (codes "]"))
