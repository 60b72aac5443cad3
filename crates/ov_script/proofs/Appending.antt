-- What was appended to a text, piece by piece.
use Rattle.std.proofs.Common.{◌≡◌, ◌∙◌, ◌<◌, ◌≤◌, ◌+◌, ℕ, List, [], ◌∷◌, ◌++◌, length, drop, codes, decimal, get_or}
use Rattle.std.proofs.Common.{Some, ap, sym, append_assoc}
use Rattle.std.proofs.lemmas.List.{append-nil, drop_all, drop_more}
use Rattle.ov_script.specs.Acts.{act_line}
use Rattle.ov_script.specs.WrittenLines.{ended, line_of, numerals, spaced}
use Rattle.ov_script.specs.declared.recordable_event.Act.TheVariants as act

-- one number more of a line
pub number_more :
    (numbers text new whole : List ℕ) (i : ℕ) → i < length numbers
    → new ≡ text ++ 32 ∷ decimal (get_or numbers i 0) → text ++ spaced (numerals (drop i numbers)) ≡ whole
    → new ++ spaced (numerals (drop (i + 1) numbers)) ≡ whole
unfolding spaced
number_more numbers text new whole i within is before =
    let rest : List ℕ = spaced (numerals (drop (i + 1) numbers)) in
    ap (λ t. t ++ rest) is
    ∙ append_assoc text (32 ∷ decimal (get_or numbers i 0)) rest
    ∙ ap (λ ns. text ++ spaced (numerals ns)) (sym (drop_more numbers i 0 within))
    ∙ before

-- no number is left
pub number_none :
    (numbers text whole : List ℕ) (i : ℕ) → length numbers ≤ i → text ++ spaced (numerals (drop i numbers)) ≡ whole
    → text ≡ whole
unfolding spaced
number_none numbers text whole i all before =
    sym (append-nil text) ∙ ap (λ ns. text ++ spaced (numerals ns)) (sym (drop_all i numbers all)) ∙ before

-- the line of a birth by a contact, in two pieces
pub boot_by :
    (old text new : List ℕ) (node contact : ℕ) → text ≡ old ++ line_of (codes "boot") (numerals (node ∷ []))
    → new ≡ text ++ ended (line_of (codes " by") (numerals (contact ∷ [])))
    → new ≡ old ++ ended (act_line (act.Boot node (Some contact)))
unfolding act_line spaced
boot_by old text new node contact first second =
    let by : List ℕ = spaced (codes "by" ∷ decimal contact ∷ []) in
    second
    ∙ ap (λ t. t ++ ended by) first
    ∙ append_assoc old (line_of (codes "boot") (numerals (node ∷ []))) (ended by)
    ∙ ap (λ t. old ++ (codes "boot" ++ 32 ∷ t)) (
    ap (λ t. t ++ ended by) (append-nil (decimal node)) ∙ sym (append_assoc (decimal node) by (10 ∷ []))
    )
