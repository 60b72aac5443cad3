-- Why a line can't be read.
use Rattle.std.proofs.Common.{◌≡◌, ◌≢◌, ◌∙◌, ◌⊎◌, ℕ, List, [], ◌∷◌, ◌++◌, inl, inr, sym, ap, subst, refl, true, false}
use Rattle.std.proofs.Common.{cond, nat_eq, append_assoc, append-nil, eqb-true}
use Rattle.ov_dump.specs.Code.Reading.{behind, behind_comma, behind_gap, end_of, first_name, front_of, last_of}
use Rattle.ov_dump.specs.Code.Reading.{next_of, second_name, text_of}
use Rattle.ov_dump.specs.EdgeLines.{AreBlanks, EndsName, IsComma, IsReadable, IsWhy, before_mark, is_blank}
use Rattle.ov_dump.specs.EdgeLines.{is_name_byte}
use Rattle.ov_dump.specs.declared.unread_edge_line_reason.Why.TheVariants.{CommaFirst, TwoCommas, CommaLast, OneName}
use Rattle.ov_dump.specs.declared.unread_edge_line_reason.Why.TheVariants.{ThirdWord, NoText}
use Rattle.ov_dump.proofs.Lines.{StopsAt, all_pass, behind_stopped, behind_stops, blank, edge, front_passes}
use Rattle.ov_dump.proofs.Lines.{gap_of, other_name, parts, two_names}

-- ---- commas

-- a text that begins with a byte of a name begins with a name
no_name : (b : ℕ) (rest : List ℕ) → is_name_byte b ≡ true → front_of is_name_byte (b ∷ rest) ≡ [] → ⊥
no_name b rest e none =
    let some : front_of is_name_byte (b ∷ rest) ≡ b ∷ front_of is_name_byte rest =
    ap (λ t. cond t (b ∷ front_of is_name_byte rest) []) e in
    let h : b ∷ front_of is_name_byte rest ≡ [] = sym some ∙ none in absurd (cc)

-- a text that begins neither with a blank nor with a name begins with a comma
comma_at : (t : List ℕ) → StopsAt is_blank t → t ≢ [] → front_of is_name_byte t ≡ []
    → (rest : List ℕ) × (t ≡ 44 ∷ rest)
comma_at [] stops some none = absurd (some refl)
comma_at (b ∷ rest) stops some none =
    elim (nat_eq b 44) as (λ t. nat_eq b 44 ≡ t → (r : List ℕ) × (b ∷ rest ≡ 44 ∷ r)) [
      | true ↦ λ e. (rest, ap (λ c. c ∷ rest) (eqb-true b 44 e))
      | false ↦ λ e. absurd (no_name b rest (other_name b stops e) none)
    ] refl

-- where nothing is behind a gap, there are blanks alone, or one comma among them
alone_from : (x s r : List ℕ) → r ≡ x ++ s → AreBlanks x → StopsAt is_blank s → behind is_blank (behind_comma s) ≡ []
    → AreBlanks r ⊎ IsComma r
alone_from x [] r whole blanks stops none = inl (subst AreBlanks (sym (whole ∙ append-nil x)) blanks)
alone_from x (b ∷ rest) r whole blanks stops none =
    elim (nat_eq b 44) as (λ t. nat_eq b 44 ≡ t → behind is_blank (cond t rest (b ∷ rest)) ≡ []
    → AreBlanks r ⊎ IsComma r) [
      | true ↦ λ e n.
          inr (x, rest, whole ∙ ap (λ c. x ++ c ∷ rest) (eqb-true b 44 e), blanks, all_pass is_blank rest n)
      | false ↦ λ e n.
          let h : b ∷ rest ≡ [] = sym (behind_stopped is_blank (b ∷ rest) stops) ∙ n in absurd (cc)
    ] refl none

alone : (r : List ℕ) → behind_gap r ≡ [] → AreBlanks r ⊎ IsComma r
alone r none =
    alone_from (front_of is_blank r) (behind is_blank r) r (parts is_blank r) (front_passes is_blank r)
    (behind_stops is_blank r) none

-- two commas, with blanks between them
abbrev HasTwoCommas : List ℕ → Type 0
HasTwoCommas r = (front gap rest : List ℕ) × (r ≡ front ++ 44 ∷ (gap ++ 44 ∷ rest)) × AreBlanks gap

-- where no name is behind a gap, there is a second comma
commas_from : (x s r : List ℕ) → r ≡ x ++ s → StopsAt is_blank s → behind is_blank (behind_comma s) ≢ []
    → front_of is_name_byte (behind is_blank (behind_comma s)) ≡ [] → HasTwoCommas r
commas_from x [] r whole stops some none = absurd (some refl)
commas_from x (b ∷ rest) r whole stops some none =
    elim (nat_eq b 44) as (λ t. nat_eq b 44 ≡ t → behind is_blank (cond t rest (b ∷ rest)) ≢ []
    → front_of is_name_byte (behind is_blank (cond t rest (b ∷ rest))) ≡ [] → HasTwoCommas r) [
      | true ↦ λ e m n.
          let y = front_of is_blank rest in
          let second = comma_at (behind is_blank rest) (behind_stops is_blank rest) m n in (
            x,
            y,
            second.0,
            whole ∙ ap (λ c. x ++ c ∷ rest) (eqb-true b 44 e)
                ∙ ap (λ t. x ++ 44 ∷ t) (parts is_blank rest ∙ ap (λ t. y ++ t) second.1),
            front_passes is_blank rest,
          )
      | false ↦ λ e m n.
          absurd (no_name b rest (other_name b stops e)
          (sym (ap (front_of is_name_byte) (behind_stopped is_blank (b ∷ rest) stops)) ∙ n))
    ] refl some none

-- the same, of a text that ends so
commas : (head r u : List ℕ) → u ≡ head ++ r → behind_gap r ≢ [] → front_of is_name_byte (behind_gap r) ≡ []
    → HasTwoCommas u
commas head r u whole some none =
    let found =
    commas_from (front_of is_blank r) (behind is_blank r) r (parts is_blank r) (behind_stops is_blank r) some none in (
      head ++ found.0,
      found.1,
      found.2,
      whole ∙ ap (λ t. head ++ t) found.3 ∙ sym (append_assoc head found.0 (44 ∷ (found.1 ++ 44 ∷ found.2))),
      found.4,
    )

-- ---- the reasons

ends_name : (xs : List ℕ) → StopsAt is_name_byte xs → EndsName xs
ends_name [] stops = tt
ends_name (x ∷ xs) stops = stops

-- the text of a line up to what is behind its first name
front_whole : (line : List ℕ) → before_mark true line
    ≡ (front_of is_blank (before_mark true line) ++ first_name line) ++ behind is_name_byte (text_of line)
front_whole line =
    let u = before_mark true line in
    let front = front_of is_blank u in
    parts is_blank u ∙ ap (λ t. front ++ t) (parts is_name_byte (text_of line))
    ∙ sym (append_assoc front (first_name line) (behind is_name_byte (text_of line)))

pub comma_first : (line first : List ℕ) → first ≡ first_name line → ¬ IsReadable line → first ≡ []
    → IsWhy line CommaFirst
comma_first line first f never none =
    let u = before_mark true line in
    let comma = comma_at (text_of line) (behind_stops is_blank u) (λ e. never (inl (blank line e))) (sym f ∙ none) in (
      front_of is_blank u,
      comma.0,
      parts is_blank u ∙ ap (λ t. front_of is_blank u ++ t) comma.1,
      front_passes is_blank u,
    )

pub one_name : (line first next : List ℕ) → first ≡ first_name line → next ≡ next_of line → first ≢ [] → next ≡ []
    → IsWhy line OneName
one_name line first next f n some none =
    let u = before_mark true line in
    let text = text_of line in (
      front_of is_blank u,
      first_name line,
      behind is_name_byte text,
      parts is_blank u ∙ ap (λ t. front_of is_blank u ++ t) (parts is_name_byte text),
      front_passes is_blank u,
      ((λ e. some (f ∙ e)), front_passes is_name_byte text),
      alone (behind is_name_byte text) (sym n ∙ none),
    )

pub commas_between : (line next second : List ℕ) → next ≡ next_of line → second ≡ second_name line → next ≢ []
    → second ≡ [] → IsWhy line TwoCommas
commas_between line next second n s some none =
    commas (front_of is_blank (before_mark true line) ++ first_name line) (behind is_name_byte (text_of line))
    (before_mark true line) (front_whole line) (λ e. some (n ∙ e)) (sym s ∙ none)

-- what the parts of a line with two names say
pub record Found (line first second last : List ℕ) : Type 0 where
  pub first_is : first ≡ first_name line
  pub second_is : second ≡ second_name line
  pub last_is : last ≡ last_of line
  pub first_some : first ≢ []
  pub second_some : second ≢ []

pub no_text : (line first second last : List ℕ) → Found line first second last → ¬ IsReadable line → last ≡ []
    → IsWhy line NoText
no_text line first second last p never none =
    let some : first_name line ≢ [] = λ e. p.first_some (p.first_is ∙ e) in
    let other : second_name line ≢ [] = λ e. p.second_some (p.second_is ∙ e) in
    let left : last_of line ≡ [] = sym p.last_is ∙ none in (
      first_name line,
      second_name line,
      end_of line,
      two_names line some other,
      all_pass is_blank (end_of line) left,
      (λ u. never (inr (first_name line, second_name line, edge line left some other u.0 u.1))),
    )

-- blanks alone are nothing
blanks_behind : (xs : List ℕ) → AreBlanks xs → behind is_blank xs ≡ []
blanks_behind [] blanks = refl
blanks_behind (x ∷ xs) blanks =
    ap (λ t. cond t (behind is_blank xs) (x ∷ xs)) blanks.0 ∙ blanks_behind xs blanks.1

pub comma_last : (line first second last end further : List ℕ) → Found line first second last → end ≡ end_of line
    → further ≡ behind_gap end → last ≢ [] → further ≡ [] → IsWhy line CommaLast
comma_last line first second last end further p end_is further_is some none =
    elim (alone (end_of line) (ap behind_gap (sym end_is) ∙ sym further_is ∙ none)) [
      | inl blanks ↦ absurd (some (p.last_is ∙ blanks_behind (end_of line) blanks))
      | inr comma ↦ (
        first_name line,
        second_name line,
        end_of line,
        two_names line (λ e. p.first_some (p.first_is ∙ e)) (λ e. p.second_some (p.second_is ∙ e)),
        comma,
      )
    ]

pub commas_behind : (line first second last end further word : List ℕ) → Found line first second last
    → end ≡ end_of line → further ≡ behind_gap end → word ≡ front_of is_name_byte further → further ≢ [] → word ≡ []
    → IsWhy line TwoCommas
commas_behind line first second last end further word p end_is further_is word_is some none =
    let names = two_names line (λ e. p.first_some (p.first_is ∙ e)) (λ e. p.second_some (p.second_is ∙ e)) in
    let same : further ≡ behind_gap (end_of line) = further_is ∙ ap behind_gap end_is in
    let a = first_name line in
    let b = second_name line in
    let whole : before_mark true line ≡ (names.0 ++ (a ++ (names.1 ++ b))) ++ end_of line =
    names.2
    ∙ ap (λ t. names.0 ++ (a ++ t)) (sym (append_assoc names.1 b (end_of line)))
    ∙ ap (λ t. names.0 ++ t) (sym (append_assoc a (names.1 ++ b) (end_of line)))
    ∙ sym (append_assoc names.0 (a ++ (names.1 ++ b)) (end_of line)) in
    commas (names.0 ++ (a ++ (names.1 ++ b))) (end_of line) (before_mark true line) whole (λ e. some (same ∙ e))
    (ap (front_of is_name_byte) (sym same) ∙ sym word_is ∙ none)

pub third_word : (line first second last end further word copy : List ℕ) → Found line first second last
    → end ≡ end_of line → further ≡ behind_gap end → word ≡ front_of is_name_byte further → further ≢ [] → word ≢ []
    → copy ≡ word → IsWhy line (ThirdWord copy)
third_word line first second last end further word copy p end_is further_is word_is some other copied =
    let same : further ≡ behind_gap (end_of line) = further_is ∙ ap behind_gap end_is in
    let left = behind_gap (end_of line) in
    let word_at : copy ≡ front_of is_name_byte left = copied ∙ word_is ∙ ap (front_of is_name_byte) same in
    let names = two_names line (λ e. p.first_some (p.first_is ∙ e)) (λ e. p.second_some (p.second_is ∙ e)) in
    let between = gap_of (end_of line) (behind_stops is_name_byte (next_of line)) (λ e. some (same ∙ e)) in
    let spelled : end_of line ≡ between.0 ++ (front_of is_name_byte left ++ behind is_name_byte left) =
    between.1 ∙ ap (λ t. between.0 ++ t) (parts is_name_byte left) in
    subst (λ (w : List ℕ). IsWhy line (ThirdWord w)) (sym word_at) (
      first_name line,
      second_name line,
      between.0,
      behind is_name_byte left,
      (
        names.0,
        names.1,
        names.2 ∙ ap (λ t. names.0 ++ (first_name line ++ (names.1 ++ (second_name line ++ t)))) spelled,
        names.3,
        names.4,
        names.5,
        names.6,
      ),
      between.2,
      ((λ e. other (sym copied ∙ word_at ∙ e)), front_passes is_name_byte left),
      ends_name (behind is_name_byte left) (behind_stops is_name_byte left),
    )
