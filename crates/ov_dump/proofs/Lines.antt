-- The two names of a line.
use Rattle.std.proofs.Common.{◌≡◌, ◌≢◌, ◌∙◌, ℕ, List, [], ◌∷◌, ◌++◌, inl, inr, sym, ap, subst, refl, Bool, true, false}
use Rattle.std.proofs.Common.{cond, not, nat_eq, ◌||◌, IsTrue, IsUtf8, append_assoc, append-nil, eqb-true}
use Rattle.std.proofs.Common.{MatchResult, Result, Ok, Err}
use Rattle.std.specs.Prelude.{⊤}
use Rattle.std.specs.List.{AllByRecursion}
use Rattle.std.proofs.lemmas.Bool.{both_ways}
use Rattle.ov_dump.specs.Code.Reading.{behind_comma, behind_gap, end_of, first_name, last_of, next_of}
use Rattle.ov_dump.specs.Code.Reading.{second_name, text_of}
use Rattle.ov_dump.specs.EdgeLines.{AreBlanks, HasTwoNames, IsBlankLine, IsEdge, IsGap, IsReadable, IsWord}
use Rattle.ov_dump.specs.EdgeLines.{before_mark, is_blank, is_name_byte}
use Rattle.ov_dump.specs.Code.Reading.{behind, front_of}

-- ---- the bytes that pass, and those behind them

-- each byte passes
abbrev pub Pass : (ℕ → Bool) → List ℕ → Type 0
Pass p xs = AllByRecursion (λ b. IsTrue (p b)) xs

-- the first byte, if there is one, does not pass
abbrev pub StopsAt : (ℕ → Bool) → List ℕ → Type 0
StopsAt p [] = ⊤
StopsAt p (b ∷ rest) = p b ≡ false

front_all : (p : ℕ → Bool) (xs ys : List ℕ) → Pass p xs → StopsAt p ys → front_of p (xs ++ ys) ≡ xs
front_all p [] [] all stops = refl
front_all p [] (y ∷ ys) all stops = ap (λ t. cond t (y ∷ front_of p ys) []) stops
front_all p (x ∷ xs) ys all stops =
    ap (λ t. cond t (x ∷ front_of p (xs ++ ys)) []) all.0 ∙ ap (λ r. x ∷ r) (front_all p xs ys all.1 stops)

pub behind_stopped : (p : ℕ → Bool) (ys : List ℕ) → StopsAt p ys → behind p ys ≡ ys
behind_stopped p [] stops = refl
behind_stopped p (y ∷ ys) stops = ap (λ t. cond t (behind p ys) (y ∷ ys)) stops

behind_all : (p : ℕ → Bool) (xs ys : List ℕ) → Pass p xs → StopsAt p ys → behind p (xs ++ ys) ≡ ys
behind_all p [] ys all stops = behind_stopped p ys stops
behind_all p (x ∷ xs) ys all stops =
    ap (λ t. cond t (behind p (xs ++ ys)) (x ∷ (xs ++ ys))) all.0 ∙ behind_all p xs ys all.1 stops

pub parts : (p : ℕ → Bool) (xs : List ℕ) → xs ≡ front_of p xs ++ behind p xs
parts p [] = refl
parts p (x ∷ xs) =
    elim (p x) as (λ t. x ∷ xs ≡ cond t (x ∷ front_of p xs) [] ++ cond t (behind p xs) (x ∷ xs)) [
      | true ↦ ap (λ r. x ∷ r) (parts p xs)
      | false ↦ refl
    ]

pub front_passes : (p : ℕ → Bool) (xs : List ℕ) → Pass p (front_of p xs)
front_passes p [] = tt
front_passes p (x ∷ xs) =
    elim (p x) as (λ t. p x ≡ t → Pass p (cond t (x ∷ front_of p xs) [])) [
      | true ↦ λ e. (e, front_passes p xs)
      | false ↦ λ e. tt
    ] refl

pub behind_stops : (p : ℕ → Bool) (xs : List ℕ) → StopsAt p (behind p xs)
behind_stops p [] = tt
behind_stops p (x ∷ xs) =
    elim (p x) as (λ t. p x ≡ t → StopsAt p (cond t (behind p xs) (x ∷ xs))) [
      | true ↦ λ e. behind_stops p xs
      | false ↦ λ e. e
    ] refl

-- if nothing is behind them, all bytes pass
pub all_pass : (p : ℕ → Bool) (xs : List ℕ) → behind p xs ≡ [] → Pass p xs
all_pass p xs none =
    subst (Pass p) (sym (parts p xs ∙ ap (λ r. front_of p xs ++ r) none ∙ append-nil (front_of p xs)))
    (front_passes p xs)

-- ---- bytes of names

name_no_blank : (b : ℕ) → is_name_byte b ≡ true → is_blank b ≡ false
name_no_blank b e = elim (is_blank b) as (λ t. not (t || nat_eq b 44) ≡ true → t ≡ false) [
  | true ↦ λ f. absurd (cc)
  | false ↦ λ f. refl
] e

name_no_comma : (b : ℕ) → is_name_byte b ≡ true → nat_eq b 44 ≡ false
name_no_comma b e = elim (is_blank b) as (λ t. not (t || nat_eq b 44) ≡ true → nat_eq b 44 ≡ false) [
  | true ↦ λ f. absurd (cc)
  | false ↦ λ f. elim (nat_eq b 44) as (λ t. not t ≡ true → t ≡ false) [ true ↦ λ g. absurd (cc) | false ↦ λ g. refl ] f
] e

blank_no_name : (b : ℕ) → is_blank b ≡ true → is_name_byte b ≡ false
blank_no_name b e = ap (λ t. not (t || nat_eq b 44)) e

pub other_name : (b : ℕ) → is_blank b ≡ false → nat_eq b 44 ≡ false → is_name_byte b ≡ true
other_name b e f = ap (λ t. not (t || nat_eq b 44)) e ∙ ap not f

word_stops : (a rest : List ℕ) → IsWord a → StopsAt is_blank (a ++ rest)
word_stops [] rest w = absurd (w.some refl)
word_stops (x ∷ xs) rest w = name_no_blank x w.bytes.0

word_no_comma : (a rest : List ℕ) → IsWord a → behind_comma (a ++ rest) ≡ a ++ rest
word_no_comma [] rest w = absurd (w.some refl)
word_no_comma (x ∷ xs) rest w = ap (λ t. cond t (xs ++ rest) (x ∷ (xs ++ rest))) (name_no_comma x w.bytes.0)

blanks_stop : (xs : List ℕ) → AreBlanks xs → StopsAt is_name_byte xs
blanks_stop [] blanks = tt
blanks_stop (x ∷ xs) blanks = blank_no_name x blanks.0

comma_stops : (front rest : List ℕ) → AreBlanks front → StopsAt is_name_byte (front ++ 44 ∷ rest)
comma_stops [] rest blanks = refl
comma_stops (x ∷ xs) rest blanks = blank_no_name x blanks.0

-- ---- the gap

gap_stops : (gap rest : List ℕ) → IsGap gap → StopsAt is_name_byte (gap ++ rest)
gap_stops [] rest (inl g) = absurd (g.1 refl)
gap_stops (x ∷ gap) rest (inl g) = blank_no_name x g.0.0
gap_stops gap rest (inr (front, back, is, blanks, others)) =
    subst (λ (g : List ℕ). StopsAt is_name_byte (g ++ rest)) (sym is)
    (subst (StopsAt is_name_byte) (sym (append_assoc front (44 ∷ back) rest))
    (comma_stops front (back ++ rest) blanks))

gap_ends : (gap rest : List ℕ) → IsGap gap → StopsAt is_blank rest → behind_comma rest ≡ rest
    → behind_gap (gap ++ rest) ≡ rest
gap_ends gap rest (inl g) stops no_comma =
    ap (λ t. behind is_blank (behind_comma t)) (behind_all is_blank gap rest g.0 stops)
    ∙ ap (behind is_blank) no_comma ∙ behind_stopped is_blank rest stops
gap_ends gap rest (inr (front, back, is, blanks, others)) stops no_comma =
    ap (λ g. behind_gap (g ++ rest)) is ∙ ap behind_gap (append_assoc front (44 ∷ back) rest)
    ∙ ap (λ t. behind is_blank (behind_comma t)) (behind_all is_blank front (44 ∷ (back ++ rest)) blanks refl)
    ∙ behind_all is_blank back rest others stops

-- the gap that a text begins with, which has blanks x before s
gap_from : (x s r : List ℕ) → r ≡ x ++ s → AreBlanks x → StopsAt is_blank s → StopsAt is_name_byte r
    → behind is_blank (behind_comma s) ≢ []
    → (gap : List ℕ) × (r ≡ gap ++ behind is_blank (behind_comma s)) × IsGap gap
gap_from x [] r whole blanks stops ends some = absurd (some refl)
gap_from x (b ∷ rest) r whole blanks stops ends some =
    elim (nat_eq b 44) as (λ t. nat_eq b 44 ≡ t → (gap : List ℕ)
    × (r ≡ gap ++ behind is_blank (cond t rest (b ∷ rest))) × IsGap gap) [
      | true ↦ λ e.
          let y = front_of is_blank rest in
          let comma : b ≡ 44 = eqb-true b 44 e in (
            x ++ 44 ∷ y,
            whole ∙ ap (λ c. x ++ c ∷ rest) comma ∙ ap (λ t. x ++ 44 ∷ t) (parts is_blank rest)
                ∙ sym (append_assoc x (44 ∷ y) (behind is_blank rest)),
            inr (x, y, refl, blanks, front_passes is_blank rest),
          )
      | false ↦ λ e. (
        x,
        whole ∙ ap (λ t. x ++ t) (sym (behind_stopped is_blank (b ∷ rest) stops)),
        inl (
          blanks,
          λ none.
              let first : r ≡ b ∷ rest = whole ∙ ap (λ t. t ++ b ∷ rest) none in
              let no_name : is_name_byte b ≡ false = subst (StopsAt is_name_byte) first ends in
              both_ways (is_name_byte b) no_name (other_name b stops e),
        ),
      )
    ] refl

pub gap_of : (r : List ℕ) → StopsAt is_name_byte r → behind_gap r ≢ []
    → (gap : List ℕ) × (r ≡ gap ++ behind_gap r) × IsGap gap
gap_of r ends some =
    gap_from (front_of is_blank r) (behind is_blank r) r (parts is_blank r) (front_passes is_blank r)
    (behind_stops is_blank r) ends some

-- ---- a line

-- what is found on a line that says two names
parsed : (line a b : List ℕ) → IsEdge line a b
    → (first_name line ≡ a) × (second_name line ≡ b) × (last_of line ≡ []) × (text_of line ≢ [])
parsed line a b (front, gap, back, whole, blanks, first, between, second, ends) =
    let tail : List ℕ = gap ++ (b ++ back) in
    let text : text_of line ≡ a ++ tail =
    ap (behind is_blank) whole ∙ behind_all is_blank front (a ++ tail) blanks (word_stops a tail first) in
    let stops = gap_stops gap (b ++ back) between in
    let rest : behind is_name_byte (text_of line) ≡ tail =
    ap (behind is_name_byte) text ∙ behind_all is_name_byte a tail first.bytes stops in
    let next : next_of line ≡ b ++ back =
    ap behind_gap rest
    ∙ gap_ends gap (b ++ back) between (word_stops b back second) (word_no_comma b back second) in
    let ends_stop = blanks_stop back ends in
    let last : behind is_name_byte (next_of line) ≡ back =
    ap (behind is_name_byte) next ∙ behind_all is_name_byte b back second.bytes ends_stop in
    let none : behind is_blank back ≡ [] =
    ap (behind is_blank) (sym (append-nil back)) ∙ behind_all is_blank back [] ends tt in (
      ap (front_of is_name_byte) text ∙ front_all is_name_byte a tail first.bytes stops,
      ap (front_of is_name_byte) next ∙ front_all is_name_byte b back second.bytes ends_stop,
      ap (behind is_blank) last ∙ none,
      (λ e. no_text a tail first (sym text ∙ e)),
    )
  where
    no_text : (a tail : List ℕ) → IsWord a → a ++ tail ≡ [] → ⊥
    no_text [] tail w e = w.some refl
    no_text (x ∷ xs) tail w e = absurd (cc)

pub blank : (line : List ℕ) → text_of line ≡ [] → IsBlankLine line
blank line none = all_pass is_blank (before_mark true line) none

no_blank : (line : List ℕ) → text_of line ≢ [] → ¬ IsBlankLine line
no_blank line some blanks =
    let u = before_mark true line in
    some (ap (behind is_blank) (sym (append-nil u)) ∙ behind_all is_blank u [] blanks tt)

-- a line that can be read either has no text, or its names are found
unread : (line : List ℕ) → text_of line ≢ [] → ((a b : List ℕ) → IsEdge line a b → ⊥) → ¬ IsReadable line
unread line some none readable = elim readable [
  | inl h ↦ no_blank line some h
  | inr h ↦ none h.0 h.1 h.2
]

pub text_left : (line : List ℕ) → text_of line ≢ [] → last_of line ≢ [] → ¬ IsReadable line
text_left line some left = unread line some (λ a b e. left (parsed line a b e).2)

pub no_first : (line : List ℕ) → text_of line ≢ [] → first_name line ≡ [] → ¬ IsReadable line
no_first line some none = unread line some
    (λ a b e. (edge_first line a b e).some (sym (parsed line a b e).0 ∙ none))
  where
    edge_first : (line a b : List ℕ) → IsEdge line a b → IsWord a
    edge_first line a b (front, gap, back, whole, blanks, first, between, second, ends) = first

pub no_second : (line : List ℕ) → text_of line ≢ [] → second_name line ≡ [] → ¬ IsReadable line
no_second line some none = unread line some
    (λ a b e. (edge_second line a b e).some (sym (parsed line a b e).1 ∙ none))
  where
    edge_second : (line a b : List ℕ) → IsEdge line a b → IsWord b
    edge_second line a b (front, gap, back, whole, blanks, first, between, second, ends) = second

pub first_no_text : (line : List ℕ) → text_of line ≢ [] → ¬ IsUtf8 (first_name line) → ¬ IsReadable line
first_no_text line some none = unread line some
    (λ a b e. none (subst IsUtf8 (sym (parsed line a b e).0) (edge_text line a b e)))
  where
    edge_text : (line a b : List ℕ) → IsEdge line a b → IsUtf8 a
    edge_text line a b (front, gap, back, whole, blanks, first, between, second, ends) = first.text

pub second_no_text : (line : List ℕ) → text_of line ≢ [] → ¬ IsUtf8 (second_name line) → ¬ IsReadable line
second_no_text line some none = unread line some
    (λ a b e. none (subst IsUtf8 (sym (parsed line a b e).1) (edge_text line a b e)))
  where
    edge_text : (line a b : List ℕ) → IsEdge line a b → IsUtf8 b
    edge_text line a b (front, gap, back, whole, blanks, first, between, second, ends) = second.text

-- two names are found, and what stands behind them
pub two_names : (line : List ℕ) → first_name line ≢ [] → second_name line ≢ []
    → HasTwoNames line (first_name line) (second_name line) (end_of line)
two_names line first second =
    let u = before_mark true line in
    let text = text_of line in
    let next = next_of line in
    let some : next ≢ [] = λ e. second (ap (front_of is_name_byte) e) in
    let between = gap_of (behind is_name_byte text) (behind_stops is_name_byte text) some in (
      front_of is_blank u,
      between.0,
      parts is_blank u ∙ ap (λ t. front_of is_blank u ++ t) (parts is_name_byte text
          ∙ ap (λ r. first_name line ++ r) (between.1 ∙ ap (λ n. between.0 ++ n) (parts is_name_byte next))),
      front_passes is_blank u,
      (first, front_passes is_name_byte text),
      between.2,
      (second, front_passes is_name_byte next),
    )

-- the names that are found are those that the line says
pub edge : (line : List ℕ) → last_of line ≡ [] → first_name line ≢ [] → second_name line ≢ []
    → IsUtf8 (first_name line) → IsUtf8 (second_name line) → IsEdge line (first_name line) (second_name line)
edge line none first second one two =
    let names = two_names line first second in (
      names.0,
      names.1,
      end_of line,
      names.2,
      names.3,
      record { some = first; bytes = names.4.1; text = one },
      names.5,
      record { some = second; bytes = names.6.1; text = two },
      all_pass is_blank (end_of line) none,
    )

-- what follows from an error, where a result is no value
pub err_given : {X Y : Type 0} (r : Result X Y) (P : X → Type 0) (Q : Y → Type 0) (R : Type 0) → MatchResult r P Q
    → ((x : X) → ¬ (r ≡ Ok x)) → ((y : Y) → Q y → R) → R
err_given (Ok x) P Q R m none from = absurd (none x refl)
err_given (Err y) P Q R m none from = from y m

-- ---- the same, of the parts as code has them

pub is_blank_line : (line text : List ℕ) → text ≡ text_of line → text ≡ [] → IsBlankLine line
is_blank_line line text t none = blank line (sym t ∙ none)

some_text : (line text : List ℕ) → text ≡ text_of line → text ≢ [] → text_of line ≢ []
some_text line text t some none = some (t ∙ none)

pub left_over : (line text last : List ℕ) → text ≡ text_of line → last ≡ last_of line → text ≢ [] → last ≢ []
    → ¬ IsReadable line
left_over line text last t l some more = text_left line (some_text line text t some) (λ none. more (l ∙ none))

pub lacks_first : (line text first : List ℕ) → text ≡ text_of line → first ≡ first_name line → text ≢ [] → first ≡ []
    → ¬ IsReadable line
lacks_first line text first t f some none = no_first line (some_text line text t some) (sym f ∙ none)

pub lacks_second : (line text second : List ℕ) → text ≡ text_of line → second ≡ second_name line → text ≢ []
    → second ≡ [] → ¬ IsReadable line
lacks_second line text second t s some none = no_second line (some_text line text t some) (sym s ∙ none)

pub first_unread : (line text first : List ℕ) → text ≡ text_of line → first ≡ first_name line → text ≢ []
    → ¬ IsUtf8 first → ¬ IsReadable line
first_unread line text first t f some none =
    first_no_text line (some_text line text t some) (λ u. none (subst IsUtf8 (sym f) u))

pub second_unread : (line text second : List ℕ) → text ≡ text_of line → second ≡ second_name line → text ≢ []
    → ¬ IsUtf8 second → ¬ IsReadable line
second_unread line text second t s some none =
    second_no_text line (some_text line text t some) (λ u. none (subst IsUtf8 (sym s) u))

pub edge_read : (line first second last a b : List ℕ) → first ≡ first_name line → second ≡ second_name line
    → last ≡ last_of line → last ≡ [] → first ≢ [] → second ≢ [] → a ≡ first → IsUtf8 first → b ≡ second
    → IsUtf8 second → IsEdge line a b
edge_read line first second last a b f s l none some other is_first one is_second two =
    subst (λ (x : List ℕ). IsEdge line x b) (sym (is_first ∙ f))
    (subst (λ (y : List ℕ). IsEdge line (first_name line) y) (sym (is_second ∙ s))
    (edge line (sym l ∙ none) (λ e. some (f ∙ e)) (λ e. other (s ∙ e)) (subst IsUtf8 f one) (subst IsUtf8 s two)))
