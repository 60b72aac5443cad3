-- The lines of a graph file that can't be read, one after the other.
use Rattle.std.proofs.Common.{◌≡◌, ◌∙◌, ◌<◌, ◌≤◌, ◌+◌, ℕ, List, [], ◌∷◌, ◌++◌, append_assoc, append-nil, is_none}
use Rattle.std.proofs.Common.{Some, None, ap, arith, length, length-append, map, min, subst, sym, take}
use Rattle.std.proofs.lemmas.List.{length-map, length-take, map-append, take-append-le, take_all}
use Rattle.ov_graphfile.specs.GraphFiles.{AreFirstOf, graph_line, graph_lines, most_counted, unread_lines}
use Rattle.ov_graphfile.specs.declared.fault.UnreadLine.{UnreadLine}
use Rattle.ov_graphfile.specs.declared.graph_line.GraphLine.{GraphLine}
use Rattle.ov_graphfile.specs.declared.unread_lines_with_count.UnreadLines.{UnreadLines}
use Rattle.ov_graphfile.proofs.GraphFiles.Numbers.{left_where, holding, other, none_left}
use Rattle.ov_lines.specs.Lines.{kept_lines}

-- the numbers of these
abbrev pub numbers : List UnreadLine → List ℕ
numbers lines = map (λ (l : UnreadLine). l.line) lines

-- ---- one line more

-- there is room for its number among the first
pub one_kept : (most : ℕ) (kept then : List UnreadLine) (all : List ℕ) (line : UnreadLine)
    → numbers kept ≡ take most all → length kept < most → then ≡ kept ++ line ∷ []
    → numbers then ≡ take most (all ++ line.line ∷ [])
one_kept most kept then all line are room gains =
    let same : length kept ≡ length (take most all) =
    sym (length-map kept (λ (l : UnreadLine). l.line)) ∙ ap length are in
    let short : length all < most = omega (arith, same, length-take most all, room) in
    let longer : length (all ++ line.line ∷ []) ≤ most = omega (arith, length-append all (line.line ∷ []), short) in
    ap numbers gains
    ∙ map-append (λ (l : UnreadLine). l.line) kept (line ∷ [])
    ∙ ap (λ ns. ns ++ line.line ∷ []) (are ∙ take_all most all (omega (arith, short)))
    ∙ sym (take_all most (all ++ line.line ∷ []) longer)

-- as many as may be are kept already
pub none_kept : (most : ℕ) (kept : List UnreadLine) (all : List ℕ) (n : ℕ) → numbers kept ≡ take most all
    → ¬ (length kept < most)
    → numbers kept ≡ take most (all ++ n ∷ [])
none_kept most kept all n are full =
    let same : length kept ≡ length (take most all) =
    sym (length-map kept (λ (l : UnreadLine). l.line)) ∙ ap length are in
    let long : most ≤ length all = omega (arith, same, length-take most all, full) in
    are ∙ sym (take-append-le most all (n ∷ []) long)

-- it is counted
pub one_counted : (count : ℕ) (all : List ℕ) (n : ℕ) → count ≡ min (length all) most_counted
    → min (count + 1) most_counted ≡ min (length (all ++ n ∷ [])) most_counted
one_counted count all n are = omega (arith, are, length-append all (n ∷ []))

-- ---- all lines

-- some numbers, with those of the lines left that can't be read, are the numbers of all lines that can't be read; the
-- first of them are kept, and they are counted
pub record AreUnread (bytes : List ℕ) (most : ℕ) (unread : UnreadLines) (left : List (ℕ × List ℕ)) : Type 0 where
  pub so_far : List ℕ
  pub whole : so_far ++ left_where is_none left ≡ unread_lines bytes
  pub first : AreFirstOf most so_far unread

-- no line was looked at
pub begun : (bytes : List ℕ) (most : ℕ) (unread : UnreadLines) (left : List (ℕ × List ℕ)) → unread.first.items ≡ []
    → unread.count ≡ 0 → left ≡ kept_lines bytes
    → AreUnread bytes most unread left
unfolding graph_lines
begun bytes most unread left none zero all = record {
  so_far = [];
  whole = ap (λ ls. left_where is_none ls) all;
  first = (ap numbers none ∙ sym (take_all most [] (omega arith)), zero ∙ omega arith);
}

-- the next line can't be read
pub counted :
    (bytes : List ℕ) (most : ℕ) (unread then : UnreadLines) (now later : List (ℕ × List ℕ)) (n : ℕ) (text : List ℕ)
    (before : AreUnread bytes most unread now) → now ≡ (n, text) ∷ later → graph_line text ≡ None
    → AreFirstOf most (before.so_far ++ n ∷ []) then
    → AreUnread bytes most then later
counted bytes most unread then now later n text before first reads gains = record {
  so_far = before.so_far ++ n ∷ [];
  whole = append_assoc before.so_far (n ∷ []) (left_where is_none later)
      ∙ ap (λ ns. before.so_far ++ ns) (sym (holding is_none now later n text first (ap is_none reads)))
      ∙ before.whole;
  first = gains;
}

-- the next line can be read
pub passed :
    (bytes : List ℕ) (most : ℕ) (unread : UnreadLines) (now later : List (ℕ × List ℕ)) (n : ℕ) (text : List ℕ)
    (says : GraphLine)
    → AreUnread bytes most unread now → now ≡ (n, text) ∷ later → graph_line text ≡ Some says
    → AreUnread bytes most unread later
passed bytes most unread now later n text says before first reads = record {
  so_far = before.so_far;
  whole = ap (λ ns. before.so_far ++ ns) (sym (other is_none now later n text first (ap is_none reads)))
      ∙ before.whole;
  first = before.first;
}

-- no line is left
pub all_unread :
    (bytes : List ℕ) (most : ℕ) (unread : UnreadLines) (left : List (ℕ × List ℕ)) → AreUnread bytes most unread left
    → left ≡ []
    → AreFirstOf most (unread_lines bytes) unread
all_unread bytes most unread left before none =
    subst (λ ns. AreFirstOf most ns unread)
    (sym (append-nil before.so_far)
    ∙ ap (λ ns. before.so_far ++ ns) (sym (none_left is_none left none))
    ∙ before.whole)
    before.first
