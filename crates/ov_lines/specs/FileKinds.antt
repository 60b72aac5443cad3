-- What the bytes of a file look like, or those that it begins with: by the first line that says something, and how
-- that begins. It is a guess, from which `overlay import` takes the form of a dump, and by which a person is told which
-- command reads such a file. Chosen here.
use Rattle.std.specs.Prelude.{ℕ, Bool, true, false, ◌&&◌, ◌||◌, nat_eq, List, [], ◌∷◌, ◌++◌, codes, drop, map}
use Rattle.std.specs.Prelude.{if◌then◌else◌, is_some}
use Rattle.std.specs.Char.{to_ascii_lowercase}
use Rattle.std.specs.List.{list_any, starts_with}
use Rattle.memchr.specs.Find.{first_of, matches}
use Rattle.ov_lines.specs.Lines.{kept_lines, same, words_of}
use Rattle.ov_lines.specs.declared.file_kinds.FileKind.{FileKind}
use Rattle.ov_lines.specs.declared.file_kinds.FileKind.TheVariants.{Certificate, Report, Views, Dot, Graph, Scenario}
use Rattle.ov_lines.specs.declared.file_kinds.FileKind.TheVariants.{Unknown}

-- ---- the text that a file begins with

-- the bytes without the byte order mark that they may begin with, as some editors write it
abbrev pub behind_mark : List ℕ → List ℕ
behind_mark bytes = if starts_with nat_eq bytes (239 ∷ 187 ∷ 191 ∷ []) then drop 3 bytes else bytes

-- a space, a tab or a carriage return
abbrev pub is_blank : ℕ → Bool
is_blank b = (nat_eq b 32 || nat_eq b 9) || nat_eq b 13

-- what is left of a text behind the blanks at its beginning
abbrev pub behind_blanks : List ℕ → List ℕ
behind_blanks [] = []
behind_blanks (b ∷ rest) = if is_blank b then behind_blanks rest else b ∷ rest

-- a text without blanks before it says nothing: it is empty, or a comment, which begins with `#`
abbrev pub says_nothing : List ℕ → Bool
says_nothing [] = true
says_nothing (b ∷ rest) = nat_eq b 35

-- the text of the first of these lines that says something, without blanks before it
abbrev pub first_text : List (ℕ × List ℕ) → List ℕ
first_text [] = []
first_text (line ∷ more) = if says_nothing (behind_blanks line.1) then first_text more else behind_blanks line.1

-- what stands before the first byte that passes
abbrev pub before : (ℕ → Bool) → List ℕ → List ℕ
before p [] = []
before p (b ∷ rest) = if p b then [] else b ∷ before p rest

-- ---- JSON

-- the part stands somewhere in the text
abbrev pub holds : List ℕ → List ℕ → Bool
holds part text = is_some (first_of (matches text part 0))

-- an object of JSON looks like a certificate file: it begins with the key with which such a file is written here, or
-- has the key `verdict`
unfoldable pub is_certificate : List ℕ → Bool
is_certificate bytes =
    (starts_with nat_eq bytes (codes "{\"cut\":") || starts_with nat_eq bytes (codes "{\"group\":"))
    || (starts_with nat_eq bytes (codes "{\"k\":") || holds (codes "\"verdict\"") bytes)

-- in a list of JSON this may follow the bracket: nothing, a blank, a text, a list, an object or the end of the list
abbrev pub opens_list : List ℕ → Bool
opens_list [] = true
opens_list (b ∷ rest) = is_blank b || list_any (λ sign. nat_eq b sign) (codes "\"[{]")

-- the text begins like a list of JSON, and not like an address in brackets, as `[::1]:7946`
abbrev pub begins_list : List ℕ → Bool
begins_list [] = false
begins_list (b ∷ rest) = nat_eq b 91 && opens_list rest

-- ---- Graphviz's language DOT

-- the word is this keyword, in capital letters or not
abbrev pub is_keyword : List ℕ → List ℕ → Bool
is_keyword keyword word = same (map to_ascii_lowercase word) keyword

-- the word is one with which DOT begins
abbrev pub is_dot_word : List ℕ → Bool
is_dot_word word =
    is_keyword (codes "graph") word || (is_keyword (codes "digraph") word || is_keyword (codes "strict") word)

-- a keyword of DOT ends before this byte. With it `graph{` begins DOT, and `graph-1` does not
abbrev pub ends_keyword : ℕ → Bool
ends_keyword b = is_blank b || list_any (λ sign. nat_eq b sign) (codes "{\"</")

-- the text begins like DOT: with a comment or a word of DOT. A name as `/dc1/a` does not
abbrev pub begins_dot : List ℕ → Bool
begins_dot text =
    (starts_with nat_eq text (codes "//") || starts_with nat_eq text (codes "/*"))
    || is_dot_word (before ends_keyword text)

-- ---- files of lines

-- the words that a graph file begins with
abbrev pub graph_words : List (List ℕ)
graph_words = codes "node" ∷ codes "link" ∷ []

-- the names of the lines of a scenario that set something for lines after them
abbrev pub setting_names : List (List ℕ)
setting_names = codes "params" ∷ codes "seed" ∷ codes "refill" ∷ codes "scale" ∷ codes "words" ∷ []

-- the words that a scenario begins with: of its settings, of a birth and of sections
abbrev pub scenario_words : List (List ℕ)
scenario_words = setting_names ++ (codes "boot" ∷ codes "together" ∷ [])

-- the kind of files that begin with this word
unfoldable pub kind_of_word : List ℕ → FileKind
kind_of_word word =
    if list_any (same word) graph_words then Graph
    else if list_any (same word) scenario_words then Scenario
    else Unknown

-- ---- what `overlay analyse` prints

-- a line of these words begins like one that `overlay analyse` prints: `report`, a moment, and `split` or `linked`
abbrev pub begins_report : List (List ℕ) → Bool
begins_report [] = false
begins_report (name ∷ []) = false
begins_report (name ∷ moment ∷ []) = false
begins_report (name ∷ moment ∷ verdict ∷ rest) =
    same name (codes "report") && (same verdict (codes "split") || same verdict (codes "linked"))

-- ---- files

-- the kind of files of these bytes, of which this text is the first that says something
unfoldable pub kind_by_text : List ℕ → List ℕ → FileKind
kind_by_text bytes text =
    if starts_with nat_eq text (codes "{") then (if is_certificate bytes then Certificate else Views)
    else if begins_list text then Views
    else if begins_dot text then Dot
    else if begins_report (words_of text) then Report
    else kind_of_word (before is_blank text)

-- the kind of files of these bytes
abbrev pub kind_of : List ℕ → FileKind
kind_of bytes = kind_by_text (behind_mark bytes) (first_text (kept_lines (behind_mark bytes)))
