-- Names as a graph file shows them: each on one line, and no two alike. The form is chosen here.
use Rattle.std.specs.Prelude.{ℕ, Bool, false, nat_eq, ◌&&◌, ◌||◌, List, [], ◌∷◌, ◌++◌, codes, if◌then◌else◌}
use Rattle.std.specs.Char.{is_control, encode_utf8}
use Rattle.std.specs.Fmt.{digits}
use Rattle.std.specs.List.{starts_with}
use Rattle.std.specs.Str.{chars}

-- a character is shown by its code: a control character; and a backslash if `u{` follows, since it would look like the
-- beginning of a code
abbrev pub is_coded : ℕ → List ℕ → Bool
is_coded c later = is_control c || (nat_eq c 92 && starts_with nat_eq later (codes "u{"))

-- a character as it is shown where these characters follow: by its code in hexadecimal digits, as `\u{a}`, or as it is
abbrev pub shown_char : ℕ → List ℕ → List ℕ
shown_char c later =
    if is_coded c later then codes "\\u{" ++ (digits 16 false c ++ codes "}") else encode_utf8 c

-- the characters of a name, each as it is shown
abbrev pub shown_chars : List ℕ → List ℕ
shown_chars [] = []
shown_chars (c ∷ later) = shown_char c later ++ shown_chars later

-- a name as it is shown
abbrev pub shown_text : List ℕ → List ℕ
shown_text name = shown_chars (chars name)
