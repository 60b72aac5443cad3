-- The name of a file as it is shown to a person. Chosen here.
use Rattle.std.specs.Prelude.{◌≡◌, ℕ, List, ◌++◌, codes, false, if◌then◌else◌}
use Rattle.std.specs.Fmt.{digits}
use Rattle.std.specs.Char.{is_control, encode_utf8}
use Rattle.std.specs.List.{flat_map}

-- a character of a name: one that is a control character by its code, in hexadecimal digits, and any other as it is
abbrev pub shown_char : ℕ → List ℕ
shown_char c =
    if is_control c then codes "\\u{" ++ (digits 16 false c ++ codes "}") else encode_utf8 c

-- the characters of a name, each as it is shown
abbrev pub shown_chars : List ℕ → List ℕ
shown_chars cs = flat_map shown_char cs

-- what is printed of a file that can't be opened, with a name of these characters: the name as it is shown, and a
-- cause; which cause is left open
abbrev pub TellsUnopened : List ℕ → List ℕ → Type 0
TellsUnopened cs text = (cause : List ℕ) × (text ≡ shown_chars cs ++ (codes " can't be opened: " ++ cause))

-- what is printed of an input that can't be read, with a name of these characters
abbrev pub unread_text : List ℕ → List ℕ
unread_text cs = shown_chars cs ++ codes " can't be read"
