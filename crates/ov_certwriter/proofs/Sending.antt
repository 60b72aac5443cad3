-- What a writer took of a text, if it is written piece by piece.
use Rattle.std.proofs.Common.{◌≡◌, ◌∙◌, ℕ, List, [], ◌++◌, Option, refl, sym, ap, subst, append_assoc}
use Rattle.std.proofs.KnownBytes.{Appends-nil, Appends-trans}
use Rattle.std.proofs.lemmas.List.{append-nil}
use Rattle.std.specs.Io.KnownBytes.{Appends}
use Rattle.ov_io.specs.Device.{AppendsPrefixOf}

-- nothing of it
pub none_sent : (a : Option (List ℕ)) (text : List ℕ) → AppendsPrefixOf text a a
none_sent a text = ([], text, Appends-nil a, refl)

-- all of it
pub all_sent : (a b : Option (List ℕ)) (text : List ℕ) → Appends a b text → AppendsPrefixOf text a b
all_sent a b text appends = (text, [], appends, append-nil text)

-- a prefix of a text is one of a longer text
pub sent_before : (a b : Option (List ℕ)) (text more : List ℕ) → AppendsPrefixOf text a b
    → AppendsPrefixOf (text ++ more) a b
sent_before a b text more (prefix, rest, appends, is) =
    (prefix, rest ++ more, appends, sym (append_assoc prefix rest more) ∙ ap (λ t. t ++ more) is)

-- all of a text, and then a prefix of another
pub sent_behind : (a b c : Option (List ℕ)) (text own : List ℕ) → Appends a b text → AppendsPrefixOf own b c
    → AppendsPrefixOf (text ++ own) a c
sent_behind a b c text own first (prefix, rest, appends, is) = (
  text ++ prefix,
  rest,
  Appends-trans a b c text prefix first appends,
  append_assoc text prefix rest ∙ ap (λ t. text ++ t) is,
)

-- the same text, as it was lent
pub same_sent : (a b : Option (List ℕ)) (own text : List ℕ) → own ≡ text → Appends a b own → Appends a b text
same_sent a b own text e appends = subst (Appends a b) e appends

pub same_begun : (a b : Option (List ℕ)) (own text : List ℕ) → own ≡ text → AppendsPrefixOf own a b
    → AppendsPrefixOf text a b
same_begun a b own text e begun = subst (λ t. AppendsPrefixOf t a b) e begun
