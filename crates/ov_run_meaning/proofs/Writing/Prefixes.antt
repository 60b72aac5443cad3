-- Prefixes of what went to a writer, and what a call wrote.
use Rattle.std.proofs.Common.{◌≡◌, ℕ, Option, Some, None, List, [], ◌++◌, append_assoc, ap, ◌∙◌, refl}
use Rattle.std.proofs.Common.{Result, Ok, Err, OnOk, IsErrAnd, IsErrOf, subst}
use Rattle.std.proofs.KnownBytes.{Appends-nil, Appends-trans}
use Rattle.std.proofs.lemmas.List.{append-nil}
use Rattle.std.specs.Io.KnownBytes.{Appends, Keeps}
use Rattle.ov_io.specs.Device.{AppendsPrefixOf}
use Rattle.ov_run_meaning.specs.Writing.{Writes}

-- ---- prefixes of what went to a writer

-- nothing went
pub none_went : (a : Option (List ℕ)) (text : List ℕ) → AppendsPrefixOf text a a
none_went a text = ([], text, Appends-nil a, refl)

-- all of it went
pub all_went : (a b : Option (List ℕ)) (text : List ℕ) → Appends a b text → AppendsPrefixOf text a b
all_went a b text appends = (text, [], appends, append-nil text)

-- all of a text went, and then a prefix of another
pub prefix_went :
    (a b c : Option (List ℕ)) (text own : List ℕ) → Appends a b text → AppendsPrefixOf own b c
    → AppendsPrefixOf (text ++ own) a c
prefix_went a b c text own first (prefix, rest, appends, is) = (
  text ++ prefix,
  rest,
  Appends-trans a b c text prefix first appends,
  append_assoc text prefix rest ∙ ap (λ t. text ++ t) is,
)

-- what was held is held still
pub appended_kept : (a b c : Option (List ℕ)) (text : List ℕ) → Appends a b text → Keeps b c → Appends a c text
appended_kept None b c text went kept = tt
appended_kept (Some x) None c text went kept = absurd went
appended_kept (Some x) (Some y) None text went kept = absurd kept
appended_kept (Some x) (Some y) (Some z) text went kept = kept ∙ went

pub prefix_kept :
    (a b c : Option (List ℕ)) (text : List ℕ) → AppendsPrefixOf text a b → Keeps b c → AppendsPrefixOf text a c
prefix_kept a b c text (prefix, rest, went, is) kept = (prefix, rest, appended_kept a b c prefix went kept, is)

-- and a text goes behind it
pub kept_appended : (a b c : Option (List ℕ)) (text : List ℕ) → Keeps a b → Appends b c text → Appends a c text
kept_appended None b c text kept went = tt
kept_appended (Some x) None c text kept went = absurd kept
kept_appended (Some x) (Some y) None text kept went = absurd went
kept_appended (Some x) (Some y) (Some z) text kept went = went ∙ ap (λ t. t ++ text) kept

pub kept_prefix :
    (a b c : Option (List ℕ)) (text : List ℕ) → Keeps a b → AppendsPrefixOf text b c → AppendsPrefixOf text a c
kept_prefix a b c text kept (prefix, rest, went, is) = (prefix, rest, kept_appended a b c prefix kept went, is)

-- ---- what a call wrote

-- where a call wrote this text whole, it wrote a text of its kind
pub wrote :
    {T E : Type 0} (IsText : List ℕ → Type 0) (a b : Option (List ℕ)) (text : List ℕ) (result : Result T E)
    → IsText text → OnOk result (Appends a b text) → OnOk result (Writes IsText a b)
wrote IsText a b text (Ok u) is appends = (text, is, appends)
wrote IsText a b text (Err e) is appends = tt

-- the fault of a failure is of the kind that all its faults are
pub err_of : {T E : Type 0} (Is : E → Type 0) (r : Result T E) (f : E) → IsErrAnd r Is → IsErrOf r f → Is f
err_of Is r f all is = subst (λ q. IsErrAnd q Is) is all

-- so it is this failure
pub failed_by : {T E : Type 0} (r : Result T E) (f : E) → IsErrAnd r (λ e. e ≡ f) → r ≡ Err f
failed_by (Ok t) f is = absurd is
failed_by (Err e) f is = ap Err is
