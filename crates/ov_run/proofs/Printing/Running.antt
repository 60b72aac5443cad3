-- What was printed so far, and what is left to print.
use Rattle.std.proofs.Common.{inl, inr, ℕ, List, [], ◌∷◌, ◌++◌, append_assoc, sym, subst, refl}
use Rattle.std.proofs.lemmas.List.{append-nil}
use Rattle.ov_snap.specs.CoreState.{CoreState}
use Rattle.ov_run_meaning.specs.Ending.{BeginsLines, EndsLines}
use Rattle.ov_run_meaning.specs.Running.{PrintsLines}
use Rattle.ov_run_meaning.specs.Strict.{AcceptsLine, AcceptsLines, GoesOn, StopsLines}
use Rattle.ov_run_meaning.specs.declared.refusal.Refusal.{Refusal}
use Rattle.ov_run_meaning.specs.declared.strictness.Strictness.{Strictness}
use Rattle.ov_run_meaning.proofs.Accepted.{goes_on_prints}
use Rattle.ov_scenario.specs.RunLines.{FirstNeedsMemory}
use Rattle.ov_scenario.specs.declared.scenario.Line.{Line}

-- this text was printed of all lines, and these are left: with what they print now, whole, up to some point or up to
-- their end out of memory, all lines print this text before it
pub record SoFar (strictness : Strictness) (b : CoreState) (all : List Line) (now : CoreState) (lines : List Line)
    (text : List ℕ) : Type 0 where
  pub whole : (u : CoreState) (later : List ℕ) → PrintsLines now lines u later → PrintsLines b all u (text ++ later)
  pub prefix : (later : List ℕ) → BeginsLines strictness now lines later → BeginsLines strictness b all (text ++ later)
  pub ends : (later : List ℕ) → EndsLines strictness now lines later → EndsLines strictness b all (text ++ later)

module _ (strictness : Strictness) (b : CoreState) where
  pub begun : (lines : List Line) → SoFar strictness b lines b lines []
  begun lines = record { whole = λ u later prints. prints; prefix = λ later begins. begins; ends = λ later ends. ends }

  pub more :
      (all : List Line) (now next : CoreState) (line : Line) (lines : List Line) (text own : List ℕ)
      → SoFar strictness b all now (line ∷ lines) text → GoesOn strictness now line next own
      → SoFar strictness b all next lines (text ++ own)
  more all now next line lines text own so_far goes_on = record {
    whole = λ u later others.
        subst (λ t. PrintsLines b all u t) (sym (append_assoc text own later))
        (so_far.whole u (own ++ later)
        (next, own, later, goes_on_prints strictness now line next own goes_on, others, refl));
    prefix = λ later others.
        subst (λ t. BeginsLines strictness b all t) (sym (append_assoc text own later))
        (so_far.prefix (own ++ later) (inr (next, own, later, goes_on, others, refl)));
    ends = λ later others.
        subst (λ t. EndsLines strictness b all t) (sym (append_assoc text own later))
        (so_far.ends (own ++ later) (inr (inr (next, own, later, goes_on, others, refl))));
  }

  pub ended : (all : List Line) (now : CoreState) (text : List ℕ) → SoFar strictness b all now [] text
      → PrintsLines b all now text
  ended all now text so_far =
      subst (λ t. PrintsLines b all now t) (append-nil text) (so_far.whole now [] (refl, refl))

-- all lines so far were accepted: this text was printed of them, and these are left, with the lines of the file that
-- ask for them
pub record AcceptedSoFar (b : CoreState) (all : List Line) (all_asked : List (ℕ × List ℕ)) (now : CoreState)
    (lines : List Line) (asked : List (ℕ × List ℕ)) (text : List ℕ) : Type 0 where
  pub whole : (u : CoreState) (later : List ℕ) → AcceptsLines now lines u later → AcceptsLines b all u (text ++ later)
  pub stops : (n : ℕ) (refusal : Refusal) (later : List ℕ) → StopsLines now lines asked n refusal later
      → StopsLines b all all_asked n refusal (text ++ later)

pub accepted_begun : (b : CoreState) (lines : List Line) (asked : List (ℕ × List ℕ))
    → AcceptedSoFar b lines asked b lines asked []
accepted_begun b lines asked =
    record { whole = λ u later accepts. accepts; stops = λ n refusal later stops. stops }

pub accepted_more :
    (b : CoreState) (all : List Line) (all_asked : List (ℕ × List ℕ)) (now next : CoreState) (line : Line)
    (lines : List Line) (own_asked : ℕ × List ℕ) (asked : List (ℕ × List ℕ)) (text own : List ℕ)
    → AcceptedSoFar b all all_asked now (line ∷ lines) (own_asked ∷ asked) text → AcceptsLine now line next own
    → AcceptedSoFar b all all_asked next lines asked (text ++ own)
accepted_more b all all_asked now next line lines own_asked asked text own so_far accepts = record {
  whole = λ u later others.
      subst (λ t. AcceptsLines b all u t) (sym (append_assoc text own later))
      (so_far.whole u (own ++ later) (next, own, later, accepts, others, refl));
  stops = λ n refusal later others.
      subst (λ t. StopsLines b all all_asked n refusal t) (sym (append_assoc text own later))
      (so_far.stops n refusal (own ++ later) (inr (next, own, later, accepts, others, refl)));
}

pub accepted_ended : (b : CoreState) (all : List Line) (all_asked : List (ℕ × List ℕ)) (now : CoreState)
    (asked : List (ℕ × List ℕ)) (text : List ℕ) → AcceptedSoFar b all all_asked now [] asked text
    → AcceptsLines b all now text
accepted_ended b all all_asked now asked text so_far =
    subst (λ t. AcceptsLines b all now t) (append-nil text) (so_far.whole now [] (refl, refl))

-- memory is lacking to read the first line
pub unread : (strictness : Strictness) (b : CoreState) (lines : List Line) → FirstNeedsMemory lines
    → EndsLines strictness b lines []
unread strictness b [] needs = absurd needs
unread strictness b (line ∷ lines) needs = inl (needs, refl)
