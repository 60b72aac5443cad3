-- How many of the lines that are told were accepted, and how many refused.
use Rattle.std.proofs.Common.{◌≡◌, ◌≤◌, ◌+◌, List, [], ◌∷◌, length, arith}
use Rattle.ov_hall.proofs.Flat.{total-append}
use Rattle.ov_run.specs.Code.Jobs.{joined}
use Rattle.ov_run_meaning.specs.Sections.{ToldLine, accepted_in, one_accepted, one_refused, refused_in}
use Rattle.ov_run_meaning.specs.declared.line_run_outcome.LineOutcome.{LineOutcome}
use Rattle.ov_run_meaning.specs.declared.line_run_outcome.LineOutcome.TheVariants.{Accepted, Refused}

one_of_two : (o : LineOutcome) → one_accepted o + one_refused o ≡ 1
one_of_two Accepted = omega arith
one_of_two (Refused refusal) = omega arith

pub one_most : (o : LineOutcome) → one_accepted o ≤ 1
one_most Accepted = omega arith
one_most (Refused refusal) = omega arith

-- each line is one of the two
pub both_kinds : (told : List ToldLine) → accepted_in told + refused_in told ≡ length told
both_kinds [] = omega arith
both_kinds (t ∷ ts) = omega (arith, one_of_two t.outcome, both_kinds ts)

-- the lines of one section, and those of the others
pub accepted_joined : (own : List ToldLine) (others : List (List ToldLine))
    → accepted_in (joined (own ∷ others)) ≡ accepted_in own + accepted_in (joined others)
accepted_joined own others = total-append (λ (t : ToldLine). one_accepted t.outcome) own (joined others)

pub refused_joined : (own : List ToldLine) (others : List (List ToldLine))
    → refused_in (joined (own ∷ others)) ≡ refused_in own + refused_in (joined others)
refused_joined own others = total-append (λ (t : ToldLine). one_refused t.outcome) own (joined others)
