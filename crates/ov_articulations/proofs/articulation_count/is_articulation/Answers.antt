use Rattle.std.proofs.Common.{inl, inr, refl, sym}
use Rattle.std.proofs.lemmas.Bool.{false≢true}
use Rattle.ov_articulations.proofs.articulation_count.is_articulation.Goals as goal

pub part_with-requires-clause-ascend : goal.part_with-requires-clause-ascend
part_with-requires-clause-ascend c p among = (c.in_ok-parts.ensures.each p among).ascends

pub part_with-requires-clause-there : goal.part_with-requires-clause-there
part_with-requires-clause-there c =
    let start = c.in-Some.ensures.some in
    c.in_ok-parts.ensures.all c.in-Some.start (
      c.requires.nodes c.in-Some.start start.0,
      λ h. elim h [ inl e ↦ start.1 (sym e) | inr none ↦ none ],
    )

pub returns-in-Some-other_outside : goal.returns-in-Some-other_outside
returns-in-Some-other_outside c =
    let start = c.in-Some.ensures.some in
    let other = c.in-Some-other_outside.ensures.some in
    let part = c.in_ok-parts.ensures.each c.part_with.result.now c.part_with.ensures.part in (
      λ is. record {
        member = c.requires.member;
        a = c.in-Some.start;
        b = c.in-Some-other_outside.field-0;
        a_within = start.0;
        b_within = other.0;
        a_left = start.1;
        b_left = other.1;
        parted = λ joined.
            other.2 ((part.joined c.in-Some.start c.in-Some-other_outside.field-0 c.part_with.ensures.member).1 joined);
      },
      λ point. refl,
    )

pub returns : goal.returns
returns c =
    let none = c.in-None.ensures.none in
    let part = c.in_ok-parts.ensures.each c.part_with.result.now c.part_with.ensures.part in (
      λ never. absurd (false≢true never),
      λ point. absurd (point.parted ((part.joined point.a point.b (none point.a point.a_within point.a_left)).0
          (none point.b point.b_within point.b_left))),
    )
