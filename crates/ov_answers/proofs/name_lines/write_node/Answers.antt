-- The line of a node with a name, or without one.
use Rattle.std.proofs.Common.{[], ◌∷◌, ◌++◌, decimal, inl, inr, refl}
use Rattle.ov_answers.proofs.name_lines.write_node.Goals as goal

pub returns-in_default : goal.returns-in_default
returns-in_default c = (
  c.args.words.now ++ (decimal c.args.id ++ 10 ∷ []),
  inr (c.in_default.ensures.none, refl),
  c.in_ok-write_bare.ensures,
)

pub returns : goal.returns
returns c =
    let name = c.in-Some.name.now in (
      c.args.words.now ++ (decimal c.args.id ++ 32 ∷ (name ++ 10 ∷ [])),
      inl (name, c.in-Some.ensures.some, refl),
      c.in_ok-write_named.ensures,
    )
