-- What the map has at the name.
use Rattle.std.proofs.Common.{◌≡◌, nat_eq, rules}
use Rattle.std.specs.Cmp.Lexicographic.{pointwise}
use Rattle.std.specs.HashMap.{get}
use Rattle.ov_ids.specs.Members.{Has}
use Rattle.ov_dump.specs.Dumps.{IsNameOf}
use Rattle.ov_dump.proofs.Numberings.{if_none, if_some}
use Rattle.ov_dump.proofs.node_numbering.node_of.Goals as goal

pub returns-clause-some : goal.returns-clause-some
returns-clause-some c =
    let n = c.args.numbering.now in
    let name = c.args.name.now in
    let at : c.copied.result ≡ get (pointwise nat_eq) n.nodes name = search rules in
    if_some (¬ Has n.names.items name) (λ i. IsNameOf n.names.items i name) c.copied.result
    (get (pointwise nat_eq) n.nodes name) at (c.requires.numbering.nodes name)

pub returns-clause-none : goal.returns-clause-none
returns-clause-none c =
    let n = c.args.numbering.now in
    let name = c.args.name.now in
    let at : c.copied.result ≡ get (pointwise nat_eq) n.nodes name = search rules in
    if_none (¬ Has n.names.items name) (λ i. IsNameOf n.names.items i name) c.copied.result
    (get (pointwise nat_eq) n.nodes name) at (c.requires.numbering.nodes name)
