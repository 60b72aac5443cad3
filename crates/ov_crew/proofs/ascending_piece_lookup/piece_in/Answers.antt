-- The fan or the pair that has the number.
use Rattle.std.proofs.Common.{arith}
use Rattle.ov_crew.proofs.Ascending.{column_level, fan_reached, pair_reached}
use Rattle.ov_crew.proofs.ascending_piece_lookup.piece_in.Goals as goal

pub overflow_cast-level : goal.overflow_cast-level
overflow_cast-level c =
    let few = c.requires.nodes in
    omega (
      arith,
      few,
      column_level c.args.nodes c.args.members c.args.number c.args.column c.requires.below
          c.requires.reached,
    )

pub overflow_add-result : goal.overflow_add-result
overflow_add-result c =
    let nodes = c.requires.nodes in
    let members = c.requires.members in
    let r = fan_reached c.args.nodes c.args.members c.args.number c.args.column c.requires.below c.requires.reached
    c.requires.within c.if-column.true in
    let low = r.0 in
    omega (arith, nodes, members, low)

pub overflow_cast-result : goal.overflow_cast-result
overflow_cast-result c =
    let nodes = c.requires.nodes in
    let members = c.requires.members in
    let r = fan_reached c.args.nodes c.args.members c.args.number c.args.column c.requires.below c.requires.reached
    c.requires.within c.if-column.true in
    let low = r.0 in
    omega (arith, nodes, members, low)

pub overflow_add-result-then-column : goal.overflow_add-result-then-column
overflow_add-result-then-column c =
    let nodes = c.requires.nodes in
    let members = c.requires.members in
    let r = fan_reached c.args.nodes c.args.members c.args.number c.args.column c.requires.below c.requires.reached
    c.requires.within c.if-column.true in
    let low = r.0 in
    omega (arith, nodes, members, low)

pub returns-then-column : goal.returns-then-column
returns-then-column c = (
    fan_reached c.args.nodes c.args.members c.args.number c.args.column c.requires.below c.requires.reached
    c.requires.within c.if-column.true).1

pub overflow_cast-result-2 : goal.overflow_cast-result-2
overflow_cast-result-2 c =
    let nodes = c.requires.nodes in
    let members = c.requires.members in
    let r = pair_reached c.args.nodes c.args.members c.args.number c.args.column c.requires.below c.requires.reached
    c.requires.within c.if-column.false c.requires.last in
    let among = r.0 in
    let low = r.1 in
    omega (arith, nodes, members, among, low)

pub overflow_add-result-2 : goal.overflow_add-result-2
overflow_add-result-2 c =
    let nodes = c.requires.nodes in
    let members = c.requires.members in
    let r = pair_reached c.args.nodes c.args.members c.args.number c.args.column c.requires.below c.requires.reached
    c.requires.within c.if-column.false c.requires.last in
    let among = r.0 in
    let low = r.1 in
    omega (arith, nodes, members, among, low)

pub overflow_cast-result-3 : goal.overflow_cast-result-3
overflow_cast-result-3 c =
    let nodes = c.requires.nodes in
    let members = c.requires.members in
    let r = pair_reached c.args.nodes c.args.members c.args.number c.args.column c.requires.below c.requires.reached
    c.requires.within c.if-column.false c.requires.last in
    let among = r.0 in
    let low = r.1 in
    omega (arith, nodes, members, among, low)

pub overflow_add-result-3 : goal.overflow_add-result-3
overflow_add-result-3 c =
    let nodes = c.requires.nodes in
    let members = c.requires.members in
    let r = pair_reached c.args.nodes c.args.members c.args.number c.args.column c.requires.below c.requires.reached
    c.requires.within c.if-column.false c.requires.last in
    let among = r.0 in
    let low = r.1 in
    omega (arith, nodes, members, among, low)

pub returns : goal.returns
returns c = (pair_reached c.args.nodes c.args.members c.args.number c.args.column c.requires.below c.requires.reached
    c.requires.within c.if-column.false c.requires.last).2
