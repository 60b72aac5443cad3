-- A listing of a name that is none of a node, one of a node by itself, and one of two nodes.
use Rattle.std.proofs.Common.{◌∙◌, inl, inr, sym, eqb-true}
use Rattle.ov_dump.proofs.Linking.{upward_more}
use Rattle.ov_dump.proofs.Numbered.{from_stranger, named_node, of_itself, one_lists, to_stranger}
use Rattle.ov_dump.proofs.Places.{none_given}
use Rattle.ov_dump.proofs.listing_pairs.add_listing.Goals as goal

pub returns-in_default-clause-lists : goal.returns-in_default-clause-lists
returns-in_default-clause-lists c = λ i j far.
    let names = c.args.numbering.now.names.items in
    let none = none_given c.node_of.result _ c.node_of.ensures.none c.in_default.not-Some in (
      (λ h. inr h),
      (λ h. elim h [ inl k ↦ absurd (from_stranger names c.args.listing.now i j none k) | inr k ↦ k ]),
    )

pub returns-in_default-node_of-clause-lists : goal.returns-in_default-node_of-clause-lists
returns-in_default-node_of-clause-lists c = λ i j far.
    let names = c.args.numbering.now.names.items in
    let none = none_given c.node_of-2.result _ c.node_of-2.ensures.none c.in_default-node_of.not-Some in (
      (λ h. inr h),
      (λ h. elim h [ inl k ↦ absurd (to_stranger names c.args.listing.now i j none k) | inr k ↦ k ]),
    )

pub returns-then-eq-clause-lists : goal.returns-then-eq-clause-lists
returns-then-eq-clause-lists c = λ i j far.
    let n = c.args.numbering.now in
    let s = c.requires.numbering in
    let same = eqb-true c.in-Some.from c.in-Some-node_of.to (sym c.eq.ensures ∙ c.if-eq.true) in (
      (λ h. inr h),
      (λ h. elim h [
        | inl k ↦ absurd (of_itself n.names.items c.args.listing.now c.in-Some.from c.in-Some-node_of.to
            s.differ c.in-Some.ensures.some c.in-Some-node_of.ensures.some same i j far k)
        | inr k ↦ k
      ]),
    )

pub returns-clause-up : goal.returns-clause-up
returns-clause-up c =
    let names = c.args.numbering.now.names.items in
    upward_more names c.in-Some.from c.in-Some-node_of.to c.args.up.now.items c.add_following.new.up.items
    (named_node names c.in-Some.from c.args.listing.now.from c.in-Some.ensures.some)
    (named_node names c.in-Some-node_of.to c.args.listing.now.to c.in-Some-node_of.ensures.some) c.requires.up
    c.in_ok-add_following.ensures.up

pub returns-clause-down : goal.returns-clause-down
returns-clause-down c =
    let names = c.args.numbering.now.names.items in
    upward_more names c.in-Some.from c.in-Some-node_of.to c.args.down.now.items c.add_following.new.down.items
    (named_node names c.in-Some.from c.args.listing.now.from c.in-Some.ensures.some)
    (named_node names c.in-Some-node_of.to c.args.listing.now.to c.in-Some-node_of.ensures.some) c.requires.down
    c.in_ok-add_following.ensures.down

pub returns-clause-lists : goal.returns-clause-lists
returns-clause-lists c = λ i j far.
    let n = c.args.numbering.now in
    let s = c.requires.numbering in
    let one = one_lists n.names.items c.args.listing.now c.in-Some.from c.in-Some-node_of.to
    s.differ c.in-Some.ensures.some c.in-Some-node_of.ensures.some i j in
    let follows = c.in_ok-add_following.ensures.follows i j in (
      (λ h. elim (follows.0 h) [ inl e ↦ inl (one.1 e) | inr k ↦ inr k ]),
      (λ h. follows.1 (elim h [ inl k ↦ inl (one.0 k) | inr k ↦ inr k ])),
    )
