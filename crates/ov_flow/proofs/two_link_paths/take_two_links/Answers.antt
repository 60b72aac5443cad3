-- A neighbour of the source that is no target, and the first free target that it is linked to.
use Rattle.std.proofs.Common.{◌≤◌, ◌+◌, inl, inr, length, sym, subst, arith}
use Rattle.ov_ids.specs.Members.{Has}
use Rattle.ov_graph.proofs.EvenTest.Filtered.{linked_node}
use Rattle.ov_split.specs.Places.{net_by_place}
use Rattle.ov_flow.proofs.two_link_paths.take_two_links.Goals.{in-Some-target_over, in_default-target_over}
use Rattle.ov_flow.proofs.two_link_paths.take_two_links.Goals as goal

pub target_over-requires : goal.target_over-requires
target_over-requires g c =
    let n = net_by_place c.args.net.now in
    let up = (c.requires.ready.placed.nodes c.in-Some.u).0 (linked_node n.graph c.source-source.result c.in-Some.u
    c.requires.ready.placed.net.graph c.in-Some.ensures.some.holds.0) in
    (omega arith, (omega arith, (c.requires.ready, up)))

pub overflow_add-after : goal.overflow_add-after
overflow_add-after g c =
    let n = net_by_place c.args.net.now in
    let up = (c.requires.ready.placed.nodes c.in-Some.u).0 (linked_node n.graph c.source-source.result c.in-Some.u
    c.requires.ready.placed.net.graph c.in-Some.ensures.some.holds.0) in
    let few = c.requires.ready.placed.few in
    omega (arith, up, few)

pub loop-u-smaller : goal.loop-u-smaller
loop-u-smaller g c =
    let n = net_by_place c.args.net.now in
    let up = (c.requires.ready.placed.nodes c.in-Some.u).0 (linked_node n.graph c.source-source.result c.in-Some.u
    c.requires.ready.placed.net.graph c.in-Some.ensures.some.holds.0) in
    let reached = c.in-Some.ensures.some.reached in
    omega (arith, up, reached)

pub loop-u-init : goal.loop-u-init
loop-u-init g c =
    let n = net_by_place c.args.net.now in
    record {
      work = c.requires.work;
      few = c.requires.few;
      targets = λ t b.
          let far = (c.requires.far t).0 b in
          record { target = far.target; off = far.off; unused = λ a e. far.far (c.requires.one t a e).0 };
      behind = λ v a e. inl (c.requires.one v a e).1;
      fits = omega arith;
    }

pub loop-u-preserved : goal.loop-u-preserved
loop-u-preserved g c =
    let n = net_by_place c.args.net.now in
    let u = c.in-Some.u in
    let i = c.loop-u.invariant in
    let first = c.in-Some.ensures.some in
    let reached = first.reached in
    let no_target : ¬ Has n.targets u = λ h. first.holds.1 ((c.targets.ensures.places u).1 h) in
    let up = (c.requires.ready.placed.nodes u).0 (linked_node n.graph c.source-source.result u
    c.requires.ready.placed.net.graph first.holds.0) in
    let fits : u + 1 ≤ length c.args.net.now.graph.nodes = omega (arith, up) in
    elim c.match-target_over.branch [
      | in-Some-target_over w ↦
          let t = w.in-Some-target_over.t in
          let shared = w.in-Some-target_over.ensures.first.holds.1 in
          let target = (i.targets t shared).target in
          let used = w.take_over.ensures.used in
          let len = c.len.ensures in
          let less = c.if-len-level.false in
          let one = w.take_over.ensures.one in
          rw (w.work-is, w.free-is) (record {
            work = w.take_over.ensures.work;
            few = omega (arith, len, less, one);
            targets = λ v b.
                let k = (w.clear.ensures v).0 b in
                let f = i.targets v k.1 in
                record {
                  target = f.target;
                  off = f.off;
                  unused = λ a e. elim (used v a e) [
                    | inl s ↦ no_target (subst (Has n.targets) s f.target)
                    | inr o ↦ elim o [ inl s ↦ k.0 s | inr s ↦ f.unused a s ]
                  ];
                };
            behind = λ v a e. elim (used v a e) [
              | inl s ↦ inr (omega (arith, s))
              | inr o ↦ elim o [
                | inl s ↦ inl (subst (Has n.targets) (sym s) target)
                | inr s ↦ elim (i.behind v a s) [ inl h ↦ inl h | inr l ↦ inr (omega (arith, l, reached)) ]
              ]
            ];
            fits = fits;
          })
      | in_default-target_over w ↦ rw (w.work-is, w.free-is) (record {
        work = i.work;
        few = i.few;
        targets = i.targets;
        behind = λ v a e. elim (i.behind v a e) [ inl h ↦ inl h | inr l ↦ inr (omega (arith, l, reached)) ];
        fits = fits;
      })
    ]
