-- Each bit that is set names a target next to the source.
use Rattle.std.proofs.Common.{◌≡◌, ◌∙◌, ◌+◌, ◌≤◌, inl, inr, ℕ, List, set, length, length-set, Some, sym, ap, subst}
use Rattle.std.proofs.Common.{arith}
use Rattle.std.proofs.lemmas.Bool.{cases_eq, cases_lt}
use Rattle.std.proofs.lemmas.List.{length_push}
use Rattle.ov_ids.specs.Members.{Has}
use Rattle.ov_graph.specs.Links.{Linked}
use Rattle.ov_graph.proofs.EvenTest.Filtered.{linked_node}
use Rattle.ov_split.specs.Places.{net_by_place}
use Rattle.ov_split.specs.Code.Residual.{IsFlow, IsFree}
use Rattle.ov_flow.specs.Code.Walked.{table_of}
use Rattle.ov_flow.proofs.Walking.{write_there, write_others}
use Rattle.ov_flow.proofs.Beginning.{none_held, flow_direct}
use Rattle.ov_flow.proofs.one_link_paths.take_direct.Goals as goal

pub loop-w-init : goal.loop-w-init
loop-w-init g c =
    let w = c.args.work.now in
    record {
      work = c.requires.work;
      few = subst (λ (l : List ℕ). length l ≤ c.args.level) (sym c.requires.empty) (omega arith);
      count = subst (λ (l : List ℕ). length l ≤ 0) (sym c.requires.empty) (omega arith);
      below = λ v u f. absurd (none_held (net_by_place c.args.net.now) (table_of w.from) w.ends.items
          c.requires.work.flow c.requires.empty v u f);
      one = λ v u f. absurd (none_held (net_by_place c.args.net.now) (table_of w.from) w.ends.items
          c.requires.work.flow c.requires.empty v u f);
      bits = λ q. (
        (λ h.
            let k = (c.without-far.ensures q).0 h in (
              (c.targets.ensures.places q).0 k.1,
              λ a. k.2 ((c.avoided.ensures.places q).1 a),
              λ l. absurd (omega (arith, l)),
            )),
        (λ h.
            let placed = c.requires.ready.placed in
            let enough = c.words.ensures.words.enough in
            let l = (placed.nodes q).0 (placed.net.targets.nodes q h.0) in
            (c.without-far.ensures q).1 (
              omega (arith, l, enough),
              (c.targets.ensures.places q).1 h.0,
              λ b. h.1 ((c.avoided.ensures.places q).0 b),
            )),
      );
      fits = omega arith;
    }

pub loop-w-preserved : goal.loop-w-preserved
loop-w-preserved g c =
    let n = net_by_place c.args.net.now in
    let w = c.in-Some.w in
    let first = c.in-Some.ensures.some in
    let i = c.loop-w.invariant in
    let from = c.loop-w.work.from in
    let ends = c.loop-w.work.ends.items in
    let s = c.source-source.result in
    let is : s ≡ n.source = c.source-source.ensures.place in
    let a = (i.bits w).0 first.holds.1 in
    let link : Linked n.graph n.source w = subst (λ (x : ℕ). Linked n.graph x w) is first.holds.0 in
    let free : IsFree n n.source w = (link, a.1) in
    let target : Has n.targets w = a.0 in
    let l = (c.requires.ready.placed.nodes w).0 (linked_node n.graph n.source w c.requires.ready.placed.net.graph
    link) in
    let room = i.work.room.from in
    let reached = first.reached in
    let items = c.push_reserved.ensures.items in
    let less = c.if-len-level.false in
    rw c.set.ensures (record {
      work = record {
        room = record {
          from = length-set from w (Some s) ∙ room;
          next = i.work.room.next;
          tree = i.work.room.tree;
          hops = i.work.room.hops;
          ends = let kept = c.push_reserved.ensures.capacity in let r = i.work.room.ends in omega (arith, kept, r);
        };
        flow = subst (IsFlow n (table_of (set from w (Some s)))) (sym items)
            (flow_direct n c.requires.ready.placed.net (table_of from) (table_of (set from w (Some s))) ends w
            i.work.flow free
            target (λ u f. let m = i.below w u f in absurd (omega (arith, m, reached)))
            (write_there from w (Some s) (omega (arith, l, room)) ∙ ap Some is) (write_others from w (Some s)));
      };
      few = let e = c.len.ensures in let p = length_push ends w in
          subst (λ (l : List ℕ). length l ≤ c.args.level) (sym items) (omega (arith, e, p, less));
      count = let p = length_push ends w in let n = i.count in
          subst (λ (l : List ℕ). length l ≤ w + 1) (sym items) (omega (arith, p, n, reached));
      below = λ v u f. elim (cases_eq v w) [
        | inl e ↦ omega (arith, e)
        | inr ne ↦ let m = i.below v u (sym (write_others from w (Some s) v ne) ∙ f) in omega (arith, m, reached)
      ];
      one = λ v u f. elim (cases_eq v w) [
        | inl e ↦ (subst (Linked n.graph n.source) (sym e) link, subst (Has n.targets) (sym e) target)
        | inr ne ↦ i.one v u (sym (write_others from w (Some s) v ne) ∙ f)
      ];
      bits = λ q. (
        (λ h.
            let k = (c.clear.ensures q).0 h in
            let b = (i.bits q).0 k.1 in (
              b.0,
              b.1,
              λ l m. elim (cases_lt q c.loop-w.after) [
                | inl s ↦ b.2 s m
                | inr s ↦
                    let ne = k.0 in
                    first.first q s (omega (arith, l, ne)) (subst (λ (x : ℕ). Linked n.graph x q) (sym is) m, k.1)
              ],
            )),
        (λ h. (c.clear.ensures q).1 (
          λ e. h.2 (omega (arith, e)) (subst (Linked n.graph n.source) (sym e) link),
          (i.bits q).1 (h.0, h.1, λ l. h.2 (omega (arith, l, reached))),
        )),
      );
      fits = omega (arith, l);
    })

pub set-requires : goal.set-requires
set-requires g c =
    let n = net_by_place c.args.net.now in
    let w = c.in-Some.w in
    let link : Linked n.graph n.source w = subst (λ (x : ℕ). Linked n.graph x w) c.source-source.ensures.place
    c.in-Some.ensures.some.holds.0 in
    let l = (c.requires.ready.placed.nodes w).0 (linked_node n.graph n.source w c.requires.ready.placed.net.graph
    link) in
    let room = c.loop-w.invariant.work.room.from in
    omega (arith, l, room)

pub returns-clause-far : goal.returns-clause-far
returns-clause-far g c less t =
    let n = net_by_place c.args.net.now in
    let is = c.source-source.ensures.place in
    let b = c.loop-w.invariant.bits t in (
      (λ h. let k = b.0 h in record {
        target = k.0;
        off = k.1;
        far = λ m. elim (cases_lt t c.loop-w.after) [
          | inl l ↦ k.2 l m
          | inr l ↦ c.in_default.ensures.none t l (subst (λ (x : ℕ). Linked n.graph x t) (sym is) m, h)
        ];
      }),
      (λ f. b.1 (f.target, f.off, λ l. f.far)),
    )
