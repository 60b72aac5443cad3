-- Each step changes the table at one place.
use Rattle.std.proofs.Common.{◌≡◌, ◌∙◌, ℕ, ◌+◌, List, ◌∷◌, true, sym, subst, Some, None, set, drop}
use Rattle.std.proofs.Common.{length, arith, length-set}
use Rattle.std.proofs.lemmas.List.{drop_all}
use Rattle.ov_split.specs.Places.{net_by_place}
use Rattle.ov_split.specs.Code.Residual.{IsTidy}
use Rattle.ov_flow.specs.declared.walk_augmentation.Hop.{Hop}
use Rattle.ov_flow.specs.Code.Walked.{table_of, Goes}
use Rattle.ov_flow.proofs.Walking.{going_first, going_push, going_back, going_next, hop_at, write_there, write_others}
use Rattle.ov_flow.proofs.Walking.{said_below, back_said, way_said}
use Rattle.ov_flow.proofs.Tidying.{tidy_first, tidy_step, way_below}
use Rattle.ov_flow.proofs.walk_augmentation.take_hops.Goals as goal
use Rattle.ov_flow.proofs.walk_augmentation.take_hops.Goals.{in-Some, in-None, then-not-is_fresh, else-not-is_fresh}

pub loop-hop-init : goal.loop-hop-init
loop-hop-init g c =
    record {
      long = c.requires.long;
      tidy = λ e ends. tidy_first (table_of c.args.from.now) c.source-at.result ends;
      going = going_first (net_by_place c.args.net.now) (table_of c.args.from.now) c.args.hops.now c.args.target
          c.source-at.result c.source-at.ensures.place c.requires.walk;
    }

pub set-requires : goal.set-requires
set-requires g c =
    let n = net_by_place c.args.net.now in
    let wide = length c.args.net.now.graph.nodes in
    let start = table_of c.args.from.now in
    let from = c.loop-hop.from in
    let at = c.loop-hop.at in
    let hops = c.args.hops.now in
    let i = c.loop-hop.hop-index in
    let long = c.loop-hop.invariant.long in
    let g = going_next n start (table_of from) at c.args.target i hops c.loop-hop-test.true
    c.loop-hop.invariant.going in
    let l = way_said n wide start (table_of from) at c.args.target c.in-Some.w (hop_at hops i) (drop (i + 1) hops)
    c.requires.ready.placed g c.in-Some.is in
    omega (arith, l, long)

pub forget-requires : goal.forget-requires
forget-requires g c =
    let n = net_by_place c.args.net.now in
    let start = table_of c.args.from.now in
    let from = c.loop-hop.from in
    let at = c.loop-hop.at in
    let hops = c.args.hops.now in
    let i = c.loop-hop.hop-index in
    let g = going_next n start (table_of from) at c.args.target i hops c.loop-hop-test.true
    c.loop-hop.invariant.going in
    said_below from at (hop_at hops i).node (back_said n start (table_of from) at c.args.target (hop_at hops i)
    (drop (i + 1) hops) g c.in-None.is)

pub loop-hop-preserved : goal.loop-hop-preserved
loop-hop-preserved g c =
    let n = net_by_place c.args.net.now in
    let wide = length c.args.net.now.graph.nodes in
    let start = table_of c.args.from.now in
    let from = c.loop-hop.from in
    let at = c.loop-hop.at in
    let hops = c.args.hops.now in
    let i = c.loop-hop.hop-index in
    let long = c.loop-hop.invariant.long in
    let g = going_next n start (table_of from) at c.args.target i hops c.loop-hop-test.true
    c.loop-hop.invariant.going in
    let met : c.if-not-is_fresh.apart ≡ true → (c.loop-hop.apart ≡ true) × (c.is_fresh.result ≡ true) =
    λ e. elim c.if-not-is_fresh.branch [
      | then-not-is_fresh w ↦ let f = w.apart-is in absurd (cc (e, f))
      | else-not-is_fresh w ↦ (sym w.apart-is ∙ e, w.if-not-is_fresh.false)
    ] in
    elim c.match-hop.branch [
      | in-Some w ↦
          let v = w.in-Some.w in
          let l = way_said n wide start (table_of from) at c.args.target v (hop_at hops i) (drop (i + 1) hops)
          c.requires.ready.placed g w.in-Some.is in
          let new = set from v (Some at) in
          let there = write_there from v (Some at) (omega (arith, l, long)) in
          rw (w.from-is, w.set.ensures) (record {
            long = length-set from v (Some at) ∙ long;
            tidy = λ e ends t. tidy_step n start (table_of from) (table_of new) at c.args.target v (hop_at hops i)
                (drop (i + 1) hops) ends g w.in-Some.is (c.is_fresh.ensures (met e).1) there
                (write_others from v (Some at)) (c.loop-hop.invariant.tidy (met e).0 ends t);
            going = going_push n start (table_of from) (table_of new) at c.args.target v (hop_at hops i)
                (drop (i + 1) hops) g w.in-Some.is there (write_others from v (Some at));
          })
      | in-None w ↦
          let s = back_said n start (table_of from) at c.args.target (hop_at hops i) (drop (i + 1) hops) g
          w.in-None.is in
          rw (w.from-is, w.forget.ensures) (record {
            long = length-set from at None ∙ long;
            tidy = λ e. let f = (c.is_fresh.ensures (met e).1).1 in let g = w.in-None.is in absurd (cc (f, g));
            going = going_back n start (table_of from) (table_of (set from at None)) at c.args.target (hop_at hops i)
                (drop (i + 1) hops) g w.in-None.is
                (write_there from at None (said_below from at (hop_at hops i).node s)) (write_others from at None);
          })
    ]

pub is_fresh-requires : goal.is_fresh-requires
is_fresh-requires g c =
    let n = net_by_place c.args.net.now in
    let start = table_of c.args.from.now in
    let from = c.loop-hop.from in
    let at = c.loop-hop.at in
    let hops = c.args.hops.now in
    let i = c.loop-hop.hop-index in
    let g = going_next n start (table_of from) at c.args.target i hops c.loop-hop-test.true
    c.loop-hop.invariant.going in
    rw c.loop-hop.invariant.long
    (way_below n (length c.args.net.now.graph.nodes) start (table_of from) at c.args.target (hop_at hops i)
    (drop (i + 1) hops) c.requires.ready.placed g)

pub returns-clause-tidy : goal.returns-clause-tidy
returns-clause-tidy g c e ends t =
    let from = table_of c.loop-hop.from in
    let there : c.loop-hop.at ≡ c.args.target =
    subst (λ (hs : List Hop). Goes (net_by_place c.args.net.now) from c.loop-hop.at hs c.args.target)
    (drop_all c.loop-hop.hop-index c.args.hops.now c.loop-hop-test.false) c.loop-hop.invariant.going.goes in
    subst (λ (x : ℕ). IsTidy from (x ∷ ends)) there (c.loop-hop.invariant.tidy e ends t)
