-- The two places that are put into an empty row are below the third.
use Rattle.std.proofs.Common.{length, inl, inr, ap, arith, rules}
use Rattle.ov_graph.proofs.BitRows.Bits.{empty_bit}
use Rattle.ov_test_analysis.proofs.searches.from_third.Goals as goal

pub new-requires : goal.new-requires
new-requires c =
    let long = c.if-nodes-lt3.false in
    let same = ap length c.nodes.ensures.nodes in (
      omega arith,
      (
        omega arith,
        (
          search rules,
          (
            omega (arith, long, same),
            (
              search rules,
              (λ p h.
                  elim ((c.put-2.ensures p).0 h) [
                    | inl e ↦ (omega (arith, e, long, same), λ f. absurd (omega (arith, e, f)))
                    | inr k ↦ elim ((c.put.ensures p).0 k) [
                      | inl e ↦ (omega (arith, e, long, same), λ f. absurd (omega (arith, e, f)))
                      | inr none ↦ absurd (empty_bit p none)
                    ]
                  ]),
            ),
          ),
        ),
      ),
    )
