-- A certificate, its outline, and its entries.
use Rattle.std.proofs.Common.{◌≡◌, ◌∙◌, ℕ, List, map, refl, sym, ap, ap₂, subst}
use Rattle.serde_json.specs.Written.{compact_text}
use Rattle.ov_ids.proofs.Members.{has_place}
use Rattle.ov_graph.specs.Links.{LinkGraph, IsGraph, IsGroup}
use Rattle.ov_cert.specs.Valid.{IsValidForGroup}
use Rattle.ov_cert.specs.declared.cert.Cert.{Cert}
use Rattle.ov_cert.specs.declared.cert.Cert.TheVariants as cert
use Rattle.ov_cert.specs.declared.cert.Split.{Split}
use Rattle.ov_cert.specs.declared.cert.PairPaths.{PairPaths}
use Rattle.ov_cert.specs.declared.cert.FanPaths.{FanPaths}
use Rattle.ov_certfile.specs.DataOf.{data_of}
use Rattle.ov_even.specs.Answer.{IsAnswer}
use Rattle.ov_even.specs.Naming.{AreWanted, HaveAskedPaths}
use Rattle.ov_even.specs.Outlines.{HasNoPaths, IsOutline}
use Rattle.ov_even.specs.Theorems.{AreAlike}
use Rattle.ov_even.specs.Code.Entries.{pair_entries, fan_entries}
use Rattle.ov_even.specs.declared.paths_by_ids.NamedPaths.{NamedPaths}
use Rattle.ov_even.proofs.AnalysisSteps.Outlining.{entered_full}
use Rattle.ov_even.proofs.EvenTest.Answering.{linked_valid}
use Rattle.ov_certwriter.specs.Code.Parts.{without_entries}
use Rattle.ov_certwriter.specs.Code.Placed.{split_with, cert_with, HasEntries, AreFull}

-- ---- what an outline says of its certificate

-- if it is no split, it is the certificate
pub outline_whole : (c o : Cert) → AreAlike c o → ((s : Split) → ¬ (o ≡ cert.Split s)) → o ≡ c
outline_whole (cert.Linked k) (cert.Linked l) alike not = ap cert.Linked (sym alike)
outline_whole (cert.Split c) (cert.Linked l) alike not = absurd alike
outline_whole c (cert.Split s) alike not = absurd (not s refl)

same_split : (c s : Split) (pairs : List PairPaths) (fans : List FanPaths) → AreAlike (cert.Split c) (cert.Split s)
    → HasEntries (cert.Split c) pairs fans → split_with s pairs fans ≡ c
same_split c s pairs fans alike has =
    rw (sym alike.k, sym alike.cut, sym alike.near, sym alike.far, sym alike.side, sym has.0, sym has.1) refl

-- if it is a split, the certificate is that split with its own entries
pub outline_filled : (c o : Cert) (s : Split) (pairs : List PairPaths) (fans : List FanPaths) → AreAlike c o
    → o ≡ cert.Split s → HasEntries c pairs fans → cert.Split (split_with s pairs fans) ≡ c
outline_filled (cert.Linked k) o s pairs fans alike is has = absurd (subst (AreAlike (cert.Linked k)) is alike)
outline_filled (cert.Split c) o s pairs fans alike is has =
    ap cert.Split (same_split c s pairs fans (subst (AreAlike (cert.Split c)) is alike) has)

-- without entries it is as without paths
pub outline_hollow : (o : Cert) (s : Split) → o ≡ cert.Split s → HasNoPaths o → o ≡ cert.Split (without_entries s)
outline_hollow o s is none =
    let no = subst HasNoPaths is none in
    is ∙ ap₂ (λ (pairs : List PairPaths) (fans : List FanPaths). cert.Split (split_with s pairs fans)) no.0 no.1

-- the same file
pub same_file : (c d : Cert) (g h : LinkGraph) (q r : List ℕ) (moment : ℕ) → c ≡ d → g ≡ h → q ≡ r
    → compact_text (data_of c g q moment) ≡ compact_text (data_of d h r moment)
same_file c d g h q r moment cert graph members =
    ap (λ (x : Cert). compact_text (data_of x g q moment)) cert
    ∙ ap₂ (λ (x : LinkGraph) (y : List ℕ). compact_text (data_of d x y moment)) graph members

-- ---- the entries of the pieces whose paths a certificate has

-- with them, an outline becomes the answer, and valid
pub record IsAnsweredBy (g : LinkGraph) (q : List ℕ) (c : Cert) : Type 0 where
  pub answer : IsAnswer g q c
  pub valid : IsValidForGroup g q c

pub answered : (g : LinkGraph) (q : List ℕ) (o : Cert) (named : List NamedPaths) → IsGraph g → IsGroup g q
    → IsOutline g q o → AreWanted g q (map (λ n. n.piece) named) → HaveAskedPaths g q named
    → IsAnsweredBy g q (cert_with o (pair_entries q named) (fan_entries q named))
answered g q (cert.Linked k) named graph group outline wanted asked =
    let is = outline.answer in
    record { answer = is; valid = linked_valid g q k group is.0 is.1 }
answered g q (cert.Split o) named graph group outline wanted asked =
    let full = entered_full g q o named graph group outline wanted asked in
    record { answer = full.answer; valid = full.valid }

-- ---- the entries of a valid certificate have as many paths as it says

pub valid_full : (g : LinkGraph) (q : List ℕ) (o : Cert) (pairs : List PairPaths) (fans : List FanPaths)
    → IsValidForGroup g q (cert_with o pairs fans) → AreFull o pairs fans
valid_full g q (cert.Linked k) pairs fans valid = tt
valid_full g q (cert.Split c) pairs fans valid = record {
  pairs = λ place d low. (valid.1.pairs.paths _ (has_place pairs place d low)).count;
  fans = λ place d low. (valid.1.fans.fans _ (has_place fans place d low)).count;
}
