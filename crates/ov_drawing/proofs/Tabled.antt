-- What is drawn by tables that say what the certificate says.
use Rattle.std.proofs.Common.{◌≡◌, inl, inr, ℕ, ◌<◌, List, [], ◌∷◌, map, refl, sym, subst}
use Rattle.std.specs.List.{AllZip}
use Rattle.std.specs.BTreeMap.{BTreeMap, get}
use Rattle.ov_ids.specs.Members.{Has}
use Rattle.ov_cert.specs.declared.cert.Cert.{Cert}
use Rattle.ov_drawing.specs.declared.classes_by_certificate.Classes.{Classes}
use Rattle.ov_drawing.specs.Classes.{band_of, link_class}
use Rattle.ov_drawing.specs.Drawn.{DrawsLink, IsPathOn}
use Rattle.ov_drawing.specs.Code.PathTests.{link_cmp, path_from}
use Rattle.ov_drawing.specs.Code.Named.{SaysClasses}
use Rattle.ov_drawing.specs.Code.Tables.{link_by}
use Rattle.ov_drawing.proofs.Along.{path_told}

link_drawn : (c : Cert) (classes : Classes) (numbers : BTreeMap (ℕ × ℕ) ℕ) (ps : List (List ℕ)) → SaysClasses c classes
    → ((l : ℕ × ℕ) → get link_cmp numbers l ≡ path_from 0 ps l)
    → (l : ℕ × ℕ) → l.0 < l.1 → DrawsLink c ps l (link_by classes numbers l)
link_drawn c classes numbers ps says found l lt = record {
  from = refl;
  to = refl;
  class = (let e = says l.0 in let f = says l.1 in λ i. link_class (band_of (e i)) (band_of (f i)));
  path = subst (IsPathOn ps l) (sym (found l)) (path_told ps l lt);
}

pub links_drawn : (c : Cert) (classes : Classes) (numbers : BTreeMap (ℕ × ℕ) ℕ) (ps : List (List ℕ))
    → SaysClasses c classes → ((l : ℕ × ℕ) → get link_cmp numbers l ≡ path_from 0 ps l)
    → (ls : List (ℕ × ℕ)) → ((l : ℕ × ℕ) → Has ls l → l.0 < l.1)
    → AllZip (DrawsLink c ps) ls (map (link_by classes numbers) ls)
links_drawn c classes numbers ps says found [] up = tt
links_drawn c classes numbers ps says found (l ∷ ls) up = (
  link_drawn c classes numbers ps says found l (up l (inl refl)),
  links_drawn c classes numbers ps says found ls (λ m k. up m (inr k)),
)
