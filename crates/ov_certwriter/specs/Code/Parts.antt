-- The text of a file with verdict split in parts, around the texts of its fans and of its pairs.
use Rattle.std.specs.Prelude.{◌≡◌, ◌++◌, ℕ, false, List, [], take, drop, slice_range}
use Rattle.serde_json.specs.Written.{compact_text}
use Rattle.ov_graph.specs.Links.{LinkGraph}
use Rattle.ov_cert.specs.declared.cert.Cert.TheVariants as cert
use Rattle.ov_cert.specs.declared.cert.Split.{Split}
use Rattle.ov_cert.specs.declared.cert.PairPaths.{PairPaths}
use Rattle.ov_cert.specs.declared.cert.FanPaths.{FanPaths}
use Rattle.ov_certfile.specs.DataOf.{pair_data, fan_data, data_of}
use Rattle.ov_certwriter.specs.Code.Blocks.{items_after}
use Rattle.ov_certwriter.specs.Code.Placed.{split_with}

-- the texts before the fans, between them and the pairs, and behind these
pub record PartsState : Type 0 where
  pub head : List ℕ
  pub middle : List ℕ
  pub tail : List ℕ

-- a text that is cut at two places
abbrev pub cut_text : List ℕ → ℕ → ℕ → PartsState
cut_text text first second =
    record { head = take first text; middle = slice_range text first second; tail = drop second text }

-- the parts, with the texts of the fans and of the pairs between them
abbrev pub text_of_parts : List PairPaths → List FanPaths → PartsState → List ℕ
text_of_parts pairs fans parts =
    parts.head
    ++ (items_after fan_data false fans ++ (parts.middle ++ (items_after pair_data false pairs ++ parts.tail)))

-- these are the parts of the file of a certificate, whatever its entries are
abbrev pub ArePartsOf : Split → LinkGraph → List ℕ → ℕ → PartsState → Type 0
ArePartsOf c g group moment parts = (pairs : List PairPaths) (fans : List FanPaths) →
    text_of_parts pairs fans parts ≡ compact_text (data_of (cert.Split (split_with c pairs fans)) g group moment)

-- a certificate without its entries
abbrev pub without_entries : Split → Split
without_entries c = record {
  k = c.k;
  cut = c.cut;
  near = c.near;
  far = c.far;
  side = c.side;
  pairs = [];
  fans = [];
}
